use Rattle.std.proofs.Common.{◌≡◌, ℕ, List, [], ◌∷◌, length, sym, ◌∙◌, subst, arith}
use Rattle.pp_world.specs.Move.{Move, Wait, for_each, rounds_of}
use Rattle.pp_world.specs.Schedule.{Turn}
use Rattle.pp_play.specs.Playing.{PlaysAs}
use Rattle.pp_play.proofs.Plays.{plays_more, plays_one, rounds_one_more, round}
use Rattle.pp_play.proofs.stage.Stage.run.Goals as goal

pub turn_each-requires : goal.turn_each-requires
turn_each-requires c =
    let few = c.requires in let size = c.loop.invariant.count in let same = c.in_ok-wait.ensures.count in omega (arith, few, size, same)

pub loop-preserved : goal.loop-preserved
loop-preserved c =
    let peers : ℕ = length c.args.self.now.actors in
    let same : length c.wait.new.self.actors ≡ peers = c.in_ok-wait.ensures.count ∙ c.loop.invariant.count in
    subst (λ (ms : List Move). PlaysAs ms c.args.self.now c.turn_each.new.self) (sym (rounds_one_more peers c.args.gain c.loop.counter))
    (plays_more (rounds_of peers c.args.gain c.loop.counter) (round peers c.args.gain) c.args.self.now c.loop.self c.turn_each.new.self c.loop.invariant
    (plays_more (Wait c.args.gain ∷ []) (for_each Turn 0 peers) c.loop.self c.wait.new.self c.turn_each.new.self
    (plays_one (Wait c.args.gain) c.loop.self c.wait.new.self c.in_ok-wait.ensures)
    (subst (λ (n : ℕ). PlaysAs (for_each Turn 0 n) c.wait.new.self c.turn_each.new.self) same c.in_ok-turn_each.ensures)))

pub returns : goal.returns
returns c =
    let end = c.loop-test.false in let within = c.loop.auto.counter-end in
    let all : c.loop.counter ≡ c.args.rounds = omega (arith, end, within) in
    subst (λ (n : ℕ). PlaysAs (rounds_of (length c.args.self.now.actors) c.args.gain n) c.args.self.now c.loop.self) all c.loop.invariant
