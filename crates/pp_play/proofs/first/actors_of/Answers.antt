use Rattle.std.proofs.Common.{◌≡◌, ℕ, suc, ◌+◌, List, [], ◌∷◌, ◌++◌, sym, ◌∙◌, ap, subst, arith}
use Rattle.std.proofs.Math.Seq.{take-suc}
use Rattle.std.proofs.lemmas.List.{length-append, take_all}
use Rattle.std.specs.Prelude.{length, take}
use Rattle.pp_replay.specs.declared.types.Role.{Role}
use Rattle.pp_actor.specs.Actor.{ActorState}
use Rattle.pp_store.specs.Imported.{imported}
use Rattle.pp_play.specs.First.{BeginAs}
use Rattle.pp_play.proofs.Firsts.{begin_more}
use Rattle.pp_play.proofs.first.actors_of.Goals as goal

pub loop-role-init : goal.loop-role-init
loop-role-init c = (
  subst (BeginAs (imported c.args.content.now c.args.chunk) c.args.content.now []) (sym c.in_ok-actors.ensures.items)
      (record { peers = []; new = tt; show = tt; told = tt }),
  ap (λ (l : List ActorState). length l) c.in_ok-actors.ensures.items,
)

pub loop-role-preserved : goal.loop-role-preserved
loop-role-preserved c =
    let role : Role = c.role-item.result in
    let next : c.loop-role.role-index + 1 ≡ suc c.loop-role.role-index = omega arith in
    let more : take (c.loop-role.role-index + 1) c.args.roles.now ≡ take c.loop-role.role-index c.args.roles.now ++ role ∷ [] =
    ap (λ (k : ℕ). take k c.args.roles.now) next ∙ take-suc c.args.roles.now c.loop-role.role-index role c.loop-role-test.true
    ∙ ap (λ (r : Role). take c.loop-role.role-index c.args.roles.now ++ r ∷ []) (sym c.role-item.is) in
    let longer : length c.push.new.self.items ≡ length c.loop-role.actors.items + 1 =
    ap (λ (l : List ActorState). length l) c.in_ok-push.ensures.items ∙ length-append c.loop-role.actors.items (c.new.result ∷ []) in (
      subst (BeginAs (imported c.args.content.now c.args.chunk) c.args.content.now (take (c.loop-role.role-index + 1) c.args.roles.now)) (sym c.in_ok-push.ensures.items)
          (subst (λ (roles : List Role). BeginAs (imported c.args.content.now c.args.chunk) c.args.content.now roles (c.loop-role.actors.items ++ c.new.result ∷ []))
          (sym more) (begin_more c.args.chunk c.args.content.now (take c.loop-role.role-index c.args.roles.now) c.loop-role.actors.items role
          c.in_ok-disk.disk c.new.result c.requires.content c.loop-role.invariant.0 c.in_ok-disk.ensures c.new.ensures.shows c.new.ensures.is.set)),
      (let size = c.loop-role.invariant.1 in omega (arith, size, longer)),
    )

pub returns : goal.returns
returns c =
    subst (λ (roles : List Role). BeginAs (imported c.args.content.now c.args.chunk) c.args.content.now roles c.loop-role.actors.items)
    (take_all c.loop-role.role-index c.args.roles.now c.loop-role-test.false) c.loop-role.invariant.0
