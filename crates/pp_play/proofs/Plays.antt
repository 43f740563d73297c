-- Moves one after another.
use Rattle.std.proofs.Common.{◌≡◌, ℕ, zero, suc, ◌+◌, ◌*◌, List, [], ◌∷◌, ◌++◌, length, refl, sym, ◌∙◌, ap, subst, arith}
use Rattle.std.proofs.lemmas.List.{reverse-append, append_assoc, append-nil, length-append}
use Rattle.std.specs.Prelude.{reverse}
use Rattle.std.specs.List.{AllByRecursion}
use Rattle.pp_world.specs.Change.{Moves}
use Rattle.pp_terms.specs.format.Descriptor.{Descriptor}
use Rattle.pp_world.specs.Knowing.{AllKnowTold}
use Rattle.pp_world.specs.Move.{Move, Wait, Make, for_each, rounds_of}
use Rattle.pp_world.specs.Schedule.{Act, Turn, content_of}
use Rattle.pp_world.specs.World.{PeerState}
use Rattle.pp_world.specs.Worlds.{swarm_of}
use Rattle.pp_shipments.specs.Trusty.{IsTrusty}
use Rattle.pp_shipments.proofs.Shipments.{shipments_are_stored}
use Rattle.pp_actor.specs.Actor.{ActorState}
use Rattle.pp_actor.proofs.Trusty.{knows_told, trusty}
use Rattle.pp_play.specs.Playing.{HasPlayed, PlaysAs}
use Rattle.pp_play.specs.Stage.{StageState, MovesAs, ShowActors}

-- ---- what is sure of the peers of a world

all_trusty : (d : Descriptor) (most : ℕ) (actors : List ActorState) (peers : List PeerState) → ShowActors d most actors peers
    → AllByRecursion (IsTrusty d) peers
all_trusty d most [] [] show = tt
all_trusty d most [] (x ∷ xs) show = absurd show
all_trusty d most (a ∷ actors) [] show = absurd show
all_trusty d most (a ∷ actors) (x ∷ xs) show = (trusty d most a x show.0, all_trusty d most actors xs show.1)

pub all_know : (d : Descriptor) (most : ℕ) (actors : List ActorState) (peers : List PeerState) → ShowActors d most actors peers
    → AllByRecursion (λ x. AllKnowTold d x.sessions) peers
all_know d most [] [] show = tt
all_know d most [] (x ∷ xs) show = absurd show
all_know d most (a ∷ actors) [] show = absurd show
all_know d most (a ∷ actors) (x ∷ xs) show = (knows_told d most a x show.0, all_know d most actors xs show.1)

-- ---- moves

-- nothing is done
pub plays_nothing : (old : StageState) → PlaysAs [] old old
plays_nothing old = record {
  descriptor = refl;
  count = refl;
  parts = refl;
  plays = λ s most done valid swarm low played. subst (λ (n : ℕ). HasPlayed s n done old) (omega arith) played;
}

-- one move
pub plays_one : (move : Move) (old new : StageState) → MovesAs move old new → PlaysAs (move ∷ []) old new
plays_one move old new moves = record {
  descriptor = moves.descriptor;
  count = moves.count;
  parts = moves.parts;
  plays = λ s most done valid swarm low played.
      let it = moves.moves most played.last (omega (arith, low)) played.shows in
      let made : Moves (swarm_of s) move played.last it.after = subst (λ (d : Descriptor). Moves d move played.last it.after) (sym swarm) it.moves in
      let was : ShowActors (swarm_of s) most old.actors played.last.peers =
      subst (λ (d : Descriptor). ShowActors d most old.actors played.last.peers) (sym swarm) played.shows.actors in
      let is : ShowActors (swarm_of s) (most + 4) new.actors it.after.peers =
      subst (λ (d : Descriptor). ShowActors d (most + 4) new.actors it.after.peers) (moves.descriptor ∙ sym swarm) it.shows.actors in record {
        last = it.after;
        before = played.last ∷ played.before;
        happened = (made, played.happened);
        knows = (all_know (swarm_of s) (most + 4) new.actors it.after.peers is, played.knows);
        datagrams = (
          shipments_are_stored (swarm_of s) (content_of s) move played.last it.after valid (record { size = refl; root = refl }) made
              (all_trusty (swarm_of s) most old.actors played.last.peers was) (all_trusty (swarm_of s) (most + 4) new.actors it.after.peers is),
          played.datagrams,
        );
        shows = it.shows;
      };
}

-- some moves, and then others
pub plays_more : (first second : List Move) (a b c : StageState) → PlaysAs first a b → PlaysAs second b c → PlaysAs (first ++ second) a c
plays_more first second a b c one two = record {
  descriptor = two.descriptor ∙ one.descriptor;
  count = two.count ∙ one.count;
  parts = two.parts ∙ one.parts;
  plays = λ s most done valid swarm low played.
      let size : length (first ++ second) ≡ length first + length second = length-append first second in
      let mid = one.plays s most done valid swarm (omega (arith, low, size)) played in
      let end = two.plays s (most + 4 * length first) (reverse first ++ done) valid (swarm ∙ sym one.descriptor) (omega (arith, low, size)) mid in
      let sum : most + 4 * length first + 4 * length second ≡ most + 4 * length (first ++ second) = omega (arith, size) in
      let all : reverse second ++ (reverse first ++ done) ≡ reverse (first ++ second) ++ done =
      sym (append_assoc (reverse second) (reverse first) done) ∙ ap (λ (ms : List Move). ms ++ done) (sym (reverse-append first second)) in
      subst (λ (n : ℕ). HasPlayed s n (reverse (first ++ second) ++ done) c) sum
      (subst (λ (ms : List Move). HasPlayed s (most + 4 * length first + 4 * length second) ms c) all end);
}

pub plays_then : (first : List Move) (move : Move) (a b c : StageState) → PlaysAs first a b → MovesAs move b c → PlaysAs (first ++ move ∷ []) a c
plays_then first move a b c one moves = plays_more first (move ∷ []) a b c one (plays_one move b c moves)

-- ---- lists of moves, one longer

for_each_suc : (act : ℕ → Act) (from count : ℕ) → for_each act from (suc count) ≡ for_each act from count ++ Make (act (from + count)) ∷ []
for_each_suc act from zero = ap (λ (n : ℕ). Make (act n) ∷ []) (omega arith)
for_each_suc act from (suc count) =
    ap (λ (ms : List Move). Make (act from) ∷ ms) (for_each_suc act (from + 1) count
    ∙ ap (λ (n : ℕ). for_each act (from + 1) count ++ Make (act n) ∷ []) (omega arith))

pub for_each_one_more : (act : ℕ → Act) (count : ℕ) → for_each act 0 (count + 1) ≡ for_each act 0 count ++ Make (act count) ∷ []
for_each_one_more act count =
    let next : count + 1 ≡ suc count = omega arith in
    let same : zero + count ≡ count = omega arith in
    ap (for_each act 0) next ∙ for_each_suc act 0 count ∙ ap (λ (n : ℕ). for_each act 0 count ++ Make (act n) ∷ []) same

-- what happens in one round
abbrev pub round : (peers gain : ℕ) → List Move
round peers gain = Wait gain ∷ for_each Turn 0 peers

rounds_suc : (peers gain rounds : ℕ) → rounds_of peers gain (suc rounds) ≡ rounds_of peers gain rounds ++ round peers gain
rounds_suc peers gain zero = append-nil (round peers gain)
rounds_suc peers gain (suc rounds) =
    ap (λ (ms : List Move). round peers gain ++ ms) (rounds_suc peers gain rounds)
    ∙ sym (append_assoc (round peers gain) (rounds_of peers gain rounds) (round peers gain))

pub rounds_one_more : (peers gain rounds : ℕ) → rounds_of peers gain (rounds + 1) ≡ rounds_of peers gain rounds ++ round peers gain
rounds_one_more peers gain rounds = (let next : rounds + 1 ≡ suc rounds = omega arith in ap (rounds_of peers gain) next ∙ rounds_suc peers gain rounds)
