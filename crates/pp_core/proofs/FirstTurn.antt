-- The first turn among the records of a run.
use Rattle.std.proofs.Common.{◌≡◌, ℕ, ◌≤◌, Bool, true, false, cond, ltb, List, [], ◌∷◌, ◌++◌, length, refl, ◌∙◌, ap, arith}
use Rattle.std.specs.List.{AllByRecursion, list_any}
use Rattle.std.proofs.lemmas.Bool.{cond-true, cond-false, le-ltb, or_parts}
use Rattle.pp_terms.specs.format.Descriptor.{Descriptor}
use Rattle.pp_terms.specs.format.Traffic.{Record, Received, Quiet, Sent}
use Rattle.pp_traffic.specs.Turns.{events, is_closing, in_turns}
use Rattle.pp_promises.specs.LastTurn.{first_turn}
use Rattle.pp_peer.specs.Flushing.{IsOurs}

-- ---- without what closed the channels

-- records none of which closes a channel stay
in_turns_all : (d : Descriptor) (turns : List Record) → list_any (is_closing d) turns ≡ false → in_turns d turns ≡ turns
in_turns_all d [] none = refl
in_turns_all d (r ∷ turns) none =
    cond-false (is_closing d r) (in_turns d turns) (r ∷ turns) (or_parts (is_closing d r) (list_any (is_closing d) turns) none).0

-- what closed the channels behind them is left out
in_turns_are : (d : Descriptor) (farewells turns : List Record) → AllByRecursion (λ r. is_closing d r ≡ true) farewells
    → list_any (is_closing d) turns ≡ false → in_turns d (farewells ++ turns) ≡ turns
in_turns_are d [] turns all none = in_turns_all d turns none
in_turns_are d (r ∷ farewells) turns all none =
    cond-true (is_closing d r) (in_turns d (farewells ++ turns)) (r ∷ (farewells ++ turns)) all.0 ∙ in_turns_are d farewells turns all.1 none

-- ---- how many turns

-- what is sent begins no turn
pub sent_events : (swarm : Descriptor) (moment : ℕ) (rs past : List Record) → AllByRecursion (IsOurs swarm moment) rs
    → events (rs ++ past) ≡ events past
sent_events swarm moment [] past all = refl
sent_events swarm moment (x ∷ rs) past all =
    ap (λ (y : Record). events (y ∷ (rs ++ past))) all.0.is ∙ sent_events swarm moment rs past all.1

-- and a record begins one at the most
pub events_few : (past : List Record) → events past ≤ length past
events_few [] = omega arith
events_few (Received at sender bytes ∷ past) = let few = events_few past in omega (arith, few)
events_few (Quiet at ∷ past) = let few = events_few past in omega (arith, few)
events_few (Sent moment receiver bytes ∷ past) = let few = events_few past in omega (arith, few)

-- ---- the first turn

alone_first : (turn : List Record) → events turn ≤ 1 → first_turn turn ≡ turn
alone_first [] one = refl
alone_first (r ∷ before) one = cond-false (ltb 1 (events (r ∷ before))) (first_turn before) (r ∷ before)
    (le-ltb 1 (events (r ∷ before)) one)

-- records of one turn, or of none, are the oldest ones of the first
has_first : (rest turn : List Record) → events turn ≤ 1 → (rs : List Record) × (first_turn (rest ++ turn) ≡ rs ++ turn)
has_first [] turn one = ([], alone_first turn one)
has_first (r ∷ rest) turn one =
    let more = has_first rest turn one in
    of (ltb 1 (events (r ∷ (rest ++ turn)))) more
  where
    of : (b : Bool) → (rs : List Record) × (first_turn (rest ++ turn) ≡ rs ++ turn)
        → (rs : List Record) × (cond b (first_turn (rest ++ turn)) (r ∷ (rest ++ turn)) ≡ rs ++ turn)
    of true more = more
    of false more = (r ∷ rest, refl)

-- The oldest records of a run, of one turn at the most, are the oldest of its first turn, whatever followed, and whatever closed the channels.
pub first_turn_has : (d : Descriptor) (farewells rest turn : List Record) → AllByRecursion (λ r. is_closing d r ≡ true) farewells
    → list_any (is_closing d) (rest ++ turn) ≡ false → events turn ≤ 1
    → (rs : List Record) × (first_turn (in_turns d (farewells ++ (rest ++ turn))) ≡ rs ++ turn)
first_turn_has d farewells rest turn closings none one =
    let first = has_first rest turn one in (first.0, ap first_turn (in_turns_are d farewells (rest ++ turn) closings none) ∙ first.1)
