-- What is found in the story of a life stays there, and messages that are sent come into it.
use Rattle.std.proofs.Common.{◌≡◌, ◌⊎◌, inl, inr, ⊎_elim, ℕ, ◌≤◌, leb, eqb, Bool, true, ◌||◌, List, [], ◌∷◌, ◌++◌, length, take, refl, sym, ◌∙◌, ap, subst, arith}
use Rattle.std.specs.List.{AllByRecursion, list_any}
use Rattle.std.proofs.lemmas.Bool.{false≢true, cond-true, or_left, or_right, or_cases, le-leb}
use Rattle.pp_terms.specs.format.Descriptor.{Descriptor}
use Rattle.pp_terms.specs.format.Messages.{Message}
use Rattle.pp_terms.specs.format.Traffic as traffic
use Rattle.pp_terms.specs.format.Traffic.{Record, Received}
use Rattle.pp_traffic.specs.Life.{Life}
use Rattle.pp_traffic.specs.Past.{now}
use Rattle.pp_traffic.specs.Story.{Line, Heard, Said, Taken, hear, say, heard_in, said_in, told, story}
use Rattle.pp_outside.specs.Outside.{address_of, record_of}
use Rattle.pp_outside.specs.declared.link.Event.{Event}
use Rattle.pp_outside.specs.declared.link.Event.TheVariants as events
use Rattle.pp_peer.specs.Flushing.{IsOurs}

-- one record of this peer more
story_sent : (d other : Descriptor) (moment : ℕ) (life : Life) (r : Record) (past : List Record) → IsOurs other moment r → life.opening ≤ length past
    → story d life (r ∷ past) ≡ say (now (r ∷ past)) (said_in d life r) (story d life past)
story_sent d other moment life r past ours le =
    cond-true (leb life.opening (length past)) (told d life (eqb life.opening (length past)) (now (r ∷ past)) r (story d life past)) []
    (le-leb life.opening (length past) le)
    ∙ ap (λ (x : Record). told d life (eqb life.opening (length past)) (now (r ∷ past)) x (story d life past)) ours.is
    ∙ ap (λ (x : Record). say (now (r ∷ past)) (said_in d life x) (story d life past)) (sym ours.is)

longer : (rs past : List Record) → length past ≤ length (rs ++ past)
longer [] past = omega arith
longer (r ∷ rs) past = (let rest = longer rs past in omega (arith, rest))

-- A message that passes a test was sent, as a story says.
pub record IsFound (test : Message → Bool) (found : List Line → Bool) : Type 0 where
  pub said : (at : ℕ) (m : Message) (before : List Line) → found (Said at m ∷ before) ≡ (test m || found before)
  pub heard : (at : ℕ) (m : Message) (before : List Line) → found (Heard at m ∷ before) ≡ found before
  pub taken : (at : ℕ) (before : List Line) → found (Taken at ∷ before) ≡ found before

module _ (test : Message → Bool) (found : List Line → Bool) (f : IsFound test found) where
  say_finds : (at : ℕ) (ms : List Message) (before : List Line) → (list_any test ms ≡ true) ⊎ (found before ≡ true)
      → found (say at ms before) ≡ true
  say_finds at [] before (inl e) = absurd (false≢true e)
  say_finds at [] before (inr e) = e
  say_finds at (m ∷ ms) before (inl e) = ⊎_elim
      (λ here. say_finds at ms (Said at m ∷ before) (inr (f.said at m before ∙ or_left (test m) (found before) here)))
      (λ later. say_finds at ms (Said at m ∷ before) (inl later))
      (or_cases (test m) (list_any test ms) e)
  say_finds at (m ∷ ms) before (inr e) =
      say_finds at ms (Said at m ∷ before) (inr (f.said at m before ∙ or_right (test m) (found before) e))

  -- with what this peer sent
  pub story_finds : (d other : Descriptor) (moment : ℕ) (life : Life) (rs past : List Record) → AllByRecursion (IsOurs other moment) rs
      → life.opening ≤ length past → (list_any (λ r. list_any test (said_in d life r)) rs ≡ true) ⊎ (found (story d life past) ≡ true)
      → found (story d life (rs ++ past)) ≡ true
  story_finds d other moment life [] past all le (inl e) = absurd (false≢true e)
  story_finds d other moment life [] past all le (inr e) = e
  story_finds d other moment life (r ∷ rs) past all le is =
      subst (λ (x : List Line). found x ≡ true)
      (sym (story_sent d other moment life r (rs ++ past) all.0 (let more = longer rs past in omega (arith, le, more))))
      (say_finds (now (r ∷ (rs ++ past))) (said_in d life r) (story d life (rs ++ past)) (⊎_elim
      (λ some. ⊎_elim
      (λ here. inl here)
      (λ later. inr (story_finds d other moment life rs past all.1 le (inl later)))
      (or_cases (list_any test (said_in d life r)) (list_any (λ x. list_any test (said_in d life x)) rs) some))
      (λ before. inr (story_finds d other moment life rs past all.1 le (inr before)))
      is))

  hear_finds : (at : ℕ) (ms : List Message) (before : List Line) → found (hear at ms before) ≡ found before
  hear_finds at [] before = refl
  hear_finds at (m ∷ ms) before = hear_finds at ms (Heard at m ∷ before) ∙ f.heard at m before

  with_finds : (d : Descriptor) (life : Life) (r : Record) (past : List Record) → life.opening ≤ length past
      → found (told d life (eqb life.opening (length past)) (now (r ∷ past)) r (story d life past)) ≡ true → found (story d life (r ∷ past)) ≡ true
  with_finds d life r past le e = ap found (cond-true (leb life.opening (length past))
      (told d life (eqb life.opening (length past)) (now (r ∷ past)) r (story d life past)) [] (le-leb life.opening (length past) le)) ∙ e

  -- and with what came
  pub event_finds : (d : Descriptor) (life : Life) (event : Event) (bytes : List ℕ) (past : List Record) → life.opening ≤ length past
      → found (story d life past) ≡ true → found (story d life (record_of event bytes ∷ past)) ≡ true
  event_finds d life (events.Datagram sender len at) bytes past le e =
      let r = Received at (address_of sender) (take len bytes) in
      let ms = heard_in d life (eqb life.opening (length past)) (Received at (address_of sender) (take len bytes)) in
      with_finds d life r past le
      (f.taken (now (r ∷ past)) (hear (now (r ∷ past)) ms (story d life past)) ∙ hear_finds (now (r ∷ past)) ms (story d life past) ∙ e)
  event_finds d life (events.Quiet at) bytes past le e =
      with_finds d life (traffic.Quiet at) past le (f.taken (now (traffic.Quiet at ∷ past)) (story d life past) ∙ e)
