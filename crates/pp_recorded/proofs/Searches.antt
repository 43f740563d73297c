-- A search finds a channel exactly where there is one.
use Rattle.std.proofs.Common.{◌≡◌, ⊎_elim, ℕ, zero, suc, ◌<◌, eqb, Bool, true, false, cond, not, ◌&&◌, ◌||◌, Option, Some, None, List, [], ◌∷◌, ◌++◌, length, refl, sym, ◌∙◌, ap, subst, arith}
use Rattle.std.specs.Option.{option_map_or}
use Rattle.std.proofs.lemmas.Bool.{and_parts, and_from, or_cases, or_left, or_right, not-true, not_from_false, eqb-true, cases_eq}
use Rattle.pp_terms.specs.format.Traffic.{Address, Record}
use Rattle.pp_terms.specs.format.Options.{Options}
use Rattle.pp_terms.specs.format.Descriptor.{Descriptor, chunks_of}
use Rattle.pp_terms.specs.format.Messages.{Message}
use Rattle.pp_traffic.specs.Past.{read, goes_to, is_number}
use Rattle.pp_traffic.specs.Life.{Life, answers, begins_as, IsLife}
use Rattle.pp_traffic.specs.Story.{story}
use Rattle.pp_traffic.specs.Asking.{choked, asked, is_heard}
use Rattle.pp_traffic.specs.Hashes.{is_told, completes, brings}
use Rattle.pp_traffic.specs.Serving.{Window, AnswersOn}
use Rattle.pp_traffic.proofs.Standing.{found_since}
use Rattle.pp_traffic.proofs.OneMore.{lives_began}
use Rattle.pp_recorded.specs.Parts.{first_shake}
use Rattle.pp_recorded.specs.Tests.{is_life}
use Rattle.pp_recorded.specs.Search.{answers_on, some_below, is_source, some_source, life_at, some_opening, some_life, answers_planned, SearchIsExact, PlansAreSought}
use Rattle.pp_recorded.specs.Plans.{is_planned}
use Rattle.pp_recorded.proofs.Shakes.{begins_as_shake}
use Rattle.pp_recorded.proofs.LifeTests.{lives_are_tested}
use Rattle.pp_recorded.proofs.HashSpans.{planned_is_tested}

-- ---- one channel

on_from : (d : Descriptor) (window : Window) (past : List Record) (i : ℕ) (front : List Message) (life : Life)
    → answers_on d window past i front life ≡ true → AnswersOn d window past life i front
on_from d window past i front life e =
    let lines = story d life past in
    let whole = completes (chunks_of d) (brings front) (is_told (chunks_of d) lines) i in
    let a = and_parts (is_life d life past && asked i lines && not (choked lines) && is_heard d life past && whole) (window lines) e in
    let b = and_parts (is_life d life past && asked i lines && not (choked lines) && is_heard d life past) whole a.0 in
    let c = and_parts (is_life d life past && asked i lines && not (choked lines)) (is_heard d life past) b.0 in
    let f = and_parts (is_life d life past && asked i lines) (not (choked lines)) c.0 in
    let g = and_parts (is_life d life past) (asked i lines) f.0 in
    record {
      alive = (lives_are_tested d life past).0 g.0;
      asked_for = g.1;
      unchoked = not-true (choked lines) f.1;
      heard = c.1;
      whole_path = b.1;
      in_window = a.1;
    }

from_on : (d : Descriptor) (window : Window) (past : List Record) (i : ℕ) (front : List Message) (life : Life)
    → AnswersOn d window past life i front → answers_on d window past i front life ≡ true
from_on d window past i front life is =
    let lines = story d life past in
    let whole = completes (chunks_of d) (brings front) (is_told (chunks_of d) lines) i in
    and_from (is_life d life past && asked i lines && not (choked lines) && is_heard d life past && whole) (window lines)
    (and_from (is_life d life past && asked i lines && not (choked lines) && is_heard d life past) whole
    (and_from (is_life d life past && asked i lines && not (choked lines)) (is_heard d life past)
    (and_from (is_life d life past && asked i lines) (not (choked lines))
    (and_from (is_life d life past) (asked i lines) ((lives_are_tested d life past).1 is.alive) is.asked_for)
    (not_from_false (choked lines) is.unchoked)) is.heard) is.whole_path) is.in_window

-- ---- numbers, and sources

pub below_found : (test : ℕ → Bool) (n : ℕ) → some_below test n ≡ true → (k : ℕ) × (k < n) × (test k ≡ true)
below_found test zero e = absurd cc
below_found test (suc n) e = ⊎_elim
    (λ here. (n, omega arith, here))
    (λ before. let f = below_found test n before in (f.0, omega (arith, f.1), f.2))
    (or_cases (test n) (some_below test n) e)

pub found_below : (test : ℕ → Bool) (n k : ℕ) → k < n → test k ≡ true → some_below test n ≡ true
found_below test zero k lt e = absurd (omega arith)
found_below test (suc n) k lt e = ⊎_elim
    (λ same. or_left (test n) (some_below test n) (ap (λ (m : ℕ). test m) (sym same) ∙ e))
    (λ other. or_right (test n) (some_below test n) (found_below test n k (let l : k < n = omega arith in l) e))
    (cases_eq k n)

source_found : (test : ℕ → Bool) (shake : Option (ℕ × Options)) → option_map_or (λ x. test x.0) shake false ≡ true → (local : ℕ) × (test local ≡ true)
source_found test None e = absurd cc
source_found test (Some x) e = (x.0, e)

sources_found : (test : ℕ → Bool) (d : Descriptor) (a : Address) (past : List Record) → some_source test d a past ≡ true → (local : ℕ) × (test local ≡ true)
sources_found test d a [] e = absurd cc
sources_found test d a (r ∷ past) e = ⊎_elim
    (λ here. source_found test (first_shake (read d r).messages.read)
    (and_parts (goes_to a r) (option_map_or (λ x. test x.0) (first_shake (read d r).messages.read) false) here).1)
    (λ before. sources_found test d a past before)
    (or_cases (is_source test d a r) (some_source test d a past) e)

found_source : (test : ℕ → Bool) (d : Descriptor) (a : Address) (after : List Record) (r : Record) (before : List Record)
    → is_source test d a r ≡ true → some_source test d a (after ++ r ∷ before) ≡ true
found_source test d a [] r before e = or_left (is_source test d a r) (some_source test d a before) e
found_source test d a (x ∷ after) r before e =
    or_right (is_source test d a x) (some_source test d a (after ++ r ∷ before)) (found_source test d a after r before e)

-- this peer's handshake is a source
source_of : (test : ℕ → Bool) (number : ℕ) (shake : Option (ℕ × Options)) → option_map_or (λ x. eqb x.0 number) shake false ≡ true → test number ≡ true
    → option_map_or (λ x. test x.0) shake false ≡ true
source_of test number None e is = absurd cc
source_of test number (Some x) e is = ap (λ (n : ℕ). test n) (eqb-true x.0 number e) ∙ is

answer_source : (test : ℕ → Bool) (d : Descriptor) (life : Life) (r : Record) → answers d life r ≡ true → test life.local ≡ true → is_source test d life.address r ≡ true
answer_source test d life r e is =
    let outer = and_parts (goes_to life.address r && is_number (cond life.is_dialled 0 life.remote) (read d r).channel) (begins_as life.local (read d r).messages.read) e in
    let inner = and_parts (goes_to life.address r) (is_number (cond life.is_dialled 0 life.remote) (read d r).channel) outer.0 in
    and_from (goes_to life.address r) (option_map_or (λ x. test x.0) (first_shake (read d r).messages.read) false) inner.0
    (source_of test life.local (first_shake (read d r).messages.read) (sym (begins_as_shake life.local (read d r).messages.read) ∙ outer.1) is)

-- ---- the search

either : (test : Life → Bool) (a : Address) (remote local opening : ℕ) (is_dialled : Bool) → test (life_at a remote local is_dialled opening) ≡ true
    → (test (life_at a remote local false opening) || test (life_at a remote local true opening)) ≡ true
either test a remote local opening false e = or_left (test (life_at a remote local false opening)) (test (life_at a remote local true opening)) e
either test a remote local opening true e = or_right (test (life_at a remote local false opening)) (test (life_at a remote local true opening)) e

-- one that is found
record IsFound (test : Life → Bool) (receiver : Address) (remote : ℕ) : Type 0 where
  life : Life
  at : life.address ≡ receiver
  by : life.remote ≡ remote
  passes : test life ≡ true

life_found : (test : Life → Bool) (d : Descriptor) (past : List Record) (receiver : Address) (remote : ℕ) → some_life test d receiver remote past ≡ true
    → IsFound test receiver remote
life_found test d past receiver remote e =
    let f = sources_found (some_opening test receiver remote (length past)) d receiver past e in
    let g = below_found (λ opening. test (life_at receiver remote f.0 false opening) || test (life_at receiver remote f.0 true opening)) (length past) f.1 in
    ⊎_elim
    (λ answered. record { life = life_at receiver remote f.0 false g.0; at = refl; by = refl; passes = answered })
    (λ dialled. record { life = life_at receiver remote f.0 true g.0; at = refl; by = refl; passes = dialled })
    (or_cases (test (life_at receiver remote f.0 false g.0)) (test (life_at receiver remote f.0 true g.0)) g.2)

finds : (test : Life → Bool) (d : Descriptor) (past : List Record) (remote : ℕ) (life : Life) → life.remote ≡ remote → IsLife d life past → test life ≡ true
    → some_life test d life.address remote past ≡ true
finds test d past remote life same alive is =
    let passes : test (life_at life.address remote life.local life.is_dialled life.opening) ≡ true =
    subst (λ (n : ℕ). test (life_at life.address n life.local life.is_dialled life.opening) ≡ true) same is in
    let opens : some_opening test life.address remote (length past) life.local ≡ true =
    found_below (λ opening. test (life_at life.address remote life.local false opening) || test (life_at life.address remote life.local true opening)) (length past) life.opening
    (lives_began d life past alive) (either test life.address remote life.local life.opening life.is_dialled passes) in
    let s = found_since (answers d life) life.opening past alive.answered in
    subst (λ (rs : List Record). some_source (some_opening test life.address remote (length past)) d life.address rs ≡ true) (sym s.split)
    (found_source (some_opening test life.address remote (length past)) d life.address s.after s.here s.before
    (answer_source (some_opening test life.address remote (length past)) d life s.here s.passes opens))

number_same : (a b : ℕ) → ◌≡◌ {A = Option ℕ} (Some a) (Some b) → b ≡ a
number_same a b e = cc

pub search_is_exact : SearchIsExact
search_is_exact d window past receiver remote i front = (
  λ e.
      let f = life_found (answers_on d window past i front) d past receiver remote e in
      record { life = f.life; at = f.at; by = ap (λ (n : ℕ). Some n) (sym f.by); answers = on_from d window past i front f.life f.passes },
  λ is.
      subst (λ (a : Address). some_life (answers_on d window past i front) d a remote past ≡ true) is.at
      (finds (answers_on d window past i front) d past remote is.life (number_same remote is.life.remote is.by) is.answers.alive
      (from_on d window past i front is.life is.answers)),
)

pub plans_are_sought : PlansAreSought
plans_are_sought d window past receiver remote i front = (
  λ e.
      let f = life_found (answers_planned true d window past i front) d past receiver remote e in
      let both = and_parts (answers_on d window past i front f.life) (is_planned d past i front f.life) f.passes in
      record {
        life = f.life;
        at = f.at;
        by = ap (λ (n : ℕ). Some n) (sym f.by);
        plans = record { answers = on_from d window past i front f.life both.0; exact = (planned_is_tested d past i front f.life).0 both.1 };
      },
  λ is.
      subst (λ (a : Address). some_life (answers_planned true d window past i front) d a remote past ≡ true) is.at
      (finds (answers_planned true d window past i front) d past remote is.life (number_same remote is.life.remote is.by) is.plans.answers.alive
      (and_from (answers_on d window past i front is.life) (is_planned d past i front is.life) (from_on d window past i front is.life is.plans.answers)
      ((planned_is_tested d past i front is.life).1 is.plans.exact))),
)
