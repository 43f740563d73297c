-- The search for plain channels misses none, and counts none that isn't.
use Rattle.std.proofs.Common.{◌≡◌, ⊎_elim, ℕ, eqb, leb, Bool, true, false, cond, not, ◌&&◌, ◌||◌, Option, Some, None, List, [], ◌∷◌, ◌++◌, length, refl, sym, ◌∙◌, ap, subst}
use Rattle.std.specs.Prelude.{option_map}
use Rattle.std.specs.List.{list_all}
use Rattle.std.specs.Option.{option_map_or}
use Rattle.std.proofs.lemmas.Bool.{and_parts, and_from, or_cases, or_left, or_right, cases_Bool, not_from_false, not_from_true, eqb-true, MatchBool-at_true, MatchBool-at_false, both_ways}
use Rattle.pp_terms.specs.format.Traffic.{Address, Record, Received, Quiet, Sent}
use Rattle.pp_terms.specs.format.Options.{Options}
use Rattle.pp_terms.specs.format.Descriptor.{Descriptor}
use Rattle.pp_traffic.specs.Past.{read, comes_from, goes_to, is_number, is_at, some_since}
use Rattle.pp_traffic.specs.Life.{Life, fits, begins_as, begins_fitting, greets, answers}
use Rattle.pp_traffic.specs.Places.{StandsFrom, StandsAt}
use Rattle.pp_traffic.specs.Plain.{greets_once, IsPlainAnswer, IsPlainDial, IsPlainNow, IsPlainUpTo}
use Rattle.pp_traffic.proofs.Standing.{found_at, found_since}
use Rattle.pp_traffic.proofs.Plains.{first_some}
use Rattle.pp_recorded.specs.Parts.{first_shake}
use Rattle.pp_recorded.specs.PlainTests.{is_plain, is_plain_newest}
use Rattle.pp_audit.specs.Channels.{answered_at, dialled_at, opened_by, replied_by, passes_reply, passes_replies, passes_opening, passes_openings, SearchFindsAll, NewestFindsAll}
use Rattle.pp_recorded.proofs.Shakes.{begins_as_shake, begins_fitting_shake}
use Rattle.pp_recorded.proofs.PlainParts.{plain_is_tested}
use Rattle.pp_terms.proofs.Addressed.{same_is}

-- ---- what a handshake names

-- The first message is a handshake of that source channel.
record IsOf (number : ℕ) (shake : Option (ℕ × Options)) : Type 0 where
  options : Options
  is : shake ≡ Some (number, options)

is_of : (number : ℕ) (shake : Option (ℕ × Options)) → option_map_or (λ x. eqb x.0 number) shake false ≡ true → IsOf number shake
is_of number None e = absurd cc
is_of number (Some x) e = record { options = x.1; is = ap (λ (n : ℕ). Some (n, x.1)) (eqb-true x.0 number e) }

fits_of : (d : Descriptor) (is_reply : Bool) (number : ℕ) (shake : Option (ℕ × Options))
    → option_map_or (λ x. eqb x.0 number && fits d is_reply x.1) shake false ≡ true → IsOf number shake
fits_of d is_reply number None e = absurd cc
fits_of d is_reply number (Some x) e = is_of number (Some x) (and_parts (eqb x.0 number) (fits d is_reply x.1) e).0

greets_of : (d : Descriptor) (life : Life) (r : Record) → greets d life r ≡ true → (comes_from life.address r ≡ true) × IsOf life.remote (first_shake (read d r).messages.read)
greets_of d life r e =
    let here = comes_from life.address r in
    let to = is_number (cond life.is_dialled life.local 0) (read d r).channel in
    let begun = begins_fitting d life.is_dialled life.remote (read d r).messages.read in
    let a = and_parts (here && to) begun e in (
      (and_parts here to a.0).0,
      fits_of d life.is_dialled life.remote (first_shake (read d r).messages.read) (sym (begins_fitting_shake d life.is_dialled life.remote (read d r).messages.read) ∙ a.1),
    )

answers_of : (d : Descriptor) (life : Life) (r : Record) → answers d life r ≡ true → (goes_to life.address r ≡ true) × IsOf life.local (first_shake (read d r).messages.read)
answers_of d life r e =
    let here = goes_to life.address r in
    let to = is_number (cond life.is_dialled 0 life.remote) (read d r).channel in
    let begun = begins_as life.local (read d r).messages.read in
    let a = and_parts (here && to) begun e in (
      (and_parts here to a.0).0,
      is_of life.local (first_shake (read d r).messages.read) (sym (begins_as_shake life.local (read d r).messages.read) ∙ a.1),
    )

-- ---- the channel that it opens

opened_answered : (d : Descriptor) (a : Address) (remote place : ℕ) (r : Record) → comes_from a r ≡ true → IsOf remote (first_shake (read d r).messages.read)
    → opened_by d place r ≡ Some (answered_at a remote place)
opened_answered d a remote place (Received at sender bytes) from shaken =
    ap (λ (o : Option (ℕ × Options)). option_map (λ x. answered_at sender x.0 place) o) shaken.is
    ∙ ap (λ (b : Address). Some (answered_at b remote place)) (same_is sender a from)
opened_answered d a remote place (Quiet at) from shaken = absurd cc
opened_answered d a remote place (Sent moment receiver bytes) from shaken = absurd cc

opened_dialled : (d : Descriptor) (a : Address) (local place : ℕ) (r : Record) → goes_to a r ≡ true → IsOf local (first_shake (read d r).messages.read)
    → opened_by d place r ≡ Some (dialled_at a local place)
opened_dialled d a local place (Received at sender bytes) to shaken = absurd cc
opened_dialled d a local place (Quiet at) to shaken = absurd cc
opened_dialled d a local place (Sent moment receiver bytes) to shaken =
    ap (λ (o : Option (ℕ × Options)). option_map (λ x. dialled_at receiver x.0 place) o) shaken.is
    ∙ ap (λ (b : Address). Some (dialled_at b local place)) (same_is receiver a to)

-- ---- each that is tried passes

all_at : (test : Record → Bool) (after : List Record) (r : Record) (before : List Record) → list_all test (after ++ r ∷ before) ≡ true → test r ≡ true
all_at test [] r before e = (and_parts (test r) (list_all test before) e).0
all_at test (x ∷ after) r before e = all_at test after r before (and_parts (test x) (list_all test (after ++ r ∷ before)) e).1

opening_at : (test : Life → Bool) (d : Descriptor) (past after : List Record) (r : Record) (before : List Record) → passes_openings test d past (after ++ r ∷ before) ≡ true
    → passes_opening test d past (length before) r ≡ true
opening_at test d past [] r before e = (and_parts (passes_opening test d past (length before) r) (passes_openings test d past before) e).0
opening_at test d past (x ∷ after) r before e =
    opening_at test d past after r before (and_parts (passes_opening test d past (length (after ++ r ∷ before)) x) (passes_openings test d past (after ++ r ∷ before)) e).1

-- a channel that one record opens and another replies to
tried : (test : Life → Bool) (d : Descriptor) (past : List Record) (life : Life) (number : ℕ) (passes replies : Record → Bool) (place since : ℕ)
    → passes_openings test d past past ≡ true → (o : StandsAt passes place past) → opened_by d place o.here ≡ Some life
    → (s : StandsFrom replies since past) → IsOf number (first_shake (read d s.here).messages.read)
    → test (replied_by life number) ≡ true
tried test d past life number passes replies place since e o opened s shaken =
    let here : passes_opening test d past place o.here ≡ true =
    ap (λ (n : ℕ). passes_opening test d past n o.here) (sym o.place)
    ∙ opening_at test d past o.after o.here o.before (subst (λ (rs : List Record). passes_openings test d past rs ≡ true) o.split e) in
    let each : passes_replies test d life past ≡ true = ap (λ (x : Option Life). option_map_or (λ l. passes_replies test d l past) x true) (sym opened) ∙ here in
    ap (λ (x : Option (ℕ × Options)). option_map_or (λ y. test (replied_by life y.0)) x true) (sym shaken.is)
    ∙ all_at (passes_reply test d life) s.after s.here s.before (subst (λ (rs : List Record). list_all (passes_reply test d life) rs ≡ true) s.split each)

-- ---- a plain channel is tried

tried_answer : (test : Life → Bool) (d : Descriptor) (past : List Record) (life : Life) → life.is_dialled ≡ false
    → is_at (greets_once d life) life.opening past ≡ true → some_since (answers d life) life.opening past ≡ true
    → passes_openings test d past past ≡ true → test life ≡ true
tried_answer test d past life answered opened replied e =
    let o = found_at (greets_once d life) life.opening past opened in
    let hello = greets_of d life o.here (and_parts (greets d life o.here) _ o.passes).0 in
    let s = found_since (answers d life) life.opening past replied in
    let reply = answers_of d life s.here s.passes in
    ap (λ (b : Bool). test (record { address = life.address; local = life.local; remote = life.remote; is_dialled = b; opening = life.opening })) answered
    ∙ tried test d past (answered_at life.address life.remote life.opening) life.local (greets_once d life) (answers d life) life.opening life.opening e o
    (opened_answered d life.address life.remote life.opening o.here hello.0 hello.1) s reply.1

tried_dial : (test : Life → Bool) (d : Descriptor) (past : List Record) (life : Life) → life.is_dialled ≡ true
    → is_at (answers d life) life.opening past ≡ true → some_since (greets d life) 0 past ≡ true
    → passes_openings test d past past ≡ true → test life ≡ true
tried_dial test d past life dialled opened replied e =
    let o = found_at (answers d life) life.opening past opened in
    let hello = answers_of d life o.here o.passes in
    let s = found_since (greets d life) 0 past replied in
    let reply = greets_of d life s.here s.passes in
    ap (λ (b : Bool). test (record { address = life.address; local = life.local; remote = life.remote; is_dialled = b; opening = life.opening })) dialled
    ∙ tried test d past (dialled_at life.address life.local life.opening) life.remote (answers d life) (greets d life) life.opening 0 e o
    (opened_dialled d life.address life.local life.opening o.here hello.0 hello.1) s reply.1

tried_plain : (test : Life → Bool) (d : Descriptor) (past : List Record) (life : Life) → IsPlainNow d life past → passes_openings test d past past ≡ true → test life ≡ true
tried_plain test d past life plain e = ⊎_elim
    (λ dialled.
    let is = MatchBool-at_true (IsPlainDial d life past past) (IsPlainAnswer d life past) dialled plain.begins in
    tried_dial test d past life dialled is.opened (first_some (comes_from life.address) (greets d life) 0 past is.replied) e)
    (λ answered.
    let is = MatchBool-at_false (IsPlainDial d life past past) (IsPlainAnswer d life past) answered plain.begins in
    tried_answer test d past life answered is.opened (first_some (goes_to life.address) (answers d life) life.opening past is.replied) e)
    (cases_Bool life.is_dialled)

-- and one that is plain up to the newest record
tried_newest : (test : Life → Bool) (d : Descriptor) (r : Record) (before : List Record) (life : Life) → IsPlainUpTo d life before r
    → passes_openings test d (r ∷ before) (r ∷ before) ≡ true → test life ≡ true
tried_newest test d r before life plain e = ⊎_elim
    (λ dialled.
    let is = MatchBool-at_true (IsPlainDial d life (r ∷ before) before) (IsPlainAnswer d life before) dialled plain.begins in
    tried_dial test d (r ∷ before) life dialled (or_right (eqb life.opening (length before) && answers d life r) (is_at (answers d life) life.opening before) is.opened)
    (first_some (comes_from life.address) (greets d life) 0 (r ∷ before) is.replied) e)
    (λ answered.
    let is = MatchBool-at_false (IsPlainDial d life (r ∷ before) before) (IsPlainAnswer d life before) answered plain.begins in
    tried_answer test d (r ∷ before) life answered (or_right (eqb life.opening (length before) && greets_once d life r) (is_at (greets_once d life) life.opening before) is.opened)
    (or_right (leb life.opening (length before) && answers d life r) (some_since (answers d life) life.opening before)
    (first_some (goes_to life.address) (answers d life) life.opening before is.replied)) e)
    (cases_Bool life.is_dialled)

-- ---- where all pass, the search says so

replies_pass : (test : Life → Bool) (d : Descriptor) (life : Life) → ((l : Life) → test l ≡ true) → (past : List Record) → passes_replies test d life past ≡ true
replies_pass test d life all [] = refl
replies_pass test d life all (r ∷ past) =
    and_from (passes_reply test d life r) (passes_replies test d life past) (by (first_shake (read d r).messages.read)) (replies_pass test d life all past)
  where
    by : (o : Option (ℕ × Options)) → option_map_or (λ x. test (replied_by life x.0)) o true ≡ true
    by None = refl
    by (Some x) = all (replied_by life x.0)

openings_pass : (test : Life → Bool) (d : Descriptor) (past : List Record) → ((l : Life) → test l ≡ true) → (rs : List Record) → passes_openings test d past rs ≡ true
openings_pass test d past all [] = refl
openings_pass test d past all (r ∷ rs) =
    and_from (passes_opening test d past (length rs) r) (passes_openings test d past rs) (by (opened_by d (length rs) r)) (openings_pass test d past all rs)
  where
    by : (o : Option Life) → option_map_or (λ life. passes_replies test d life past) o true ≡ true
    by None = refl
    by (Some life) = replies_pass test d life all past

pub search_finds_all : SearchFindsAll
search_finds_all test d past = (
  λ e life plain.
      ⊎_elim
      (λ other. absurd (both_ways (not (is_plain d life past)) (not_from_true (is_plain d life past) ((plain_is_tested d life past past).1 plain)) other))
      (λ passes. passes)
      (or_cases (not (is_plain d life past)) (test life) (tried_plain (λ l. not (is_plain d l past) || test l) d past life plain e)),
  λ all.
      openings_pass (λ l. not (is_plain d l past) || test l) d past
      (λ life. ⊎_elim
      (λ plain. or_right (not (is_plain d life past)) (test life) (all life ((plain_is_tested d life past past).0 plain)))
      (λ other. or_left (not (is_plain d life past)) (test life) (not_from_false (is_plain d life past) other))
      (cases_Bool (is_plain d life past))) past,
)

pub newest_finds_all : NewestFindsAll
newest_finds_all test d r before = (
  λ e life plain.
      ⊎_elim
      (λ other. absurd (both_ways (not (is_plain_newest d life (r ∷ before))) (not_from_true (is_plain_newest d life (r ∷ before)) ((plain_is_tested d life (r ∷ before) before).1 plain)) other))
      (λ passes. passes)
      (or_cases (not (is_plain_newest d life (r ∷ before))) (test life) (tried_newest (λ l. not (is_plain_newest d l (r ∷ before)) || test l) d r before life plain e)),
  λ all.
      openings_pass (λ l. not (is_plain_newest d l (r ∷ before)) || test l) d (r ∷ before)
      (λ life. ⊎_elim
      (λ plain. or_right (not (is_plain_newest d life (r ∷ before))) (test life) (all life ((plain_is_tested d life (r ∷ before) before).0 plain)))
      (λ other. or_left (not (is_plain_newest d life (r ∷ before))) (test life) (not_from_false (is_plain_newest d life (r ∷ before)) other))
      (cases_Bool (is_plain_newest d life (r ∷ before)))) (r ∷ before),
)
