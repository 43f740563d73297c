-- Sets of chunks, as they gain those that are announced.
use Rattle.std.proofs.Common.{◌≡◌, ◌≢◌, ⊎_elim, ℕ, zero, suc, ◌+◌, ◌<◌, ◌≤◌, ltb, Bool, true, false, List, [], ◌∷◌, length, take, reverse, get_or, refl, sym, ap, ◌∙◌, arith, add-one}
use Rattle.std.specs.Prelude.{◌&&◌, ◌||◌}
use Rattle.std.specs.List.{list_any, slice_get}
use Rattle.std.specs.Option.{option_map_or}
use Rattle.std.proofs.Math.Bool.{or_assoc, or_comm}
use Rattle.std.proofs.Math.ListN.{set}
use Rattle.std.proofs.lemmas.Bool.{cases_eq}
use Rattle.std.proofs.lemmas.Bool.Decides.{nat_tests}
use Rattle.std.proofs.lemmas.List.{get_or-set_same, get_or-set_other, take_all}
use Rattle.std.proofs.lemmas.List.Folds.{list_any_more}
use Rattle.std.proofs.lemmas.List.Sorted.{list_any-IsPermutation, IsPermutation-reverse}
use Rattle.pp_terms.specs.format.Descriptor.{Descriptor}
use Rattle.pp_terms.specs.format.Messages.{Message}
use Rattle.pp_terms.specs.format.Traffic.{Record, Received, Quiet, Sent}
use Rattle.pp_terms.specs.tree.Range.{Span, within}
use Rattle.pp_traffic.specs.Keeping.{announces}
use Rattle.pp_recorded.specs.Sorts.{announces_in}
use Rattle.pp_recorded.proofs.SortLaws.{announces_any}
use Rattle.pp_world.specs.Outcome.{is_announced_in}
use Rattle.pp_actor.specs.declared.life.Life.{Life}
use Rattle.pp_outcome.specs.Announced.{record_announces, announces_at, is_announced_in_life}

or_last : (a : Bool) → (a || false) ≡ a
or_last true = refl
or_last false = refl

or_swap : (a b c : Bool) → ((a || b) || c) ≡ (b || (a || c))
or_swap true true c = refl
or_swap true false c = refl
or_swap false b c = refl

-- ---- a span

-- none of the span is added at first
pub span_none : (span : Span) (n k : ℕ) (old : Bool) → n ≤ span.first → old ≡ ((within span k && ltb k n) || old)
span_none span n k old before =
    let none : (within span k && ltb k n) ≡ false = grind (arith, nat_tests) in
    sym (ap (λ (b : Bool). b || old) none)

-- number i is added
pub span_more : (span : Span) (old now : List Bool) (i : ℕ) → span.first ≤ i → i ≤ span.last → i < length now
    → ((k : ℕ) → get_or now k false ≡ ((within span k && ltb k i) || get_or old k false))
    → (k : ℕ) → get_or (set now i true) k false ≡ ((within span k && ltb k (i + 1)) || get_or old k false)
span_more span old now i above below room each k = ⊎_elim
    (λ (e : k ≡ i).
    let here : (within span k && ltb k (i + 1)) ≡ true = grind (arith, nat_tests) in
    ap (λ (n : ℕ). get_or (set now i true) n false) e ∙ get_or-set_same now i true false room
    ∙ sym (ap (λ (b : Bool). b || get_or old k false) here))
    (λ (ne : k ≢ i).
    let same : ltb k (i + 1) ≡ ltb k i = grind (arith, nat_tests) in
    get_or-set_other now i k true false ne ∙ each k
    ∙ sym (ap (λ (b : Bool). (within span k && b) || get_or old k false) same))
    (cases_eq k i)

-- all of the span is added once its last number is passed
pub span_all : (span : Span) (n k : ℕ) (old : Bool) → (k ≤ span.last → k < n)
    → ((within span k && ltb k n) || old) ≡ (within span k || old)
span_all span n k old passed =
    let all : (within span k && ltb k n) ≡ within span k = grind (arith, nat_tests) in
    ap (λ (b : Bool). b || old) all

-- ---- the messages of a datagram

pub message_more : (i : ℕ) (m : Message) (behind here : List Message) (old new : Bool) → here ≡ m ∷ behind
    → new ≡ (announces_in i m || old) → (announces i here || old) ≡ (announces i behind || new)
message_more i m behind here old new is gained =
    ap (λ (ms : List Message). announces i ms || old) is
    ∙ ap (λ (b : Bool). b || old) (announces_any i (m ∷ behind))
    ∙ or_swap (announces_in i m) (list_any (announces_in i) behind) old
    ∙ ap (λ (b : Bool). b || (announces_in i m || old)) (sym (announces_any i behind))
    ∙ ap (λ (b : Bool). announces i behind || b) (sym gained)

pub messages_end : (i : ℕ) (all here : List Message) (old new : Bool) → here ≡ []
    → (announces i all || old) ≡ (announces i here || new) → new ≡ (announces i all || old)
messages_end i all here old new none same = sym (same ∙ ap (λ (ms : List Message). announces i ms || new) none)

-- ---- the records of a link

-- the test of one record more
any_more : {X : Type 0} (p : X → Bool) (xs : List X) (n : ℕ)
    → list_any p (take (suc n) xs) ≡ (list_any p (take n xs) || option_map_or p (slice_get xs n) false)
any_more p [] zero = refl
any_more p [] (suc n) = refl
any_more p (x ∷ xs) zero = or_last (p x)
any_more p (x ∷ xs) (suc n) =
    ap (λ (b : Bool). p x || b) (any_more p xs n) ∙ sym (or_assoc (p x) (list_any p (take n xs)) (option_map_or p (slice_get xs n) false))

or_in : (a b c new now : Bool) → now ≡ (a || c) → new ≡ (b || now) → new ≡ ((a || b) || c)
or_in a b c new now was is = is ∙ ap (λ (x : Bool). b || x) was ∙ sym (or_swap a b c)

pub record_more : (d : Descriptor) (records : List Record) (n i : ℕ) (old now new : Bool)
    → now ≡ (list_any (record_announces d i) (take n records) || old) → new ≡ (announces_at d records n i || now)
    → new ≡ (list_any (record_announces d i) (take (n + 1) records) || old)
record_more d records n i old now new was gained =
    or_in (list_any (record_announces d i) (take n records)) (announces_at d records n i) old new now was gained
    ∙ ap (λ (b : Bool). b || old) (sym (any_more (record_announces d i) records n) ∙ ap (λ (m : ℕ). list_any (record_announces d i) (take m records)) (sym (add-one n)))

any_announced : (d : Descriptor) (i : ℕ) (records : List Record) → is_announced_in d i records ≡ list_any (record_announces d i) records
any_announced d i [] = refl
any_announced d i (Received at sender bytes ∷ before) = any_announced d i before
any_announced d i (Quiet at ∷ before) = any_announced d i before
any_announced d i (Sent moment receiver bytes ∷ before) =
    ap (λ (b : Bool). record_announces d i (Sent moment receiver bytes) || b) (any_announced d i before)

-- the order of the records makes no difference
pub records_all : (d : Descriptor) (records : List Record) (n i : ℕ) → length records ≤ n
    → list_any (record_announces d i) (take n records) ≡ is_announced_in d i (reverse records)
records_all d records n i past =
    ap (list_any (record_announces d i)) (take_all n records past)
    ∙ list_any-IsPermutation (record_announces d i) records (reverse records) (IsPermutation-reverse records)
    ∙ sym (any_announced d i (reverse records))

-- ---- lives

pub life_more : (d : Descriptor) (lives : List Life) (n i : ℕ) (life : Life) (now new : Bool) → n < length lives
    → life ≡ get_or lives n life → now ≡ list_any (is_announced_in_life d i) (take n lives)
    → new ≡ (is_announced_in_life d i life || now) → new ≡ list_any (is_announced_in_life d i) (take (n + 1) lives)
life_more d lives n i life now new lt is was gained =
    gained ∙ ap (λ (b : Bool). is_announced_in_life d i life || b) was
    ∙ or_comm (is_announced_in_life d i life) (list_any (is_announced_in_life d i) (take n lives))
    ∙ ap (λ (l : Life). list_any (is_announced_in_life d i) (take n lives) || is_announced_in_life d i l) is
    ∙ sym (list_any_more (is_announced_in_life d i) lives n life lt)
