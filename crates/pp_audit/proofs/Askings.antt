-- How many times a peer has asked, record by record.
use Rattle.std.proofs.Common.{◌≡◌, ⊎_elim, ℕ, ◌+◌, ◌-◌, ◌^◌, ◌<◌, min, leb, eqb, Bool, true, false, cond, List, [], ◌∷◌, length, get_or, count_by, refl, sym, ◌∙◌, ap, arith}
use Rattle.std.proofs.lemmas.Bool.{cases_lt, le-leb, lt-leb}
use Rattle.std.proofs.lemmas.List.Sums.{sum_by-cons}
use Rattle.pp_terms.specs.format.Traffic.{Record, Received, Quiet, Sent}
use Rattle.pp_terms.specs.format.Descriptor.{Descriptor}
use Rattle.pp_terms.specs.format.Messages.{Message}
use Rattle.pp_traffic.specs.Past.{now}
use Rattle.pp_traffic.specs.Life.{Life}
use Rattle.pp_traffic.specs.Story.{Line, Heard, Said, hear, say, heard_in, said_in, told, story}
use Rattle.pp_traffic.specs.Asking.{asks, asks_in}
use Rattle.pp_traffic.proofs.OneMore.{before_opening}
use Rattle.pp_recorded.specs.declared.entry.Entry.{Entry}
use Rattle.pp_recorded.specs.Entries.{record_of}
use Rattle.pp_audit.specs.Asks.{asks_by, asks_at}
use Rattle.pp_recorded.proofs.Pasts.{first, one_more, length_first}

one_heard : (b : Bool) (n more : ℕ) → cond b (n + 1) n + more ≡ n + (cond b 1 0 + more)
one_heard true n more = omega arith
one_heard false n more = omega arith

asks_heard : (at : ℕ) (ms : List Message) (lines : List Line) → asks_in (hear at ms lines) ≡ asks_in lines + count_by asks ms
asks_heard at [] lines = omega arith
asks_heard at (m ∷ ms) lines =
    asks_heard at ms (Heard at m ∷ lines) ∙ one_heard (asks m) (asks_in lines) (count_by asks ms)
    ∙ ap (λ (n : ℕ). asks_in lines + n) (sym (sum_by-cons (λ x. cond (asks x) 1 0) m ms))

asks_said : (at : ℕ) (ms : List Message) (lines : List Line) → asks_in (say at ms lines) ≡ asks_in lines
asks_said at [] lines = refl
asks_said at (m ∷ ms) lines = asks_said at ms (Said at m ∷ lines)

asks_told : (d : Descriptor) (life : Life) (is_opening : Bool) (moment : ℕ) (r : Record) (lines : List Line)
    → asks_in (told d life is_opening moment r lines) ≡ asks_in lines + asks_by d life is_opening r
asks_told d life is_opening moment (Received at sender bytes) lines = asks_heard moment (heard_in d life is_opening (Received at sender bytes)) lines
asks_told d life is_opening moment (Quiet at) lines = omega arith
asks_told d life is_opening moment (Sent sent_at receiver bytes) lines =
    let e = asks_said moment (said_in d life (Sent sent_at receiver bytes)) lines in omega (arith, e)

asks_more : (d : Descriptor) (life : Life) (r : Record) (before : List Record)
    → asks_in (story d life (r ∷ before)) ≡ asks_in (story d life before) + asks_at d life (length before) r
asks_more d life r before = ⊎_elim
    (λ lt. outside (lt-leb life.opening (length before) lt) (before_opening d life before (omega (arith, lt))))
    (λ le. inside (le-leb life.opening (length before) le))
    (cases_lt (length before) life.opening)
  where
    outside : leb life.opening (length before) ≡ false → story d life before ≡ []
        → asks_in (story d life (r ∷ before)) ≡ asks_in (story d life before) + asks_at d life (length before) r
    outside e none = rw (e, none) refl

    inside : leb life.opening (length before) ≡ true
        → asks_in (story d life (r ∷ before)) ≡ asks_in (story d life before) + asks_at d life (length before) r
    inside e = rw e (asks_told d life (eqb life.opening (length before)) (now (r ∷ before)) r (story d life before))

pub count_more : (d : Descriptor) (life : Life) (xs : List Entry) (i : ℕ) (x : Entry) (count more new : ℕ) → i < length xs → x ≡ get_or xs i x
    → count ≡ min (asks_in (story d life (first i xs))) (2 ^ 64 - 1) → more ≡ asks_at d life i (record_of x) → new ≡ min (count + more) (2 ^ 64 - 1)
    → new ≡ min (asks_in (story d life (first (i + 1) xs))) (2 ^ 64 - 1)
count_more d life xs i x count more new lt is so_far here e =
    let step : asks_in (story d life (first (i + 1) xs)) ≡ asks_in (story d life (first i xs)) + more =
    ap (λ (rs : List Record). asks_in (story d life rs)) (one_more xs i x lt is) ∙ asks_more d life (record_of x) (first i xs)
    ∙ ap (λ (n : ℕ). asks_in (story d life (first i xs)) + asks_at d life n (record_of x)) (length_first xs i (omega (arith, lt)))
    ∙ ap (λ (n : ℕ). asks_in (story d life (first i xs)) + n) (sym here) in
    omega (arith, step, so_far, e)
