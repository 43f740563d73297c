-- A recorded list, one entry more.
use Rattle.std.proofs.Common.{◌≡◌, ℕ, ◌+◌, ◌-◌, ◌<◌, ◌≤◌, leb, Bool, ◌&&◌, ◌||◌, List, [], ◌∷◌, length, get_or, take, map, reverse, refl, sym, ◌∙◌, ap, arith, add-one}
use Rattle.std.proofs.Math.Seq.{take-suc}
use Rattle.std.proofs.lemmas.List.{get_or_default, reverse-append, map-append, length-reverse, length-map, length-take, take_all}
use Rattle.pp_terms.specs.format.Traffic.{Record}
use Rattle.pp_traffic.specs.Past.{some_since}
use Rattle.pp_recorded.specs.declared.entry.Entry.{Entry}
use Rattle.pp_recorded.specs.Entries.{record_of, past}

-- the records of the first entries, so many
abbrev pub first : ℕ → List Entry → List Record
first n xs = past (take n xs)

pub one_more : (xs : List Entry) (i : ℕ) (x : Entry) → i < length xs → x ≡ get_or xs i x → first (i + 1) xs ≡ record_of x ∷ first i xs
one_more xs i x lt is =
    ap (λ (n : ℕ). past (take n xs)) (add-one i)
    ∙ ap (λ (ys : List Entry). past ys) (take-suc xs i x lt)
    ∙ ap (λ (rs : List Record). reverse rs) (map-append record_of (take i xs) (get_or xs i x ∷ []))
    ∙ reverse-append (map record_of (take i xs)) (record_of (get_or xs i x) ∷ [])
    ∙ ap (λ (y : Entry). record_of y ∷ first i xs) (sym is)

pub length_first : (xs : List Entry) (i : ℕ) → i ≤ length xs → length (first i xs) ≡ i
length_first xs i le =
    length-reverse (map record_of (take i xs)) ∙ length-map (take i xs) record_of ∙ (let e : length (take i xs) ≡ i = omega (arith, length-take i xs) in e)

pub first_all : (xs : List Entry) (i : ℕ) → length xs ≤ i → first i xs ≡ past xs
first_all xs i le = ap (λ (ys : List Entry). past ys) (take_all i xs le)

-- the folds over the past, one entry further
pub since_more : (test : Record → Bool) (from : ℕ) (xs : List Entry) (i : ℕ) (x : Entry) (found : Bool) → i < length xs → x ≡ get_or xs i x
    → found ≡ some_since test from (first i xs) → ((leb from i && test (record_of x)) || found) ≡ some_since test from (first (i + 1) xs)
since_more test from xs i x found lt is so_far =
    rw (one_more xs i x lt is, length_first xs i (omega arith), so_far) refl

pub length_past : (xs : List Entry) → length (past xs) ≡ length xs
length_past xs = length-reverse (map record_of xs) ∙ length-map xs record_of

-- the newest entry, and those before it
newest_first : (xs : List Entry) (x : Entry) → 0 < length xs → x ≡ get_or xs (length xs - 1) x → past xs ≡ record_of x ∷ first (length xs - 1) xs
newest_first xs x some is =
    sym (first_all xs (length xs - 1 + 1) (omega arith)) ∙ one_more xs (length xs - 1) x (omega arith) is

pub entry_at : (xs : List Entry) (i : ℕ) → i < length xs → (x : Entry) × (x ≡ get_or xs i x)
entry_at [] i lt = absurd (omega arith)
entry_at (y ∷ ys) i lt = (get_or (y ∷ ys) i y, get_or_default (y ∷ ys) i y (get_or (y ∷ ys) i y) lt)

pub newest_split : (xs : List Entry) → 0 < length xs → (x : Entry) × (past xs ≡ record_of x ∷ first (length xs - 1) xs)
newest_split xs some =
    let x = entry_at xs (length xs - 1) (omega (arith, some)) in
    (x.0, newest_first xs x.0 some x.1)
