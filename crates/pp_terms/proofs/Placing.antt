-- Bytes put at a place of a buffer, one after the other.
use Rattle.std.proofs.Common.{◌≡◌, ℕ, ◌+◌, ◌≤◌, List, ◌++◌, length, take, drop, sym, ap, ◌∙◌, append_assoc, arith}
use Rattle.std.proofs.lemmas.List.{take_at, drop_at, drop-drop, length-append, length-take, length-drop}
use Rattle.pp_terms.specs.Place.{placed}

-- the buffer keeps its length
pub length-placed : (old : List ℕ) (at : ℕ) (text : List ℕ) → at + length text ≤ length old → length (placed old at text) ≡ length old
length-placed old at text le =
    omega (arith, length-append (take at old ++ text) (drop (at + length text) old), length-append (take at old) text, length-take at old, length-drop (at + length text) old)

-- bytes behind those that were put: both are put together
pub placed-twice : (old : List ℕ) (at : ℕ) (a b : List ℕ) → at + length a ≤ length old
    → placed (placed old at a) (at + length a) b ≡ placed old at (a ++ b)
placed-twice old at a b le =
    let front : List ℕ = take at old ++ a in
    let size : length front ≡ at + length a = omega (arith, length-append (take at old) a, length-take at old) in
    let kept : take (at + length a) (front ++ drop (at + length a) old) ≡ front = take_at front (drop (at + length a) old) (at + length a) size in
    let back : drop ((at + length a) + length b) (front ++ drop (at + length a) old) ≡ drop (at + length (a ++ b)) old =
    sym (drop-drop (length b) (at + length a) (front ++ drop (at + length a) old))
    ∙ ap (λ (t : List ℕ). drop (length b) t) (drop_at front (drop (at + length a) old) (at + length a) size)
    ∙ drop-drop (length b) (at + length a) old
    ∙ ap (λ (k : ℕ). drop k old) (omega (arith, length-append a b)) in
    ap (λ (t : List ℕ). (t ++ b) ++ drop ((at + length a) + length b) (front ++ drop (at + length a) old)) kept
    ∙ ap (λ (t : List ℕ). (front ++ b) ++ t) back
    ∙ ap (λ (t : List ℕ). t ++ drop (at + length (a ++ b)) old) (append_assoc (take at old) a b)
