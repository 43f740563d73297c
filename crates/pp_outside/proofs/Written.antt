-- A write over bytes.
use Rattle.std.proofs.Common.{◌≡◌, ℕ, ◌+◌, ◌-◌, ◌<◌, List, ◌++◌, length, take, drop, replicate, ◌∙◌, ap, arith}
use Rattle.std.proofs.lemmas.List.{places, drop_all, take_all, append-nil}
use Rattle.std.proofs.lemmas.Grind.{same_number_lists}
use Rattle.pp_terms.specs.disk.Disk.{written}
use Rattle.pp_terms.proofs.Images.{length-written}

-- zeros up to its end, put there first, change nothing
pub written_padded : (old : List ℕ) (place : ℕ) (piece : List ℕ) → length old < place + length piece
    → written (take (place + length piece) old ++ replicate (place + length piece - length old) 0) place piece ≡ written old place piece
written_padded old place piece short =
    let padded = take (place + length piece) old ++ replicate (place + length piece - length old) 0 in
    let long : length padded ≡ place + length piece = grind (arith, places) in
    same_number_lists (written padded place piece) (written old place piece)
    (omega (arith, long, length-written padded place piece, length-written old place piece))
    (λ k lt. grind (arith, places))

-- what came back of a slice of all the bytes is all of them
pub unspilled : (new old : List ℕ) (n : ℕ) → length new ≡ n → length old ≡ n → take n (new ++ drop (length new) old) ≡ new
unspilled new old n now before =
    ap (λ (l : List ℕ). take n (new ++ l)) (drop_all (length new) old (omega arith))
    ∙ ap (λ (l : List ℕ). take n l) (append-nil new)
    ∙ take_all n new (omega arith)
