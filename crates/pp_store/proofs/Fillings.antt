-- A buffer that is filled from a source, a piece at a time.
use Rattle.std.proofs.Common.{◌≡◌, ℕ, ◌+◌, ◌-◌, ◌<◌, ◌≤◌, Option, Some, List, ◌++◌, length, take, drop, Ok, sym, ◌∙◌, ap, subst, arith}
use Rattle.std.proofs.Math.Seq.{take-add}
use Rattle.std.proofs.lemmas.List.{length-take, length-drop, length-append, drop-drop, drop_at, take-append-le}
use Rattle.std.proofs.lemmas.Slice.{take-put_mid_below}
use borrow.Rule.Slice.PartMut.{put_mid, post_of}
use Rattle.pp_terms.specs.command.Stream.{SourceState, DoesTake, GivesUp}

-- what stands at the front of the buffer is what the source has given since
pub record IsFilled (old new : SourceState) (buffer : List ℕ) (filled : ℕ) : Type 0 where
  pub within : filled ≤ length buffer
  pub given : (content : List ℕ) → old.left ≡ Some content
      → (filled ≤ length content) × (take filled buffer ≡ take filled content) × (new.left ≡ Some (drop filled content))
  pub later : old.faults ≤ new.faults

front_is : (filled room count : ℕ) (buffer into : List ℕ) → filled ≤ length buffer → count ≤ length into
    → take (filled + count) (put_mid filled room buffer into) ≡ take filled buffer ++ take count into
front_is filled room count buffer into within fits =
    let whole = put_mid filled room buffer into in
    let behind : drop filled whole ≡ into ++ post_of filled room buffer =
    drop_at (take filled buffer) (into ++ post_of filled room buffer) filled (length-take filled buffer ∙ omega arith) in
    let piece : take count (drop filled whole) ≡ take count into =
    ap (take count) behind ∙ take-append-le count into (post_of filled room buffer) fits in
    take-add filled count whole ∙ ap (λ (xs : List ℕ). xs ++ take count (drop filled whole)) (take-put_mid_below filled room buffer into filled (omega arith) within)
    ∙ ap (λ (xs : List ℕ). take filled buffer ++ xs) piece

-- one piece more
pub filled_more : {E : Type 0} (old mid new : SourceState) (buffer into : List ℕ) (filled count : ℕ) → IsFilled old mid buffer filled
    → filled < length buffer → length into ≡ length (take (length buffer - filled) (drop filled buffer)) → DoesTake {E = E} mid into (Ok count) new
    → IsFilled old new (put_mid filled (length buffer - filled) buffer into) (filled + count)
filled_more old mid new buffer into filled count before room size takes = record {
  within = let n : length into ≡ length buffer - filled = size ∙ omega (arith, length-take (length buffer - filled) (drop filled buffer), length-drop filled buffer) in
      omega (arith, takes.within, before.within, length-append (take filled buffer) (into ++ post_of filled (length buffer - filled) buffer), length-append into (post_of filled (length buffer - filled) buffer), length-take filled buffer);
  given = λ content told.
      let so_far = before.given content told in
      let piece = subst (λ (left : Option (List ℕ)). GivesUp left count into new.left) so_far.2 takes.given in
      let front : take (filled + count) (put_mid filled (length buffer - filled) buffer into) ≡ take filled buffer ++ take count into =
      front_is filled (length buffer - filled) count buffer into before.within takes.within in (
        omega (arith, so_far.0, piece.0, length-drop filled content),
        front ∙ ap (λ (xs : List ℕ). xs ++ take count into) so_far.1 ∙ ap (λ (xs : List ℕ). take filled content ++ xs) piece.1 ∙ sym (take-add filled count content),
        piece.2 ∙ ap Some (drop-drop count filled content),
      );
  later = omega (arith, before.later, takes.cause.later);
}
