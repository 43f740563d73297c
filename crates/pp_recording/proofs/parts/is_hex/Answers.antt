use Rattle.std.proofs.Common.{length, inl, inr, codes, sym, ◌∙◌, arith}
use Rattle.pp_recording.proofs.LineFaults.{hex_is}
use Rattle.pp_recording.proofs.HexWords.{hex_pairs}
use Rattle.pp_recording.proofs.ByteTests.{told_apart, not_none, some_of, even_of, never}
use Rattle.pp_recording.proofs.parts.is_hex.Goals as goal
use Rattle.pp_recording.proofs.parts.is_hex.Goals.{then-is_empty-via-then-is_empty, then-is_empty-via-else-is_empty+then-word-eq1, then-is_empty-via-else-is_empty+else-word-eq1+then-word-gt-MOST_DIGITS}

pub returns-then-is_empty : goal.returns-then-is_empty
returns-then-is_empty c = (
  λ told. absurd (never told),
  λ is. elim (hex_is c.args.word.now is) [
    | inl dash ↦ absurd (told_apart c.eq.result c.args.word.now c.as_slice.result.now (codes "-") c.eq.ensures c.as_slice.ensures c.if-eq.false dash)
    | inr fine ↦ elim c.then-is_empty.branch [
      | then-is_empty-via-then-is_empty w ↦ absurd (not_none (length c.args.word.now) fine.0 w.if-is_empty.ensures)
      | then-is_empty-via-else-is_empty+then-word-eq1 w ↦ absurd (omega (arith, w.if-word-eq1.true, fine.1))
      | then-is_empty-via-else-is_empty+else-word-eq1+then-word-gt-MOST_DIGITS w ↦ absurd (omega (arith, w.if-word-gt-MOST_DIGITS.true, fine.2))
    ]
  ],
)

pub returns : goal.returns
returns c = (
  λ told. hex_pairs c.args.word.now (even_of (length c.args.word.now) c.if-word-eq1.false) (some_of (length c.args.word.now) c.if-is_empty.ensures)
      c.if-word-gt-MOST_DIGITS.false (sym c.are_digits.ensures ∙ told),
  λ is. elim (hex_is c.args.word.now is) [
    | inl dash ↦ absurd (told_apart c.eq.result c.args.word.now c.as_slice.result.now (codes "-") c.eq.ensures c.as_slice.ensures c.if-eq.false dash)
    | inr fine ↦ c.are_digits.ensures ∙ fine.3
  ],
)
