use Rattle.std.proofs.Common.{ℕ, List, length, codes, ap, sym}
use Rattle.pp_recording.proofs.ByteTests.{told_same, told_apart}
use Rattle.pp_recording.proofs.Digits.{no_digits, half_digits}
use Rattle.pp_recording.proofs.draft.count_in.Goals as goal

pub returns-then-eq : goal.returns-then-eq
returns-then-eq c bytes all is =
    sym (ap (λ (b : List ℕ). length b) (no_digits c.args.digits.now bytes
    (told_same c.eq.result c.args.digits.now c.as_slice.result.now (codes "-") c.eq.ensures c.as_slice.ensures c.if-eq.true) is))

pub returns-else-eq : goal.returns-else-eq
returns-else-eq c bytes all is =
    half_digits c.args.digits.now bytes
    (told_apart c.eq.result c.args.digits.now c.as_slice.result.now (codes "-") c.eq.ensures c.as_slice.ensures c.if-eq.false) is
