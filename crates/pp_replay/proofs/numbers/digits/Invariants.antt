use Rattle.pp_replay.proofs.Digits.{IsReadTo}
use Rattle.pp_replay.proofs.numbers.digits.Given as goal

abbrev pub invariant-loop-byte : goal.invariant-loop-byte
invariant-loop-byte l = IsReadTo l.word l.byte-index l.value
