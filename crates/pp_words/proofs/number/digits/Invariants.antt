use Rattle.pp_words.proofs.Numbers.{IsReadSoFar}
use Rattle.pp_words.proofs.number.digits.Given as goal

abbrev pub invariant-loop-byte : goal.invariant-loop-byte
invariant-loop-byte l = IsReadSoFar l.text l.byte-index l.value
