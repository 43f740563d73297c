use Rattle.std.proofs.Common.{◌≡◌, ◌+◌, ◌≤◌, length, drop, map}
use Rattle.pp_outside.specs.Records.{record_of, told_of, sent_of}
use Rattle.pp_outside.proofs.records.Records.sent.Given as goal

abbrev pub invariant-loop-passed : goal.invariant-loop-passed
invariant-loop-passed l = record {
  few : l.count ≤ l.passed-index;
  rest : l.count + length (sent_of (map record_of (drop l.passed-index l.self.passed.items))) ≡ length (sent_of (told_of l.self));
}
