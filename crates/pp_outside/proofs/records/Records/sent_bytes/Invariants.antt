use Rattle.std.proofs.Common.{◌≡◌, ◌<◌, length, drop, map, slice_get}
use Rattle.pp_outside.specs.Records.{record_of, told_of, sent_of}
use Rattle.pp_outside.proofs.records.Records.sent_bytes.Given as goal

abbrev pub invariant-loop-passed : goal.invariant-loop-passed
invariant-loop-passed l =
    let rest = sent_of (map record_of (drop l.passed-index l.self.passed.items)) in
    record {
      within : l.before < length rest;
      same : slice_get rest l.before ≡ slice_get (sent_of (told_of l.self)) l.n;
    }
