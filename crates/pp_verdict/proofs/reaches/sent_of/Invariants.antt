use Rattle.std.proofs.Common.{◌≡◌, ℕ, ◌+◌, ◌<◌, Some, get_or}
use Rattle.std.specs.List.{Contains}
use Rattle.pp_recorded.specs.declared.entry.Entry.{Entry}
use Rattle.pp_recorded.specs.Entries.{record_of}
use Rattle.pp_verdict.specs.Chunks.{SentChunk, chunk_of}
use Rattle.pp_verdict.specs.Reaches.{IsSentAs}
use Rattle.pp_verdict.specs.declared.reaches.SentTo.{SentTo}
use Rattle.pp_verdict.proofs.reaches.sent_of.Given as goal

abbrev pub invariant-loop-place : goal.invariant-loop-place
invariant-loop-place l = (k : ℕ) (x : Entry) (c : SentChunk) (number : ℕ) → k < l.place → x ≡ get_or l.entries k x
    → chunk_of l.descriptor (record_of x) ≡ Some c → c.channel ≡ Some number → (s : SentTo) × Contains l.sent.items s × IsSentAs c (k + 1) s
