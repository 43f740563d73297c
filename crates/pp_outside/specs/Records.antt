-- The records of a link in memory, as traffic.
use Rattle.std.specs.Prelude.{ℕ, List, [], ◌∷◌, map}
use Rattle.pp_terms.specs.format.Traffic as traffic
use Rattle.pp_terms.specs.format.Traffic.{Record}
use Rattle.pp_outside.specs.Outside.{address_of}
use Rattle.pp_outside.specs.declared.records.Mark.{Mark}
use Rattle.pp_outside.specs.declared.records.Mark.TheVariants.{Received, Quiet, Sent}
use Rattle.pp_outside.specs.declared.records.Passed.{Passed}
use Rattle.pp_outside.specs.declared.records.Records.{Records}

-- a mark with the bytes of its datagram
abbrev pub marked : Mark → List ℕ → Record
marked (Received at sender) bytes = traffic.Received at (address_of sender) bytes
marked (Quiet at) bytes = traffic.Quiet at
marked (Sent moment receiver) bytes = traffic.Sent moment (address_of receiver) bytes

abbrev pub record_of : Passed → Record
record_of passed = marked passed.mark passed.bytes.items

-- the records in order, the oldest first
abbrev pub told_of : Records → List Record
told_of records = map record_of records.passed.items

-- the bytes of a record's datagram
abbrev pub bytes_of : Record → List ℕ
bytes_of (traffic.Received at sender bytes) = bytes
bytes_of (traffic.Quiet at) = []
bytes_of (traffic.Sent moment receiver bytes) = bytes

-- the datagrams that were sent, the oldest first
abbrev pub sent_of : List Record → List (List ℕ)
sent_of [] = []
sent_of (traffic.Received at sender bytes ∷ records) = sent_of records
sent_of (traffic.Quiet at ∷ records) = sent_of records
sent_of (traffic.Sent moment receiver bytes ∷ records) = bytes ∷ sent_of records
