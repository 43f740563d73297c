-- A recorded list of what a link carried, and channels in it, as the plain data that they mean.
use Rattle.std.specs.Prelude.{List, map, reverse}
use Rattle.pp_terms.specs.format.Traffic as traffic
use Rattle.pp_terms.specs.format.Traffic.{Record}
use Rattle.pp_traffic.specs.Life as lives
use Rattle.pp_outside.specs.Outside.{address_of}
use Rattle.pp_recorded.specs.declared.entry.Entry.{Entry}
use Rattle.pp_recorded.specs.declared.entry.Entry.TheVariants.{Received, Quiet, Sent}
use Rattle.pp_recorded.specs.declared.entry.Life.{Life}

-- the record of an entry
abbrev pub record_of : Entry → Record
record_of (Received at sender bytes) = traffic.Received at (address_of sender) bytes.now
record_of (Quiet at) = traffic.Quiet at
record_of (Sent moment receiver bytes) = traffic.Sent moment (address_of receiver) bytes.now

-- the entries, the oldest first, as the traffic, whose newest record is the first
abbrev pub past : List Entry → List Record
past entries = reverse (map record_of entries)

abbrev pub life_of : Life → lives.Life
life_of life = record {
  address = address_of life.address;
  local = life.local;
  remote = life.remote;
  is_dialled = life.is_dialled;
  opening = life.opening;
}
