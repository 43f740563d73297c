use Rattle.pp_desk.proofs.Delivering.{delivers_none, delivers_one, delivers_twice}
use Rattle.pp_desk.proofs.Following.{link_carries, each_counts, all_is_said, seat_follows, records_are_read}
use Rattle.pp_desk.proofs.Tales.{tale_grows}
use Rattle.pp_desk.proofs.laws_of_deliveries.Goals as goal

pub returns : goal.returns
returns c = record {
  link = link_carries;
  counts = each_counts;
  whole = all_is_said;
  seat = seat_follows;
  reads = records_are_read;
  tale = tale_grows;
  compose = record { none = delivers_none; one = delivers_one; twice = delivers_twice };
}
