use Rattle.std.proofs.Common.{◌≡◌, ◌≤◌, ◌+◌, ◌++◌, length, map, take}
use Rattle.pp_agenda.specs.Agendas.{address_note}
use Rattle.pp_agenda.proofs.agenda.Agenda.add_addresses.Given as goal

abbrev pub invariant-loop-address : goal.invariant-loop-address
invariant-loop-address l = record {
  exact : l.self ≡ l.initial.self ++ map address_note (take l.address-index l.addresses);
  few : length l.self ≤ length l.initial.self + l.address-index;
}
