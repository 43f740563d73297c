use Rattle.std.proofs.Common.{◌≡◌, ◌≤◌, ◌+◌, ◌++◌, length, map, take}
use Rattle.pp_agenda.specs.Agendas.{ack_note}
use Rattle.pp_agenda.proofs.agenda.Agenda.add_acknowledgements.Given as goal

abbrev pub invariant-loop-one : goal.invariant-loop-one
invariant-loop-one l = record {
  exact : l.self ≡ l.initial.self ++ map ack_note (take l.one-index l.acknowledgements);
  few : length l.self ≤ length l.initial.self + l.one-index;
}
