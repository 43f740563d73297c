use Rattle.std.proofs.Common.{◌≡◌, ◌≤◌, ◌+◌, ◌++◌, length, map, take}
use Rattle.pp_agenda.specs.Agendas.{cancel_note}
use Rattle.pp_agenda.proofs.agenda.Agenda.add_cancels.Given as goal

abbrev pub invariant-loop-n : goal.invariant-loop-n
invariant-loop-n l = record {
  exact : l.self ≡ l.initial.self ++ map cancel_note (take l.n l.ranges);
  few : length l.self ≤ length l.initial.self + l.n;
}
