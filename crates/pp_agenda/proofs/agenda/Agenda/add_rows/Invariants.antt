use Rattle.std.proofs.Common.{◌≤◌, ◌+◌, ◌-◌, length}
use Rattle.pp_agenda.proofs.Filling.{RowsRest}
use Rattle.pp_agenda.proofs.agenda.Agenda.add_rows.Given as goal

abbrev pub invariant-loop-told : goal.invariant-loop-told
invariant-loop-told l = record {
  rest : RowsRest l.initial.from l.due.committed.now l.initial.self l.from (64 - l.told) l.self;
  few : length l.self ≤ length l.initial.self + l.told;
}
