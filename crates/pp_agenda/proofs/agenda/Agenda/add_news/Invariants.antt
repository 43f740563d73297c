use Rattle.std.proofs.Common.{◌≡◌, ◌≤◌, ◌+◌, ◌++◌, length, map, take}
use Rattle.pp_agenda.specs.Agendas.{have_note, parts_below}
use Rattle.pp_agenda.proofs.agenda.Agenda.add_news.Given as goal

abbrev pub invariant-loop-range : goal.invariant-loop-range
invariant-loop-range l = record {
  exact : l.self ≡ l.initial.self ++ map have_note (parts_below l.cursor (take l.range-index l.due.news.now));
  few : length l.self ≤ length l.initial.self + l.range-index;
}
