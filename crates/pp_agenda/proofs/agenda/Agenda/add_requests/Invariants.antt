use Rattle.std.proofs.Common.{◌≡◌, ◌≤◌, ◌+◌, ◌++◌, length, map, take}
use Rattle.pp_agenda.specs.Agendas.{request_note}
use Rattle.pp_agenda.proofs.agenda.Agenda.add_requests.Given as goal

abbrev pub invariant-loop-n : goal.invariant-loop-n
invariant-loop-n l = record {
  exact : l.self ≡ l.initial.self ++ map request_note (take l.n l.requests);
  few : length l.self ≤ length l.initial.self + l.n;
}
