use Rattle.std.proofs.Common.{inl, inr, arith}
use Rattle.pp_agenda.proofs.Filling.{put_length, rows_more, rows_end, rows_are}
use Rattle.pp_agenda.proofs.agenda.Agenda.add_rows.Goals as goal

pub loop-told-preserved : goal.loop-told-preserved
loop-told-preserved c = record {
  rest = rows_more c.cursor-from.result c.args.due.now.committed.now c.args.self.now c.loop-told.from c.loop-told.told c.last-from.result c.loop-told.self c.push.new.self
      c.in-Some.range (omega arith) c.last-from.ensures.last c.in-Some.ensures c.push.ensures c.loop-told.invariant.rest;
  few = omega (arith, put_length _ _ _ c.push.ensures);
}

pub returns-in_default-clause-exact : goal.returns-in_default-clause-exact
returns-in_default-clause-exact c =
    rows_are c.args.due.now.tells c.args.seat.now.cursor c.cursor-from.result c.args.due.now.committed.now c.args.self.now c.loop-told.self c.if-not-due.false c.cursor-from.ensures
    (rows_end _ _ _ c.loop-told.from _ c.loop-told.self (inr c.in_default.ensures) c.loop-told.invariant.rest)

pub returns-clause-exact : goal.returns-clause-exact
returns-clause-exact c =
    rows_are c.args.due.now.tells c.args.seat.now.cursor c.cursor-from.result c.args.due.now.committed.now c.args.self.now c.loop-told.self c.if-not-due.false c.cursor-from.ensures
    (rows_end _ _ _ c.loop-told.from _ c.loop-told.self (inl (omega arith)) c.loop-told.invariant.rest)
