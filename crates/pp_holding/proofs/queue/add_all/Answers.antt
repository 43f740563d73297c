use Rattle.std.proofs.Common.{arith}
use Rattle.pp_holding.proofs.Tickets.{add_nothing, add_more}
use Rattle.pp_holding.proofs.queue.add_all.Goals as goal

pub loop-one-init : goal.loop-one-init
loop-one-init c = record { items = add_nothing c.args.tickets.now.items (omega arith); few = c.requires.few; room = c.requires.room }

pub loop-one-preserved : goal.loop-one-preserved
loop-one-preserved c = record {
  items = add_more c.args.tickets.now.items c.loop-one.tickets.items c.add.new.tickets.items c.args.waiting.now c.loop-one.one-index _ (omega arith)
      c.loop-one-test.true c.loop-one.invariant.items c.add.ensures.items;
  few = c.add.ensures.few;
  room = c.add.ensures.room;
}
