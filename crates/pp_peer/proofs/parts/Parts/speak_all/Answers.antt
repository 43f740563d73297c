use Rattle.std.proofs.Common.{◌+◌, List, refl, sym, ◌∙◌, subst, arith}
use Rattle.pp_terms.specs.tree.Range.{Span}
use Rattle.pp_holding.specs.declared.queue.Ticket.{Ticket}
use Rattle.pp_holding.specs.Holding.{HoldingState}
use Rattle.pp_news.specs.News.{AreRunsOf}
use Rattle.pp_peer.proofs.Flushed.{flushes_none, flushes_twice}
use Rattle.pp_peer.proofs.Turned.{below_none, below_more, below_all}
use Rattle.pp_peer.proofs.parts.Parts.speak_all.Goals as goal

pub loop-seat-init : goal.loop-seat-init
loop-seat-init g c = (omega arith, c.requires, refl, below_none _ _ _ _ refl refl, flushes_none _)

pub turn_to-refused-requires-clause-gathered : goal.turn_to-refused-requires-clause-gathered
turn_to-refused-requires-clause-gathered g c =
    subst (λ (xs : List Span). AreRunsOf c.loop-seat.self.holding.queue.tickets xs) (sym c.loop-seat.invariant.2)
    (subst (λ (h : HoldingState). AreRunsOf h.queue.tickets c.gather.new.self.ranges) (sym c.loop-seat.invariant.4.holding)
    (subst (λ (ts : List Ticket). AreRunsOf ts c.gather.new.self.ranges) c.tickets.ensures.same c.gather.ensures.ranges))

pub loop-seat-preserved : goal.loop-seat-preserved
loop-seat-preserved g c = (
  omega (arith, c.loop-seat.invariant.0, c.turn_to-refused.ensures.few),
  c.turn_to-refused.ensures.whole,
  c.turn_to-refused.ensures.gathered ∙ c.loop-seat.invariant.2,
  below_more c.loop-seat.seat c.loop-seat.refused c.turn_to-refused.result (c.loop-seat.refused + c.turn_to-refused.result) _ c.loop-seat.speaker c.turn_to-refused.new.speaker
      _ (record { parts = c.loop-seat.self; link = g.L.Link.seen c.loop-seat.link; disk = g.D.Disk.state c.args.disk.now })
      (record { parts = c.turn_to-refused.new.self; link = g.L.Link.seen c.turn_to-refused.new.link; disk = g.D.Disk.state c.args.disk.now })
      c.loop-seat.invariant.3 c.turn_to-refused.ensures.turns refl,
  flushes_twice c.loop-seat.refused c.turn_to-refused.result _
      (record { parts = c.loop-seat.self; link = g.L.Link.seen c.loop-seat.link; disk = g.D.Disk.state c.args.disk.now })
      (record { parts = c.turn_to-refused.new.self; link = g.L.Link.seen c.turn_to-refused.new.link; disk = g.D.Disk.state c.args.disk.now })
      c.loop-seat.invariant.4 c.turn_to-refused.ensures.flushes,
)

pub returns-clause-speaks : goal.returns-clause-speaks
returns-clause-speaks g c = record {
  gathered = record { agenda = c.args.speaker.now.agenda; news = c.gather.new.self; order = c.args.speaker.now.order };
  ranges = subst (λ (ts : List Ticket). AreRunsOf ts c.gather.new.self.ranges) c.tickets.ensures.same c.gather.ensures.ranges;
  order = refl;
  turns = below_all c.loop-seat.seat 64 c.loop-seat.refused _ c.loop-seat.speaker _
      (record { parts = c.loop-seat.self; link = g.L.Link.seen c.loop-seat.link; disk = g.D.Disk.state c.args.disk.now })
      (omega (arith, c.loop-seat.auto.seat-end, c.loop-seat-test.false)) c.loop-seat.invariant.3;
}
