use Rattle.std.proofs.Common.{false, ap, sym, ◌∙◌, arith}
use Rattle.pp_counts.specs.declared.counts.Counts.{Counts}
use Rattle.pp_counts.specs.declared.note.Note.TheVariants as notes
use Rattle.pp_peer.proofs.Heard.{keeps_twice, takes_none, hears_counted_too}
use Rattle.pp_peer.proofs.Datagrams.{hears_none, hears_more, hears_nearer, hears_closed, hears_end, hears_cut}
use Rattle.pp_peer.proofs.Messages.{some_none, some_more, all_closed, all_ended, all_cut}
use Rattle.pp_peer.proofs.parts.Parts.take_all.Goals as goal

pub messages-init : goal.messages-init
messages-init g c = record {
  hears = hears_none c.args.seat c.args.descriptor.now c.args.bytes.now c.args.start c.args.self.now (g.D.Disk.state c.args.disk.now)
      c.requires.within (takes_none c.args.seat c.args.self.now (g.D.Disk.state c.args.disk.now) c.seat.result.now c.seat.ensures);
  exact = some_none c.args.seat c.args.descriptor.now c.args.bytes.now c.args.start c.args.self.now;
}

pub returns-then-is_closing-clause-hears : goal.returns-then-is_closing-clause-hears
returns-then-is_closing-clause-hears g c = hears_closed c.args.seat c.args.descriptor.now c.args.bytes.now c.args.start (omega (arith, c.chunk.ensures.range)) (λ i. omega (arith, c.type_inv.bytes i)) c.args.self.now (g.D.Disk.state c.args.disk.now) c.messages.at c.in-Message.next _ c.messages.self (g.D.Disk.state c.messages.disk)
    (rw (c.method.ensures.method, c.chunk.ensures.chunk) at c.in-Message.ensures.exact) c.messages.invariant.hears (sym c.is_closing.ensures ∙ c.if-is_closing.true)

pub returns-in_err-take-in-Message-clause-keeps : goal.returns-in_err-take-in-Message-clause-keeps
returns-in_err-take-in-Message-clause-keeps g c = keeps_twice c.args.self.now c.messages.self c.take.new.self (g.D.Disk.state c.args.disk.now) (g.D.Disk.state c.messages.disk)
    (g.D.Disk.state c.take.new.disk) c.messages.invariant.hears.takes.keeps c.take.ensures.keeps

pub messages-smaller : goal.messages-smaller
messages-smaller g c = hears_nearer c.args.seat c.args.descriptor.now c.args.bytes.now c.args.start (omega (arith, c.chunk.ensures.range)) (λ i. omega (arith, c.type_inv.bytes i)) c.args.self.now (g.D.Disk.state c.args.disk.now) c.messages.at c.in-Message.next _ c.messages.invariant.hears.within
    (rw (c.method.ensures.method, c.chunk.ensures.chunk) at c.in-Message.ensures.exact)

pub messages-preserved : goal.messages-preserved
messages-preserved g c = record {
  hears = hears_more c.args.seat c.args.descriptor.now c.args.bytes.now c.args.start (omega (arith, c.chunk.ensures.range)) (λ i. omega (arith, c.type_inv.bytes i)) c.args.self.now (g.D.Disk.state c.args.disk.now) c.messages.at c.in-Message.next _ c.messages.self c.take.new.self (g.D.Disk.state c.messages.disk) (g.D.Disk.state c.take.new.disk)
      (rw (c.method.ensures.method, c.chunk.ensures.chunk) at c.in-Message.ensures.exact) c.messages.invariant.hears (sym c.is_closing.ensures ∙ c.if-is_closing.false)
      c.in_ok-take-in-Message.ensures.takes;
  exact = some_more c.args.seat c.args.descriptor.now c.args.bytes.now c.args.start (omega (arith, c.chunk.ensures.range)) (λ i. omega (arith, c.type_inv.bytes i)) c.args.self.now c.messages.at c.in-Message.next _ c.messages.self c.take.new.self
      c.messages.invariant.hears.within (rw (c.method.ensures.method, c.chunk.ensures.chunk) at c.in-Message.ensures.exact) c.messages.invariant.exact (sym c.is_closing.ensures ∙ c.if-is_closing.false)
      c.in_ok-take-in-Message.ensures.exact;
}

pub returns-in-End-clause-hears : goal.returns-in-End-clause-hears
returns-in-End-clause-hears g c = hears_end c.args.seat c.args.descriptor.now c.args.bytes.now c.args.start (omega (arith, c.chunk.ensures.range)) (λ i. omega (arith, c.type_inv.bytes i)) c.args.self.now (g.D.Disk.state c.args.disk.now) c.messages.at c.messages.self (g.D.Disk.state c.messages.disk)
    (rw (c.method.ensures.method, c.chunk.ensures.chunk) at c.in-End.ensures.exact) c.messages.invariant.hears

pub returns-in-Cut-clause-hears : goal.returns-in-Cut-clause-hears
returns-in-Cut-clause-hears g c = hears_counted_too c.args.seat _ false c.args.self.now c.messages.self (g.D.Disk.state c.args.disk.now) (g.D.Disk.state c.messages.disk)
    (hears_cut c.args.seat c.args.descriptor.now c.args.bytes.now c.args.start (omega (arith, c.chunk.ensures.range)) (λ i. omega (arith, c.type_inv.bytes i)) c.args.self.now (g.D.Disk.state c.args.disk.now) c.messages.at _ _ c.messages.self (g.D.Disk.state c.messages.disk)
    (rw (c.method.ensures.method, c.chunk.ensures.chunk) at c.in-Cut.ensures.exact) c.messages.invariant.hears) notes.Cut tt c.note.new.self c.note.ensures.counts

pub returns-then-is_closing-clause-exact : goal.returns-then-is_closing-clause-exact
returns-then-is_closing-clause-exact g c = all_closed c.args.seat c.args.descriptor.now c.args.bytes.now c.args.start (omega (arith, c.chunk.ensures.range)) (λ i. omega (arith, c.type_inv.bytes i)) c.args.self.now c.messages.at c.in-Message.next _ c.messages.self
    c.messages.invariant.hears.within (rw (c.method.ensures.method, c.chunk.ensures.chunk) at c.in-Message.ensures.exact) c.messages.invariant.exact (sym c.is_closing.ensures ∙ c.if-is_closing.true)

pub returns-in-End-clause-exact : goal.returns-in-End-clause-exact
returns-in-End-clause-exact g c = all_ended c.args.seat c.args.descriptor.now c.args.bytes.now c.args.start (omega (arith, c.chunk.ensures.range)) (λ i. omega (arith, c.type_inv.bytes i)) c.args.self.now c.messages.at c.messages.self
    (rw (c.method.ensures.method, c.chunk.ensures.chunk) at c.in-End.ensures.exact) c.messages.invariant.exact

pub returns-in-Cut-clause-exact : goal.returns-in-Cut-clause-exact
returns-in-Cut-clause-exact g c = all_cut c.args.seat c.args.descriptor.now c.args.bytes.now c.args.start (omega (arith, c.chunk.ensures.range)) (λ i. omega (arith, c.type_inv.bytes i)) c.args.self.now c.messages.at _ _ c.messages.self _
    (rw (c.method.ensures.method, c.chunk.ensures.chunk) at c.in-Cut.ensures.exact) c.messages.invariant.exact
    (ap (λ (k : Counts). record c.messages.self { counts = k }) c.note.ensures.counts)
