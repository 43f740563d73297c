use Rattle.std.proofs.Common.{List, subst}
use Rattle.pp_terms.specs.tree.Range.{Span}
use Rattle.pp_peer.specs.Speaking.{SetsBack, Attends}
use Rattle.pp_peer.proofs.Turned.{back_quiet, slots_quiet, flushes_amid, few_refused}
use Rattle.pp_peer.proofs.parts.Parts.speak.Goals as goal

pub returns-clause-few : goal.returns-clause-few
returns-clause-few g c = few_refused _ c.speak_to-refused.result c.args.speaker.now c.speak_to-refused.new.speaker _ _ c.speak_to-refused.ensures.speaks

pub returns-clause-flushes : goal.returns-clause-flushes
returns-clause-flushes g c =
    flushes_amid c.speak_to-refused.result c.args.self.now c.set_back.new.self c.speak_to-refused.new.self c.attend.new.self
    (g.L.Link.seen c.args.link.now) (g.L.Link.seen c.speak_to-refused.new.link) (g.D.Disk.state c.args.disk.now) (g.D.Disk.state c.args.disk.now)
    (back_quiet c.args.hearer.now.seat c.args.hearer.now.greets c.ranges-2.result.now c.args.self.now c.set_back.new.self c.set_back.ensures)
    c.speak_to-refused.ensures.flushes
    (slots_quiet c.speak_to-refused.new.self c.attend.new.self c.attend.ensures.keeps)

pub returns-clause-speaks : goal.returns-clause-speaks
returns-clause-speaks g c = record {
  due = c.requires.due;
  begun = c.requires.begun;
  back = c.set_back.new.self;
  sets_back = subst (λ (xs : List Span). SetsBack c.args.hearer.now.seat c.args.hearer.now.greets xs c.args.self.now c.set_back.new.self) c.ranges-2.ensures.same c.set_back.ensures;
  known = c.seat.result.now;
  there = c.seat.ensures;
  said = c.speak_to-refused.new.self;
  speaks = c.speak_to-refused.ensures.speaks;
  attends = subst (λ t. Attends c.args.hearer.now.seat t c.speak_to-refused.new.self c.attend.new.self) c.due-turn.ensures c.attend.ensures;
}
