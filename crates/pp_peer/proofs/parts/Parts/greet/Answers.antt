use Rattle.std.proofs.Common.{sym, ap, ◌∙◌}
use Rattle.pp_counts.specs.declared.counts.Counts.{Counts}
use Rattle.pp_peer.proofs.Flushed.{flushes_none}
use Rattle.pp_peer.proofs.Greeted.{greet_flushes, greet_refused, refused_greets}
use Rattle.pp_peer.proofs.parts.Parts.greet.Goals as goal

pub returns-then-not-is_greeting_due-clause-flushes : goal.returns-then-not-is_greeting_due-clause-flushes
returns-then-not-is_greeting_due-clause-flushes g c = flushes_none _

pub returns-then-not-greet-clause-flushes : goal.returns-then-not-greet-clause-flushes
returns-then-not-greet-clause-flushes g c = refused_greets c.args.seat c.args.self.now _ _ _ (g.D.Disk.state c.args.disk.now)
    (greet_refused c.args.seat c.args.self.now c.greet.new.self c.note.new.self _ _
    (sym c.is_greeting_due.ensures ∙ c.if-not-is_greeting_due.false) c.if-not-greet.ensures c.note.ensures.counts)

pub returns-clause-flushes : goal.returns-clause-flushes
returns-clause-flushes g c = greet_flushes c.args.seat c.args.self.now _ _ _ (g.D.Disk.state c.args.disk.now) c.if-not-greet.ensures
    (ap (λ (k : Counts). record c.args.self.now { seats = c.greet.new.self; counts = k }) c.note-2.ensures.counts)
