use Rattle.std.proofs.Common.{ap, ◌∙◌}
use Rattle.pp_counts.specs.Counts.{after_note}
use Rattle.pp_counts.specs.declared.counts.Counts.{Counts}
use Rattle.pp_counts.specs.declared.note.Note.{Note}
use Rattle.pp_peer.proofs.Greeted.{dial_flushes, dials_none}
use Rattle.pp_peer.proofs.parts.Parts.dial.Goals as goal

pub returns-in_default-clause-flushes : goal.returns-in_default-clause-flushes
returns-in_default-clause-flushes g c = dials_none c.args.address.now c.args.self.now c.dial.new.self _ _ (g.D.Disk.state c.args.disk.now) c.in_default.ensures

pub returns-clause-flushes : goal.returns-clause-flushes
returns-clause-flushes g c = dial_flushes c.args.address.now c.in-Some.sent c.args.self.now _ _ _ (g.D.Disk.state c.args.disk.now) (record {
  dials = c.in-Some.ensures;
  rest = ap (λ (k : Counts). record c.args.self.now { seats = c.dial.new.self; counts = k })
      (c.note.ensures.counts ∙ ap (λ (n : Note). after_note n c.args.self.now.counts) c.note_of.ensures);
})
