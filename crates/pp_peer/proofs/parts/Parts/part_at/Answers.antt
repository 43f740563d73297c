use Rattle.std.proofs.Common.{sym, ap, ◌∙◌}
use Rattle.pp_counts.specs.Counts.{after_note}
use Rattle.pp_counts.specs.declared.note.Note.{Note}
use Rattle.pp_peer.proofs.Parted.{parts_none, parts_so, none_far, unproven_far}
use Rattle.pp_peer.proofs.parts.Parts.part_at.Goals as goal

pub returns-in_default : goal.returns-in_default
returns-in_default g c = parts_none c.args.seat _ (none_far _ (sym c.far.ensures.exact ∙ c.in_default.is))

pub returns-then-far : goal.returns-then-far
returns-then-far g c = parts_so c.args.seat c.part-sent.result c.in-Some.far c.args.self.now c.part-sent.new.self c.note.new.self _ _ (g.D.Disk.state c.args.disk.now)
    (sym c.far.ensures.exact ∙ c.in-Some.is) c.if-far.true c.part-sent.ensures
    (c.note.ensures.counts ∙ ap (λ (n : Note). after_note n c.args.self.now.counts) c.note_of.ensures)

pub returns-else-far : goal.returns-else-far
returns-else-far g c = parts_none c.args.seat _ (unproven_far _ c.in-Some.far (sym c.far.ensures.exact ∙ c.in-Some.is) c.if-far.false)
