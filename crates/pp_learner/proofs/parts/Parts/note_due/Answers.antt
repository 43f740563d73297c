use Rattle.std.proofs.Common.{sym, ◌∙◌, ap, subst}
use Rattle.pp_terms.specs.format.Descriptor.{chunks_of}
use Rattle.pp_draft.specs.declared.note.Note.{Note}
use Rattle.pp_draft.specs.Notes.{IsInside}
use Rattle.pp_targets.specs.Names.{name_of}
use Rattle.pp_learner.specs.declared.due.Due.{Due}
use Rattle.pp_learner.proofs.Standing.{stand_chunks}
use Rattle.pp_learner.proofs.parts.Parts.note_due.Goals as goal

pub returns-clause-inside : goal.returns-clause-inside
returns-clause-inside c = subst (λ (n : Note). IsInside c.args.self.now.outbox n) (sym (ap (λ (due : Due). due.note) c.on_channel.ensures))
    (c.in_ok-note.ensures.inside c.args.self.now.outbox
    (ap chunks_of c.requires.whole.swarm ∙ stand_chunks (name_of c.args.self.now.name) c.requires.whole.size))
