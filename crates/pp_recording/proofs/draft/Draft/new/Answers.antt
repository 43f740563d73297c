use Rattle.pp_recording.proofs.Draftings.{first_is_draft, first_text}
use Rattle.pp_recording.proofs.draft.Draft.new.Goals as goal

pub returns-clause-draft : goal.returns-clause-draft
returns-clause-draft c =
    first_is_draft c.args.descriptor c.blank.new.self c.in_ok-entries.entries c.in_ok-bytes.bytes c.requires.valid c.requires.root
    c.in_ok-blank.ensures.prepared c.in_ok-blank.ensures.absent c.in_ok-entries.ensures.items c.in_ok-bytes.ensures.items

pub returns-clause-text : goal.returns-clause-text
returns-clause-text c =
    first_text c.args.descriptor c.blank.new.self c.in_ok-entries.entries c.in_ok-bytes.bytes c.in_ok-blank.ensures.absent c.in_ok-entries.ensures.items
