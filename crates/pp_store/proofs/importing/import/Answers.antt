use Rattle.std.proofs.Common.{ap, ◌∙◌, subst}
use Rattle.pp_terms.specs.disk.Disk.{History}
use Rattle.pp_terms.proofs.Knowing.{known_on}
use Rattle.pp_store.specs.Imported.{imported}
use Rattle.pp_store.specs.Sound.{StaysSound}
use Rattle.pp_store.proofs.Sealing.{empty_no_store}
use Rattle.pp_store.proofs.Counted.{counted_answer, counted_whole}
use Rattle.pp_store.proofs.importing.import.Goals as goal

pub returns-in-Ok-eq0-clause-answer : goal.returns-in-Ok-eq0-clause-answer
returns-in-Ok-eq0-clause-answer g c =
    counted_answer c.args.chunk c.in-Ok-eq0.field-0 _ _ _ _ _ c.in-Ok-eq0.ensures c.import_to_empty.result c.import_to_empty.ensures.answer

pub returns-in-Ok-eq0-clause-whole : goal.returns-in-Ok-eq0-clause-whole
returns-in-Ok-eq0-clause-whole g c known content told =
    let known' = known_on (g.D.Disk.state c.args.disk.now) (g.D.Disk.state c.len.new.self) c.len.ensures.call.tells c.len.ensures.call.honest known in
    counted_whole c.args.chunk (g.D.Disk.state c.args.disk.now).history (g.D.Disk.state c.len.new.self).history (g.D.Disk.state c.import_to_empty.new.disk).history content c.len.ensures.same (c.import_to_empty.ensures.whole known' content told)

pub returns-in-Ok-eq0-clause-sound : goal.returns-in-Ok-eq0-clause-sound
returns-in-Ok-eq0-clause-sound g c known content told fits =
    let known' = known_on (g.D.Disk.state c.args.disk.now) (g.D.Disk.state c.len.new.self) c.len.ensures.call.tells c.len.ensures.call.honest known in
    subst (λ (h : History). StaysSound (imported content c.args.chunk) h (g.D.Disk.state c.import_to_empty.new.disk).history) c.len.ensures.same
    (c.import_to_empty.ensures.sound known' content told fits)

pub returns-in-Err-clause-no_store : goal.returns-in-Err-clause-no_store
returns-in-Err-clause-no_store g c known empty = λ same. empty_no_store _ (ap (λ (h : History). h.reads) c.len.ensures.same ∙ empty)
