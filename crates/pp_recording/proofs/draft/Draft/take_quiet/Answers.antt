use Rattle.std.proofs.Common.{sym, [], arith}
use Rattle.std.proofs.lemmas.List.{append-nil}
use Rattle.pp_recording.specs.declared.recording.Entry.TheVariants.{Quiet}
use Rattle.pp_recording.proofs.Draftings.{record_taken}
use Rattle.pp_recording.proofs.draft.Draft.take_quiet.Goals as goal

pub returns : goal.returns
returns c =
    record_taken c.args.self.now c.push.new.self c.args.self.now.bytes (Quiet c.args.at) [] c.requires c.in_ok-push.ensures.items
    (sym (append-nil c.args.self.now.bytes.items)) (omega arith) (omega (arith, c.ranges.at.fits)) (omega (arith, c.if-len-ge-MOST_RECORDS.false, c.len.ensures))
