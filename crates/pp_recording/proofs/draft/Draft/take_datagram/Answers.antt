use Rattle.std.proofs.Common.{arith}
use Rattle.pp_recording.proofs.Draftings.{record_taken}
use Rattle.pp_recording.proofs.draft.Draft.take_datagram.Goals as goal

pub returns : goal.returns
returns c bytes all is =
    record_taken c.args.self.now c.push.new.self c.add_digits.new.bytes c.args.entry bytes c.requires.draft c.in_ok-push.ensures.items
    (c.in_ok-add_digits.ensures bytes all is) (c.requires.fills bytes all is) (c.requires.kept bytes all is)
    (omega (arith, c.if-len-ge-MOST_RECORDS.false, c.len.ensures))
