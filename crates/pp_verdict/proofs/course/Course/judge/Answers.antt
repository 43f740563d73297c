use Rattle.std.proofs.Common.{sym}
use Rattle.pp_recorded.specs.Entries.{life_of, record_of}
use Rattle.pp_verdict.specs.Chunks.{shown}
use Rattle.pp_verdict.proofs.Notes.{judged_elsewhere, judged_on}
use Rattle.pp_verdict.proofs.course.Course.judge.Goals as goal

pub returns-then-not-is_sent_on : goal.returns-then-not-is_sent_on
returns-then-not-is_sent_on c = λ past follows.
    judged_elsewhere c.args.descriptor.now _ past (record_of c.args.entry.now) (life_of c.args.life) c.is_sent_on.result (c.is_sent_on.ensures c.args.descriptor.now past follows) c.if-not-is_sent_on.true

pub returns-in-Some : goal.returns-in-Some
returns-in-Some c = λ past follows.
    judged_on c.args.descriptor.now _ past (record_of c.args.entry.now) (life_of c.args.life) (shown c.args.descriptor.now c.in-Some.chunk) c.judge_chunk.result
    (sym c.in-Some.ensures.is) ((c.is_sent_on.ensures c.args.descriptor.now past follows).0 c.if-not-is_sent_on.false) (c.judge_chunk.ensures (life_of c.args.life) past follows)
