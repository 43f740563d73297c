use Rattle.pp_desk.proofs.Saying.{refused_more}
use Rattle.pp_desk.proofs.steps.unsaid_all.Goals as goal

pub loop-note-preserved : goal.loop-note-preserved
loop-note-preserved c = refused_more c.args.notes.now c.loop-note.note-index c.note-item.result c.args.seat.now c.loop-note.seat c.unsaid.new.seat c.loop-note-test.true
    c.loop-note.invariant (rw c.note-item.is at c.unsaid.ensures)
