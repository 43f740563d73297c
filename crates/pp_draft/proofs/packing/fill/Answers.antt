use Rattle.std.proofs.Common.{refl, ◌∙◌, arith}
use Rattle.pp_draft.proofs.Filling.{filled_none, filled_more, fills_all, fills_some}
use Rattle.pp_draft.proofs.packing.fill.Goals as goal

pub loop-note-init : goal.loop-note-init
loop-note-init c = record {
  filled = filled_none c.args.descriptor.now c.args.notes.now c.args.from c.args.out.now c.requires.within;
  count = refl;
  first = λ zero. refl;
  size = c.requires.room;
  within = omega arith;
}

pub put_note-requires-clause-within : goal.put_note-requires-clause-within
put_note-requires-clause-within c = c.loop-note.invariant.filled.end_is

pub loop-note-preserved : goal.loop-note-preserved
loop-note-preserved c = record {
  filled = filled_more c.args.descriptor.now c.args.notes.now c.args.from c.args.out.now c.loop-note.note-index c.loop-note.end c.in-Some.next _ c.loop-note.out c.put_note.new.out
      c.loop-note-test.true c.loop-note.invariant.filled (rw c.note-item.is at c.in-Some.ensures);
  count = omega (arith, c.loop-note.invariant.count);
  first = λ zero. omega arith;
  size = c.put_note.auto.out ∙ c.loop-note.invariant.size;
  within = omega (arith, c.loop-note-test.true);
}

pub returns-in-None : goal.returns-in-None
returns-in-None c =
    fills_some c.args.descriptor.now c.args.notes.now c.args.from c.args.out.now c.loop-note.note-index c.loop-note.count c.loop-note.end _ c.loop-note.out c.put_note.new.out
    c.loop-note.invariant.count c.loop-note.invariant.size c.put_note.auto.out c.loop-note-test.true c.loop-note.invariant.first c.loop-note.invariant.filled
    (rw c.note-item.is at c.in-None.ensures)

pub returns : goal.returns
returns c =
    fills_all c.args.descriptor.now c.args.notes.now c.args.from c.args.out.now c.loop-note.note-index c.loop-note.count c.loop-note.end c.loop-note.out
    c.loop-note.invariant.count c.loop-note.invariant.within c.loop-note-test.false c.loop-note.invariant.filled
