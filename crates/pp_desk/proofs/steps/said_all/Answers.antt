use Rattle.std.proofs.Common.{List, [], ◌∷◌, ◌∙◌, refl, subst}
use Rattle.std.proofs.lemmas.List.{take_all}
use Rattle.pp_draft.specs.declared.note.Note.{Note}
use Rattle.pp_desk.specs.Steps.{AreSaid}
use Rattle.pp_desk.proofs.Saying.{said_none, said_more, after_chunks}
use Rattle.pp_desk.proofs.Delivering.{item_plain, item_below}
use Rattle.pp_desk.proofs.steps.said_all.Goals as goal

pub loop-note-init : goal.loop-note-init
loop-note-init c = record { said = said_none _ _ _; chunks = refl }

pub said-requires-clause-plain : goal.said-requires-clause-plain
said-requires-clause-plain c = item_plain c.args.notes.now c.loop-note.note-index _ c.note-item.result c.note-item.is c.loop-note-test.true c.requires.plain

pub said-requires-clause-below : goal.said-requires-clause-below
said-requires-clause-below c =
    item_below c.args.seat.now.told.chunks c.loop-note.seat.told.chunks c.args.notes.now c.loop-note.note-index _ c.note-item.result c.loop-note.invariant.chunks c.note-item.is
    c.loop-note-test.true c.requires.below

pub loop-note-preserved : goal.loop-note-preserved
loop-note-preserved c = record {
  said = said_more c.args.now c.args.set_back c.args.notes.now c.loop-note.note-index _ c.args.seat.now c.loop-note.seat c.said.new.seat c.loop-note-test.true
      c.loop-note.invariant.said (rw c.note-item.is at c.said.ensures);
  chunks = after_chunks c.args.now c.args.set_back (c.note-item.result ∷ []) c.loop-note.seat c.said.new.seat c.said.ensures.after ∙ c.loop-note.invariant.chunks;
}

pub returns : goal.returns
returns c = subst (λ (ns : List Note). AreSaid c.args.now c.args.set_back ns c.args.seat.now c.loop-note.seat)
    (take_all c.loop-note.note-index c.args.notes.now c.loop-note-test.false) c.loop-note.invariant.said
