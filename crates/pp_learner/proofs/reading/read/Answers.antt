use Rattle.std.proofs.Common.{◌≡◌, ◌∙◌, Some, List, sym, ap, subst, arith}
use Rattle.pp_terms.specs.format.Descriptor.{Descriptor}
use Rattle.pp_terms.specs.format.Messages.{Message}
use Rattle.pp_counts.specs.declared.counts.Counts.{Counts}
use Rattle.pp_wire.specs.Views.{message_of}
use Rattle.pp_targets.specs.Names.{name_of}
use Rattle.pp_learner.specs.Rows.{RowState, noted}
use Rattle.pp_learner.specs.Reading.{Tells, after_some, messages_from, read_from}
use Rattle.pp_learner.specs.declared.reading.Ending.TheVariants as endings
use Rattle.pp_learner.proofs.Readings.{chunk_some, read_first, read_closed, read_learned, read_more, read_ended, read_cut, read_nearer, read_piece}
use Rattle.pp_learner.proofs.Telling.{tells_later, tells_now}
use Rattle.pp_learner.proofs.reading.read.Goals as goal

pub returns-then-is_closing-clause-exact : goal.returns-then-is_closing-clause-exact
returns-then-is_closing-clause-exact c = c.messages.invariant.same
    ∙ read_closed (name_of c.args.name.now) c.args.bytes.now (chunk_some c.args.name.now.chunk c.requires.size) (λ i. omega (arith, c.type_inv.bytes i)) c.messages.row c.messages.counts
    c.messages.at c.in-Message.next (message_of c.in-Message.message) c.messages.invariant.within c.in-Message.ensures.exact (sym c.is_closing.ensures ∙ c.if-is_closing.true)

pub take-requires-clause-piece : goal.take-requires-clause-piece
take-requires-clause-piece c = read_piece (name_of c.args.name.now) c.args.bytes.now (chunk_some c.args.name.now.chunk c.requires.size) (λ i. omega (arith, c.type_inv.bytes i))
    c.messages.at c.in-Message.next (message_of c.in-Message.message) c.in-Message.ensures.exact

pub returns-in-Some-clause-exact : goal.returns-in-Some-clause-exact
returns-in-Some-clause-exact c = c.messages.invariant.same
    ∙ read_learned (name_of c.args.name.now) c.args.bytes.now (chunk_some c.args.name.now.chunk c.requires.size) (λ i. omega (arith, c.type_inv.bytes i)) c.messages.row c.messages.counts
    c.messages.at c.in-Message.next (message_of c.in-Message.message) c.in-Some.size c.messages.invariant.within c.in-Message.ensures.exact (sym c.is_closing.ensures ∙ c.if-is_closing.false)
    (sym c.take.ensures.learned ∙ c.in-Some.is)
    ∙ ap (λ (r : RowState). record { row = r; counts = after_some (noted (name_of c.args.name.now) (message_of c.in-Message.message) c.messages.row) c.messages.counts; ending = endings.Learned c.in-Some.size }) (sym c.take.ensures.row)
    ∙ ap (λ (k : Counts). record { row = c.take.new.row; counts = k; ending = endings.Learned c.in-Some.size }) (sym c.take.ensures.counts)

pub messages-smaller : goal.messages-smaller
messages-smaller c = (read_nearer (name_of c.args.name.now) c.args.bytes.now (chunk_some c.args.name.now.chunk c.requires.size) (λ i. omega (arith, c.type_inv.bytes i))
    c.messages.at c.in-Message.next (message_of c.in-Message.message) c.messages.invariant.within c.in-Message.ensures.exact).1

pub messages-preserved : goal.messages-preserved
messages-preserved c = record {
  within = (read_nearer (name_of c.args.name.now) c.args.bytes.now (chunk_some c.args.name.now.chunk c.requires.size) (λ i. omega (arith, c.type_inv.bytes i))
      c.messages.at c.in-Message.next (message_of c.in-Message.message) c.messages.invariant.within c.in-Message.ensures.exact).0;
  same = c.messages.invariant.same
      ∙ read_more (name_of c.args.name.now) c.args.bytes.now (chunk_some c.args.name.now.chunk c.requires.size) (λ i. omega (arith, c.type_inv.bytes i)) c.messages.row c.messages.counts
      c.messages.at c.in-Message.next (message_of c.in-Message.message) c.messages.invariant.within c.in-Message.ensures.exact (sym c.is_closing.ensures ∙ c.if-is_closing.false)
      (sym c.take.ensures.learned ∙ c.in_default.is)
      ∙ ap (λ (r : RowState). read_from (name_of c.args.name.now) c.args.bytes.now c.in-Message.next r (after_some (noted (name_of c.args.name.now) (message_of c.in-Message.message) c.messages.row) c.messages.counts)) (sym c.take.ensures.row)
      ∙ ap (λ (k : Counts). read_from (name_of c.args.name.now) c.args.bytes.now c.in-Message.next c.take.new.row k) (sym c.take.ensures.counts);
  tells = λ e t. c.messages.invariant.tells e (subst (λ (ms : List Message). Tells (name_of c.args.name.now) e ms c.messages.row) (sym (read_first (name_of c.args.name.now) c.args.bytes.now (chunk_some c.args.name.now.chunk c.requires.size) (λ i. omega (arith, c.type_inv.bytes i)) c.messages.at c.in-Message.next (message_of c.in-Message.message) c.messages.invariant.within c.in-Message.ensures.exact))
      (tells_later (name_of c.args.name.now) e (message_of c.in-Message.message) (messages_from (name_of c.args.name.now) c.args.bytes.now c.in-Message.next).read c.messages.row
      (sym c.is_closing.ensures ∙ c.if-is_closing.false) (sym c.take.ensures.learned ∙ c.in_default.is)
      (subst (λ (r : RowState). Tells (name_of c.args.name.now) e (messages_from (name_of c.args.name.now) c.args.bytes.now c.in-Message.next).read r) c.take.ensures.row t)));
}

pub returns-in-End-clause-exact : goal.returns-in-End-clause-exact
returns-in-End-clause-exact c = c.messages.invariant.same
    ∙ read_ended (name_of c.args.name.now) c.args.bytes.now (chunk_some c.args.name.now.chunk c.requires.size) (λ i. omega (arith, c.type_inv.bytes i)) c.messages.row c.messages.counts
    c.messages.at c.in-End.ensures.exact

pub returns-in-Cut-clause-exact : goal.returns-in-Cut-clause-exact
returns-in-Cut-clause-exact c = c.messages.invariant.same
    ∙ read_cut (name_of c.args.name.now) c.args.bytes.now (chunk_some c.args.name.now.chunk c.requires.size) (λ i. omega (arith, c.type_inv.bytes i)) c.messages.row c.messages.counts
    c.messages.at _ _ c.in-Cut.ensures.exact
    ∙ ap (λ (k : Counts). record { row = c.messages.row; counts = k; ending = endings.Read }) (sym c.note.ensures.counts)

pub returns-in-Some-clause-tells : goal.returns-in-Some-clause-tells
returns-in-Some-clause-tells c e says =
    let same : c.in-Some.size ≡ e = cc in
    let is : c.take.result ≡ Some e = c.in-Some.is ∙ ap (λ (d : Descriptor). Some d) same in
    c.messages.invariant.tells e (subst (λ (ms : List Message). Tells (name_of c.args.name.now) e ms c.messages.row) (sym (read_first (name_of c.args.name.now) c.args.bytes.now (chunk_some c.args.name.now.chunk c.requires.size) (λ i. omega (arith, c.type_inv.bytes i)) c.messages.at c.in-Message.next (message_of c.in-Message.message) c.messages.invariant.within c.in-Message.ensures.exact))
    (tells_now (name_of c.args.name.now) e (message_of c.in-Message.message) (messages_from (name_of c.args.name.now) c.args.bytes.now c.in-Message.next).read c.messages.row
    (sym c.take.ensures.learned ∙ is) (c.take.ensures.proof e is)))
