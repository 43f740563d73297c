use Rattle.std.proofs.Common.{◌∙◌, ap, sym, length}
use Rattle.pp_avail.specs.Offers.{copies_in}
use Rattle.pp_avail.proofs.Counting.{told_copies, no_chunks}
use Rattle.pp_avail.proofs.avail.Avail.copies.Goals as goal

pub returns-then-self-eq0-clause-copies : goal.returns-then-self-eq0-clause-copies
returns-then-self-eq0-clause-copies c =
    sym (no_chunks c.self.inside.seats.items c.self.inside.counts c.self.inside.chunks c.args.i c.self.invariant c.if-self-eq0.true)
    ∙ ap (λ o. copies_in o.seats c.args.i) c.self.view_is

pub returns-then-self-eq0-clause-deeds : goal.returns-then-self-eq0-clause-deeds
returns-then-self-eq0-clause-deeds c = λ deeds tells.
    sym (no_chunks c.self.inside.seats.items c.self.inside.counts c.self.inside.chunks c.args.i c.self.invariant c.if-self-eq0.true)
    ∙ ap (λ o. copies_in o.seats c.args.i) c.self.view_is
    ∙ told_copies deeds c.args.self.now c.args.i (ap (λ o. length o.seats) (sym c.self.view_is) ∙ c.self.invariant.width) tells

pub returns-clause-deeds : goal.returns-clause-deeds
returns-clause-deeds c = λ deeds tells.
    c.of.ensures ∙ c.self.invariant.copies c.args.i
    ∙ ap (λ o. copies_in o.seats c.args.i) c.self.view_is
    ∙ told_copies deeds c.args.self.now c.args.i (ap (λ o. length o.seats) (sym c.self.view_is) ∙ c.self.invariant.width) tells
