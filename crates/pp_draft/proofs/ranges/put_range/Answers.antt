use Rattle.std.proofs.Common.{inl, inr, ⊎_elim, sym, ◌∙◌, ap, List}
use Rattle.pp_terms.specs.format.Messages.{Message}
use Rattle.pp_tree.specs.Method.{method_of}
use Rattle.pp_draft.specs.Notes.{NamesRange}
use Rattle.pp_draft.specs.Puts.{message_for}
use Rattle.pp_draft.proofs.Names.{range_name, whole_names, can_put, names_chunks}
use Rattle.pp_draft.proofs.Putting.{one_puts, range_short, range_may}
use Rattle.pp_draft.proofs.ranges.put_range.Goals as goal

pub put_kind-requires-clause-can : goal.put_kind-requires-clause-can
put_kind-requires-clause-can c =
    let method = ⊎_elim (λ e. inl (sym c.method.ensures.method ∙ ap method_of e)) (λ e. inr (sym c.method.ensures.method ∙ ap method_of e)) c.in-Range32.is in
    rw c.span.ensures.span
    (can_put c.args.descriptor.now.method c.args.kind c.args.range (range_name c.args.descriptor.now.method c.args.range method c.span.ensures.order c.requires.inside))

pub put_kind-requires-clause-named : goal.put_kind-requires-clause-named
put_kind-requires-clause-named c =
    let method = ⊎_elim (λ e. inl (sym c.method.ensures.method ∙ ap method_of e)) (λ e. inr (sym c.method.ensures.method ∙ ap method_of e)) c.in-Range32.is in
    rw c.span.ensures.span
    (names_chunks c.args.descriptor.now.method c.args.kind c.args.range (range_name c.args.descriptor.now.method c.args.range method c.span.ensures.order c.requires.inside))

pub returns-in-Range32 : goal.returns-in-Range32
returns-in-Range32 c =
    let method = ⊎_elim (λ e. inl (sym c.method.ensures.method ∙ ap method_of e)) (λ e. inr (sym c.method.ensures.method ∙ ap method_of e)) c.in-Range32.is in
    one_puts c.args.descriptor.now (message_for c.args.kind c.args.range) (λ (ms : List Message). NamesRange c.args.descriptor.now.method c.args.range (message_for c.args.kind) ms) c.args.out.now c.put_kind.new.out c.args.at c.put_kind.result
    (whole_names c.args.descriptor.now.method c.args.range (message_for c.args.kind) method) (range_may c.args.descriptor.now.chunk c.args.kind c.args.range)
    (range_short c.args.descriptor.now.method c.args.kind c.args.range) (rw c.span.ensures.span at c.put_kind.ensures)

pub put_bins-requires-clause-method : goal.put_bins-requires-clause-method
put_bins-requires-clause-method c = ⊎_elim (λ e. inl (sym c.method.ensures.method ∙ ap method_of e)) (λ e. inr (sym c.method.ensures.method ∙ ap method_of e)) c.in-Bin32.is
