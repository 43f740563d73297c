use Rattle.std.proofs.Common.{◌≡◌, sym, subst, List, map}
use Rattle.std.specs.List.{AllByRecursion}
use Rattle.pp_terms.specs.format.Messages.{Message}
use Rattle.pp_tree.specs.declared.node.Node.{Node}
use Rattle.pp_draft.specs.Notes.{NamesRange}
use Rattle.pp_draft.specs.Puts.{IsLow, message_for, message_at}
use Rattle.pp_draft.proofs.Names.{cover_names}
use Rattle.pp_draft.proofs.Putting.{puts_as}
use Rattle.pp_draft.proofs.ranges.put_bins.Goals as goal

pub put_cover-requires-clause-low : goal.put_cover-requires-clause-low
put_cover-requires-clause-low c = subst (λ (nodes : List Node). AllByRecursion IsLow nodes) (sym c.deref.ensures.0) c.bins.ensures.low

pub returns : goal.returns
returns c =
    puts_as c.args.descriptor.now (λ (ms : List Message). ms ≡ map (message_at c.args.kind) c.deref.result.now)
    (λ (ms : List Message). NamesRange c.args.descriptor.now.method c.args.range (message_for c.args.kind) ms) c.args.out.now c.put_cover.new.out c.args.at c.put_cover.result
    (λ ms is. subst (λ (xs : List Message). NamesRange c.args.descriptor.now.method c.args.range (message_for c.args.kind) xs) (sym is)
    (rw c.deref.ensures.0 (cover_names c.args.descriptor.now.method c.args.range c.args.kind c.bins.result.items c.requires.method c.bins.ensures.cover))) c.put_cover.ensures
