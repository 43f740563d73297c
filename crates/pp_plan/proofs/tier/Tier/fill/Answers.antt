use Rattle.std.proofs.Common.{nat_le, ◌&&◌, ◌||◌, ap, ◌∙◌}
use Rattle.std.proofs.lemmas.List.{with_items_is}
use Rattle.pp_tree.specs.Bits.{bit_of}
use Rattle.pp_plan.proofs.tier.Tier.fill.Goals as goal

pub returns-clause-bits : goal.returns-clause-bits
returns-clause-bits c = λ i.
    ap (λ xs. bit_of xs i) (with_items_is c.self.inside.words c.fill.new.words (c.fill.ensures.len ∙ c.deref_mut.ensures.len))
    ∙ c.fill.ensures.bits i
    ∙ ap (λ xs. bit_of xs i || (nat_le c.args.first i && nat_le i c.args.last)) (c.deref_mut.ensures.value ∙ c.self.view_is)
