use Rattle.std.proofs.Common.{◌≡◌, ◌<◌, nat_le, true, ◌&&◌, ◌||◌, ap, refl, sym, subst, ◌∙◌}
use Rattle.pp_terms.specs.tree.Tree.{Node}
use Rattle.pp_traffic.specs.Hashes.{tells}
use Rattle.pp_tree.specs.Bits.{bit_of}
use Rattle.pp_plan.specs.Told.{knows, span_of}
use Rattle.pp_plan.proofs.Telling.{told_more, told_by_more}
use Rattle.pp_plan.proofs.told.Told.told.Goals as goal

pub returns-clause-more : goal.returns-clause-more
returns-clause-more c =
    subst (λ t. (n : Node) → knows (record { chunks = c.self.inside.chunks; some = true; told = c.fill.new.self }) n
    ≡ (knows t n || tells t.chunks (span_of c.args.range) n)) c.self.view_is
    (told_more (record { chunks = c.self.inside.chunks; some = c.self.inside.some; told = c.self.inside.tiers })
    (record { chunks = c.self.inside.chunks; some = true; told = c.fill.new.self }) (span_of c.args.range) refl refl c.first.ensures.order
    (subst (λ t. c.args.range.last < t.chunks) (sym c.self.view_is) c.requires) c.self.invariant.5
    (λ i. c.fill.ensures.chunks i
    ∙ ap (λ k. bit_of c.self.inside.tiers i || (nat_le k i && nat_le i c.last.result)) c.first.ensures.first
    ∙ ap (λ k. bit_of c.self.inside.tiers i || (nat_le c.args.range.first i && nat_le i k)) c.last.ensures.last))

pub returns-clause-calls : goal.returns-clause-calls
returns-clause-calls c ranges is =
    told_by_more c.args.self.now (record { chunks = c.self.inside.chunks; some = true; told = c.fill.new.self }) (span_of c.args.range) ranges
    (ap (λ t. t.chunks) c.self.view_is) (returns-clause-more c) is
