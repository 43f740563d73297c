use Rattle.std.proofs.Common.{◌-◌, ◌*◌, ◌^◌, arith, ap, ◌∙◌}
use Rattle.pp_tree.specs.Bits.{bit_of}
use Rattle.pp_plan.specs.Told.{some_among}
use Rattle.pp_plan.proofs.Over.{run_second, run_third, run_highest}
use Rattle.pp_plan.proofs.tiers.Tiers.has_under.Goals as goal

pub returns-then-layer-lt12 : goal.returns-then-layer-lt12
returns-then-layer-lt12 c =
    c.has_run-then-layer-lt12.ensures
    ∙ run_second c.self.inside.lowest c.self.inside.second c.args.offset (c.args.layer - 6) c.args.layer (omega (arith, c.if-layer-lt6.false)) c.self.invariant.second_is
    ∙ ap (λ xs. some_among (bit_of xs) (c.args.offset * 2 ^ c.args.layer) (2 ^ c.args.layer)) c.self.view_is

pub returns-then-layer-lt18 : goal.returns-then-layer-lt18
returns-then-layer-lt18 c =
    c.has_run-then-layer-lt18.ensures
    ∙ run_third c.self.inside.lowest c.self.inside.second c.self.inside.third c.args.offset (c.args.layer - 12) c.args.layer (omega (arith, c.if-layer-lt12.false))
    c.self.invariant.second_is c.self.invariant.third_is
    ∙ ap (λ xs. some_among (bit_of xs) (c.args.offset * 2 ^ c.args.layer) (2 ^ c.args.layer)) c.self.view_is

pub returns : goal.returns
returns c =
    c.has_run-2.ensures
    ∙ run_highest c.self.inside.lowest c.self.inside.second c.self.inside.third c.self.inside.highest c.args.offset (c.args.layer - 18) c.args.layer
    (omega (arith, c.if-layer-lt18.false)) c.self.invariant.second_is c.self.invariant.third_is c.self.invariant.highest_is
    ∙ ap (λ xs. some_among (bit_of xs) (c.args.offset * 2 ^ c.args.layer) (2 ^ c.args.layer)) c.self.view_is
