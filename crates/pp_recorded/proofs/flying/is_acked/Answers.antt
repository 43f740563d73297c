use Rattle.std.proofs.Common.{take, List, sym, ◌∙◌, ap, ◌-◌}
use Rattle.pp_recorded.specs.declared.acts.Act.{Act}
use Rattle.pp_recorded.specs.Entries.{life_of}
use Rattle.pp_recorded.specs.Acts.{ahead}
use Rattle.pp_recorded.specs.Flying.{is_acked}
use Rattle.pp_recorded.proofs.Rows.{take_step, acked_step}
use Rattle.pp_recorded.proofs.flying.is_acked.Goals as goal

pub acts-preserved : goal.acts-preserved
acts-preserved c =
    c.acts.invariant
    ∙ ap (λ (acts : List Act). is_acked c.args.chunk acts) (take_step c.acts.left _ _ c.in-Some.act c.acts-test.true c.in-Some.ensures.acts)
    ∙ acked_step c.args.chunk c.in-Some.act (take (c.acts.left - 1) (ahead c.args.descriptor.now (life_of c.args.life) c.args.entries.now c.in-Some.next))
    (sym c.lands.ensures ∙ c.if-lands.false)
