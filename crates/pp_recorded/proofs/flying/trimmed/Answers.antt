use Rattle.std.proofs.Common.{take, ◌-◌, List, sym, ◌∙◌, ap, arith}
use Rattle.pp_recorded.specs.declared.acts.Act.{Act}
use Rattle.pp_recorded.specs.Entries.{life_of}
use Rattle.pp_recorded.specs.Acts.{ahead}
use Rattle.pp_recorded.specs.Flying.{flight_of}
use Rattle.pp_recorded.proofs.Rows.{take_step, drop_step, none_more}
use Rattle.pp_recorded.proofs.flying.trimmed.Goals as goal

pub acts-preserved : goal.acts-preserved
acts-preserved c =
    let later = take (c.acts.row.count - 1) (ahead c.args.descriptor.now (life_of c.args.life) c.args.entries.now c.in-Some.next) in
    let split = ap (λ (acts : List Act). flight_of acts) (take_step c.acts.row.count _ _ c.in-Some.act c.acts-test.true c.in-Some.ensures.acts)
    ∙ c.flies.ensures (flight_of later)
    ∙ none_more _ c.flies.result (flight_of later) (sym c.is_some.ensures ∙ c.if-is_some.false) in
    record {
      same = sym split ∙ c.acts.invariant.same;
      behind = sym (drop_step c.acts.row.count _ _ c.in-Some.act c.acts-test.true c.in-Some.ensures.acts) ∙ c.acts.invariant.behind;
      few = omega (arith, c.acts.invariant.few);
    }
