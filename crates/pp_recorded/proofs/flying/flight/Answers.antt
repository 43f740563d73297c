use Rattle.std.proofs.Common.{take, ◌-◌, List, sym, ◌∙◌, ap, subst}
use Rattle.pp_traffic.specs.declared.entries.Entry as flown
use Rattle.pp_recorded.specs.declared.acts.Act.{Act}
use Rattle.pp_recorded.specs.declared.flying.Flown.{Flown}
use Rattle.pp_recorded.specs.Entries.{life_of}
use Rattle.pp_recorded.specs.Acts.{ahead}
use Rattle.pp_recorded.specs.Flying.{flight_of, flight_in}
use Rattle.pp_recorded.proofs.Rows.{IsCounted, IsStep, take_step, counted_step}
use Rattle.pp_recorded.proofs.flying.flight.Goals as goal

pub acts-preserved : goal.acts-preserved
acts-preserved c =
    let later = take (c.acts.left - 1) (ahead c.args.descriptor.now (life_of c.args.life) c.args.entries.now c.in-Some.next) in
    let whole = flight_in c.args.descriptor.now (life_of c.args.life) c.args.entries.now c.args.row in
    let split = ap (λ (acts : List Act). flight_of acts) (take_step c.acts.left _ _ c.in-Some.act c.acts-test.true c.in-Some.ensures.acts)
    ∙ c.flies-sending.ensures (flight_of later) in
    let so_far = subst (λ (es : List flown.Entry). IsCounted c.args.first c.args.last c.acts.flight es whole) split c.acts.invariant.counted in
    let step = counted_step c.args.first c.args.last c.args.row.count c.acts.left c.flies-sending.result c.acts.flight later (flight_of later) whole
    c.acts-test.true c.acts.invariant.room c.acts.invariant.few so_far in
    let next = subst (λ (f : Flown). IsStep c.args.first c.args.last c.args.row.count c.acts.left f (flight_of later) whole) (sym c.counted_so-flight.ensures) step in
    record { room = next.room; few = next.few; counted = next.counted }
