use Rattle.std.proofs.lemmas.Bool.{both_ways}
use Rattle.pp_audit.specs.Batches.{batch_of}
use Rattle.pp_audit.proofs.BatchTests.{in_time, timely_of, none_lost_of}
use Rattle.pp_audit.proofs.batches.commits_in_time.Goals as goal

pub returns-then-is_timely : goal.returns-then-is_timely
returns-then-is_timely c =
    let old = batch_of c.args.old.now in
    let new = batch_of c.args.new.now in (
      λ e. in_time c.args.is_quiet c.args.stored.now c.args.now old new (c.is_timely.ensures.0 c.if-is_timely.true) (c.loses_none.ensures.0 e),
      λ s. c.loses_none.ensures.1 (none_lost_of c.args.is_quiet c.args.stored.now c.args.now old new s),
    )

pub returns-else-is_timely : goal.returns-else-is_timely
returns-else-is_timely c =
    let old = batch_of c.args.old.now in
    let new = batch_of c.args.new.now in (
      λ e. absurd cc,
      λ s. absurd (both_ways _ c.if-is_timely.false (c.is_timely.ensures.1 (timely_of c.args.is_quiet c.args.stored.now c.args.now old new s))),
    )
