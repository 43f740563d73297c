use Rattle.std.proofs.lemmas.List.{get_or_default}
use Rattle.pp_recorded.specs.Entries.{life_of}
use Rattle.pp_audit.proofs.Askings.{count_more}
use Rattle.pp_audit.proofs.asks.asks_few.Goals as goal

pub loop-place-preserved : goal.loop-place-preserved
loop-place-preserved c =
    count_more c.args.descriptor.now (life_of c.args.life) c.args.entries.now c.loop-place.place _ c.loop-place.count c.asks_at.result c.saturating_add-count.result
    c.loop-place-test.true (get_or_default c.args.entries.now c.loop-place.place _ _ c.loop-place-test.true) c.loop-place.invariant c.asks_at.ensures c.saturating_add-count.ensures
