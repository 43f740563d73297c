use Rattle.std.proofs.lemmas.List.{get_or_default}
use Rattle.pp_recorded.specs.Entries.{life_of}
use Rattle.pp_recorded.proofs.Standings.{standing_more}
use Rattle.pp_recorded.proofs.standing.standing_since.Goals as goal

pub loop-place-preserved : goal.loop-place-preserved
loop-place-preserved c =
    standing_more c.args.descriptor.now c.args.question (life_of c.args.life) c.args.from c.args.entries.now c.loop-place.place _ c.loop-place.standing
    c.after_entry-standing.result c.loop-place-test.true (get_or_default c.args.entries.now c.loop-place.place _ _ c.loop-place-test.true)
    c.loop-place.invariant c.after_entry-standing.ensures
