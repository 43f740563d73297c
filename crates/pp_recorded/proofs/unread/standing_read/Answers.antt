use Rattle.std.proofs.lemmas.List.{get_or_default}
use Rattle.pp_recorded.specs.Entries.{life_of}
use Rattle.pp_recorded.proofs.ReadStandings.{standing_one_more, read_by}
use Rattle.pp_recorded.proofs.unread.standing_read.Goals as goal

pub loop-place-preserved : goal.loop-place-preserved
loop-place-preserved c =
    let is = get_or_default c.args.entries.now c.loop-place.place _ _ c.loop-place-test.true in
    let read = read_by c.args.descriptor.now (life_of c.args.life) c.args.entries.now c.loop-place.place _ c.loop-place.is_read c.is_since-is_read.result
    c.loop-place-test.true is c.loop-place.invariant.read_is c.is_since-is_read.ensures in
    record {
      read_is = read;
      standing_is = standing_one_more c.args.descriptor.now c.args.question (life_of c.args.life) c.args.entries.now c.loop-place.place _ _ c.loop-place.standing
          c.after_read-standing.result c.loop-place-test.true is c.loop-place.invariant.standing_is read c.after_read-standing.ensures;
    }
