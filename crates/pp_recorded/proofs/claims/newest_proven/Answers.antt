use Rattle.std.proofs.lemmas.List.{get_or_default}
use Rattle.pp_tree.specs.Node.{node_of}
use Rattle.pp_recorded.specs.Entries.{life_of}
use Rattle.pp_recorded.proofs.Claimings.{proven_more}
use Rattle.pp_recorded.proofs.ReadStandings.{read_by}
use Rattle.pp_recorded.proofs.claims.newest_proven.Goals as goal

pub loop-place-preserved : goal.loop-place-preserved
loop-place-preserved c =
    let is = get_or_default c.args.entries.now c.loop-place.place _ _ c.loop-place-test.true in
    let read = read_by c.args.descriptor.now (life_of c.args.life) c.args.entries.now c.loop-place.place _ c.loop-place.is_read c.is_since-is_read.result
    c.loop-place-test.true is c.loop-place.invariant.read_is c.is_since-is_read.ensures in
    record {
      read_is = read;
      newest_is = proven_more c.args.descriptor.now (life_of c.args.life) (node_of c.args.at) c.args.entries.now c.loop-place.place _ _ c.is_proven-proven.result c.loop-place.newest
          c.newest_behind-newest.result c.loop-place-test.true is c.loop-place.invariant.newest_is read c.is_proven-proven.ensures c.newest_behind-newest.ensures;
    }
