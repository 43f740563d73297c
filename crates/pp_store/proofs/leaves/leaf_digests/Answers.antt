use Rattle.std.proofs.Common.{refl, ◌∙◌, ap, arith, length-set}
use Rattle.std.proofs.Math.Nat.{lt_of_mul-lt-mul_right}
use Rattle.sha2.specs.Sha256.{sha256}
use Rattle.pp_tree.proofs.Layers.{chunk_cut}
use Rattle.pp_store.proofs.Quads.{leaf_more}
use Rattle.pp_store.proofs.leaves.leaf_digests.Goals as goal

pub loop-start-init : goal.loop-start-init
loop-start-init c = record { start_is = refl; room = c.digest_fours-i.ensures.room; digests = c.digest_fours-i.ensures.digests }

pub loop-start-preserved : goal.loop-start-preserved
loop-start-preserved c =
    let before = c.loop-start.invariant in
    let low = lt_of_mul-lt-mul_right c.args.chunk {m = c.loop-start.i} {n = 256} (omega (arith, before.start_is, c.loop-start-test.true, c.requires.few)) in record {
      start_is = omega (arith, before.start_is);
      room = length-set c.loop-start.digests c.loop-start.i c.leaf.result ∙ before.room;
      digests = leaf_more c.args.pieces.now c.args.chunk c.loop-start.i c.loop-start.digests c.leaf.result (omega (arith, before.room, low))
          (c.leaf.ensures ∙ ap sha256 (chunk_cut c.args.pieces.now c.loop-start.start c.min-end.result c.args.chunk c.loop-start.i before.start_is c.min-end.ensures)) before.digests;
    }
