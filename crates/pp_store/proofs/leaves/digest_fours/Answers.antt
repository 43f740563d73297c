use Rattle.std.proofs.Common.{ℕ, ◌*◌, List, take, drop, ◌∙◌, ap, arith}
use Rattle.std.proofs.lemmas.List.{take_rest}
use Rattle.sha2.specs.Sha256.{sha256}
use Rattle.pp_store.proofs.Quads.{four_more}
use Rattle.pp_store.proofs.leaves.digest_fours.Goals as goal

pub loop-start-preserved : goal.loop-start-preserved
loop-start-preserved c =
    let before = c.loop-start.invariant in record {
      start_is = omega (arith, before.start_is);
      inside = omega (arith, before.inside, c.loop-start-test.true);
      room = c.put_four.ensures.room;
      digests = four_more c.args.pieces.now c.args.chunk c.loop-start.i c.loop-start.start c.digest_four.result c.loop-start.digests c.put_four.new.digests before.start_is
          (record {
            each = λ j lt. c.digest_four.ensures j lt
                ∙ ap (λ (xs : List ℕ). sha256 (take c.args.chunk (drop (j * c.args.chunk) xs))) (take_rest c.args.pieces.now c.loop-start.start);
            first = c.put_four.ensures.first;
            second = c.put_four.ensures.second;
            third = c.put_four.ensures.third;
            fourth = c.put_four.ensures.fourth;
            before = c.put_four.ensures.before;
          }) before.digests;
    }
