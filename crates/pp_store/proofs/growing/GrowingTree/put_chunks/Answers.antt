use Rattle.std.proofs.Common.{◌≡◌, ℕ, ◌-◌, ◌*◌, ◌<◌, List, [], length, take, drop, arith, sym, ◌∙◌, ap, subst}
use Rattle.sha2.specs.Sha256.{sha256}
use Rattle.pp_terms.specs.tree.Content.{chunk_of}
use Rattle.pp_tree.proofs.Sizes.{chunk_size_range}
use Rattle.pp_tree.proofs.Layers.{default_in, chunk_cut}
use Rattle.pp_store.specs.Growing.{chunks_in}
use Rattle.pp_store.proofs.Writings.{keeps_more, does_later}
use Rattle.pp_store.proofs.Nexts.{blocks_whole, next_low, few_leaves, next_chunk, next_counted, counted_below, counted_all}
use Rattle.pp_store.proofs.growing.GrowingTree.put_chunks.Goals as goal

pub leaf_digests-requires-clause-small : goal.leaf_digests-requires-clause-small
leaf_digests-requires-clause-small g c = let range = chunk_size_range c.args.chunk c.requires.size in omega arith

pub leaf_digests-requires-clause-blocks : goal.leaf_digests-requires-clause-blocks
leaf_digests-requires-clause-blocks g c = blocks_whole c.args.chunk c.requires.size

pub leaf_digests-requires-clause-few : goal.leaf_digests-requires-clause-few
leaf_digests-requires-clause-few g c = let range = chunk_size_range c.args.chunk c.requires.size in omega arith

pub listed : goal.listed
listed g c =
    let range = chunk_size_range c.args.chunk c.requires.size in
    let low = few_leaves c.args.chunk c.loop-start.i (length c.args.pieces.now) range.0 c.requires.few (omega (arith, c.loop-start.invariant.start_is)) in
    omega arith

pub bounds-digests-i : goal.bounds-digests-i
bounds-digests-i g c =
    let range = chunk_size_range c.args.chunk c.requires.size in
    let low = few_leaves c.args.chunk c.loop-start.i (length c.args.pieces.now) range.0 c.requires.few (omega (arith, c.loop-start.invariant.start_is)) in
    omega arith

pub put_chunk-requires-clause-size : goal.put_chunk-requires-clause-size
put_chunk-requires-clause-size g c = let range = chunk_size_range c.args.chunk c.requires.size in omega arith

pub put_chunk-requires-clause-room : goal.put_chunk-requires-clause-room
put_chunk-requires-clause-room g c =
    let low = next_low c.args.chunk c.args.self.now.count c.loop-start.i (length c.args.pieces.now) c.requires.room (omega (arith, c.loop-start.invariant.start_is)) in
    omega (arith, c.loop-start.invariant.count_is)

pub returns-in-Err-clause-does : goal.returns-in-Err-clause-does
returns-in-Err-clause-does g c = does_later _ _ _ _ c.loop-start.invariant.keeps c.in-Err.ensures.does

pub returns-clause-counted : goal.returns-clause-counted
returns-clause-counted g c =
    let range = chunk_size_range c.args.chunk c.requires.size in
    let all = counted_all (length c.args.pieces.now) c.args.chunk c.loop-start.i (omega arith) (omega (arith, c.loop-start.invariant.start_is)) c.loop-start.invariant.counted in
    omega (arith, c.loop-start.invariant.count_is)

pub loop-start-preserved : goal.loop-start-preserved
loop-start-preserved g c =
    let inv = c.loop-start.invariant in
    let chunk = c.args.chunk in
    let i = c.loop-start.i in
    let pieces = c.args.pieces.now in
    let range = chunk_size_range chunk c.requires.size in
    let some : 0 < chunk = omega arith in
    let lt : i * chunk < length pieces = omega (arith, inv.start_is) in
    let few = few_leaves chunk i (length pieces) range.0 c.requires.few lt in
    let inside : i < length c.leaf_digests.new.digests = omega arith in
    let cut : take (c.min-end.result - c.loop-start.start) (drop c.loop-start.start pieces) ≡ chunk_of pieces chunk i =
    chunk_cut pieces c.loop-start.start c.min-end.result chunk i inv.start_is c.min-end.ensures in
    record {
      start_is = omega (arith, inv.start_is);
      count_is = omega (arith, inv.count_is, c.in-Ok.ensures.counted);
      counted = let less = counted_below (length pieces) chunk i some lt in omega arith;
      keeps = keeps_more _ _ _ inv.keeps c.in-Ok.ensures.does.keeps;
      partial = λ content next part.
          c.in-Ok.ensures.put content
          (cut ∙ next_chunk chunk content c.args.self.now.count i pieces some next lt ∙ ap (λ (n : ℕ). chunk_of content chunk n) (sym inv.count_is))
          (default_in c.leaf_digests.new.digests i c.index-digests-i.result [] inside ∙ c.leaf_digests.ensures i lt ∙ ap (λ (b : List ℕ). sha256 b) (sym cut))
          (subst (λ (n : ℕ). n < chunks_in chunk content) (sym inv.count_is) (next_counted chunk content c.args.self.now.count i pieces some next lt))
          (inv.partial content next part);
    }
