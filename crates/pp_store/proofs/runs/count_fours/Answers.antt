use Rattle.std.proofs.Common.{ℕ, ◌+◌, ◌-◌, ◌≤◌, List, length, drop, subst, arith}
use Rattle.std.proofs.Math.Nat.{mul-le-mul_left}
use Rattle.std.proofs.lemmas.List.{length-take, length-drop, take_rest}
use Rattle.pp_tree.specs.Book.{entry}
use Rattle.pp_store.specs.Runs.{AreLeaves}
use Rattle.pp_store.proofs.RunSteps.{leaves_on}
use Rattle.pp_store.proofs.runs.count_fours.Goals as goal

pub is_right_four-requires-clause-room : goal.is_right_four-requires-clause-room
is_right_four-requires-clause-room c =
    let four : c.loop-right.right + 4 ≤ c.args.count = omega arith in
    let le = mul-le-mul_left c.args.descriptor.now.chunk four in
    let rest : List ℕ = drop c.loop-right.start c.args.out.now in
    omega (arith, le, c.loop-right.invariant.start_is, c.requires.room, length-take (length c.args.out.now - c.loop-right.start) rest, length-drop c.loop-right.start c.args.out.now)

pub loop-right-preserved : goal.loop-right-preserved
loop-right-preserved c =
    let before = c.loop-right.invariant in record {
      most = omega arith;
      start_is = omega (arith, before.start_is, c.chunk-chunk.ensures.chunk);
      leaves = leaves_on c.args.descriptor.now c.args.first (entry c.args.book.now) c.args.out.now c.loop-right.right c.loop-right.start 4 before.start_is before.leaves
          (subst (λ (xs : List ℕ). AreLeaves c.args.descriptor.now (c.args.first + c.loop-right.right) (entry c.args.book.now) xs 4) (take_rest c.args.out.now c.loop-right.start)
          (c.is_right_four.ensures c.if-is_right_four.true));
    }
