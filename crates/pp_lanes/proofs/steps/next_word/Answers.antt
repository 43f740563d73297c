use Rattle.std.proofs.Common.{◌≡◌, ◌+◌, ◌%◌, arith, refl}
use Rattle.pp_lanes.proofs.LaneBlocks.{window_at, window_set}
use Rattle.pp_lanes.proofs.steps.next_word.Goals as goal

pub returns-clause-value : goal.returns-clause-value
returns-clause-value c = λ j h.
    let at : c.args.place % 16 ≡ c.args.place = omega arith in
    let w = c.args.w.now in
    let p = c.args.place in
    rw (
      window_at j w ((p + 14) % 16) (omega arith),
      window_at j w ((p + 9) % 16) (omega arith),
      window_at j w ((p + 1) % 16) (omega arith),
      at,
      window_at j w p (omega arith),
      c.add-word.ensures j h,
      c.add-2.ensures j h,
      c.add.ensures j h,
      c.small_sigma1.ensures j h,
      c.small_sigma0.ensures j h,
    )
    refl

pub returns-clause-window : goal.returns-clause-window
returns-clause-window c = λ j h. window_set j c.args.w.now c.args.place c.add-word.result
