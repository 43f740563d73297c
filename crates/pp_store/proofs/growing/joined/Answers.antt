use Rattle.std.proofs.Common.{◌∙◌}
use Rattle.pp_store.proofs.Layering.{joined_placed}
use Rattle.pp_store.proofs.growing.joined.Goals as goal

pub returns : goal.returns
returns c =
    joined_placed _ _ c.args.left.now c.args.right.now (c.copy_from_slice.ensures.after ∙ c.bytes.ensures.same)
    (c.copy_from_slice-2.ensures.after ∙ c.bytes-2.ensures.same) c.bytes.ensures.len
