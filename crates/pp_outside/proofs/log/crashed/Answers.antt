use Rattle.std.proofs.Common.{arith}
use Rattle.pp_outside.proofs.Crashes.{placed_at, placed_piece}
use Rattle.pp_outside.proofs.log.crashed.Goals as goal

pub suffer-requires : goal.suffer-requires
suffer-requires c =
    placed_piece _ _ (placed_at _ _ _ c.requires (omega arith) c.step-item.is) c.in-Wrote.is
