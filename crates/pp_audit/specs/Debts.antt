-- What can be left to do for the peer of a channel, chunk by chunk.
use Rattle.std.specs.Prelude.{ℕ, suc, max, nat_le, Bool, false, not, ◌&&◌, ◌||◌, List, length, slice_index_or}
use Rattle.pp_terms.specs.format.Traffic.{Record}
use Rattle.pp_terms.specs.format.Descriptor.{Descriptor}
use Rattle.pp_traffic.specs.Life.{Life}
use Rattle.pp_traffic.specs.Story.{story}
use Rattle.pp_traffic.specs.Asking.{asked}
use Rattle.pp_promises.specs.LastTurn.{earlier}
use Rattle.pp_promises.specs.Served.{is_announced, is_owed}
use Rattle.pp_promises.specs.Announced.{is_told_of}
use Rattle.pp_audit.specs.Alike.{top}
use Rattle.pp_audit.specs.Counted.{counted}
use Rattle.pp_audit.specs.declared.debts.Debt.{Debt}
use Rattle.pp_audit.specs.declared.debts.Debt.TheVariants as debts

-- The chunk is owed, or asked for and one of those that stood; or it was announced in an earlier turn or stood, and wasn't told of.
abbrev pub is_left : Debt → List Bool → Descriptor → List Record → Life → ℕ → Bool
is_left debts.Owed stood d past life i = is_owed d life i past || (asked i (story d life past) && slice_index_or stood i false)
is_left debts.Untold stood d past life i =
    (is_announced d i (earlier past) || slice_index_or stood i false) && not (is_told_of i (story d life past))

-- the last number that can be left so
abbrev pub last_left : List Bool → Descriptor → List Record → ℕ
last_left stood d past = max (top d past) (length stood)

-- at most so many are
abbrev pub leaves_few : ℕ → Debt → List Bool → Descriptor → List Record → Life → Bool
leaves_few limit debt stood d past life = nat_le (counted (is_left debt stood d past life) (suc (last_left stood d past))) limit
