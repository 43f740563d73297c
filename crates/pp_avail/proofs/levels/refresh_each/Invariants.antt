-- The levels are right of each number that no place which is left has or had.
use Rattle.std.proofs.Common.{◌≡◌, ◌≢◌, ℕ, ◌+◌, ◌<◌, [], length, slice_index_or}
use Rattle.std.specs.Int.{bit_at}
use Rattle.pp_avail.specs.declared.planes.Planes.{Planes}
use Rattle.pp_avail.specs.Planes.{number_at}
use Rattle.pp_avail.specs.Levels.{is_in, IsLevelAt}
use Rattle.pp_avail.specs.Steps.{HaveStepped}
use Rattle.pp_avail.proofs.levels.refresh_each.Given as goal

abbrev pub invariant-loop-rest : goal.invariant-loop-rest
invariant-loop-rest l =
    (length l.levels ≡ 64)
    × ((k : ℕ) → length (slice_index_or l.levels k []) ≡ length (slice_index_or l.fn.levels k []))
    × ((k v : ℕ) → v ≢ l.w → is_in l.levels k v ≡ is_in l.fn.levels k v)
    × ((k : ℕ) → bit_at l.rest k ≡ 1 → bit_at l.changed k ≡ 1)
    × ((old : Planes) → HaveStepped l.step l.changed old l.planes → ((fewer : ℕ) → fewer < 64 → IsLevelAt l.fn.levels l.w old fewer)
    → (fewer : ℕ) → fewer < 64
    → ((k : ℕ) → bit_at l.rest k ≡ 1 → (number_at old k ≢ fewer + 1) × (number_at l.planes k ≢ fewer + 1)) → IsLevelAt l.levels l.w l.planes fewer)

abbrev pub decreases-loop-rest : goal.decreases-loop-rest
decreases-loop-rest l = l.rest
