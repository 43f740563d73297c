-- Chunks that are committed and pending, as the plain data that they mean.
use Rattle.std.specs.Prelude.{◌≡◌, ℕ, nat_le, ◌==◌, ◌+◌, ◌<◌, Bool, true, false, ◌&&◌, ◌||◌, List, [], length, map, slice_index_or}
use Rattle.std.specs.List.{list_any, list_all, range_with_len}
use Rattle.pp_promises.specs.Batches as terms
use Rattle.pp_audit.specs.declared.batches.Pending.{Pending}
use Rattle.pp_audit.specs.declared.batches.Batch.{Batch}

abbrev pub pending_of : Pending → terms.Pending
pending_of p = record { chunk = p.chunk; put_at = p.put_at }

abbrev pub batch_of : Batch → terms.Batch
batch_of b = record { committed = b.committed.now; pending = map pending_of b.pending.now }

-- the chunk is one of those that were stored, or is pending
abbrev pub is_put : List ℕ → List terms.Pending → ℕ → Bool
is_put stored pending i = list_any (λ k. k == i) stored || list_any (λ p. p.chunk == i) pending

-- the chunk is committed, stored or pending
abbrev pub is_in : List Bool → List ℕ → List terms.Pending → ℕ → Bool
is_in committed stored pending i = slice_index_or committed i false || is_put stored pending i

-- every chunk is
abbrev pub are_all_in : List Bool → List ℕ → List terms.Pending → Bool
are_all_in committed stored pending = list_all (is_in committed stored pending) (range_with_len 0 (length committed))

-- one was put long ago
abbrev pub is_late : ℕ → List terms.Pending → Bool
is_late now pending = list_any (λ p. nat_le (p.put_at + terms.longest_wait) now) pending

-- all is to be committed, by the chunks that were stored and those that are pending
abbrev pub is_due : Bool → ℕ → List ℕ → terms.Batch → Bool
is_due is_quiet now stored b = is_quiet || are_all_in b.committed stored b.pending || is_late now b.pending

-- the chunk was stored now, by its moment
abbrev pub is_put_now : List ℕ → ℕ → terms.Pending → Bool
is_put_now stored now p = list_any (λ k. k == p.chunk) stored && (p.put_at == now)

-- the chunk was stored now, or was pending since the same moment
abbrev pub is_since : List ℕ → ℕ → List terms.Pending → terms.Pending → Bool
is_since stored now old p = is_put_now stored now p || terms.is_among p old

-- each pending chunk was stored now, or was pending since the same moment
abbrev pub are_since : List ℕ → ℕ → (old new : List terms.Pending) → Bool
are_since stored now old new = list_all (is_since stored now old) new

-- ---- the two halves of what is promised of an event

-- few are pending, none is committed too early, and none too late
pub record IsTimely (is_quiet : Bool) (stored : List ℕ) (now : ℕ) (old new : terms.Batch) : Type 0 where
  pub few : length new.pending < terms.most_pending
  pub waits : terms.is_due is_quiet now (terms.with_all_pending stored now old) ≡ false
      → terms.is_full (terms.with_all_pending stored now old) ≡ false → new.committed ≡ old.committed
  pub settled : terms.is_due is_quiet now new ≡ true → new.pending ≡ []

-- what was committed still is
abbrev pub StaysCommitted : (old new : List Bool) → Type 0
StaysCommitted old new =
    (i : ℕ) → i < length old → slice_index_or old i false ≡ true → slice_index_or new i false ≡ true

-- the chunks that were in, and those that were stored, are in, and no others
abbrev pub Keeps : List ℕ → (old new : terms.Batch) → Type 0
Keeps stored old new = (i : ℕ) → i < length old.committed → terms.is_in new i ≡ is_in old.committed stored old.pending i

-- nothing is lost, nothing else comes in, and each pending chunk keeps its moment
pub record LosesNone (stored : List ℕ) (now : ℕ) (old new : terms.Batch) : Type 0 where
  pub as_many : length new.committed ≡ length old.committed
  pub stays : StaysCommitted old.committed new.committed
  pub keeps : Keeps stored old new
  pub since : are_since stored now old.pending new.pending ≡ true
