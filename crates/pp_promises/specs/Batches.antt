-- When stored chunks are committed, up to 64 of them by one sync (this profile's): they are pending until then, and neither
-- acknowledged nor announced (RFC 7574, sections 3.2 and 3.3).
use Rattle.std.specs.Prelude.{◌≡◌, ℕ, ◌+◌, ◌<◌, ◌==◌, nat_le, Bool, true, false, ◌&&◌, ◌||◌, if◌then◌else◌, List, [], ◌∷◌, length, map, slice_index_or}
use Rattle.std.specs.List.{list_any, list_all, range_with_len}

-- a chunk that was stored, and when
pub record Pending : Type 0 where
  pub chunk : ℕ
  pub put_at : ℕ

-- of each chunk, whether it is committed; and those that are pending, the newest first
pub record Batch : Type 0 where
  pub committed : List Bool
  pub pending : List Pending

abbrev pub most_pending : ℕ
most_pending = 64

-- a tenth of a second, in microseconds: how long a chunk is pending at most while something comes
abbrev pub longest_wait : ℕ
longest_wait = 100000

abbrev pub is_pending : Batch → ℕ → Bool
is_pending b i = list_any (λ p. p.chunk == i) b.pending

-- the chunk is committed or pending
abbrev pub is_in : Batch → ℕ → Bool
is_in b i = slice_index_or b.committed i false || is_pending b i

-- ---- the four cases: nothing came; no chunk is left that is neither committed nor pending; the oldest pending one was put
-- long ago; so many are pending

abbrev pub is_all_in : Batch → Bool
is_all_in b = list_all (is_in b) (range_with_len 0 (length b.committed))

abbrev pub is_late : (now : ℕ) → Batch → Bool
is_late now b = list_any (λ p. nat_le (p.put_at + longest_wait) now) b.pending

abbrev pub is_full : Batch → Bool
is_full b = nat_le most_pending (length b.pending)

-- ---- what a peer does

abbrev pub committed_with : Batch → List Bool
committed_with b = map (is_in b) (range_with_len 0 (length b.committed))

-- all that is pending is committed by one sync
abbrev pub after_commit : Batch → Batch
after_commit b = record { committed = committed_with b; pending = [] }

-- a chunk was stored; it is committed with the others where they are so many
abbrev pub after_put : (chunk now : ℕ) → Batch → Batch
after_put chunk now b =
    let more : Batch = record { committed = b.committed; pending = record { chunk = chunk; put_at = now } ∷ b.pending } in
    if is_full more then after_commit more else more

-- the puts of a datagram, in their order
abbrev pub after_puts : List ℕ → ℕ → Batch → Batch
after_puts [] now b = b
after_puts (i ∷ more) now b = after_puts more now (after_put i now b)

-- an event was read
abbrev pub is_due : (is_quiet : Bool) (now : ℕ) → Batch → Bool
is_due is_quiet now b = is_quiet || is_all_in b || is_late now b

abbrev pub after_read : (is_quiet : Bool) (now : ℕ) → Batch → Batch
after_read is_quiet now b = if is_due is_quiet now b then after_commit b else b

abbrev pub after_event : (is_quiet : Bool) → List ℕ → (now : ℕ) → Batch → Batch
after_event is_quiet stored now b = after_read is_quiet now (after_puts stored now b)

-- ---- what is promised of one event, by which these chunks were stored

-- the chunks of the event, were none committed yet
abbrev pub with_puts : List ℕ → ℕ → List Pending → List Pending
with_puts [] now pending = pending
with_puts (i ∷ more) now pending = with_puts more now (record { chunk = i; put_at = now } ∷ pending)

abbrev pub with_all_pending : List ℕ → ℕ → Batch → Batch
with_all_pending stored now b = record { committed = b.committed; pending = with_puts stored now b.pending }

-- the same chunk, stored at the same moment
abbrev pub is_same : (p q : Pending) → Bool
is_same p q = (p.chunk == q.chunk) && (p.put_at == q.put_at)

abbrev pub is_among : Pending → List Pending → Bool
is_among p pending = list_any (is_same p) pending

pub record CommitsInTime (is_quiet : Bool) (stored : List ℕ) (now : ℕ) (old new : Batch) : Type 0 where
  -- fewer than so many are ever pending
  pub few : length new.pending < most_pending
  -- in none of the four cases is anything committed
  pub waits : is_due is_quiet now (with_all_pending stored now old) ≡ false → is_full (with_all_pending stored now old) ≡ false
      → new.committed ≡ old.committed
  -- in one of the first three nothing is left pending
  pub settled : is_due is_quiet now new ≡ true → new.pending ≡ []
  -- there are as many chunks
  pub as_many : length new.committed ≡ length old.committed
  -- what was committed stays committed
  pub stays : (i : ℕ) → i < length old.committed → slice_index_or old.committed i false ≡ true
      → slice_index_or new.committed i false ≡ true
  -- nothing is lost, and nothing comes in but what was stored
  pub keeps : (i : ℕ) → i < length old.committed → is_in new i ≡ is_in (with_all_pending stored now old) i
  -- each chunk that is pending was pending since the same moment, or was stored now
  pub since : list_all (λ p. is_among p (with_puts stored now old.pending)) new.pending ≡ true
