-- A disk: what its reads give, and what a crash at a moment may leave.
use Rattle.std.specs.Prelude.{◌≡◌, ◌⊎◌, ℕ, ◌+◌, ◌-◌, ◌<◌, ◌≤◌, max, Bool, ◌&&◌, Option, Some, None, List, [], ◌∷◌, ◌++◌, length, take, drop, replicate, slice_index, Result, OnOk, OnErr, IfOk, IsTrue}
use Rattle.pp_terms.specs.Count.{HasCause}
use Rattle.pp_terms.specs.disk.Store.{IsWithin}

-- bytes that were to be written at a place
pub record Write : Type 0 where
  pub place : ℕ
  pub bytes : List ℕ

-- The time between two moments at which all was on the disk: the bytes then, and the writes since, the last first.
pub record Epoch : Type 0 where
  pub durable : List ℕ
  pub pending : List Write

-- What reads give, the epochs that have ended, the one that hasn't; of the last attachment its moment, the epoch and
-- what reads gave; and the names of the stores that were attached, the newest first, where the disk tells them.
pub record History : Type 0 where
  pub reads : List ℕ
  pub past : List Epoch
  pub epoch : Epoch
  pub start : ℕ
  pub first : Epoch
  pub found : List ℕ
  pub names : Option (List (List ℕ))

-- index k lies in a pending range
abbrev pub IsPending : List Write → ℕ → Type 0
IsPending [] k = ⊥
IsPending (w ∷ ws) k = IsWithin w.place (length w.bytes) k ⊎ IsPending ws k

-- where the pending ranges end
abbrev pub end_of : List Write → ℕ
end_of [] = 0
end_of (w ∷ ws) = max (w.place + length w.bytes) (end_of ws)

-- An image that a crash may leave: any bytes where was written, and past the length at the epoch's beginning.
-- The others stay, and it is no longer than what was there and what was written.
pub record IsImage (epoch : Epoch) (image : List ℕ) : Type 0 where
  pub no_shorter : length epoch.durable ≤ length image
  pub no_longer : length image ≤ max (length epoch.durable) (end_of epoch.pending)
  pub stays : (k : ℕ) → k < length epoch.durable → (IsPending epoch.pending k → ⊥)
      → slice_index image k ≡ slice_index epoch.durable k

-- an image of one of these epochs
abbrev pub WasImage : List Epoch → List ℕ → Type 0
WasImage [] image = ⊥
WasImage (epoch ∷ epochs) image = IsImage epoch image ⊎ WasImage epochs image

-- A moment is the number of epochs that have ended.
abbrev pub moment_of : History → ℕ
moment_of h = length h.past

-- a crash now may leave this image
abbrev pub MayLeave : History → List ℕ → Type 0
MayLeave h image = IsImage h.epoch image

-- a crash at some moment from that one to now might have left it
abbrev pub MayLeaveSince : History → ℕ → List ℕ → Type 0
MayLeaveSince h moment image = IsImage h.epoch image ⊎ WasImage (drop moment h.past) image

-- each image that a crash since a moment may leave has P
abbrev pub Throughout : History → ℕ → (List ℕ → Type 0) → Type 0
Throughout h moment P = (image : List ℕ) → MayLeaveSince h moment image → P image

-- old with these bytes at this place; a gap before it is filled with zeros
abbrev pub written : List ℕ → ℕ → List ℕ → List ℕ
written old place bytes = take place old ++ replicate (place - length old) 0 ++ bytes ++ drop (place + length bytes) old

-- the epoch with one pending write more
abbrev pub pends : Epoch → ℕ → List ℕ → Epoch
pends epoch place bytes =
    record { durable = epoch.durable; pending = record { place = place; bytes = bytes } ∷ epoch.pending }

abbrev pub after_write : History → ℕ → List ℕ → History
after_write h place bytes = record h { reads = written h.reads place bytes; epoch = pends h.epoch place bytes }

-- all that is on the disk is these bytes: after a sync (with what reads give) or a crash (with its image)
abbrev pub settled : History → List ℕ → History
settled h bytes = record h {
  reads = bytes;
  past = h.past ++ h.epoch ∷ [];
  epoch = record { durable = bytes; pending = [] };
}

-- a disk that holds these bytes and has seen no call, and that tells no names
abbrev pub fresh : List ℕ → History
fresh bytes = record {
  reads = bytes;
  past = [];
  epoch = record { durable = bytes; pending = [] };
  start = 0;
  first = record { durable = bytes; pending = [] };
  found = bytes;
  names = None;
}

-- reads differ from the old ones in this range alone; a gap before it is zeros
pub record IsTorn (place size : ℕ) (old new : List ℕ) : Type 0 where
  pub no_shorter : length old ≤ length new
  pub no_longer : length new ≤ max (length old) (place + size)
  pub outside : (k : ℕ) → (IsWithin place size k → ⊥) → slice_index new k ≡ slice_index old k

-- an image is another with any bytes in this range, and perhaps more past its end
pub record IsOver (place size : ℕ) (under image : List ℕ) : Type 0 where
  pub no_shorter : length under ≤ length image
  pub outside : (k : ℕ) → k < length under → (IsWithin place size k → ⊥) → slice_index image k ≡ slice_index under k

-- A refused write leaves all as it was, or its range pending with any bytes there.
abbrev pub IsRefusedWrite : History → ℕ → List ℕ → History → Type 0
IsRefusedWrite old place bytes new =
    (new ≡ old)
    ⊎ ((torn : List ℕ) × IsTorn place (length bytes) old.reads torn
    × (new ≡ record old { reads = torn; epoch = pends old.epoch place bytes }))

-- The disk gained the name of a store, the newest first; one that tells no names goes on telling none.
abbrev pub GainsName : Option (List (List ℕ)) → List ℕ → Option (List (List ℕ)) → Type 0
GainsName None name new = new ≡ None
GainsName (Some old) name new = new ≡ Some (name ∷ old)

-- After an attachment, refused or not, the disk goes on in the same epoch or begins another, with any image.
pub record IsAttached (name : List ℕ) (old new : History) : Type 0 where
  pub goes_on : ((new.past ≡ old.past) × (new.epoch ≡ old.epoch) × (new.reads ≡ old.reads))
      ⊎ (new.past ≡ old.past ++ old.epoch ∷ [])
  pub started : new.start ≡ length new.past
  pub began : new.first ≡ new.epoch
  pub showed : new.found ≡ new.reads
  pub named : GainsName old.names name new.names

-- What is meant by a disk: whether it tells its contents, whether reads give what was written, its history, and how
-- often a call of it was refused, all calls and those but `read_at`.
pub record DiskState : Type 0 where
  pub tells : Bool
  pub honest : Bool
  pub history : History
  pub faults : ℕ
  pub hard : ℕ

-- The disk is honest and tells.
abbrev pub IsKnown : DiskState → Type 0
IsKnown s = IsTrue (s.tells && s.honest)

-- `into` has what reads give from a place on, zeros past the end
abbrev pub IsRead : List ℕ → ℕ → List ℕ → Type 0
IsRead bytes place into = (k : ℕ) → k < length into → slice_index into k ≡ slice_index bytes (place + k)

-- What every call keeps: whether it tells and is honest; the moment and the counts don't fall; an error has its cause.
pub record IsCall {T E : Type 0} (old : DiskState) (result : Result T E) (new : DiskState) : Type 0 where
  pub tells : new.tells ≡ old.tells
  pub honest : new.honest ≡ old.honest
  pub later : moment_of old.history ≤ moment_of new.history
  pub cause : HasCause old.faults new.faults result

-- What each call of a disk does.
pub record DoesAttach {E : Type 0} (old : DiskState) (name : List ℕ) (result : Result (Unit {0}) E) (new : DiskState) : Type 0 where
  pub call : IsCall old result new
  pub attached : IsKnown old → IsAttached name old.history new.history
  pub hard_cause : HasCause old.hard new.hard result

pub record DoesLen {E : Type 0} (old : DiskState) (result : Result ℕ E) (new : DiskState) : Type 0 where
  pub call : IsCall old result new
  pub same : new.history ≡ old.history
  pub counted : IsKnown old → IfOk result (λ n. n ≡ length old.history.reads)
  pub hard_cause : HasCause old.hard new.hard result

pub record DoesRead {E : Type 0} (old : DiskState) (place : ℕ) (into : List ℕ) (result : Result (Unit {0}) E)
    (new : DiskState) : Type 0 where
  pub call : IsCall old result new
  pub same : new.history ≡ old.history
  pub filled : IsKnown old → OnOk result (IsRead old.history.reads place into)
  pub hard_same : new.hard ≡ old.hard

pub record DoesWrite {E : Type 0} (old : DiskState) (place : ℕ) (bytes : List ℕ) (result : Result (Unit {0}) E)
    (new : DiskState) : Type 0 where
  pub call : IsCall old result new
  pub done : IsKnown old → OnOk result (new.history ≡ after_write old.history place bytes)
  pub refused : IsKnown old → OnErr result (IsRefusedWrite old.history place bytes new.history)
  pub hard_cause : HasCause old.hard new.hard result

pub record DoesSync {E : Type 0} (old : DiskState) (result : Result (Unit {0}) E) (new : DiskState) : Type 0 where
  pub call : IsCall old result new
  pub done : IsKnown old → OnOk result (new.history ≡ settled old.history old.history.reads)
  pub refused : IsKnown old → OnErr result (new.history ≡ old.history)
  pub hard_cause : HasCause old.hard new.hard result
