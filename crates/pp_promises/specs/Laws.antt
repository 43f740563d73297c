-- Laws of these definitions: what one record more does, and how what is read stands to the whole story.
use Rattle.std.specs.Prelude.{◌≡◌, ℕ, ◌<◌, nat_le, Bool, true, false, not, ◌&&◌, ◌||◌, if◌then◌else◌, List, [], ◌∷◌, length}
use Rattle.std.specs.List.{list_any}
use Rattle.pp_terms.specs.tree.Book.{LookUp}
use Rattle.pp_terms.specs.tree.Claims.{Contradicts}
use Rattle.pp_terms.specs.format.Traffic.{Record}
use Rattle.pp_terms.specs.tree.Tree.{Node}
use Rattle.pp_terms.specs.format.Descriptor.{Descriptor}
use Rattle.pp_terms.specs.format.Messages.{Message, Data}
use Rattle.pp_traffic.specs.Past.{now}
use Rattle.pp_traffic.specs.Life.{Life}
use Rattle.pp_traffic.specs.Laws.{Extends}
use Rattle.pp_traffic.specs.Story.{said_in, told, story}
use Rattle.pp_traffic.specs.Asking.{choked, asked}
use Rattle.pp_traffic.specs.Hashes.{is_told}
use Rattle.pp_traffic.specs.Meter.{meter}
use Rattle.pp_traffic.specs.Plain.{IsPlainNow}
use Rattle.pp_promises.specs.ReadStory.{with_unread, is_read, read_story}
use Rattle.pp_promises.specs.Served.{is_owed}
use Rattle.pp_promises.specs.Announced.{AcknowledgesAll}
use Rattle.pp_promises.specs.Batches.{Batch, after_event, CommitsInTime, is_full}

-- What is read is the whole story where the other peer opened, and on a plain channel.
abbrev pub AnswersAreRead : Type 0
AnswersAreRead = (d : Descriptor) (life : Life) (past : List Record) → life.is_dialled ≡ false → read_story d life past ≡ story d life past

abbrev pub PlainsAreRead : Type 0
PlainsAreRead = (d : Descriptor) (life : Life) (past : List Record) → IsPlainNow d life past → read_story d life past ≡ story d life past

-- Chokes are the same, since they are sent; what is told and asked for of what was read is by the whole story.
abbrev pub ChokesAreRead : Type 0
ChokesAreRead = (d : Descriptor) (life : Life) (past : List Record) → choked (read_story d life past) ≡ choked (story d life past)

abbrev pub ReadTells : Type 0
ReadTells = (d : Descriptor) (life : Life) (chunks : ℕ) (past : List Record) (n : Node)
    → is_told chunks (read_story d life past) n ≡ true → is_told chunks (story d life past) n ≡ true

abbrev pub ReadAsks : Type 0
ReadAsks = (d : Descriptor) (life : Life) (i : ℕ) (past : List Record)
    → asked i (read_story d life past) ≡ true → asked i (story d life past) ≡ true

-- What is owed is asked for.
abbrev pub OwedIsAsked : Type 0
OwedIsAsked = (d : Descriptor) (life : Life) (i : ℕ) (past : List Record) → is_owed d life i past ≡ true
    → asked i (story d life past) ≡ true

-- A peer that commits so commits in time, where fewer than 64 chunks were pending.
abbrev pub BatchesAreInTime : Type 0
BatchesAreInTime = (is_quiet : Bool) (stored : List ℕ) (now : ℕ) (b : Batch) → is_full b ≡ false
    → CommitsInTime is_quiet stored now b (after_event is_quiet stored now b)

abbrev pub is_any_data : Message → Bool
is_any_data (Data chunk sent_at bytes) = true
is_any_data _ = false

-- no chunk was sent on the channel between its opening and the other peer's reply
abbrev pub is_bare : Descriptor → Life → List Record → Bool
is_bare d life [] = true
is_bare d life (r ∷ before) =
    if nat_le life.opening (length before)
    then (is_read d life (r ∷ before) || not (list_any is_any_data (said_in d life r))) && is_bare d life before
    else true

-- Then what was left unread moves no window.
abbrev pub MetersAgree : Type 0
MetersAgree = (d : Descriptor) (life : Life) (chunk : ℕ) (past : List Record) → is_bare d life past ≡ true
    → meter chunk (read_story d life past) ≡ meter chunk (story d life past)

-- ---- for the induction over turns

-- What one record more does to what was read of a life that has begun.
pub record ReadsGrow : Type 0 where
  pub read : (d : Descriptor) (life : Life) (r : Record) (past : List Record) → life.opening < length past
      → is_read d life (r ∷ past) ≡ true
      → read_story d life (r ∷ past) ≡ told d life false (now (r ∷ past)) r (read_story d life past)
  pub unread : (d : Descriptor) (life : Life) (r : Record) (past : List Record) → life.opening < length past
      → is_read d life (r ∷ past) ≡ false
      → read_story d life (r ∷ past) ≡ with_unread d life false (now (r ∷ past)) r (read_story d life past)
  -- what was read once is read from then on
  pub stays : (d : Descriptor) (life : Life) (r : Record) (past : List Record) → is_read d life past ≡ true
      → is_read d life (r ∷ past) ≡ true

-- A larger book contradicts no less.
abbrev pub ContradictionsStay : Type 0
ContradictionsStay = (book larger meets : LookUp) → Extends book larger → Contradicts book meets → Contradicts larger meets

-- What is acknowledged by one book is so by a larger one.
abbrev pub AcknowledgedStays : Type 0
AcknowledgedStays = (d : Descriptor) (book larger : LookUp) (past : List Record) → Extends book larger
    → AcknowledgesAll d book past → AcknowledgesAll d larger past
