-- What a peer that fetches asks for (RFC 7574, sections 3.1.1 and 3.7): it dials the peers that it was given, and asks each
-- plain channel for what that peer has, up to 32 chunks at once.
use Rattle.std.specs.Prelude.{◌≡◌, ◌⊎◌, ℕ, ◌<◌, ◌≤◌, Bool, true, false, ◌&&◌, List, length, count_by}
use Rattle.std.specs.List.{list_any, range_with_len}
use Rattle.pp_terms.specs.format.Traffic.{Address, same_address, Record, Received, Quiet, Sent}
use Rattle.pp_terms.specs.format.Descriptor.{Descriptor, chunks_of}
use Rattle.pp_terms.specs.disk.Image.{holds}
use Rattle.pp_traffic.specs.Past.{now, read, comes_from, goes_to, is_number}
use Rattle.pp_traffic.specs.Life.{Life}
use Rattle.pp_traffic.specs.Story.{Line, story}
use Rattle.pp_traffic.specs.Asking.{is_heard}
use Rattle.pp_traffic.specs.Plain.{is_handshake, IsPlainNow}
use Rattle.pp_traffic.specs.Turns.{in_turns, AtEndsBut}
use Rattle.pp_promises.specs.LastTurn.{first_turn}
use Rattle.pp_promises.specs.OwnSide.{is_choked_by_peer, names_in, is_offered, is_named, has_old_request, most_outstanding}

-- ---- dialling

-- a handshake for channel 0 was sent to the address
abbrev pub dials : Descriptor → Address → Record → Bool
dials d a r = goes_to a r && is_number 0 (read d r).channel && list_any is_handshake (read d r).messages.read

-- One of the addresses wasn't dialled, and isn't that from which the first turn's datagram came.
pub record IsMissed (d : Descriptor) (addresses : List Address) (past : List Record) (a : Address) : Type 0 where
  pub given : list_any (same_address a) addresses ≡ true
  pub undialled : list_any (dials d a) past ≡ false
  pub silent : list_any (comes_from a) past ≡ false

-- In the first turn all were dialled, but so many.
abbrev pub DialsBut : ℕ → Descriptor → List Address → List Record → Type 0
DialsBut r d addresses past = (few : List Address) × (length few ≤ r)
    × ((a : Address) → IsMissed d addresses (first_turn (in_turns d past)) a → list_any (same_address a) few ≡ true)

-- ---- asking

-- how many chunks of the content the REQUESTs that were sent on the channel name
abbrev pub named_count : ℕ → List Line → ℕ
named_count chunks story = count_by (λ i. is_named i story) (range_with_len 0 chunks)

-- a REQUEST of the chunk was sent, on whatever channel
abbrev pub asks_for : Descriptor → ℕ → Record → Bool
asks_for d i (Received at sender bytes) = false
asks_for d i (Quiet at) = false
asks_for d i (Sent moment receiver bytes) = list_any (names_in i) (read d (Sent moment receiver bytes)).messages.read

-- On a plain channel: something came, the other peer doesn't choke, no request is so old that it expired, and there is room.
pub record MayBeAsked (d : Descriptor) (life : Life) (past : List Record) : Type 0 where
  pub plain : IsPlainNow d life past
  pub heard : is_heard d life past ≡ true
  pub unchoked : is_choked_by_peer (story d life past) ≡ false
  pub fresh : has_old_request (now past) (story d life past) ≡ false
  pub room : named_count (chunks_of d) (story d life past) < most_outstanding

-- Each chunk below a number that it offers was asked for, or is held at the end.
abbrev pub AsksOffered : Descriptor → ℕ → List ℕ → List Record → Type 0
AsksOffered d below reads past = (life : Life) → MayBeAsked d life past → (i : ℕ) → i < below → is_offered i (story d life past) ≡ true
    → (list_any (asks_for d i) past ≡ true) ⊎ (holds d reads i ≡ true)

-- The same of all chunks of the content, at the end of every turn but so many.
abbrev pub AsksBut : ℕ → Descriptor → List ℕ → List Record → Type 0
AsksBut r d reads past = AtEndsBut r d (AsksOffered d (chunks_of d) reads) past
