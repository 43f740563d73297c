-- What other peers offer, and what of it a fetch asks for.
use Rattle.std.specs.Prelude.{◌≡◌, ◌⊎◌, ℕ, ◌<◌, nat_le, Bool, true, false, ◌||◌, is_some, Option, Some, None, List, [], ◌∷◌}
use Rattle.std.specs.List.{list_any}
use Rattle.pp_terms.specs.format.Descriptor.{Descriptor, chunks_of}
use Rattle.pp_terms.specs.format.Messages.{Message, Request}
use Rattle.pp_terms.specs.format.Traffic.{Record, Received, Quiet, Sent}
use Rattle.pp_traffic.specs.Awaiting.{Awaits}
use Rattle.pp_traffic.specs.Life.{Life}
use Rattle.pp_traffic.specs.Past.{read}
use Rattle.pp_traffic.specs.Plain.{IsPlainNow}
use Rattle.pp_traffic.specs.Story.{Line, story}
use Rattle.pp_promises.specs.Asked.{MayBeAsked, asks_for}
use Rattle.pp_promises.specs.OwnSide.{is_offered}
use Rattle.pp_promises.specs.ReadStory.{read_story}
use Rattle.pp_outside.specs.Outside.{address_of}
use Rattle.pp_channels.specs.Seats.{channel_at}
use Rattle.pp_channels.specs.declared.channel.Channel.{Channel}
use Rattle.pp_lives.specs.Reading.{is_waiting}
use Rattle.pp_fetching.specs.Fetching.{FetchState}
use Rattle.pp_peer.specs.declared.parts.Parts.{Parts}
use Rattle.pp_peer.specs.Greeting.{offers_of}
use Rattle.pp_core.specs.Having.{HasHeld}

-- The channel is that of the life, and its other peer's number is known.
pub record IsOfLife (c : Channel) (life : Life) : Type 0 where
  pub known : is_waiting c ≡ false
  pub address : life.address ≡ address_of c.address
  pub local : life.local ≡ c.local
  pub remote : c.remote ≡ Some life.remote

-- The channel is plain; or the other peer opened it, and it is plain but for this peer's reply.
abbrev pub IsOpen : Descriptor → Life → List Record → Type 0
IsOpen d life past = IsPlainNow d life past ⊎ ((life.is_dialled ≡ false) × Awaits d life past)

-- A fetching peer has each chunk that a story offers among those that a seat offers.
abbrev pub OffersAll : ℕ → Parts → (seat : ℕ) → List Line → Type 0
OffersAll chunks p seat story =
    is_some p.fetching ≡ true → (i : ℕ) → i < chunks → is_offered i story ≡ true → offers_of p.fetching seat i ≡ true

-- On each open channel whose other peer's number is known what that peer offers stands among the offers of its seat.
abbrev pub OffersHeard : Descriptor → Parts → List Record → Type 0
OffersHeard d p past = (life : Life) → IsOpen d life past
    → (seat : ℕ) (c : Channel) → channel_at p.seats.table seat ≡ Some c → IsOfLife c life
    → OffersAll (chunks_of d) p seat (read_story d life past)

-- below which number a peer asks for chunks; none where it doesn't fetch
abbrev pub limit_of : Option FetchState → Option ℕ
limit_of None = None
limit_of (Some f) = Some f.want.limit

-- The peer asks for all chunks that it lacks.
abbrev pub FetchesAll : Descriptor → Parts → Type 0
FetchesAll d p = limit_of p.fetching ≡ Some (chunks_of d)

-- The peer has what it holds, and keeps what others offer.
pub record KeepsOffers (d : Descriptor) (p : Parts) (past : List Record) : Type 0 where
  pub held : HasHeld p
  pub heard : OffersHeard d p past

-- Each chunk below a number that a channel offers which may be asked was asked for, or is among some others.
abbrev pub AsksOrHolds : Descriptor → ℕ → (others : ℕ → Bool) → List Record → Type 0
AsksOrHolds d below others past = (life : Life) → MayBeAsked d life past → (i : ℕ) → i < below → is_offered i (story d life past) ≡ true
    → (list_any (asks_for d i) past ≡ true) ⊎ (others i ≡ true)

-- a REQUEST among the messages asks for a chunk from number n on
abbrev pub reaches : ℕ → List Message → Bool
reaches n [] = false
reaches n (Request span ∷ ms) = nat_le n span.last || reaches n ms
reaches n (_ ∷ ms) = reaches n ms

-- the record was sent, and one of it does
abbrev pub requests_from : Descriptor → ℕ → Record → Bool
requests_from d n (Received at sender bytes) = false
requests_from d n (Quiet at) = false
requests_from d n (Sent moment receiver bytes) = reaches n (read d (Sent moment receiver bytes)).messages.read

-- Each REQUEST that was sent lies below chunk n.
abbrev pub RequestsBelow : Descriptor → ℕ → List Record → Type 0
RequestsBelow d n past = list_any (requests_from d n) past ≡ false
