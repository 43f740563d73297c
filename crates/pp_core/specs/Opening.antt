-- A peer that begins.
use Rattle.std.specs.Prelude.{◌≡◌, ℕ, nat_lt, Bool, true, false, ◌||◌, ◌&&◌, Option, Some, None, List, [], length, map, replicate, slice_index_or, slice_set, if◌then◌else◌}
use Rattle.rand_chacha.specs.ChaCha.{of_seed}
use Rattle.pp_terms.specs.format.Descriptor.{Descriptor, chunks_of}
use Rattle.pp_counts.specs.Counts.{no_counts}
use Rattle.pp_outside.specs.declared.link.Address.{Address}
use Rattle.pp_avail.specs.declared.ranker.Rank.{Rank}
use Rattle.pp_avail.specs.declared.ranker.Rank.TheVariants.{Sequential}
use Rattle.pp_avail.specs.Offers.{Tells}
use Rattle.pp_store.specs.Store.{is_committed}
use Rattle.pp_holding.specs.Holding.{HoldingState}
use Rattle.pp_holding.specs.Opening as holdings
use Rattle.pp_fetching.specs.Fetching.{FetchState}
use Rattle.pp_seats.specs.Standing.{SeatsState, AllFresh}
use Rattle.pp_peer.specs.Dialling.{undialled}
use Rattle.pp_peer.specs.declared.supporting.Supports.{Supports}
use Rattle.pp_peer.specs.Standing.{Beginning}
use Rattle.pp_core.specs.declared.opening.Room.{Room}
use Rattle.pp_core.specs.Peers.{PeerState}

-- No channel yet: the numbers of channels are drawn from these bytes.
pub record HasNoChannel (d : Descriptor) (random : List ℕ) (p : SeatsState) : Type 0 where
  pub swarm : p.descriptor ≡ d
  pub table : p.table ≡ record { channels = replicate 64 None; numbers = of_seed random }
  pub fresh : AllFresh p.seats
  pub moment : p.moment ≡ 0

-- Of a content of so many chunks those of a set are had, none is asked for, all may be, and no seat offers any.
pub record Wants (chunks : ℕ) (had : ℕ → Bool) (f : FetchState) : Type 0 where
  pub size : length f.want.had ≡ chunks
  pub had_are : (i : ℕ) → slice_index_or f.want.had i false ≡ had i
  pub asked : f.want.asked ≡ replicate chunks false
  pub limit : f.want.limit ≡ chunks
  pub offers : (f.offers.chunks ≡ chunks) × Tells [] f.offers

-- A peer that fetches wants what it hadn't; a peer that doesn't keeps nothing of wants.
abbrev pub WantsIf : (chunks : ℕ) → (had : ℕ → Bool) → Option Rank → Option FetchState → Type 0
WantsIf chunks had None o = o ≡ None
WantsIf chunks had (Some order) o = (f : FetchState) × (o ≡ Some f) × Wants chunks had f

abbrev pub HasFetching : (chunks : ℕ) → Option Rank → Option FetchState → Type 0
HasFetching chunks asks o = WantsIf chunks (λ i. false) asks o

-- One is had where it is in the set.
abbrev pub noted_one : (i : ℕ) → (is_in : Bool) → FetchState → FetchState
noted_one i is_in f = if is_in then record f { want = record f.want { had = slice_set f.want.had i true } } else f

-- Chunks of a set below a number are had now, too.
pub record NotesBelow (below : ℕ) (set : List Bool) (old new : FetchState) : Type 0 where
  pub size : length new.want.had ≡ length old.want.had
  pub had_are : (i : ℕ) → slice_index_or new.want.had i false
      ≡ (slice_index_or old.want.had i false || (nat_lt i below && slice_index_or set i false))
  pub rest : new ≡ record old { want = record old.want { had = new.want.had } }

-- All that are in the set.
abbrev pub NotesIf : (set : List Bool) → Option FetchState → Option FetchState → Type 0
NotesIf set None new = new ≡ None
NotesIf set (Some old) new = (f : FetchState) × (new ≡ Some f) × NotesBelow (length old.want.had) set old f

-- how many chunks a fetching peer keeps of
abbrev pub IsSized : ℕ → Option FetchState → Type 0
IsSized chunks o = (f : FetchState) → o ≡ Some f → length f.want.had ≡ chunks

-- all messages of peer exchange
abbrev pub all_supported : Supports
all_supported = record { requests = true; v6 = true }

abbrev pub order_of : Option Rank → Rank
order_of None = Sequential
order_of (Some order) = order

-- All memory was taken: there is no channel, nothing is had, and none of these addresses was dialled.
pub record IsRoom (d : Descriptor) (random : List ℕ) (asks : Option Rank) (dial : List Address) (room : Room) : Type 0 where
  pub seats : HasNoChannel d random room.seats
  pub fetching : HasFetching (chunks_of d) asks room.fetching
  pub order : room.speaker.order ≡ order_of asks
  pub dials : room.dials ≡ map undialled dial

-- The peer has the parts of the room, the holding, and nothing else yet.
pub record Begins (room : Room) (holding : HoldingState) (p : PeerState) : Type 0 where
  pub seats : p.parts.seats ≡ room.seats
  pub holding_is : p.parts.holding ≡ holding
  pub fetching : NotesIf holding.store.committed room.fetching p.parts.fetching
  pub slots : p.parts.slots ≡ record { slots = replicate 64 None; waiting = replicate 64 None; turned = 0 }
  pub pex : p.parts.pex ≡ record { table = []; queue = [] }
  pub questions : p.parts.questions ≡ replicate 64 false
  pub to_prove : p.parts.to_prove ≡ replicate 64 false
  pub supports : p.parts.supports ≡ replicate 64 all_supported
  pub counts : p.parts.counts ≡ no_counts
  pub speaker : p.speaker ≡ room.speaker
  pub dials : p.dials ≡ room.dials

-- A peer has begun: it has no channel, it has what is committed, nothing is asked for, nobody has a slot or waits, no address was heard
-- or suggested, nothing was counted, and none of the addresses was dialled.
pub record HasBegun (d : Descriptor) (random : List ℕ) (asks : Option Rank) (dial : List Address) (p : PeerState) : Type 0 where
  pub seats : HasNoChannel d random p.parts.seats
  pub holding : holdings.HasBegun d p.parts.holding
  pub fetching : WantsIf (chunks_of d) (is_committed p.parts.holding.store) asks p.parts.fetching
  pub slots : p.parts.slots ≡ record { slots = replicate 64 None; waiting = replicate 64 None; turned = 0 }
  pub pex : p.parts.pex ≡ record { table = []; queue = [] }
  pub questions : p.parts.questions ≡ replicate 64 false
  pub to_prove : p.parts.to_prove ≡ replicate 64 false
  pub supports : p.parts.supports ≡ replicate 64 all_supported
  pub counts : p.parts.counts ≡ no_counts
  pub order : p.speaker.order ≡ order_of asks
  pub dials : p.dials ≡ map undialled dial

-- what is settled then, where the disk's moment is this
abbrev pub beginning : PeerState → ℕ → Beginning
beginning p moment = record { d = p.parts.holding.store.descriptor; is_found = is_committed p.parts.holding.store; since = moment }
