-- What comes and fits is held.
use Rattle.std.specs.Prelude.{◌≡◌, ◌⊎◌, ℕ, ◌<◌, Bool, true, IfSome, List, [], ◌∷◌, slice_get}
use Rattle.pp_terms.specs.format.Descriptor.{Descriptor, chunks_of}
use Rattle.pp_terms.specs.format.Messages.{Message, Data}
use Rattle.pp_terms.specs.format.Traffic.{Record}
use Rattle.pp_terms.specs.tree.Book.{LookUp}
use Rattle.pp_terms.specs.tree.Claims.{latest, Contradicts}
use Rattle.pp_terms.specs.tree.Proves.{Proves}
use Rattle.pp_traffic.specs.Life.{Life}
use Rattle.pp_promises.specs.Stored.{BringsChunk, claimed_before, met_before}
use Rattle.pp_tree.specs.Book.{entry}
use Rattle.pp_paths.specs.declared.judging.Verdict.TheVariants as verdicts
use Rattle.pp_paths.specs.declared.settling.Settled.TheVariants as settlements
use Rattle.pp_paths.specs.Judge.{judged}
use Rattle.pp_paths.specs.Settle.{settled}
use Rattle.pp_store.specs.Answer.{peaked}
use Rattle.pp_store.specs.Store.{StoreState, is_committed, is_held}
use Rattle.pp_world.specs.Outcome.{is_announced_in}
use Rattle.pp_outside.specs.declared.link.Event.{Event}
use Rattle.pp_holding.specs.Holding.{HoldingState}
use Rattle.pp_peer.specs.declared.parts.Parts.{Parts}
use Rattle.pp_peer.specs.Messages.{is_proven_in, claims_in, InTurn}
use Rattle.pp_peer.specs.Events.{Absorbs}
use Rattle.pp_core.specs.Paths.{path_of}

-- By the book and the claims the bytes are judged to be the chunk, which may be held already.
pub record IsJudgedFit (s : HoldingState) (claims : LookUp) (i : ℕ) (bytes : List ℕ) : Type 0 where
  pub content : i < chunks_of s.store.descriptor
  pub peaks : settled (chunks_of s.store.descriptor) (entry s.book) claims ≡ settlements.Known
  pub verdict : judged s.store.descriptor (peaked s.store.descriptor (entry s.book) claims) claims i bytes ≡ verdicts.Fits

-- The channel is proven, and by the book and by what is claimed on the channel, as both are in this state, the bytes are the chunk.
pub record Fits (seat chunk : ℕ) (bytes : List ℕ) (p : Parts) : Type 0 where
  pub proven : is_proven_in (slice_get p.seats.seats seat) ≡ true
  pub judged_fit : IsJudgedFit p.holding (latest (claims_in (slice_get p.seats.seats seat))) chunk bytes

-- The chunk of a DATA that fits in this state is held in the store.
abbrev pub HoldsIfFit : StoreState → (seat : ℕ) → Message → Parts → Type 0
HoldsIfFit store seat (Data chunk sent_at bytes) p = Fits seat chunk bytes p → is_held store chunk ≡ true
HoldsIfFit store seat _ p = Unit {0}

-- Each chunk that fits when it comes is held in the store.
abbrev pub HoldsFitting : StoreState → (seat : ℕ) (ms : List Message) (old new : Parts) → InTurn seat ms old new → Type 0
HoldsFitting store seat [] old new in_turn = Unit {0}
HoldsFitting store seat (m ∷ ms) old new in_turn =
    HoldsIfFit store seat m old × HoldsFitting store seat ms in_turn.0 new in_turn.2

-- Each chunk that comes by an event, and fits when it comes, is held once the event is over: it is committed, or pending.
pub record StoresWhatFits (event : Event) (bytes : List ℕ) (old new : Parts) : Type 0 where
  pub absorbs : Absorbs event bytes old new
  pub holds : IfSome (path_of event bytes old absorbs.mid absorbs.takes)
      (λ path. HoldsFitting new.holding.store path.seat path.messages path.first path.last path.in_turn)

-- A chunk that comes on a plain channel and is proved by what its peer claims is held in the store, or the book contradicts the climb at a
-- node that can be named.
abbrev pub StoresIn : Descriptor → LookUp → StoreState → List Record → Record → Type 0
StoresIn d book store before r = (life : Life) (i : ℕ) (bytes : List ℕ) → (b : BringsChunk d life before r i bytes)
    → Proves d (claimed_before d life r before b.front) i bytes
    → (is_held store i ≡ true) ⊎ Contradicts book (met_before d life r before b.front i bytes)

-- What a peer had at first, and what it announced in these records, is committed in the store.
pub record CommitsTold (d : Descriptor) (had : ℕ → Bool) (past : List Record) (store : StoreState) : Type 0 where
  pub committed : (i : ℕ) → (had i ≡ true) ⊎ (is_announced_in d i past ≡ true) → is_committed store i ≡ true
