-- What a seat makes of a message that came on its channel, and what of that is to be counted.
use Rattle.std.specs.Prelude.{◌≡◌, ◌⊎◌, ℕ, true, false, ◌||◌, Option, Some, None, List, [], ◌∷◌, take}
use Rattle.pp_terms.specs.format.Messages.{Message, Data, Ack, Have, Integrity, Request, Cancel, Choke, Unchoke}
use Rattle.pp_terms.specs.tree.Range.{Span, within, has, leaves_of}
use Rattle.pp_terms.specs.tree.Tree.{Node}
use Rattle.pp_ranges.specs.Edits.{inserted, removed}
use Rattle.pp_traffic.specs.Hashes.{tells}
use Rattle.pp_traffic.specs.Meter as meters
use Rattle.pp_requests.specs.Lists.{are_too_many, cancelled}
use Rattle.pp_plan.specs.Told.{ToldNodes, knows}
use Rattle.pp_counts.specs.declared.note.Note.{Note}
use Rattle.pp_counts.specs.declared.note.Note.TheVariants.{Outside, NotANode, Full, Choked}
use Rattle.pp_seat.specs.Lines.{inside}
use Rattle.pp_seat.specs.Seats.{SeatState}

-- The message is no DATA.
abbrev pub IsNoData : Message → Type 0
IsNoData (Data chunk sent_at bytes) = ⊥
IsNoData _ = Unit {0}

-- Only what of a span lies in the content counts; where nothing of it does, that is counted, and the seat stays as it is.
pub record HearsPart (span : Span) (hears : Span → Type 0) (noted : Option Note) (old new : SeatState) : Type 0 where
  pub outside : inside old.told.chunks span ≡ None → (noted ≡ Some Outside) × (new ≡ old)
  pub part : (range : Span) → inside old.told.chunks span ≡ Some range → hears range

-- Beside the nodes that were known, just those are which the range tells.
abbrev pub LearnsOf : Span → ToldNodes → ToldNodes → Type 0
LearnsOf range old new = (n : Node) → knows new n ≡ (knows old n || tells old.chunks range n)

-- A HAVE tells of nodes.
pub record HearsHave (range : Span) (noted : Option Note) (old new : SeatState) : Type 0 where
  pub quiet : noted ≡ None
  pub rest : new ≡ record old { told = new.told }
  pub room : new.told.chunks ≡ old.told.chunks
  pub learns : LearnsOf range old.told new.told

-- An ACK tells of nodes too, and is an acknowledgement to the window, with its delay.
pub record HearsAck (range : Span) (delay now : ℕ) (noted : Option Note) (old new : SeatState) : Type 0 where
  pub quiet : noted ≡ None
  pub rest : new ≡ record old { told = new.told; window = meters.acked range.first range.last delay now old.window }
  pub room : new.told.chunks ≡ old.told.chunks
  pub learns : LearnsOf range old.told new.told

-- The chunks of a REQUEST come onto the list, beside those that are there.
pub record IsListed (range : Span) (noted : Option Note) (old new : SeatState) : Type 0 where
  pub quiet : noted ≡ None
  pub few : are_too_many (inserted (Some range) old.list) ≡ false
  pub rest : new ≡ record old { list = new.list }
  pub listed : (i : ℕ) → has new.list i ≡ (within range i || has old.list i)

-- The list has no room for them.
pub record IsFull (range : Span) (noted : Option Note) (old new : SeatState) : Type 0 where
  pub counted : noted ≡ Some Full
  pub many : are_too_many (inserted (Some range) old.list) ≡ true
  pub same : new ≡ old

-- A REQUEST is listed, or finds no room; without a slot it is counted as one of a choked peer, and nothing else.
pub record HearsRequest (range : Span) (noted : Option Note) (old new : SeatState) : Type 0 where
  pub slot : old.slot ≡ true → IsListed range noted old new ⊎ IsFull range noted old new
  pub choked : old.slot ≡ false → (noted ≡ Some Choked) × (new ≡ old)

-- The chunks of a CANCEL leave the list; where that has no room for what is left of its ranges, more goes, and this is counted.
pub record HearsCancel (range : Span) (noted : Option Note) (old new : SeatState) : Type 0 where
  pub exact : new ≡ record old { list = cancelled range old.list }
  pub quiet : are_too_many (removed range old.list) ≡ false → noted ≡ None
  pub wide : are_too_many (removed range old.list) ≡ true → noted ≡ Some Full

-- The digest of an INTEGRITY is the newest claim, of the node whose leaves the chunks are.
pub record IsClaimed (range : Span) (digest : List ℕ) (noted : Option Note) (old new : SeatState) : Type 0 where
  pub quiet : noted ≡ None
  pub node : Node
  pub leaves : leaves_of node ≡ range
  pub exact : new ≡ record old { claims = take 128 (record { node = node; digest = digest } ∷ old.claims) }

-- The chunks are not the leaves of one node.
pub record HasNoNode (range : Span) (noted : Option Note) (old new : SeatState) : Type 0 where
  pub counted : noted ≡ Some NotANode
  pub none : (n : Node) → leaves_of n ≡ range → ⊥
  pub same : new ≡ old

-- An INTEGRITY is claimed, or finds no node; on a channel that isn't proven it does nothing, and nothing is counted.
pub record HearsIntegrity (range : Span) (digest : List ℕ) (noted : Option Note) (old new : SeatState) : Type 0 where
  pub proven : old.proven ≡ true → IsClaimed range digest noted old new ⊎ HasNoNode range noted old new
  pub unproven : old.proven ≡ false → (noted ≡ None) × (new ≡ old)

-- What a message does to a seat at a moment, and what of that is counted. A DATA is not heard so.
abbrev pub Hears : (now : ℕ) → Message → Option Note → (old new : SeatState) → Type 0
Hears now (Data chunk sent_at bytes) noted old new = ⊥
Hears now (Ack span delay) noted old new = HearsPart span (λ range. HearsAck range delay now noted old new) noted old new
Hears now (Have span) noted old new = HearsPart span (λ range. HearsHave range noted old new) noted old new
Hears now (Integrity span digest) noted old new = HearsPart span (λ range. HearsIntegrity range digest noted old new) noted old new
Hears now (Request span) noted old new = HearsPart span (λ range. HearsRequest range noted old new) noted old new
Hears now (Cancel span) noted old new = HearsPart span (λ range. HearsCancel range noted old new) noted old new
Hears now Choke noted old new = (noted ≡ None) × (new ≡ record old { chokes = true; own = [] })
Hears now Unchoke noted old new = (noted ≡ None) × (new ≡ record old { chokes = false })
Hears now _ noted old new = (noted ≡ None) × (new ≡ old)
