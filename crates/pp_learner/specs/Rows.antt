-- What a learner keeps of one channel's messages, and what it makes of each (RFC 7574, sections 3.2, 3.4, 3.5 and 3.9). Chunks from
-- 2 ^ 20 on are those of no content.
use Rattle.std.specs.Prelude.{ℕ, ◌^◌, ◌<◌, max, nat_lt, Bool, true, false, if◌then◌else◌, Option, Some, None, List, [], ◌∷◌, take}
use Rattle.pp_terms.specs.tree.Tree.{Node}
use Rattle.pp_terms.specs.tree.Range.{Span}
use Rattle.pp_terms.specs.tree.Claims.{Claim, latest}
use Rattle.pp_terms.specs.format.Descriptor.{Descriptor}
use Rattle.pp_terms.specs.format.Messages.{Message, Data, Have, Integrity, Choke, Unchoke}
use Rattle.pp_traffic.specs.Claims.{named}
use Rattle.pp_seat.specs.Lines.{inside}
use Rattle.pp_counts.specs.declared.note.Note.{Note}
use Rattle.pp_counts.specs.declared.note.Note.TheVariants as notes
use Rattle.pp_targets.specs.Target.{SwarmName}
use Rattle.pp_targets.specs.Learn.{learned}
use Rattle.pp_targets.specs.declared.learning.Learned.{Learned}
use Rattle.pp_targets.specs.declared.learning.Learned.TheVariants.{Size, SixtyFour, Missing, Wrong}

-- What the other peer claims, the newest first; the greatest chunk that it offers; whether it chokes; when it was last asked; and
-- whether it is owed a datagram, by which it learns that this peer is at its address.
pub record RowState : Type 0 where
  pub claims : List Claim
  pub offer : Option ℕ
  pub chokes : Bool
  pub asked : Option ℕ
  pub owes : Bool

-- a chunk is below 2 ^ 20, where there is one
abbrev pub IsLow : Option ℕ → Type 0
IsLow None = Unit {0}
IsLow (Some i) = i < 2 ^ 20

-- before anything came, and once the reply came
abbrev pub blank : RowState
blank = record { claims = []; offer = None; chokes = false; asked = None; owes = false }

abbrev pub begun : RowState
begun = record blank { owes = true }

-- ---- what a message does

-- the greater of an earlier offer, if there is one, and a chunk
abbrev pub greater : Option ℕ → ℕ → ℕ
greater None i = i
greater (Some offer) i = max offer i

abbrev pub with_offer : Option Span → RowState → RowState
with_offer None row = row
with_offer (Some range) row = record row { offer = Some (greater row.offer range.last) }

abbrev pub with_claim : Option Node → List ℕ → RowState → RowState
with_claim None digest row = row
with_claim (Some node) digest row = record row { claims = take 128 (record { node = node; digest = digest } ∷ row.claims) }

-- Spans are cut behind chunk 2 ^ 20 - 1. Other messages do nothing.
abbrev pub heard : Message → RowState → RowState
heard (Have span) row = with_offer (inside (2 ^ 20) span) row
heard (Integrity span digest) row = with_claim (named (2 ^ 20) span) digest row
heard Choke row = record row { chokes = true }
heard Unchoke row = record row { chokes = false }
heard _ row = row

-- what several do, the first first
abbrev pub heard_all : List Message → RowState → RowState
heard_all [] row = row
heard_all (m ∷ ms) row = heard_all ms (heard m row)

-- ---- what a DATA tells

-- what the bytes of a chunk tell of the size; nothing where no content has such a chunk
abbrev pub weighed : SwarmName → List Claim → ℕ → List ℕ → Option Learned
weighed name claims i bytes = if nat_lt i (2 ^ 20) then Some (learned name (latest claims) i bytes) else None

abbrev pub weighed_in : SwarmName → Message → RowState → Option Learned
weighed_in name (Data i sent_at bytes) row = weighed name row.claims i bytes
weighed_in name _ row = None

abbrev pub size_of : Option Learned → Option Descriptor
size_of None = None
size_of (Some (Size e)) = Some e
size_of (Some SixtyFour) = None
size_of (Some (Missing node)) = None
size_of (Some (Wrong found kept)) = None

-- the size that a message tells
abbrev pub size_in : SwarmName → Message → RowState → Option Descriptor
size_in name m row = size_of (weighed_in name m row)

-- ---- what is counted

abbrev pub note_of : Option Learned → Option Note
note_of None = Some notes.Outside
note_of (Some (Size e)) = None
note_of (Some SixtyFour) = Some notes.Wrong
note_of (Some (Missing node)) = Some notes.Missing
note_of (Some (Wrong found kept)) = Some notes.Wrong

abbrev pub outside_or : Option Span → Option Note → Option Note
outside_or None rest = Some notes.Outside
outside_or (Some range) rest = rest

abbrev pub not_a_node_or : Option Node → Option Note → Option Note
not_a_node_or None rest = Some notes.NotANode
not_a_node_or (Some node) rest = rest

-- of a message that is no DATA
abbrev pub noted_other : Message → Option Note
noted_other (Have span) = outside_or (inside (2 ^ 20) span) None
noted_other (Integrity span digest) = outside_or (inside (2 ^ 20) span) (not_a_node_or (named (2 ^ 20) span) None)
noted_other _ = None

abbrev pub noted : SwarmName → Message → RowState → Option Note
noted name (Data i sent_at bytes) row = note_of (weighed name row.claims i bytes)
noted name m row = noted_other m
