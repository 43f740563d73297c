-- The messages that a note stands for.
use Rattle.std.specs.Prelude.{◌≡◌, ◌<◌, Some, None, List, [], ◌∷◌, ◌++◌, map}
use Rattle.pp_terms.specs.tree.Tree.{Node}
use Rattle.pp_terms.specs.tree.Range.{Span, leaves_of, IsLeastCover}
use Rattle.pp_terms.specs.format.Descriptor.{Descriptor, Method, Bin32, Range32, Bin64, Range64, method_number, chunks_of}
use Rattle.pp_terms.specs.format.Options.{Options}
use Rattle.pp_terms.specs.format.Messages as plain
use Rattle.pp_terms.specs.format.Messages.{Message}
use Rattle.pp_draft.specs.declared.note.Note.{Note}
use Rattle.pp_draft.specs.declared.note.Note.TheVariants.{KeepAlive, Handshake, Close, Choke, Unchoke, Ack, Have, Request, Cancel, PexReq, Pex4, Pex6}

-- the options of this peer's handshakes (RFC 7574, section 7): version 1 and no lower one, the swarm's root, a Merkle tree of
-- SHA-256, its method, the messages that are read, its chunk size
abbrev pub own_options : Descriptor → Options
own_options d = record {
  version = Some 1;
  minimum = Some 1;
  swarm = Some d.root;
  integrity = Some 1;
  hash = Some 2;
  addressing = Some (method_number d.method);
  messages = Some (0xfe ∷ 0xf8 ∷ []);
  chunk = Some d.chunk;
}

abbrev pub no_options : Options
no_options = record {
  version = None;
  minimum = None;
  swarm = None;
  integrity = None;
  hash = None;
  addressing = None;
  messages = None;
  chunk = None;
}

-- The spans are the leaves under the fewest nodes that cover a range, from left to right.
pub record AreBins (range : Span) (spans : List Span) : Type 0 where
  pub nodes : List Node
  pub cover : IsLeastCover range nodes
  pub leaves : spans ≡ map leaves_of nodes

-- By these spans a method names the chunks of a range (RFC 7574, section 4).
abbrev pub AreNames : Method → Span → List Span → Type 0
AreNames Bin32 range spans = AreBins range spans
AreNames Range32 range spans = spans ≡ range ∷ []
AreNames Bin64 range spans = AreBins range spans
AreNames Range64 range spans = spans ≡ range ∷ []

-- There is one message for each span by which the method names the range, in their order.
pub record NamesRange (method : Method) (range : Span) (make : Span → Message) (ms : List Message) : Type 0 where
  pub spans : List Span
  pub names : AreNames method range spans
  pub messages : ms ≡ map make spans

-- The note's messages.
abbrev pub Says : Descriptor → Note → List Message → Type 0
Says d KeepAlive ms = ms ≡ []
Says d (Handshake source) ms = ms ≡ plain.Handshake source (own_options d) ∷ []
Says d Close ms = ms ≡ plain.Handshake 0 no_options ∷ []
Says d Choke ms = ms ≡ plain.Choke ∷ []
Says d Unchoke ms = ms ≡ plain.Unchoke ∷ []
Says d (Ack range delay) ms = NamesRange d.method range (λ span. plain.Ack span delay) ms
Says d (Have range) ms = NamesRange d.method range (λ span. plain.Have span) ms
Says d (Request range) ms = NamesRange d.method range (λ span. plain.Request span) ms
Says d (Cancel range) ms = NamesRange d.method range (λ span. plain.Cancel span) ms
Says d PexReq ms = ms ≡ plain.PexReq ∷ []
Says d (Pex4 address port) ms = ms ≡ plain.Pex4 address port ∷ []
Says d (Pex6 address port) ms = ms ≡ plain.Pex6 address port ∷ []

-- The messages of the notes, one note after the other.
abbrev pub SayAll : Descriptor → List Note → List Message → Type 0
SayAll d [] ms = ms ≡ []
SayAll d (note ∷ notes) ms = (own : List Message) × (more : List Message) × Says d note own × SayAll d notes more × (ms ≡ own ++ more)

-- Its chunks are chunks of the content.
abbrev pub IsInside : Descriptor → Note → Type 0
IsInside d KeepAlive = Unit {0}
IsInside d (Handshake source) = Unit {0}
IsInside d Close = Unit {0}
IsInside d Choke = Unit {0}
IsInside d Unchoke = Unit {0}
IsInside d (Ack range delay) = range.last < chunks_of d
IsInside d (Have range) = range.last < chunks_of d
IsInside d (Request range) = range.last < chunks_of d
IsInside d (Cancel range) = range.last < chunks_of d
IsInside d PexReq = Unit {0}
IsInside d (Pex4 address port) = Unit {0}
IsInside d (Pex6 address port) = Unit {0}
