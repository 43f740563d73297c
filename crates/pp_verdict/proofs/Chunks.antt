-- What a record serves, by its first chunk.
use Rattle.std.proofs.Common.{◌≡◌, ℕ, ◌+◌, true, Option, Some, None, List, [], ◌∷◌, ◌++◌, take, refl, sym, ◌∙◌, ap, subst}
use Rattle.std.specs.Prelude.{is_some}
use Rattle.std.specs.List.{list_any}
use Rattle.pp_terms.specs.format.Traffic.{Address, Record, Received, Quiet, Sent, same_address}
use Rattle.pp_terms.specs.format.Descriptor.{Descriptor}
use Rattle.pp_terms.specs.format.Messages.{Message, Data}
use Rattle.pp_terms.specs.tree.Book.{LookUp}
use Rattle.pp_terms.proofs.Addressed.{same_is, same_self}
use Rattle.pp_traffic.specs.Past.{read, is_number}
use Rattle.pp_traffic.specs.Life.{Life}
use Rattle.pp_traffic.specs.Serving.{Window, ServesChunk, ServesFrom, Serves}
use Rattle.pp_promises.specs.Laws.{is_any_data}
use Rattle.pp_wire.specs.Views.{message_of}
use Rattle.pp_wire.specs.declared.message.Message as code
use Rattle.pp_wire.specs.declared.message.Message.TheVariants as variants
use Rattle.pp_recorded.proofs.Sendings.{IsOn, on_more}
use Rattle.std.proofs.lemmas.Bool.{eqb-true, eq-eqb}
use Rattle.pp_verdict.specs.Chunks.{SentChunk, chunk_in, chunk_of, has_chunk}
use Rattle.pp_verdict.specs.Courses.{IsSentOn}
use Rattle.pp_verdict.specs.Faults.{Suits}

-- the chunk serves
abbrev pub IsServing : Descriptor → LookUp → Window → List Record → SentChunk → Type 0
IsServing d book window past c = ServesChunk d book window past c.receiver c.channel c.front c.number c.bytes c.rest

from_chunk : (d : Descriptor) (book : LookUp) (window : Window) (past : List Record) (a : Address) (channel : Option ℕ) (front ms : List Message) (c : SentChunk)
    → chunk_in a channel front ms ≡ Some c → IsServing d book window past c → ServesFrom d book window past a channel front ms
from_chunk d book window past a channel front [] c e s = absurd cc
from_chunk d book window past a channel front (Data i sent_at bytes ∷ rest) c e s =
    let same : c ≡ record { receiver = a; channel = channel; front = front; number = i; bytes = bytes; rest = rest } = cc in
    subst (λ (x : SentChunk). IsServing d book window past x) same s
from_chunk d book window past a channel front (m ∷ rest) c e s = from_chunk d book window past a channel (front ++ m ∷ []) rest c e s

to_chunk : (d : Descriptor) (book : LookUp) (window : Window) (past : List Record) (a : Address) (channel : Option ℕ) (front ms : List Message) (c : SentChunk)
    → chunk_in a channel front ms ≡ Some c → ServesFrom d book window past a channel front ms → IsServing d book window past c
to_chunk d book window past a channel front [] c e s = absurd cc
to_chunk d book window past a channel front (Data i sent_at bytes ∷ rest) c e s =
    let same : record { receiver = a; channel = channel; front = front; number = i; bytes = bytes; rest = rest } ≡ c = cc in
    subst (λ (x : SentChunk). IsServing d book window past x) same s
to_chunk d book window past a channel front (m ∷ rest) c e s = to_chunk d book window past a channel (front ++ m ∷ []) rest c e s

no_chunk : (d : Descriptor) (book : LookUp) (window : Window) (past : List Record) (a : Address) (channel : Option ℕ) (front ms : List Message)
    → chunk_in a channel front ms ≡ None → ServesFrom d book window past a channel front ms
no_chunk d book window past a channel front [] e = tt
no_chunk d book window past a channel front (Data i sent_at bytes ∷ rest) e = absurd cc
no_chunk d book window past a channel front (m ∷ rest) e = no_chunk d book window past a channel (front ++ m ∷ []) rest e

any_chunk : (a : Address) (channel : Option ℕ) (front ms : List Message) → list_any is_any_data ms ≡ is_some (chunk_in a channel front ms)
any_chunk a channel front [] = refl
any_chunk a channel front (Data i sent_at bytes ∷ rest) = refl
any_chunk a channel front (m ∷ rest) = any_chunk a channel (front ++ m ∷ []) rest

-- ---- a record

pub chunk_serves : (d : Descriptor) (book : LookUp) (window : Window) (past : List Record) (r : Record) (c : SentChunk)
    → chunk_of d r ≡ Some c → IsServing d book window past c → Serves d book window past r
chunk_serves d book window past (Received at sender bytes) c e s = tt
chunk_serves d book window past (Quiet at) c e s = tt
chunk_serves d book window past (Sent moment receiver bytes) c e s =
    from_chunk d book window past receiver (read d (Sent moment receiver bytes)).channel [] (read d (Sent moment receiver bytes)).messages.read c e s

pub serves_chunk : (d : Descriptor) (book : LookUp) (window : Window) (past : List Record) (r : Record) (c : SentChunk)
    → chunk_of d r ≡ Some c → Serves d book window past r → IsServing d book window past c
serves_chunk d book window past (Received at sender bytes) c e s = absurd cc
serves_chunk d book window past (Quiet at) c e s = absurd cc
serves_chunk d book window past (Sent moment receiver bytes) c e s =
    to_chunk d book window past receiver (read d (Sent moment receiver bytes)).channel [] (read d (Sent moment receiver bytes)).messages.read c e s

pub bare_serves : (d : Descriptor) (book : LookUp) (window : Window) (past : List Record) (r : Record) → chunk_of d r ≡ None → Serves d book window past r
bare_serves d book window past (Received at sender bytes) e = tt
bare_serves d book window past (Quiet at) e = tt
bare_serves d book window past (Sent moment receiver bytes) e =
    no_chunk d book window past receiver (read d (Sent moment receiver bytes)).channel [] (read d (Sent moment receiver bytes)).messages.read e

pub has_is_some : (d : Descriptor) (r : Record) → has_chunk d r ≡ is_some (chunk_of d r)
has_is_some d (Received at sender bytes) = refl
has_is_some d (Quiet at) = refl
has_is_some d (Sent moment receiver bytes) =
    any_chunk receiver (read d (Sent moment receiver bytes)).channel [] (read d (Sent moment receiver bytes)).messages.read

-- ---- message by message

-- a message that is no DATA is passed
pub chunk_behind : (a : Address) (channel : Option ℕ) (rest : List Message) (m : code.Message)
    → ((chunk sent_at : ℕ) (bytes : _) → m ≡ variants.Data chunk sent_at bytes → ⊥) → (front : List Message)
    → chunk_in a channel front (message_of m ∷ rest) ≡ chunk_in a channel (front ++ message_of m ∷ []) rest
chunk_behind a channel rest (variants.Handshake source options) none front = refl
chunk_behind a channel rest (variants.Data chunk sent_at bytes) none front = absurd (none chunk sent_at bytes refl)
chunk_behind a channel rest (variants.Ack span delay) none front = refl
chunk_behind a channel rest (variants.Have span) none front = refl
chunk_behind a channel rest (variants.Integrity span digest) none front = refl
chunk_behind a channel rest (variants.Pex4 address port) none front = refl
chunk_behind a channel rest variants.PexReq none front = refl
chunk_behind a channel rest (variants.Request span) none front = refl
chunk_behind a channel rest (variants.Cancel span) none front = refl
chunk_behind a channel rest variants.Choke none front = refl
chunk_behind a channel rest variants.Unchoke none front = refl
chunk_behind a channel rest (variants.Pex6 address port) none front = refl

-- the first chunk of all is that of those behind some others
abbrev pub IsBehind : Address → Option ℕ → List Message → List Message → List Message → Type 0
IsBehind a channel whole front ms = chunk_in a channel front ms ≡ chunk_in a channel [] whole

pub behind_more : (a : Address) (channel : Option ℕ) (whole ms rest : List Message) (m : code.Message) (count : ℕ) → IsOn (IsBehind a channel whole) whole count ms
    → ms ≡ message_of m ∷ rest → ((chunk sent_at : ℕ) (bytes : _) → m ≡ variants.Data chunk sent_at bytes → ⊥)
    → IsOn (IsBehind a channel whole) whole (count + 1) rest
behind_more a channel whole ms rest m count on e none =
    on_more (IsBehind a channel whole) whole ms rest (message_of m) count on e
    (λ front s. sym (chunk_behind a channel rest m none front) ∙ s)
    (λ front s. chunk_behind a channel rest m none front ∙ s)

pub behind_is : (a : Address) (channel : Option ℕ) (whole ms : List Message) (count : ℕ) → IsOn (IsBehind a channel whole) whole count ms
    → chunk_in a channel (take count whole) ms ≡ chunk_in a channel [] whole
behind_is a channel whole ms count on = on.forward refl

-- ---- the receiver

receiver_in : (a : Address) (channel : Option ℕ) (front ms : List Message) (c : SentChunk) → chunk_in a channel front ms ≡ Some c → (c.receiver ≡ a) × (c.channel ≡ channel)
receiver_in a channel front [] c e = absurd cc
receiver_in a channel front (Data i sent_at bytes ∷ rest) c e =
    let same : record { receiver = a; channel = channel; front = front; number = i; bytes = bytes; rest = rest } ≡ c = cc in
    (ap (λ (x : SentChunk). x.receiver) (sym same), ap (λ (x : SentChunk). x.channel) (sym same))
receiver_in a channel front (m ∷ rest) c e = receiver_in a channel (front ++ m ∷ []) rest c e

number_is : (number : ℕ) (channel : Option ℕ) → is_number number channel ≡ true → channel ≡ Some number
number_is number None e = absurd cc
number_is number (Some n) e = ap (λ (k : ℕ). Some k) (eqb-true n number e)

is_its_number : (number : ℕ) (channel : Option ℕ) → channel ≡ Some number → is_number number channel ≡ true
is_its_number number None e = absurd cc
is_its_number number (Some n) e = let same : n ≡ number = cc in eq-eqb n number same

-- a chunk suits the lives to whose address and number it was sent
pub suits_sent : (d : Descriptor) (life : Life) (past : List Record) (r : Record) (c : SentChunk) → chunk_of d r ≡ Some c → IsSentOn d life past r → Suits d past c life
suits_sent d life past (Received at sender bytes) c e on = absurd cc
suits_sent d life past (Quiet at) c e on = absurd cc
suits_sent d life past (Sent moment receiver bytes) c e on =
    let parts = receiver_in receiver (read d (Sent moment receiver bytes)).channel [] (read d (Sent moment receiver bytes)).messages.read c e in
    record {
      at = sym (parts.0 ∙ same_is receiver life.address on.receiver);
      by = parts.1 ∙ number_is life.remote (read d (Sent moment receiver bytes)).channel on.number;
      alive = on.alive;
    }

pub sent_suits : (d : Descriptor) (life : Life) (past : List Record) (r : Record) (c : SentChunk) → chunk_of d r ≡ Some c → Suits d past c life → IsSentOn d life past r
sent_suits d life past (Received at sender bytes) c e suits = absurd cc
sent_suits d life past (Quiet at) c e suits = absurd cc
sent_suits d life past (Sent moment receiver bytes) c e suits =
    let parts = receiver_in receiver (read d (Sent moment receiver bytes)).channel [] (read d (Sent moment receiver bytes)).messages.read c e in
    let same : receiver ≡ life.address = sym parts.0 ∙ sym suits.at in
    record {
      alive = suits.alive;
      receiver = ap (λ (a : Address). same_address receiver a) (sym same) ∙ same_self receiver;
      number = is_its_number life.remote (read d (Sent moment receiver bytes)).channel (sym parts.1 ∙ suits.by);
    }
