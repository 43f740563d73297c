-- What messages are counted as.
use Rattle.std.proofs.Common.{◌≡◌, ⊎_elim, ℕ, Option, Some, None, List, refl, sym, ◌∙◌, subst}
use Rattle.std.proofs.lemmas.Bool.{cases_Bool}
use Rattle.pp_terms.specs.format.Messages.{Message, Handshake, Data, Ack, Have, Integrity, Pex4, PexReq, Request, Cancel, Choke, Unchoke, Pex6}
use Rattle.pp_terms.specs.tree.Range.{Span}
use Rattle.pp_ranges.specs.Edits.{removed}
use Rattle.pp_requests.specs.Lists.{are_too_many}
use Rattle.pp_counts.specs.Counts.{after_note}
use Rattle.pp_counts.specs.declared.counts.Counts.{Counts}
use Rattle.pp_counts.specs.declared.note.Note.{Note}
use Rattle.pp_counts.specs.declared.note.Note.TheVariants as notes
use Rattle.pp_store.specs.declared.admitting.Put.{Put}
use Rattle.pp_store.specs.declared.admitting.Put.TheVariants.{Stored, Held, Missing, Wrong, Length}
use Rattle.pp_seat.specs.Lines.{inside}
use Rattle.pp_seat.specs.Seats.{SeatState}
use Rattle.pp_desk.specs.Hearing.{HearsPart, HearsRequest, HearsIntegrity, Hears}
use Rattle.pp_peer.specs.Taking.{note_of, after_some, KeepsCounts}

pub same_counts : (k : Counts) → KeepsCounts k k
same_counts k = record {
  turns = refl;
  datagrams = refl;
  sent = refl;
  short = refl;
  unheld = refl;
  damaged = refl;
  read_faults = refl;
  send_faults = refl;
  receive_faults = refl;
}

pub counts_twice : (a b c : Counts) → KeepsCounts a b → KeepsCounts b c → KeepsCounts a c
counts_twice a b c one two = record {
  turns = two.turns ∙ one.turns;
  datagrams = two.datagrams ∙ one.datagrams;
  sent = two.sent ∙ one.sent;
  short = two.short ∙ one.short;
  unheld = two.unheld ∙ one.unheld;
  damaged = two.damaged ∙ one.damaged;
  read_faults = two.read_faults ∙ one.read_faults;
  send_faults = two.send_faults ∙ one.send_faults;
  receive_faults = two.receive_faults ∙ one.receive_faults;
}

-- A note of what a message was worth.
abbrev pub IsOfMessage : Note → Type 0
IsOfMessage notes.Stored = Unit {0}
IsOfMessage notes.Cut = Unit {0}
IsOfMessage notes.Outside = Unit {0}
IsOfMessage notes.NotANode = Unit {0}
IsOfMessage notes.Full = Unit {0}
IsOfMessage notes.Choked = Unit {0}
IsOfMessage notes.Missing = Unit {0}
IsOfMessage notes.Wrong = Unit {0}
IsOfMessage notes.Repeat = Unit {0}
IsOfMessage _ = ⊥

pub message_counts : (note : Note) (k : Counts) → IsOfMessage note → KeepsCounts k (after_note note k)
message_counts notes.Turn k is = absurd is
message_counts notes.Datagram k is = absurd is
message_counts notes.Sent k is = absurd is
message_counts notes.Stored k is = record {
  turns = refl;
  datagrams = refl;
  sent = refl;
  short = refl;
  unheld = refl;
  damaged = refl;
  read_faults = refl;
  send_faults = refl;
  receive_faults = refl;
}
message_counts notes.KeepAlive k is = absurd is
message_counts notes.Short k is = absurd is
message_counts notes.Stranger k is = absurd is
message_counts notes.RefusedHandshake k is = absurd is
message_counts notes.NoSeat k is = absurd is
message_counts notes.Cut k is = record {
  turns = refl;
  datagrams = refl;
  sent = refl;
  short = refl;
  unheld = refl;
  damaged = refl;
  read_faults = refl;
  send_faults = refl;
  receive_faults = refl;
}
message_counts notes.Outside k is = record {
  turns = refl;
  datagrams = refl;
  sent = refl;
  short = refl;
  unheld = refl;
  damaged = refl;
  read_faults = refl;
  send_faults = refl;
  receive_faults = refl;
}
message_counts notes.NotANode k is = record {
  turns = refl;
  datagrams = refl;
  sent = refl;
  short = refl;
  unheld = refl;
  damaged = refl;
  read_faults = refl;
  send_faults = refl;
  receive_faults = refl;
}
message_counts notes.Full k is = record {
  turns = refl;
  datagrams = refl;
  sent = refl;
  short = refl;
  unheld = refl;
  damaged = refl;
  read_faults = refl;
  send_faults = refl;
  receive_faults = refl;
}
message_counts notes.Choked k is = record {
  turns = refl;
  datagrams = refl;
  sent = refl;
  short = refl;
  unheld = refl;
  damaged = refl;
  read_faults = refl;
  send_faults = refl;
  receive_faults = refl;
}
message_counts notes.Unheld k is = absurd is
message_counts notes.Missing k is = record {
  turns = refl;
  datagrams = refl;
  sent = refl;
  short = refl;
  unheld = refl;
  damaged = refl;
  read_faults = refl;
  send_faults = refl;
  receive_faults = refl;
}
message_counts notes.Wrong k is = record {
  turns = refl;
  datagrams = refl;
  sent = refl;
  short = refl;
  unheld = refl;
  damaged = refl;
  read_faults = refl;
  send_faults = refl;
  receive_faults = refl;
}
message_counts notes.Repeat k is = record {
  turns = refl;
  datagrams = refl;
  sent = refl;
  short = refl;
  unheld = refl;
  damaged = refl;
  read_faults = refl;
  send_faults = refl;
  receive_faults = refl;
}
message_counts notes.Damaged k is = absurd is
message_counts notes.ReadFault k is = absurd is
message_counts notes.SendFault k is = absurd is
message_counts notes.ReceiveFault k is = absurd is

pub put_is_counted : (put : Put) → IsOfMessage (note_of put)
put_is_counted Stored = tt
put_is_counted Held = tt
put_is_counted (Missing node) = tt
put_is_counted (Wrong node found kept) = tt
put_is_counted (Length found want) = tt

-- What is counted of a message that was heard.
abbrev pub IsCounted : Option Note → Type 0
IsCounted None = Unit {0}
IsCounted (Some note) = IsOfMessage note

counted_is : (o p : Option Note) → o ≡ p → IsCounted p → IsCounted o
counted_is o p e is = subst IsCounted (sym e) is

part_counted : (span : Span) (hears : Span → Type 0) (o : Option Note) (old new : SeatState) → HearsPart span hears o old new
    → ((range : Span) → hears range → IsCounted o) → IsCounted o
part_counted span hears o old new h f = by_part (inside old.told.chunks span) refl
  where
    by_part : (p : Option Span) → inside old.told.chunks span ≡ p → IsCounted o
    by_part None e = counted_is o (Some notes.Outside) (h.outside e).0 tt
    by_part (Some range) e = f range (h.part range e)

request_counted : (range : Span) (o : Option Note) (old new : SeatState) → HearsRequest range o old new → IsCounted o
request_counted range o old new h = ⊎_elim
    (λ e. ⊎_elim (λ l. counted_is o None l.quiet tt) (λ f. counted_is o (Some notes.Full) f.counted tt) (h.slot e))
    (λ e. counted_is o (Some notes.Choked) (h.choked e).0 tt) (cases_Bool old.slot)

integrity_counted : (range : Span) (digest : List ℕ) (o : Option Note) (old new : SeatState) → HearsIntegrity range digest o old new → IsCounted o
integrity_counted range digest o old new h = ⊎_elim
    (λ e. ⊎_elim (λ l. counted_is o None l.quiet tt) (λ f. counted_is o (Some notes.NotANode) f.counted tt) (h.proven e))
    (λ e. counted_is o None (h.unproven e).0 tt) (cases_Bool old.proven)

pub hears_counted : (now : ℕ) (m : Message) (o : Option Note) (old new : SeatState) → Hears now m o old new → IsCounted o
hears_counted now (Handshake source options) o old new h = counted_is o None h.0 tt
hears_counted now (Data chunk sent_at bytes) o old new h = absurd h
hears_counted now (Ack span delay) o old new h = part_counted span _ o old new h (λ range a. counted_is o None a.quiet tt)
hears_counted now (Have span) o old new h = part_counted span _ o old new h (λ range a. counted_is o None a.quiet tt)
hears_counted now (Integrity span digest) o old new h = part_counted span _ o old new h (λ range a. integrity_counted range digest o old new a)
hears_counted now (Pex4 address port) o old new h = counted_is o None h.0 tt
hears_counted now PexReq o old new h = counted_is o None h.0 tt
hears_counted now (Request span) o old new h = part_counted span _ o old new h (λ range a. request_counted range o old new a)
hears_counted now (Cancel span) o old new h = part_counted span _ o old new h (λ range a.
    ⊎_elim (λ e. counted_is o (Some notes.Full) (a.wide e) tt) (λ e. counted_is o None (a.quiet e) tt) (cases_Bool (are_too_many (removed range old.list))))
hears_counted now Choke o old new h = counted_is o None h.0 tt
hears_counted now Unchoke o old new h = counted_is o None h.0 tt
hears_counted now (Pex6 address port) o old new h = counted_is o None h.0 tt

pub some_counts : (o : Option Note) (k : Counts) → IsCounted o → KeepsCounts k (after_some o k)
some_counts None k is = same_counts k
some_counts (Some note) k is = message_counts note k is
