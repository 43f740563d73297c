-- Notes that were delivered went as messages, unless the link refused a datagram.
use Rattle.std.proofs.Common.{◌≡◌, inl, inr, ⊎_elim, ℕ, ◌<◌, Bool, true, false, ◌||◌, Option, Some, None, List, [], ◌∷◌, ◌++◌, map, length, refl, sym, ◌∙◌, ap, subst, arith}
use Rattle.std.specs.List.{list_any}
use Rattle.std.proofs.lemmas.Bool.{false≢true, or_cases, or_left, or_right}
use Rattle.std.proofs.lemmas.List.Folds.{list_any-append}
use Rattle.pp_terms.specs.format.Descriptor.{Descriptor, Method}
use Rattle.pp_terms.specs.format.Messages as plain
use Rattle.pp_terms.specs.format.Messages.{Message}
use Rattle.pp_terms.specs.format.Traffic.{Sent, LinkState}
use Rattle.pp_terms.specs.tree.Range.{Span, within, has}
use Rattle.pp_terms.proofs.Risings.{gains_nothing}
use Rattle.pp_promises.specs.Announced.{acknowledges}
use Rattle.pp_promises.specs.OwnSide.{has_in}
use Rattle.pp_outside.specs.Outside.{address_of, is_same}
use Rattle.pp_outside.specs.declared.link.Address.{Address}
use Rattle.pp_outside.specs.declared.link.Address.TheVariants.{V4, V6}
use Rattle.pp_lives.specs.declared.lives.Far.{Far}
use Rattle.pp_draft.specs.declared.note.Note.{Note}
use Rattle.pp_draft.specs.declared.note.Note.TheVariants.{KeepAlive, Handshake, Close, Choke, Unchoke, Ack, Have, Request, Cancel, PexReq, Pex4, Pex6}
use Rattle.pp_draft.specs.Notes.{NamesRange, Says, SayAll}
use Rattle.pp_draft.specs.Posts.{Sends}
use Rattle.pp_seats.specs.Sending.{tells_note}
use Rattle.pp_news.specs.News.{ranges_of}
use Rattle.pp_agenda.specs.Laws.{acked, addressed, cancels_note, is_address_request, is_choke, is_unchoke}
use Rattle.pp_desk.specs.Delivers.{Way, Batch, At, DeliversOne, DeliversEach, BeginsSent, GoesIf, Goes, notes_of}
use Rattle.pp_desk.specs.Laws.{records_of}
use Rattle.pp_desk.proofs.Following.{link_carries}
use Rattle.pp_desk.proofs.Splits.{names_split}
use Rattle.pp_core.specs.Telling.{HasOne, BeginsWith, cancels, brings, asks_addresses, chokes, unchokes}
use Rattle.pp_core.proofs.Links.{Grows, grows_none, Reached, reached_amid}

-- the way of what is said to a channel's peer
abbrev pub way_to : Descriptor → Far → (moment now : ℕ) → Way
way_to d far moment now = record { d = d; receiver = address_of far.address; channel = far.number; moment = moment; now = now }

-- ---- one datagram

sends_grows : (d : Descriptor) (far : Far) (moment : ℕ) (bytes : List ℕ) (link later : LinkState) (sent : Bool)
    → Sends (address_of far.address) bytes moment link later sent → Grows link later
sends_grows d far moment bytes link later true s = record {
  added = Sent moment
      (address_of far.address) bytes ∷ [];
  gained = s.outcome;
  faults = s.later;
}
sends_grows d far moment bytes link later false s =
    record { added = []; gained = gains_nothing link.traffic later.traffic s.outcome.0; faults = s.later }

one_reaches : (d : Descriptor) (far : Far) (moment now : ℕ) (says : List Message → Type 0) (b : Batch) (old new : At) → (sent : Bool) → b.sent ≡ sent
    → DeliversOne (way_to d far moment now) b old new → says b.messages → Reached d far says old.link new.link
one_reaches d far moment now says b old new true is one holds =
    let goes = subst (λ (s : Bool). Sends (address_of far.address) b.bytes moment old.link new.link s) is one.goes in
    inl (record {
      messages = b.messages;
      bytes = b.bytes;
      written = one.written;
      holds = holds;
      moment = moment;
      newer = [];
      older = [];
      gained = goes.outcome;
    })
one_reaches d far moment now says b old new false is one holds =
    let goes = subst (λ (s : Bool). Sends (address_of far.address) b.bytes moment old.link new.link s) is one.goes in
    inr goes.outcome.1

-- ---- one after the other

each_carries : (d : Descriptor) (far : Far) (moment now : ℕ) (bs : List Batch) (old new : At)
    → DeliversEach (way_to d far moment now) bs old new → Grows old.link new.link
each_carries d far moment now bs old new h =
    let c = link_carries (way_to d far moment now) bs old new h in
    record { added = records_of (way_to d far moment now) bs; gained = c.gained; faults = c.later }

-- notes of which one passes a test went, whose messages are then as they are to be
each_reaches : (d : Descriptor) (far : Far) (moment now : ℕ) (says : List Message → Type 0) (t : Note → Bool)
    → ((notes : List Note) (ms : List Message) → list_any t notes ≡ true → SayAll d notes ms → says ms)
    → (bs : List Batch) (old new : At) → DeliversEach (way_to d far moment now) bs old new → list_any t (notes_of bs) ≡ true
    → Reached d far says old.link new.link
each_reaches d far moment now says t by [] old new h some = absurd (false≢true some)
each_reaches d far moment now says t by (b ∷ bs) old new h some =
    ⊎_elim
    (λ (here : list_any t b.notes ≡ true).
    reached_amid d far says old.link old.link h.0.link new.link (grows_none old.link old.link refl)
    (one_reaches d far moment now says b old h.0 b.sent refl h.1 (by b.notes b.messages here h.1.said))
    (each_carries d far moment now bs h.0 new h.2))
    (λ (there : list_any t (notes_of bs) ≡ true).
    reached_amid d far says old.link h.0.link new.link new.link
    (sends_grows d far moment b.bytes old.link h.0.link b.sent h.1.goes)
    (each_reaches d far moment now says t by bs h.0 new h.2 there)
    (grows_none new.link new.link refl))
    (or_cases (list_any t b.notes) (list_any t (notes_of bs)) (sym (list_any-append t b.notes (notes_of bs)) ∙ some))

-- ---- behind a handshake or not

pub goes_grows : (opening : Option ℕ) (d : Descriptor) (far : Far) (moment now : ℕ) (notes : List Note) (old new : At)
    → Goes opening (way_to d far moment now) notes old new → Grows old.link new.link
goes_grows None d far moment now notes old new g = each_carries d far moment now g.batches old new g.each
goes_grows (Some source) d far moment now notes old new g = by g.0 g.1
  where
    by : (taken : Bool) → GoesIf taken source (way_to d far moment now) notes old new → Grows old.link new.link
    by true h = each_carries d far moment now h.delivers.batches old new h.delivers.each
    by false h = sends_grows d far moment h.bytes old.link new.link false h.goes

pub goes_reach : (opening : Option ℕ) (d : Descriptor) (far : Far) (moment now : ℕ) (says : List Message → Type 0) (t : Note → Bool)
    → ((notes : List Note) (ms : List Message) → list_any t notes ≡ true → SayAll d notes ms → says ms)
    → (notes : List Note) (old new : At) → Goes opening (way_to d far moment now) notes old new → list_any t notes ≡ true
    → Reached d far says old.link new.link
goes_reach None d far moment now says t by notes old new g some =
    each_reaches d far moment now says t by g.batches old new g.each (ap (λ (ns : List Note). list_any t ns) g.each_once ∙ some)
goes_reach (Some source) d far moment now says t by notes old new g some = of g.0 g.1
  where
    of : (taken : Bool) → GoesIf taken source (way_to d far moment now) notes old new → Reached d far says old.link new.link
    of true h = each_reaches d far moment now says t by h.delivers.batches old new h.delivers.each
        (ap (λ (ns : List Note). list_any t ns) h.delivers.each_once ∙ or_right (t (Handshake source)) (list_any t notes) some)
    of false h = inr h.goes.outcome.1

-- the handshake comes first
first_message : (d : Descriptor) (source : ℕ) (notes more rest : List Note) (ms : List Message) → 0 < length notes
    → notes ++ more ≡ Handshake source ∷ rest
    → SayAll d notes ms → BeginsWith d source ms
first_message d source [] more rest ms some is says = absurd (omega (arith, some))
first_message d source (n ∷ notes) more rest ms some is says =
    let first : n ≡ Handshake source = cc in
    let said = subst (λ (x : Note). Says d x says.0) first says.2 in
    (says.1, says.4 ∙ ap (λ (own : List Message). own ++ says.1) said)

pub opens_reach : (d : Descriptor) (far : Far) (moment now source : ℕ) (notes : List Note) (old new : At)
    → Goes (Some source) (way_to d far moment now) notes old new → Reached d far (BeginsWith d source) old.link new.link
opens_reach d far moment now source notes old new g = of g.0 g.1
  where
    begins : (bs : List Batch) (rest : List Note) → BeginsSent bs → notes_of bs ≡ Handshake source ∷ rest
        → DeliversEach (way_to d far moment now) bs old new
        → Reached d far (BeginsWith d source) old.link new.link
    begins [] rest first is h = absurd first
    begins (b ∷ bs) rest first is h =
        reached_amid d far (BeginsWith d source) old.link old.link h.0.link new.link (grows_none old.link old.link refl)
        (one_reaches d far moment now (BeginsWith d source) b old h.0 b.sent refl h.1
        (first_message d source b.notes (notes_of bs) rest b.messages h.1.some is h.1.said))
        (each_carries d far moment now bs h.0 new h.2)

    of : (taken : Bool) → GoesIf taken source (way_to d far moment now) notes old new → Reached d far (BeginsWith d source) old.link new.link
    of true h = begins h.delivers.batches notes h.first h.delivers.each_once h.delivers.each
    of false h = inr h.goes.outcome.1

-- ---- the messages of a note

-- where one note has such a message, all of them together have one
pub said_one : (d : Descriptor) (t : Note → Bool) (test : Message → Bool)
    → ((n : Note) (ms : List Message) → t n ≡ true → Says d n ms → list_any test ms ≡ true)
    → (notes : List Note) (ms : List Message) → list_any t notes ≡ true → SayAll d notes ms → HasOne test ms
said_one d t test by [] ms some says = absurd (false≢true some)
said_one d t test by (n ∷ notes) ms some says =
    ap (λ (xs : List Message). list_any test xs) says.4 ∙ list_any-append test says.0 says.1 ∙ ⊎_elim
    (λ (here : t n ≡ true). or_left (list_any test says.0) (list_any test says.1) (by n says.0 here says.2))
    (λ (there : list_any t notes ≡ true). or_right (list_any test says.0) (list_any test says.1) (said_one d t test by notes says.1 there says.3))
    (or_cases (t n) (list_any t notes) some)

pub any_mapped : (test : Message → Bool) (make : Span → Message) (i : ℕ) → ((s : Span) → test (make s) ≡ within s i) → (spans : List Span)
    → list_any test (map make spans) ≡ has spans i
any_mapped test make i same [] = refl
any_mapped test make i same (s ∷ spans) = λ t. same s t || any_mapped test make i same spans t

named : (method : Method) (range : Span) (make : Span → Message) (ms : List Message) (test : Message → Bool) (i : ℕ)
    → ((s : Span) → test (make s) ≡ within s i)
    → NamesRange method range make ms → within range i ≡ true → list_any test ms ≡ true
named method range make ms test i same n is =
    ap (λ (xs : List Message). list_any test xs) n.messages ∙ any_mapped test make i same n.spans ∙ names_split method range n.spans n.names i ∙ is

-- a note that acknowledges the chunk, and one that brings the address
abbrev pub acks_note : ℕ → Note → Bool
acks_note i (Ack range delay) = within range i
acks_note i _ = false

abbrev pub brings_note : Address → Note → Bool
brings_note a (Pex4 bytes port) = is_same (V4 bytes port) a
brings_note a (Pex6 bytes port) = is_same (V6 bytes port) a
brings_note a _ = false

pub ack_says : (d : Descriptor) (i : ℕ) (n : Note) (ms : List Message) → acks_note i n ≡ true → Says d n ms → list_any (acknowledges i) ms ≡ true
ack_says d i (Ack range delay) ms is says = named d.method range (λ span. plain.Ack span delay) ms (acknowledges i) i (λ s. refl) says is
ack_says d i _ ms is says = absurd (false≢true is)

pub have_says : (d : Descriptor) (i : ℕ) (n : Note) (ms : List Message) → tells_note i n ≡ true → Says d n ms → list_any (has_in i) ms ≡ true
have_says d i (Have range) ms is says = named d.method range (λ span. plain.Have span) ms (has_in i) i (λ s. refl) says is
have_says d i _ ms is says = absurd (false≢true is)

pub cancel_says : (d : Descriptor) (i : ℕ) (n : Note) (ms : List Message) → cancels_note i n ≡ true → Says d n ms → list_any (cancels i) ms ≡ true
cancel_says d i (Cancel range) ms is says = named d.method range (λ span. plain.Cancel span) ms (cancels i) i (λ s. refl) says is
cancel_says d i _ ms is says = absurd (false≢true is)

pub address_says : (d : Descriptor) (a : Address) (n : Note) (ms : List Message) → brings_note a n ≡ true → Says d n ms
    → list_any (brings a) ms ≡ true
address_says d a (Pex4 bytes port) ms is says = ap (λ (xs : List Message). list_any (brings a) xs) says ∙ or_left (is_same (V4 bytes port) a) false is
address_says d a (Pex6 bytes port) ms is says = ap (λ (xs : List Message). list_any (brings a) xs) says ∙ or_left (is_same (V6 bytes port) a) false is
address_says d a _ ms is says = absurd (false≢true is)

pub question_says : (d : Descriptor) (n : Note) (ms : List Message) → is_address_request n ≡ true → Says d n ms → list_any asks_addresses ms ≡ true
question_says d PexReq ms is says = ap (λ (xs : List Message). list_any asks_addresses xs) says
question_says d _ ms is says = absurd (false≢true is)

pub choke_says : (d : Descriptor) (n : Note) (ms : List Message) → is_choke n ≡ true → Says d n ms → list_any chokes ms ≡ true
choke_says d Choke ms is says = ap (λ (xs : List Message). list_any chokes xs) says
choke_says d _ ms is says = absurd (false≢true is)

pub unchoke_says : (d : Descriptor) (n : Note) (ms : List Message) → is_unchoke n ≡ true → Says d n ms → list_any unchokes ms ≡ true
unchoke_says d Unchoke ms is says = ap (λ (xs : List Message). list_any unchokes xs) says
unchoke_says d _ ms is says = absurd (false≢true is)

-- ---- what notes have

pub acked_notes : (i : ℕ) (notes : List Note) → list_any (acks_note i) notes ≡ has (ranges_of (acked notes)) i
acked_notes i [] = refl
acked_notes i (Ack range delay ∷ notes) = λ t. within range i || acked_notes i notes t
acked_notes i (KeepAlive ∷ notes) = acked_notes i notes
acked_notes i (Handshake source ∷ notes) = acked_notes i notes
acked_notes i (Close ∷ notes) = acked_notes i notes
acked_notes i (Choke ∷ notes) = acked_notes i notes
acked_notes i (Unchoke ∷ notes) = acked_notes i notes
acked_notes i (Have range ∷ notes) = acked_notes i notes
acked_notes i (Request range ∷ notes) = acked_notes i notes
acked_notes i (Cancel range ∷ notes) = acked_notes i notes
acked_notes i (PexReq ∷ notes) = acked_notes i notes
acked_notes i (Pex4 bytes port ∷ notes) = acked_notes i notes
acked_notes i (Pex6 bytes port ∷ notes) = acked_notes i notes

pub addressed_notes : (a : Address) (notes : List Note) → list_any (brings_note a) notes ≡ list_any (λ b. is_same b a) (addressed notes)
addressed_notes a [] = refl
addressed_notes a (Pex4 bytes port ∷ notes) = λ t. is_same (V4 bytes port) a || addressed_notes a notes t
addressed_notes a (Pex6 bytes port ∷ notes) = λ t. is_same (V6 bytes port) a || addressed_notes a notes t
addressed_notes a (KeepAlive ∷ notes) = addressed_notes a notes
addressed_notes a (Handshake source ∷ notes) = addressed_notes a notes
addressed_notes a (Close ∷ notes) = addressed_notes a notes
addressed_notes a (Choke ∷ notes) = addressed_notes a notes
addressed_notes a (Unchoke ∷ notes) = addressed_notes a notes
addressed_notes a (Ack range delay ∷ notes) = addressed_notes a notes
addressed_notes a (Have range ∷ notes) = addressed_notes a notes
addressed_notes a (Request range ∷ notes) = addressed_notes a notes
addressed_notes a (Cancel range ∷ notes) = addressed_notes a notes
addressed_notes a (PexReq ∷ notes) = addressed_notes a notes
