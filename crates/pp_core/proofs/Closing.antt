-- A flush closes no channel.
use Rattle.std.proofs.Common.{◌≡◌, ℕ, eqb, Bool, true, false, ◌||◌, List, [], ◌∷◌, ◌++◌, map, refl, sym, ◌∙◌, ap, subst, arith}
use Rattle.std.specs.List.{AllByRecursion, list_any}
use Rattle.std.proofs.lemmas.Bool.{ne_eqb}
use Rattle.pp_terms.specs.disk.Disk.{DiskState}
use Rattle.pp_terms.specs.format.Descriptor.{Descriptor, Method}
use Rattle.pp_terms.specs.format.Messages as plain
use Rattle.pp_terms.specs.format.Messages.{Message}
use Rattle.pp_terms.specs.format.Traffic.{Record, Received, Quiet, Sent, LinkState}
use Rattle.pp_terms.specs.tree.Book.{LookUp}
use Rattle.pp_terms.specs.tree.Range.{Span}
use Rattle.pp_terms.specs.tree.Tree.{Node}
use Rattle.pp_traffic.specs.Life.{closes}
use Rattle.pp_traffic.specs.Turns.{is_closing}
use Rattle.pp_outside.specs.declared.link.Address.{Address}
use Rattle.pp_draft.specs.Datagrams.{delivery}
use Rattle.pp_draft.specs.Notes.{NamesRange}
use Rattle.pp_draft.specs.declared.note.Note.{Note}
use Rattle.pp_draft.specs.declared.note.Note.TheVariants.{KeepAlive, Handshake, Close, Choke, Unchoke, Ack, Have, Request, Cancel, PexReq, Pex4, Pex6}
use Rattle.pp_seat.specs.Seats.{SeatState}
use Rattle.pp_desk.specs.Steps.{IsPlain}
use Rattle.pp_news.specs.declared.acknowledgement.Acknowledgement.{Acknowledgement}
use Rattle.pp_agenda.specs.Agendas.{ack_note, have_note, request_note, cancel_note, address_note, parts_below, spoken_notes, IsAgenda}
use Rattle.pp_agenda.specs.declared.agenda.Due.{Due}
use Rattle.pp_agenda.proofs.Parts.{all_same, all_turned, kept, OfEach, all_spoken, address_is}
use Rattle.pp_core.specs.Peers.{PeerState}
use Rattle.pp_core.specs.Promising.{ClosesNone}
use Rattle.pp_core.specs.Turning.{scene, Sends}
use Rattle.pp_core.proofs.Saying.{IsUnsaid, flush_says_none}
use Rattle.pp_core.proofs.Unsaid.{IsTest, IsNotIn, IsNotRead}

-- ---- the notes of an agenda

plain_are : (s : SeatState) (due : Due) (rows cancels : List Span) → OfEach IsPlain s due rows cancels
plain_are s due rows cancels = record {
  choke = tt;
  unchoke = tt;
  acks = all_same (λ (x : Acknowledgement). IsPlain (ack_note x)) due.acknowledgements.now (λ x. tt);
  news = all_same (λ (x : Span). IsPlain (have_note x)) (parts_below s.cursor due.news.now) (λ x. tt);
  told = all_same (λ (x : Span). IsPlain (have_note x)) rows (λ x. tt);
  asked = all_same (λ (x : Span). IsPlain (request_note x)) due.requests.now (λ x. tt);
  dropped = all_same (λ (x : Span). IsPlain (cancel_note x)) cancels (λ x. tt);
  question = tt;
  answers = all_same (λ (x : Address). IsPlain (address_note x)) due.addresses.now (address_is IsPlain (λ b p. tt) (λ b p. tt));
}

-- none of them is a handshake
pub agenda_plain : (s : SeatState) (due : Due) (agenda : List Note) → IsAgenda s due agenda → AllByRecursion IsPlain agenda
agenda_plain s due agenda g = subst (λ (ns : List Note). AllByRecursion IsPlain ns) (sym g.is)
    (kept (AllByRecursion IsPlain) _ (spoken_notes s due g.rows g.cancels) (tt, tt)
    (all_spoken IsPlain s due g.rows g.cancels (plain_are s due g.rows g.cancels)))

-- ---- what closes a channel

closes_split : (ms more : List Message) → closes (ms ++ more) ≡ (closes ms || closes more)
closes_split [] more = refl
closes_split (plain.Handshake source options ∷ ms) more = of (eqb source 0) (closes_split ms more)
  where
    of : (b : Bool) → closes (ms ++ more) ≡ (closes ms || closes more) → (b || closes (ms ++ more)) ≡ ((b || closes ms) || closes more)
    of true same = refl
    of false same = same
closes_split (plain.Data chunk sent_at bytes ∷ ms) more = closes_split ms more
closes_split (plain.Ack span delay ∷ ms) more = closes_split ms more
closes_split (plain.Have span ∷ ms) more = closes_split ms more
closes_split (plain.Integrity span digest ∷ ms) more = closes_split ms more
closes_split (plain.Pex4 address port ∷ ms) more = closes_split ms more
closes_split (plain.PexReq ∷ ms) more = closes_split ms more
closes_split (plain.Request span ∷ ms) more = closes_split ms more
closes_split (plain.Cancel span ∷ ms) more = closes_split ms more
closes_split (plain.Choke ∷ ms) more = closes_split ms more
closes_split (plain.Unchoke ∷ ms) more = closes_split ms more
closes_split (plain.Pex6 address port ∷ ms) more = closes_split ms more

delivery_closes : (book : LookUp) (nodes : List Node) (chunk sent_at : ℕ) (bytes : List ℕ)
    → closes (delivery book nodes chunk sent_at bytes) ≡ false
delivery_closes book [] chunk sent_at bytes = refl
delivery_closes book (n ∷ nodes) chunk sent_at bytes = delivery_closes book nodes chunk sent_at bytes

closes_test : (d : Descriptor) → IsTest d closes
closes_test d = record {
  none = refl;
  split = closes_split;
  greeting = λ source some. (λ i. ne_eqb source 0 (λ is. omega (arith, is, some)) i || false);
  chunk = delivery_closes;
}

-- ---- what notes say

named_closes : (method : Method) (range : Span) (make : Span → Message) (ms : List Message)
    → ((s : Span) (more : List Message) → closes (make s ∷ more) ≡ closes more) → NamesRange method range make ms → closes ms ≡ false
named_closes method range make ms passes n = ap closes n.messages ∙ all n.spans
  where
    all : (spans : List Span) → closes (map make spans) ≡ false
    all [] = refl
    all (s ∷ spans) = passes s (map make spans) ∙ all spans

note_closes : (d : Descriptor) (n : Note) → IsPlain n → IsNotIn d closes n
note_closes d KeepAlive is ms said = ap closes said
note_closes d (Handshake source) is ms said = absurd is
note_closes d Close is ms said = absurd is
note_closes d Choke is ms said = ap closes said
note_closes d Unchoke is ms said = ap closes said
note_closes d (Ack range delay) is ms said = named_closes d.method range (λ span. plain.Ack span delay) ms (λ s more. refl) said
note_closes d (Have range) is ms said = named_closes d.method range (λ span. plain.Have span) ms (λ s more. refl) said
note_closes d (Request range) is ms said = named_closes d.method range (λ span. plain.Request span) ms (λ s more. refl) said
note_closes d (Cancel range) is ms said = named_closes d.method range (λ span. plain.Cancel span) ms (λ s more. refl) said
note_closes d PexReq is ms said = ap closes said
note_closes d (Pex4 address port) is ms said = ap closes said
note_closes d (Pex6 address port) is ms said = ap closes said

agenda_closes : (d : Descriptor) → IsUnsaid d closes (λ p. Unit {0})
agenda_closes d = record {
  kept = λ seat refused speaker left a b turn reach. tt;
  notes = λ seat refused far greets speaker left a b s reach.
      let f = s.speaks.fills in
      all_turned IsPlain (IsNotIn d closes) left.agenda (note_closes d) (agenda_plain f.known f.due left.agenda f.agenda);
}

-- ---- a flush

closing_read : (d : Descriptor) (r : Record) → IsNotRead d closes r → is_closing d r ≡ false
closing_read d (Received at sender bytes) open_still = refl
closing_read d (Quiet at) open_still = refl
closing_read d (Sent moment receiver bytes) open_still = open_still

none_closing : (d : Descriptor) (rs : List Record) → AllByRecursion (IsNotRead d closes) rs → list_any (is_closing d) rs ≡ false
none_closing d [] all = refl
none_closing d (r ∷ rs) all = λ i. closing_read d r all.0 i || none_closing d rs all.1 i

-- Where the link tells, no record that a flush adds has a closing handshake.
pub flush_closes_none : (refused : ℕ) (old new : PeerState) (link later : LinkState) (disk left : DiskState)
    → (course : Sends refused old new link later disk left) → ClosesNone (scene old.parts link disk) course.flushes.added
flush_closes_none refused old new link later disk left course b most past before since stands tells =
    none_closing b.d course.flushes.added
    (flush_says_none refused old new link later disk left course b most past before stands tells closes (closes_test b.d) (λ p. Unit {0})
    (agenda_closes b.d) tt)
