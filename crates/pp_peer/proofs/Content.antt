-- The content of a peer stays, whatever comes.
use Rattle.std.proofs.Common.{◌≡◌, ℕ, Bool, true, false, Option, Some, None, option_map, List, length, refl, sym, ◌∙◌, ap}
use Rattle.std.specs.Prelude.{if◌then◌else◌}
use Rattle.std.proofs.lemmas.List.{length-set}
use Rattle.std.proofs.lemmas.Option.{same_Some}
use Rattle.pp_terms.specs.format.Descriptor.{chunks_of}
use Rattle.pp_terms.specs.format.Messages.{Message, Handshake, Data, Ack, Have, Integrity, Pex4, PexReq, Request, Cancel, Choke, Unchoke, Pex6}
use Rattle.pp_terms.specs.tree.Range.{Span}
use Rattle.pp_requests.specs.declared.asking.Asking.{Asking}
use Rattle.pp_fetching.specs.Fetching.{FetchState, without_request}
use Rattle.pp_seat.specs.Lines.{inside}
use Rattle.pp_seats.specs.Standing.{SeatsState}
use Rattle.pp_store.specs.declared.admitting.Put.{Put}
use Rattle.pp_store.specs.declared.admitting.Put.TheVariants.{Stored, Held, Missing, Wrong, Length}
use Rattle.pp_peer.specs.declared.parts.Parts.{Parts}
use Rattle.pp_peer.specs.Greeting.{Releases}
use Rattle.pp_peer.specs.Messages.{Offers, GivesBackOf, Heeds, EndsWait, got_of}
use Rattle.pp_peer.specs.Standing.{size_of, KeepsContent, own_in, WholeStays}

pub content_same : (p : Parts) → KeepsContent p p
content_same p = record { swarm = refl; size = refl }

pub content_twice : (a b c : Parts) → KeepsContent a b → KeepsContent b c → KeepsContent a c
content_twice a b c one two = record { swarm = two.swarm ∙ one.swarm; size = two.size ∙ one.size }

-- ---- the size of what is fetched

size_left : (old left : FetchState) (new : Option FetchState) → new ≡ Some left → left.want.had ≡ old.want.had → size_of new ≡ Some (length old.want.had)
size_left old left new is had = ap size_of is ∙ ap (λ (bs : List Bool). Some (length bs)) had

offers_size : (seat : ℕ) (range : Option Span) (old new : Option FetchState) → Offers seat range old new → size_of new ≡ size_of old
offers_size seat None old new o = ap size_of o
offers_size seat (Some range) None new o = ap size_of o
offers_size seat (Some range) (Some old) new o = size_left old o.0 new o.1 (ap (λ (f : FetchState). f.want.had) o.2.rest)

given_size : (own : List Asking) (old new : Option FetchState) → GivesBackOf own old new → size_of new ≡ size_of old
given_size own None new g = ap size_of g
given_size own (Some old) new g = size_left old g.0 new g.1 (ap (λ (f : FetchState). f.want.had) g.2.rest)

pub released_size : (seat : ℕ) (own : List Asking) (old new : Option FetchState) → Releases seat own old new → size_of new ≡ size_of old
released_size seat own None new r = ap size_of r
released_size seat own (Some old) new r = size_left old r.0 new r.1 r.2.had

pub got_size : (put : Put) (chunk : ℕ) (o : Option FetchState) → size_of (got_of put chunk o) ≡ size_of o
got_size Stored chunk None = refl
got_size Stored chunk (Some f) = ap Some (length-set f.want.had chunk true)
got_size Held chunk o = refl
got_size (Missing node) chunk o = refl
got_size (Wrong node found kept) chunk o = refl
got_size (Length found want) chunk o = refl

without_size : (was : Bool) (chunk : ℕ) (o : Option FetchState) → size_of (if was then option_map (without_request chunk) o else o) ≡ size_of o
without_size true chunk None = refl
without_size true chunk (Some f) = refl
without_size false chunk o = refl

-- ---- what comes

pub heeds_size : (seat : ℕ) (m : Message) (old mid : Parts) → Heeds seat m old mid → size_of mid.fetching ≡ size_of old.fetching
heeds_size seat m old mid h = by_message m h
  where
    same : mid ≡ old → size_of mid.fetching ≡ size_of old.fetching
    same e = ap (λ (p : Parts). size_of p.fetching) e

    by_message : (m : Message) → Heeds seat m old mid → size_of mid.fetching ≡ size_of old.fetching
    by_message (Handshake source options) h = same h
    by_message (Data chunk sent_at bytes) h = same h
    by_message (Ack span delay) h = same h
    by_message (Have span) h = offers_size seat (inside (chunks_of old.holding.store.descriptor) span) old.fetching mid.fetching h.0
    by_message (Integrity span digest) h = same h
    by_message (Pex4 address port) h = ap (λ (p : Parts). size_of p.fetching) h
    by_message PexReq h = ap (λ (p : Parts). size_of p.fetching) h
    by_message (Request span) h = same h
    by_message (Cancel span) h = same h
    by_message Choke h = given_size (own_in old.seats.seats seat) old.fetching mid.fetching h.0
    by_message Unchoke h = same h
    by_message (Pex6 address port) h = ap (λ (p : Parts). size_of p.fetching) h

-- a DATA ended the wait for its chunk
pub ends_content : (seat chunk : ℕ) (old new : Parts) → EndsWait seat chunk old new → KeepsContent old new
ends_content seat chunk old new e = record {
  swarm = ap (λ (p : SeatsState). p.descriptor) e.answered.is;
  size = ap (λ (p : Parts). size_of p.fetching) e.rest ∙ without_size e.was chunk old.fetching;
}

-- ---- all parts are of one content

size_chunks : (old new : Option FetchState) (chunks : ℕ) → size_of new ≡ size_of old → ((f : FetchState) → old ≡ Some f → length f.want.had ≡ chunks)
    → (f : FetchState) → new ≡ Some f → length f.want.had ≡ chunks
size_chunks None new chunks same content f e = let x : Some (length f.want.had) ≡ None = sym (ap size_of e) ∙ same in absurd cc
size_chunks (Some g) new chunks same content f e =
    same_Some (length f.want.had) (length g.want.had) (sym (ap size_of e) ∙ same) ∙ content g refl

pub whole_on : WholeStays
whole_on old new keeps same w = record {
  swarm = keeps.swarm ∙ w.swarm ∙ sym same;
  content = λ f e. size_chunks old.fetching new.fetching (chunks_of old.holding.store.descriptor) keeps.size w.content f e ∙ ap chunks_of (sym same);
}
