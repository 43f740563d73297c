-- What is claimed on a seat while the messages of a datagram do what they do.
use Rattle.std.proofs.Common.{◌≡◌, ⊎_elim, ℕ, ◌^◌, ◌≤◌, true, Option, Some, None, List, ◌∷◌, take, refl, sym, ◌∙◌, ap}
use Rattle.std.specs.Prelude.{slice_get, nat_lt}
use Rattle.std.proofs.lemmas.Bool.{cases_Bool, ltb-true, ltb-false}
use Rattle.pp_terms.specs.format.Descriptor.{chunks_of}
use Rattle.pp_terms.specs.format.Messages.{Message, Data, Ack, Have, Integrity, Request, Cancel, Choke, Unchoke}
use Rattle.pp_terms.specs.tree.Range.{Span}
use Rattle.pp_terms.specs.tree.Tree.{Node}
use Rattle.pp_traffic.specs.Story.{Line, Heard}
use Rattle.pp_traffic.specs.Claims.{with_claim, with_claims_of}
use Rattle.pp_traffic.specs.Claims as traffic
use Rattle.pp_counts.specs.declared.note.Note.{Note}
use Rattle.pp_seat.specs.Lines.{inside}
use Rattle.pp_seat.specs.Seats.{SeatState}
use Rattle.pp_seat.proofs.Naming.{named_is, named_none, named_out, claimed_more}
use Rattle.pp_seat.proofs.Spans.{part_of}
use Rattle.pp_desk.specs.Hearing.{HearsPart, HearsAck, HearsHave, HearsIntegrity, HearsRequest, HearsCancel, Hears}
use Rattle.pp_seats.specs.Standing.{SeatsState}
use Rattle.pp_peer.specs.declared.parts.Parts.{Parts}
use Rattle.pp_peer.specs.Messages.{is_proven_in, claims_in, TakesData, TakesOther, Does}
use Rattle.pp_core.proofs.Paths.{seat_after, heeded_beside}
use Rattle.pp_core.proofs.Storing.{proven_same, claims_same}

-- ---- one seat

-- A seat of a content of so many chunks is proven, and its claims are those of a story.
pub record Claims (chunks : ℕ) (story : List Line) (s : SeatState) : Type 0 where
  pub proven : s.proven ≡ true
  pub claims : s.claims ≡ take 128 (traffic.claims_in chunks story)

-- a message that claims nothing
same_claims : (chunks now : ℕ) (m : Message) (story : List Line) (old new : SeatState) → new.proven ≡ old.proven → new.claims ≡ old.claims
    → with_claims_of chunks m (traffic.claims_in chunks story) ≡ traffic.claims_in chunks story → Claims chunks story old
    → Claims chunks (Heard now m ∷ story) new
same_claims chunks now m story old new proven claims none c = record {
  proven = proven ∙ c.proven;
  claims = claims ∙ c.claims ∙ ap (take 128) (sym none);
}

-- of a message of a span only what lies in the content counts
module _ (chunks : ℕ) (span : Span) (noted : Option Note) (old new : SeatState) (room : old.told.chunks ≡ chunks) where
  on_part : (Q : Type 0) (hears : Span → Type 0) → HearsPart span hears noted old new → (inside chunks span ≡ None → new ≡ old → Q)
      → ((range : Span) → inside chunks span ≡ Some range → hears range → Q) → Q
  on_part Q hears h outside part = by (inside chunks span) refl
    where
      by : (o : Option Span) → inside chunks span ≡ o → Q
      by None e = outside e (h.outside (ap (λ (n : ℕ). inside n span) room ∙ e)).1
      by (Some range) e = part range e (h.part range (ap (λ (n : ℕ). inside n span) room ∙ e))

  part_same : (now : ℕ) (m : Message) (story : List Line) (hears : Span → Type 0) → HearsPart span hears noted old new
      → with_claims_of chunks m (traffic.claims_in chunks story) ≡ traffic.claims_in chunks story
      → ((range : Span) → hears range → (new.proven ≡ old.proven) × (new.claims ≡ old.claims))
      → Claims chunks story old → Claims chunks (Heard now m ∷ story) new
  part_same now m story hears h none each c = on_part (Claims chunks (Heard now m ∷ story) new) hears h
      (λ e same. same_claims chunks now m story old new (ap (λ (s : SeatState). s.proven) same) (ap (λ (s : SeatState). s.claims) same) none c)
      (λ range e here. let both = each range here in same_claims chunks now m story old new both.0 both.1 none c)

  claimed : (now : ℕ) (digest : List ℕ) (story : List Line) → chunks ≤ 2 ^ 20
      → HearsPart span (λ range. HearsIntegrity range digest noted old new) noted old new
      → Claims chunks story old → Claims chunks (Heard now (Integrity span digest) ∷ story) new
  claimed now digest story most h c = on_part (Claims chunks (Heard now (Integrity span digest) ∷ story) new)
      (λ range. HearsIntegrity range digest noted old new) h
      (λ e same. unnamed (ap (λ (s : SeatState). s.proven) same) (ap (λ (s : SeatState). s.claims) same) (named_out chunks span e))
      (λ range e here. ⊎_elim
      (λ is. record {
        proven = ap (λ (s : SeatState). s.proven) is.exact ∙ c.proven;
        claims = ap (λ (s : SeatState). s.claims) is.exact
            ∙ claimed_more chunks span is.node digest old.claims (traffic.claims_in chunks story)
            (named_is chunks span range is.node (part_of chunks span range e) is.leaves most) c.claims;
      })
      (λ none. unnamed (ap (λ (s : SeatState). s.proven) none.same) (ap (λ (s : SeatState). s.claims) none.same)
      (named_none chunks span range (part_of chunks span range e) none.none))
      (here.proven c.proven))
    where
      unnamed : new.proven ≡ old.proven → new.claims ≡ old.claims → traffic.named chunks span ≡ None
          → Claims chunks (Heard now (Integrity span digest) ∷ story) new
      unnamed proven claims none = same_claims chunks now (Integrity span digest) story old new proven claims
          (ap (λ (o : Option Node). with_claim o digest (traffic.claims_in chunks story)) none) c

request_same : (range : Span) (noted : Option Note) (old new : SeatState) → HearsRequest range noted old new
    → (new.proven ≡ old.proven) × (new.claims ≡ old.claims)
request_same range noted old new h = ⊎_elim
    (λ slot. ⊎_elim
    (λ is. (ap (λ (s : SeatState). s.proven) is.rest, ap (λ (s : SeatState). s.claims) is.rest))
    (λ full. (ap (λ (s : SeatState). s.proven) full.same, ap (λ (s : SeatState). s.claims) full.same))
    (h.slot slot))
    (λ none. (ap (λ (s : SeatState). s.proven) (h.choked none).1, ap (λ (s : SeatState). s.claims) (h.choked none).1))
    (cases_Bool old.slot)

hears_claims : (chunks moment now : ℕ) (m : Message) (noted : Option Note) (story : List Line) (old new : SeatState) → chunks ≤ 2 ^ 20
    → old.told.chunks ≡ chunks
    → Hears moment m noted old new → Claims chunks story old → Claims chunks (Heard now m ∷ story) new
hears_claims chunks moment now (Data chunk sent_at bytes) noted story old new most room h c = absurd h
hears_claims chunks moment now (Ack span delay) noted story old new most room h c =
    part_same chunks span noted old new room now (Ack span delay) story (λ range. HearsAck range delay moment noted old new) h refl
    (λ range here. (ap (λ (s : SeatState). s.proven) here.rest, ap (λ (s : SeatState). s.claims) here.rest)) c
hears_claims chunks moment now (Have span) noted story old new most room h c =
    part_same chunks span noted old new room now (Have span) story (λ range. HearsHave range noted old new) h refl
    (λ range here. (ap (λ (s : SeatState). s.proven) here.rest, ap (λ (s : SeatState). s.claims) here.rest)) c
hears_claims chunks moment now (Integrity span digest) noted story old new most room h c =
    claimed chunks span noted old new room now digest story most h c
hears_claims chunks moment now (Request span) noted story old new most room h c =
    part_same chunks span noted old new room now (Request span) story (λ range. HearsRequest range noted old new) h refl
    (λ range here. request_same range noted old new here) c
hears_claims chunks moment now (Cancel span) noted story old new most room h c =
    part_same chunks span noted old new room now (Cancel span) story (λ range. HearsCancel range noted old new) h refl
    (λ range here. (ap (λ (s : SeatState). s.proven) here.exact, ap (λ (s : SeatState). s.claims) here.exact)) c
hears_claims chunks moment now Choke noted story old new most room h c =
    same_claims chunks now Choke story old new (ap (λ (s : SeatState). s.proven) h.1) (ap (λ (s : SeatState). s.claims) h.1) refl c
hears_claims chunks moment now Unchoke noted story old new most room h c =
    same_claims chunks now Unchoke story old new (ap (λ (s : SeatState). s.proven) h.1) (ap (λ (s : SeatState). s.claims) h.1) refl c
hears_claims chunks moment now m noted story old new most room h c =
    same_claims chunks now m story old new (ap (λ (s : SeatState). s.proven) h.1) (ap (λ (s : SeatState). s.claims) h.1) refl c

-- ---- the seat in the peer

-- The seat is of a content of so many chunks.
pub record HasRoom (seat chunks : ℕ) (p : Parts) : Type 0 where
  pub room : (s : SeatState) → slice_get p.seats.seats seat ≡ Some s → s.told.chunks ≡ chunks

-- On the seat the claims are those of the story.
pub record ClaimsAt (seat chunks : ℕ) (story : List Line) (p : Parts) : Type 0 where
  pub proven : is_proven_in (slice_get p.seats.seats seat) ≡ true
  pub claims : claims_in (slice_get p.seats.seats seat) ≡ take 128 (traffic.claims_in chunks story)

-- a DATA leaves the seats as the end of the wait for it leaves them
pub data_seats : (seat chunk sent_at : ℕ) (bytes : List ℕ) (old new : Parts) (takes : TakesData seat chunk sent_at bytes old new)
    → new.seats ≡ takes.mid.seats
data_seats seat chunk sent_at bytes old new takes = ⊎_elim
    (λ inside. ⊎_elim
    (λ proven. ap (λ (p : Parts). p.seats) (takes.judged (ltb-true chunk chunks inside) proven).rest)
    (λ unproven. ap (λ (p : Parts). p.seats) (takes.unproven (ltb-true chunk chunks inside) unproven))
    (cases_Bool (is_proven_in (slice_get takes.mid.seats.seats seat))))
    (λ outside. ap (λ (p : Parts). p.seats) (takes.outside (ltb-false chunk chunks outside)))
    (cases_Bool (nat_lt chunk chunks))
  where
    chunks : ℕ
    chunks = chunks_of takes.mid.holding.store.descriptor

data_claims : (seat chunks now chunk sent_at : ℕ) (bytes : List ℕ) (story : List Line) (old new : Parts) → TakesData seat chunk sent_at bytes old new
    → ClaimsAt seat chunks story old → ClaimsAt seat chunks (Heard now (Data chunk sent_at bytes) ∷ story) new
data_claims seat chunks now chunk sent_at bytes story old new takes c = record {
  proven = ap (λ (s : SeatsState). is_proven_in (slice_get s.seats seat)) (data_seats seat chunk sent_at bytes old new takes)
      ∙ proven_same seat chunk old takes.mid takes.ends ∙ c.proven;
  claims = ap (λ (s : SeatsState). claims_in (slice_get s.seats seat)) (data_seats seat chunk sent_at bytes old new takes)
      ∙ claims_same seat chunk old takes.mid takes.ends ∙ c.claims;
}

other_claims : (seat chunks now : ℕ) (m : Message) (story : List Line) (old new : Parts) → chunks ≤ 2 ^ 20 → HasRoom seat chunks old
    → TakesOther seat m old new
    → ClaimsAt seat chunks story old → ClaimsAt seat chunks (Heard now m ∷ story) new
other_claims seat chunks now m story old new most has takes c =
    let left = hears_claims chunks takes.mid.seats.moment now m takes.noted story before after most (has.room before there) takes.heard.changes
    (record {
      proven = ap is_proven_in (sym there) ∙ c.proven;
      claims = ap claims_in (sym there) ∙ c.claims;
    }) in
    record { proven = ap is_proven_in behind ∙ left.proven; claims = ap claims_in behind ∙ left.claims }
  where
    before : SeatState
    before = takes.heard.before

    after : SeatState
    after = takes.heard.after

    there : slice_get old.seats.seats seat ≡ Some before
    there = ap (λ (s : SeatsState). slice_get s.seats seat) (sym (heeded_beside seat m old takes.mid takes.heeds).seats) ∙ takes.heard.there

    behind : slice_get new.seats.seats seat ≡ Some after
    behind = seat_after seat _ takes.mid.seats new.seats takes.heard

pub does_claims : (seat chunks now : ℕ) (m : Message) (story : List Line) (old new : Parts) → chunks ≤ 2 ^ 20 → HasRoom seat chunks old
    → Does seat m old new
    → ClaimsAt seat chunks story old → ClaimsAt seat chunks (Heard now m ∷ story) new
does_claims seat chunks now (Data chunk sent_at bytes) story old new most has does c =
    data_claims seat chunks now chunk sent_at bytes story old new does c
does_claims seat chunks now m story old new most has does c = other_claims seat chunks now m story old new most has does c
