-- The path of a datagram of a plain channel, and what is claimed where each of its messages comes.
use Rattle.std.proofs.Common.{◌≡◌, ◌⊎◌, inl, inr, ⊎_elim, ℕ, ◌^◌, ◌<◌, ◌≤◌, leb, eqb, Bool, true, false, cond, ◌&&◌, Some, List, [], ◌∷◌, ◌++◌, length, refl, sym, ◌∙◌, ap, subst, arith}
use Rattle.std.specs.Prelude.{slice_get, ◌==◌}
use Rattle.std.specs.Option.{option_or}
use Rattle.std.proofs.lemmas.Bool.{or_parts, le-leb}
use Rattle.pp_terms.specs.format.Traffic.{Record, Received, Quiet, Sent}
use Rattle.pp_terms.specs.format.Descriptor.{Descriptor, chunks_of, height_of}
use Rattle.pp_terms.specs.format.Messages.{Message, Handshake, Data}
use Rattle.pp_tree.specs.Book.{entry}
use Rattle.pp_traffic.specs.Past.{now, read, comes_from, is_number, some_since}
use Rattle.pp_traffic.specs.Life.{Life, comes_on, closes}
use Rattle.pp_traffic.specs.Story.{Line, Heard, hear, say, said_in}
use Rattle.pp_traffic.specs.Claims as traffic
use Rattle.pp_promises.specs.ReadStory.{with_unread, proven_story}
use Rattle.sha2.specs.Sha256.{sha256}
use Rattle.pp_terms.specs.tree.Book.{LookUp, IsRooted}
use Rattle.pp_terms.specs.tree.Claims.{Claim, latest}
use Rattle.pp_terms.specs.tree.Content.{chunk_length}
use Rattle.pp_paths.specs.declared.judging.Verdict.{Verdict}
use Rattle.pp_paths.specs.declared.judging.Verdict.TheVariants as verdicts
use Rattle.pp_paths.specs.declared.settling.Settled.{Settled}
use Rattle.pp_paths.specs.declared.settling.Settled.TheVariants as settlements
use Rattle.pp_paths.specs.Climb.{or_else, path}
use Rattle.pp_paths.specs.Judge.{judged, KeepsEntries}
use Rattle.pp_paths.specs.Settle.{settled, path_of_peaks}
use Rattle.pp_store.specs.Answer.{peaked, with_path, with_peaks, put_learned}
use Rattle.pp_store.specs.Store.{StoreState, is_held}
use Rattle.pp_holding.specs.Holding.{HoldingState}
use Rattle.pp_holding.specs.declared.queue.Ticket.{Ticket}
use Rattle.pp_peer.specs.declared.parts.Parts.{Parts}
use Rattle.pp_peer.specs.Messages.{is_proven_in, Puts, Does, InTurn, before_close}
use Rattle.pp_core.specs.Storing.{HoldsIfFit, HoldsFitting}
use Rattle.pp_core.proofs.Storing.{does_keep, in_turn_keeps}
use Rattle.pp_core.proofs.Claiming.{HasRoom, ClaimsAt, does_claims}

-- ---- the messages before one that closes

-- those that close nothing stand before it
pub front_heard : (front rest : List Message) → closes front ≡ false → before_close (front ++ rest) ≡ front ++ before_close rest
front_heard [] rest e = refl
front_heard (m ∷ front) rest e = first m e (λ open_still. front_heard front rest open_still)
  where
    first : (m : Message) → closes (m ∷ front) ≡ false → (closes front ≡ false → before_close (front ++ rest) ≡ front ++ before_close rest)
        → before_close (m ∷ front ++ rest) ≡ m ∷ front ++ before_close rest
    first (Handshake source options) e' same =
        let parts = or_parts (eqb source 0) (closes front) e' in
        ap (λ b. cond b [] (Handshake source options ∷ before_close (front ++ rest))) parts.0
        ∙ ap (λ ms. Handshake source options ∷ ms) (same parts.1)
    first m' e' same = ap (λ ms. m' ∷ ms) (same e')

-- ---- books

-- a larger look-up keeps the entries
or_keeps : (book way : LookUp) → KeepsEntries book (or_else book way)
or_keeps book way k j digest at = ap (λ o. option_or o (way k j)) at

path_keeps : (verdict : Verdict) (book way : LookUp) → KeepsEntries book (with_path verdict book way)
path_keeps verdicts.Fits book way k j digest at = or_keeps book way k j digest at
path_keeps (verdicts.Missing node) book way k j digest at = at
path_keeps (verdicts.Wrong node found kept) book way k j digest at = at
path_keeps (verdicts.Length found want) book way k j digest at = at

peaks_keep : (answer : Settled) (book more : LookUp) → KeepsEntries book more → KeepsEntries book (with_peaks answer book more)
peaks_keep settlements.Known book more keeps k j digest at = keeps k j digest at
peaks_keep (settlements.Missing node) book more keeps k j digest at = at
peaks_keep (settlements.Wrong found kept) book more keeps k j digest at = at

learned_keeps : (held : Bool) (d : Descriptor) (book claims : LookUp) (i : ℕ) (bytes : List ℕ)
    → KeepsEntries book (put_learned held d book claims i bytes)
learned_keeps true d book claims i bytes k j digest at = at
learned_keeps false d book claims i bytes k j digest at =
    by (length bytes == chunk_length d.size d.chunk i)
  where
    more : LookUp
    more = with_peaks (settled (chunks_of d) book claims) book
        (with_path (judged d (peaked d book claims) claims i bytes) (peaked d book claims) (path claims (height_of d) 0 i (sha256 bytes)))

    by : (whole : Bool) → cond whole more book k j ≡ Some digest
    by true = peaks_keep (settled (chunks_of d) book claims) book
        (with_path (judged d (peaked d book claims) claims i bytes) (peaked d book claims) (path claims (height_of d) 0 i (sha256 bytes)))
        (λ l m x here. path_keeps (judged d (peaked d book claims) claims i bytes)
        (peaked d book claims) (path claims (height_of d) 0 i (sha256 bytes)) l m x
        (or_keeps book (path_of_peaks (chunks_of d) book claims) l m x here)) k j digest at
    by false = at

-- The store may be written to, and the book has the entries.
pub record IsLater (book : LookUp) (h : HoldingState) : Type 0 where
  pub live : h.store.live ≡ true
  pub keeps : KeepsEntries book (entry h.book)

-- so it is after a put
put_later : (book : LookUp) (ticket : Ticket) (bytes : List ℕ) (claims : List Claim) (old new : Parts) → Puts ticket bytes claims old new
    → IsLater book old.holding → IsLater book new.holding
put_later book ticket bytes claims old new puts later = record {
  live = puts.live;
  keeps = λ k j digest at. puts.learned later.live k j
      ∙ learned_keeps (is_held old.holding.store ticket.chunk) old.holding.store.descriptor (entry old.holding.book)
      (latest claims) ticket.chunk bytes k j digest
      (later.keeps k j digest at);
}

path_entries : (seat : ℕ) (ms : List Message) (old new : Parts) → InTurn seat ms old new → old.holding.store.live ≡ true
    → KeepsEntries (entry old.holding.book) (entry new.holding.book)
path_entries seat ms old new in_turn live =
    (in_turn_keeps (IsLater (entry old.holding.book)) (put_later (entry old.holding.book)) seat ms old new in_turn
    (record { live = live; keeps = λ k j digest at. at })).keeps

-- It is the first holding still, or its store may be written to; and where the first one's may, the book has the entries of the first one's.
pub record HasBegun (first h : HoldingState) : Type 0 where
  pub begun : (h ≡ first) ⊎ (h.store.live ≡ true)
  pub later : first.store.live ≡ true → IsLater (entry first.book) h

pub begun_first : (first h : HoldingState) → h ≡ first → HasBegun first h
begun_first first h same = record {
  begun = inl same;
  later = λ live. subst (IsLater (entry first.book)) (sym same) (record { live = live; keeps = λ k j digest at. at });
}

-- ---- along the path

-- where bytes are judged, the book is rooted
abbrev pub JudgesRooted : Descriptor → (seat : ℕ) → Message → Parts → Type 0
JudgesRooted d seat (Data chunk sent_at bytes) p =
    chunk < chunks_of d → is_proven_in (slice_get p.seats.seats seat) ≡ true → IsRooted d (entry p.holding.book)
JudgesRooted d seat _ p = Unit {0}

-- The seat is of the content, and so is the store.
pub record IsOfContent (d : Descriptor) (seat : ℕ) (p : Parts) : Type 0 where
  pub room : HasRoom seat (chunks_of d) p
  pub swarm : p.holding.store.descriptor ≡ d

-- So it is where a message comes, and the book by which it is judged is rooted.
pub record Steady (d : Descriptor) (seat : ℕ) (m : Message) (p : Parts) : Type 0 where
  pub room : HasRoom seat (chunks_of d) p
  pub swarm : p.holding.store.descriptor ≡ d
  pub rooted : JudgesRooted d seat m p

-- So it is where each of the messages comes.
abbrev pub EachSteady : (d : Descriptor) (seat : ℕ) (ms : List Message) (old new : Parts) → InTurn seat ms old new → Type 0
EachSteady d seat [] old new in_turn = Unit {0}
EachSteady d seat (m ∷ ms) old new in_turn = Steady d seat m old × EachSteady d seat ms in_turn.0 new in_turn.2

-- where each message keeps the seat and the store of the content, and is judged by a rooted book, all is of the content along a path
module _ (d : Descriptor) (seat : ℕ)
    (keeps : (m : Message) (old new : Parts) → Does seat m old new → Steady d seat m old → IsOfContent d seat new)
    (rooted : (m : Message) (old new : Parts) → Does seat m old new → IsOfContent d seat old → JudgesRooted d seat m old) where
  pub each_steady : (ms : List Message) (old new : Parts) (in_turn : InTurn seat ms old new) → IsOfContent d seat old
      → EachSteady d seat ms old new in_turn
  each_steady [] old new in_turn of = tt
  each_steady (m ∷ ms) old new in_turn of =
      let here : Steady d seat m old = record { room = of.room; swarm = of.swarm; rooted = rooted m old in_turn.0 in_turn.1 of } in
      (here, each_steady ms in_turn.0 new in_turn.2 (keeps m old in_turn.0 in_turn.1 here))

-- Where a message comes, the claims are those of the story so far, and the book is that of the first state, or the last one keeps its
-- entries; where the first store may be written to, the book has the entries of the first.
pub record ComesAt (d : Descriptor) (seat : ℕ) (store : StoreState) (m : Message) (story : List Line) (first : HoldingState)
    (last : Parts) : Type 0 where
  pub at : Parts
  pub holds : HoldsIfFit store seat m at
  pub claims : ClaimsAt seat (chunks_of d) story at
  pub steady : Steady d seat m at
  pub keeps : (at.holding ≡ first) ⊎ KeepsEntries (entry at.holding.book) (entry last.holding.book)
  pub grows : first.store.live ≡ true → KeepsEntries (entry first.book) (entry at.holding.book)

pub comes_behind : (d : Descriptor) (seat moment : ℕ) (store : StoreState) (m : Message) (front rest : List Message) (story : List Line)
    (first : HoldingState) (old new : Parts)
    (in_turn : InTurn seat (front ++ m ∷ rest) old new) → chunks_of d ≤ 2 ^ 20 → HoldsFitting store seat (front ++ m ∷ rest) old new in_turn
    → EachSteady d seat (front ++ m ∷ rest) old new in_turn → ClaimsAt seat (chunks_of d) story old → HasBegun first old.holding
    → ComesAt d seat store m (hear moment front story) first new
comes_behind d seat moment store m [] rest story first old new in_turn most holds steady claims begun = record {
  at = old;
  holds = holds.0;
  claims = claims;
  steady = steady.0;
  keeps = ⊎_elim (λ same. inl same) (λ live. inr (path_entries seat (m ∷ rest) old new in_turn live)) begun.begun;
  grows = λ live. (begun.later live).keeps;
}
comes_behind d seat moment store m (f ∷ front) rest story first old new in_turn most holds steady claims begun =
    comes_behind d seat moment store m front rest (Heard moment f ∷ story) first in_turn.0 new in_turn.2 most holds.1 steady.1
    (does_claims seat (chunks_of d) moment f story old in_turn.0 most steady.0.room in_turn.1 claims)
    (does_keep (HasBegun first) (λ ticket bytes claims before after puts was. record {
      begun = inr puts.live;
      later = λ live. put_later (entry first.book) ticket bytes claims before after puts (was.later live);
    }) seat f old in_turn.0 in_turn.1 begun)

-- ---- before a reply

-- what is said claims nothing
said_claims : (chunks moment : ℕ) (ms : List Message) (story : List Line)
    → traffic.claims_in chunks (say moment ms story) ≡ traffic.claims_in chunks story
said_claims chunks moment [] story = refl
said_claims chunks moment (m ∷ ms) story = said_claims chunks moment ms _

-- nor does what isn't read
unread_claims : (chunks : ℕ) (d : Descriptor) (life : Life) (moment : ℕ) (r : Record) (story : List Line)
    → traffic.claims_in chunks (with_unread d life false moment r story) ≡ traffic.claims_in chunks story
unread_claims chunks d life moment (Received at sender bytes) story = refl
unread_claims chunks d life moment (Quiet at) story = refl
unread_claims chunks d life moment (Sent at receiver bytes) story = said_claims chunks moment (said_in d life (Sent at receiver bytes)) story

-- where nothing came from the address, nothing was claimed
pub none_claimed : (chunks : ℕ) (d : Descriptor) (life : Life) (past : List Record) → some_since (comes_from life.address) 0 past ≡ false
    → traffic.claims_in chunks (proven_story d life past) ≡ []
none_claimed chunks d life [] none = refl
none_claimed chunks d life (r ∷ before) none = by (leb life.opening (length before)) refl (λ none'. none_claimed chunks d life before none')
  where
    parts : ((leb 0 (length before) && comes_from life.address r) ≡ false) × (some_since (comes_from life.address) 0 before ≡ false)
    parts = or_parts (leb 0 (length before) && comes_from life.address r) (some_since (comes_from life.address) 0 before) none

    apart : comes_from life.address r ≡ false
    apart = ap (λ b. b && comes_from life.address r) (sym (le-leb 0 (length before) (omega arith))) ∙ parts.0

    elsewhere : comes_on d life r ≡ false
    elsewhere = ap (λ b. b && is_number life.local (read d r).channel) apart

    by : (b : Bool) → leb life.opening (length before) ≡ b
        → (some_since (comes_from life.address) 0 before ≡ false → traffic.claims_in chunks (proven_story d life before) ≡ [])
        → traffic.claims_in chunks (proven_story d life (r ∷ before)) ≡ []
    by true e sofar = rw (elsewhere, e) (unread_claims chunks d life (now (r ∷ before)) r (proven_story d life before) ∙ sofar parts.1)
    by false e sofar = rw e refl
