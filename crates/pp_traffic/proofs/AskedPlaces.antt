-- Requests and chokes in words by places.
use Rattle.std.proofs.Common.{◌≡◌, ⊎_elim, ℕ, eqb, true, not, ◌&&◌, List, [], ◌∷◌, ◌++◌, refl, sym, ap, subst}
use Rattle.std.proofs.lemmas.Bool.{and_parts, and_from, or_cases, or_left, or_right, not-true, not_from_false, eqb-false, ne_eqb}
use Rattle.std.specs.List.{AllByRecursion}
use Rattle.pp_terms.specs.format.Messages.{Handshake, Data, Ack, Have, Integrity, Pex4, PexReq, Request, Cancel, Choke, Unchoke, Pex6}
use Rattle.pp_terms.specs.tree.Range.{Span, within}
use Rattle.pp_traffic.specs.Story.{Line, Heard, Said, Taken}
use Rattle.pp_traffic.specs.Asking.{choked, asked}
use Rattle.pp_traffic.specs.Places.{LeavesOpen, IsAskedByPlaces, LeavesChoked, IsChokedByPlaces, AskedByPlaces, ChokedByPlaces}

-- a line that leaves a request open, before an older one
older : (i : ℕ) (line : Line) (story : List Line) → LeavesOpen i line → IsAskedByPlaces i story → IsAskedByPlaces i (line ∷ story)
older i line story leaves by = record {
  after = line ∷ by.after;
  now = by.now;
  span = by.span;
  before = by.before;
  split = ap (λ (xs : List Line). line ∷ xs) by.split;
  covered = by.covered;
  unchoked = by.unchoked;
  since = (leaves, by.since);
}

fresh : (i now : ℕ) (span : Span) (story : List Line) → (within span i && not (choked story)) ≡ true → IsAskedByPlaces i (Heard now (Request span) ∷ story)
fresh i now span story e =
    let parts = and_parts (within span i) (not (choked story)) e in
    record { after = []; now = now; span = span; before = story; split = refl; covered = parts.0; unchoked = not-true (choked story) parts.1; since = tt }

asked_places : (i : ℕ) (story : List Line) → asked i story ≡ true → IsAskedByPlaces i story
asked_places i [] e = absurd cc
asked_places i (Heard now (Handshake source options) ∷ story) e = older i _ story tt (asked_places i story e)
asked_places i (Heard now (Data chunk sent_at bytes) ∷ story) e = older i _ story tt (asked_places i story e)
asked_places i (Heard now (Ack span delay) ∷ story) e = older i _ story tt (asked_places i story e)
asked_places i (Heard now (Have span) ∷ story) e = older i _ story tt (asked_places i story e)
asked_places i (Heard now (Integrity span digest) ∷ story) e = older i _ story tt (asked_places i story e)
asked_places i (Heard now (Pex4 address port) ∷ story) e = older i _ story tt (asked_places i story e)
asked_places i (Heard now PexReq ∷ story) e = older i _ story tt (asked_places i story e)
asked_places i (Heard now (Request span) ∷ story) e = ⊎_elim (λ here. fresh i now span story here) (λ before. older i _ story tt (asked_places i story before))
    (or_cases (within span i && not (choked story)) (asked i story) e)
asked_places i (Heard now (Cancel span) ∷ story) e = let parts = and_parts (not (within span i)) (asked i story) e in
    older i _ story (not-true (within span i) parts.0) (asked_places i story parts.1)
asked_places i (Heard now Choke ∷ story) e = older i _ story tt (asked_places i story e)
asked_places i (Heard now Unchoke ∷ story) e = older i _ story tt (asked_places i story e)
asked_places i (Heard now (Pex6 address port) ∷ story) e = older i _ story tt (asked_places i story e)
asked_places i (Said now (Handshake source options) ∷ story) e = older i _ story tt (asked_places i story e)
asked_places i (Said now (Data chunk sent_at bytes) ∷ story) e = let parts = and_parts (not (eqb chunk i)) (asked i story) e in
    older i _ story (eqb-false chunk i (not-true (eqb chunk i) parts.0)) (asked_places i story parts.1)
asked_places i (Said now (Ack span delay) ∷ story) e = older i _ story tt (asked_places i story e)
asked_places i (Said now (Have span) ∷ story) e = older i _ story tt (asked_places i story e)
asked_places i (Said now (Integrity span digest) ∷ story) e = older i _ story tt (asked_places i story e)
asked_places i (Said now (Pex4 address port) ∷ story) e = older i _ story tt (asked_places i story e)
asked_places i (Said now PexReq ∷ story) e = older i _ story tt (asked_places i story e)
asked_places i (Said now (Request span) ∷ story) e = older i _ story tt (asked_places i story e)
asked_places i (Said now (Cancel span) ∷ story) e = older i _ story tt (asked_places i story e)
asked_places i (Said now Choke ∷ story) e = absurd cc
asked_places i (Said now Unchoke ∷ story) e = older i _ story tt (asked_places i story e)
asked_places i (Said now (Pex6 address port) ∷ story) e = older i _ story tt (asked_places i story e)
asked_places i (Taken now ∷ story) e = older i _ story tt (asked_places i story e)

-- a request stays open behind a line that leaves it so
stays : (i : ℕ) (line : Line) (story : List Line) → LeavesOpen i line → asked i story ≡ true → asked i (line ∷ story) ≡ true
stays i (Heard now (Handshake source options)) story leaves e = e
stays i (Heard now (Data chunk sent_at bytes)) story leaves e = e
stays i (Heard now (Ack span delay)) story leaves e = e
stays i (Heard now (Have span)) story leaves e = e
stays i (Heard now (Integrity span digest)) story leaves e = e
stays i (Heard now (Pex4 address port)) story leaves e = e
stays i (Heard now PexReq) story leaves e = e
stays i (Heard now (Request span)) story leaves e = or_right (within span i && not (choked story)) (asked i story) e
stays i (Heard now (Cancel span)) story leaves e = and_from (not (within span i)) (asked i story) (not_from_false (within span i) leaves) e
stays i (Heard now Choke) story leaves e = e
stays i (Heard now Unchoke) story leaves e = e
stays i (Heard now (Pex6 address port)) story leaves e = e
stays i (Said now (Handshake source options)) story leaves e = e
stays i (Said now (Data chunk sent_at bytes)) story leaves e = and_from (not (eqb chunk i)) (asked i story) (not_from_false (eqb chunk i) (ne_eqb chunk i leaves)) e
stays i (Said now (Ack span delay)) story leaves e = e
stays i (Said now (Have span)) story leaves e = e
stays i (Said now (Integrity span digest)) story leaves e = e
stays i (Said now (Pex4 address port)) story leaves e = e
stays i (Said now PexReq) story leaves e = e
stays i (Said now (Request span)) story leaves e = e
stays i (Said now (Cancel span)) story leaves e = e
stays i (Said now Choke) story leaves e = absurd leaves
stays i (Said now Unchoke) story leaves e = e
stays i (Said now (Pex6 address port)) story leaves e = e
stays i (Taken now) story leaves e = e

asked_behind : (i : ℕ) (after story : List Line) → AllByRecursion (LeavesOpen i) after → asked i story ≡ true → asked i (after ++ story) ≡ true
asked_behind i [] story all e = e
asked_behind i (line ∷ after) story all e = stays i line (after ++ story) all.0 (asked_behind i after story all.1 e)

places_asked : (i : ℕ) (story : List Line) → IsAskedByPlaces i story → asked i story ≡ true
places_asked i story by = subst (λ (xs : List Line). asked i xs ≡ true) (sym by.split)
    (asked_behind i by.after (Heard by.now (Request by.span) ∷ by.before) by.since
    (or_left (within by.span i && not (choked by.before)) (asked i by.before) (and_from (within by.span i) (not (choked by.before)) by.covered (not_from_false (choked by.before) by.unchoked))))

pub asked_by_places : AskedByPlaces
asked_by_places i story = (asked_places i story, places_asked i story)

-- a choke goes on behind a line that leaves it so
still : (line : Line) (story : List Line) → LeavesChoked line → IsChokedByPlaces story → IsChokedByPlaces (line ∷ story)
still line story leaves by = record {
  after = line ∷ by.after;
  now = by.now;
  before = by.before;
  split = ap (λ (xs : List Line). line ∷ xs) by.split;
  since = (leaves, by.since);
}

choked_places : (story : List Line) → choked story ≡ true → IsChokedByPlaces story
choked_places [] e = absurd cc
choked_places (Heard now m ∷ story) e = still _ story tt (choked_places story e)
choked_places (Said now (Handshake source options) ∷ story) e = still _ story tt (choked_places story e)
choked_places (Said now (Data chunk sent_at bytes) ∷ story) e = still _ story tt (choked_places story e)
choked_places (Said now (Ack span delay) ∷ story) e = still _ story tt (choked_places story e)
choked_places (Said now (Have span) ∷ story) e = still _ story tt (choked_places story e)
choked_places (Said now (Integrity span digest) ∷ story) e = still _ story tt (choked_places story e)
choked_places (Said now (Pex4 address port) ∷ story) e = still _ story tt (choked_places story e)
choked_places (Said now PexReq ∷ story) e = still _ story tt (choked_places story e)
choked_places (Said now (Request span) ∷ story) e = still _ story tt (choked_places story e)
choked_places (Said now (Cancel span) ∷ story) e = still _ story tt (choked_places story e)
choked_places (Said now Choke ∷ story) e = record { after = []; now = now; before = story; split = refl; since = tt }
choked_places (Said now Unchoke ∷ story) e = absurd cc
choked_places (Said now (Pex6 address port) ∷ story) e = still _ story tt (choked_places story e)
choked_places (Taken now ∷ story) e = still _ story tt (choked_places story e)

goes_on : (line : Line) (story : List Line) → LeavesChoked line → choked story ≡ true → choked (line ∷ story) ≡ true
goes_on (Heard now m) story leaves e = e
goes_on (Said now (Handshake source options)) story leaves e = e
goes_on (Said now (Data chunk sent_at bytes)) story leaves e = e
goes_on (Said now (Ack span delay)) story leaves e = e
goes_on (Said now (Have span)) story leaves e = e
goes_on (Said now (Integrity span digest)) story leaves e = e
goes_on (Said now (Pex4 address port)) story leaves e = e
goes_on (Said now PexReq) story leaves e = e
goes_on (Said now (Request span)) story leaves e = e
goes_on (Said now (Cancel span)) story leaves e = e
goes_on (Said now Choke) story leaves e = refl
goes_on (Said now Unchoke) story leaves e = absurd leaves
goes_on (Said now (Pex6 address port)) story leaves e = e
goes_on (Taken now) story leaves e = e

choked_behind : (after story : List Line) → AllByRecursion LeavesChoked after → choked story ≡ true → choked (after ++ story) ≡ true
choked_behind [] story all e = e
choked_behind (line ∷ after) story all e = goes_on line (after ++ story) all.0 (choked_behind after story all.1 e)

places_choked : (story : List Line) → IsChokedByPlaces story → choked story ≡ true
places_choked story by = subst (λ (xs : List Line). choked xs ≡ true) (sym by.split) (choked_behind by.after (Said by.now Choke ∷ by.before) by.since refl)

pub choked_by_places : ChokedByPlaces
choked_by_places story = (choked_places story, places_choked story)
