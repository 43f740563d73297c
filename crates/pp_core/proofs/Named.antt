-- Each chunk that is asked for was named by a REQUEST that was sent.
use Rattle.std.proofs.Common.{◌≡◌, ◌⊎◌, inl, inr, ⊎_elim, ℕ, leb, eqb, Bool, true, false, cond, not, Option, Some, None, List, [], ◌∷◌, ◌++◌, length, ◌<◌, ◌≤◌, arith, refl, sym, ◌∙◌, ap, subst}
use Rattle.std.specs.Prelude.{is_some, nat_lt, slice_get, slice_index_or}
use Rattle.std.specs.List.{AllByRecursion, list_any}
use Rattle.std.proofs.lemmas.Bool.{false≢true, and_parts, or_cases, or_left, or_right, eq-eqb, le-leb}
use Rattle.std.proofs.lemmas.List.{length-append}
use Rattle.pp_terms.specs.format.Descriptor.{Descriptor, chunks_of}
use Rattle.pp_terms.specs.format.Messages.{Message, Handshake, Request}
use Rattle.pp_terms.specs.format.Traffic.{Record, Received, Quiet, Sent}
use Rattle.pp_terms.specs.tree.Range.{within}
use Rattle.pp_traffic.specs.Life.{Life}
use Rattle.pp_traffic.specs.Past.{now, read, goes_to, is_number}
use Rattle.pp_traffic.specs.Story.{Line, Heard, Said, Taken, hear, say, behind, heard_in, said_in, told}
use Rattle.pp_promises.specs.Asked.{asks_for}
use Rattle.pp_promises.specs.OwnSide.{names_in, is_named}
use Rattle.pp_promises.specs.ReadStory.{is_read, with_unread, read_story}
use Rattle.pp_requests.specs.declared.asking.Asking.{Asking}
use Rattle.pp_requests.specs.Moments.{asked_at}
use Rattle.pp_channels.specs.Seats.{channel_at}
use Rattle.pp_channels.specs.declared.channel.Channel.{Channel}
use Rattle.pp_fetching.specs.Owners.{is_at, awaits, AreOwned}
use Rattle.pp_lives.specs.Fars.{far_of}
use Rattle.pp_lives.specs.Standing.{StandsAt}
use Rattle.pp_lives.specs.declared.lives.Far.{Far}
use Rattle.pp_seat.specs.Lines.{names_at, is_named_at}
use Rattle.pp_seat.specs.Seats.{SeatState}
use Rattle.pp_seats.proofs.Outgoing.{far_is}
use Rattle.pp_peer.specs.declared.parts.Parts.{Parts}
use Rattle.pp_peer.specs.Flushing.{IsOurs}
use Rattle.pp_peer.specs.Standing.{Beginning, own_at, own_in, asked_of, StandsFor}
use Rattle.pp_core.proofs.Leaving.{lives_at}

-- ---- what a story names was sent

heard_names : (i at : ℕ) (ms : List Message) (story : List Line) → is_named i (hear at ms story) ≡ is_named i story
heard_names i at [] story = refl
heard_names i at (m ∷ ms) story = heard_names i at ms (Heard at m ∷ story)

said_names : (i at : ℕ) (ms : List Message) (story : List Line) → is_named i (say at ms story) ≡ true
    → (list_any (names_in i) ms ≡ true) ⊎ (is_named i story ≡ true)
said_names i at [] story e = inr e
said_names i at (m ∷ ms) story e = ⊎_elim
    (λ behind_it. inl (or_right (names_in i m) (list_any (names_in i) ms) behind_it))
    (λ here. ⊎_elim
    (λ it. inl (or_left (names_in i m) (list_any (names_in i) ms) it))
    (λ before. inr before)
    (or_cases (names_in i m) (is_named i story) here))
    (said_names i at ms (Said at m ∷ story) e)

behind_names : (i number : ℕ) (ms : List Message) → list_any (names_in i) (behind number ms) ≡ true → list_any (names_in i) ms ≡ true
behind_names i number [] e = e
behind_names i number (m ∷ ms) e = or_right (names_in i m) (list_any (names_in i) ms) (of m (λ more. behind_names i number ms more) e)
  where
    by : (b : Bool) → (list_any (names_in i) (behind number ms) ≡ true → list_any (names_in i) ms ≡ true)
        → list_any (names_in i) (cond b ms (behind number ms)) ≡ true → list_any (names_in i) ms ≡ true
    by true more e = e
    by false more e = more e

    of : (m : Message) → (list_any (names_in i) (behind number ms) ≡ true → list_any (names_in i) ms ≡ true)
        → list_any (names_in i) (behind number (m ∷ ms)) ≡ true → list_any (names_in i) ms ≡ true
    of (Handshake source options) more e = by (eqb source number) more e
    of _ more e = more e

sent_names : (d : Descriptor) (life : Life) (r : Record) (i : ℕ) → list_any (names_in i) (said_in d life r) ≡ true
    → list_any (names_in i) (read d r).messages.read ≡ true
sent_names d life r i e = by (not (goes_to life.address r)) (is_number life.remote (read d r).channel) (is_number 0 (read d r).channel) e
  where
    ms : List Message
    ms = (read d r).messages.read

    by : (x y z : Bool) → list_any (names_in i) (cond x [] (cond y ms (cond z (behind life.local ms) []))) ≡ true → list_any (names_in i) ms ≡ true
    by true y z e = absurd (false≢true e)
    by false true z e = e
    by false false true e = behind_names i life.local ms e
    by false false false e = absurd (false≢true e)

-- A chunk that a REQUEST of what is read of a channel names was asked for.
pub names_asked : (d : Descriptor) (life : Life) (i : ℕ) (past : List Record) → is_named i (read_story d life past) ≡ true
    → list_any (asks_for d i) past ≡ true
names_asked d life i [] e = e
names_asked d life i (r ∷ past) e = ⊎_elim
    (λ here. or_left (asks_for d i r) (list_any (asks_for d i) past) here)
    (λ before. or_right (asks_for d i r) (list_any (asks_for d i) past) (names_asked d life i past before))
    (by r (leb life.opening (length past)) (is_read d life (r ∷ past)) (eqb life.opening (length past)) (now (r ∷ past)) e)
  where
    story : List Line
    story = read_story d life past

    sent : (moment at : ℕ) (receiver : _) (bytes : List ℕ) → is_named i (say at (said_in d life (Sent moment receiver bytes)) story) ≡ true
        → (asks_for d i (Sent moment receiver bytes) ≡ true) ⊎ (is_named i story ≡ true)
    sent moment at receiver bytes e = ⊎_elim
        (λ here. inl (sent_names d life (Sent moment receiver bytes) i here))
        (λ before. inr before)
        (said_names i at (said_in d life (Sent moment receiver bytes)) story e)

    by : (x : Record) (from is_read opening : Bool) (at : ℕ)
        → is_named i (cond from (cond is_read (told d life opening at x story) (with_unread d life opening at x story)) []) ≡ true
        → (asks_for d i x ≡ true) ⊎ (is_named i story ≡ true)
    by x false is_read opening at e = absurd (false≢true e)
    by (Received moment sender bytes) true true opening at e =
        inr (sym (heard_names i at (heard_in d life opening (Received moment sender bytes)) story) ∙ e)
    by (Received moment sender bytes) true false opening at e = inr e
    by (Quiet moment) true true opening at e = inr e
    by (Quiet moment) true false opening at e = inr e
    by (Sent moment receiver bytes) true true opening at e = sent moment at receiver bytes e
    by (Sent moment receiver bytes) true false opening at e = sent moment at receiver bytes e

pub named_then : (i moment : ℕ) (story : List Line) → is_named_at i moment story ≡ true → is_named i story ≡ true
named_then i moment [] e = e
named_then i moment (Heard now m ∷ story) e = named_then i moment story e
named_then i moment (Said now m ∷ story) e = ⊎_elim
    (λ here. or_left (names_in i m) (is_named i story) (of m here))
    (λ there. or_right (names_in i m) (is_named i story) (named_then i moment story there))
    (or_cases (names_at i moment now m) (is_named_at i moment story) e)
  where
    of : (m : Message) → names_at i moment now m ≡ true → names_in i m ≡ true
    of (Request span) here = (and_parts (within span i) (eqb now moment) here).0
    of _ here = absurd (false≢true here)
named_then i moment (Taken now ∷ story) e = named_then i moment story e

-- ---- what is awaited was named

-- A chunk is awaited on a seat that is there.
record IsAwaitedBy (o : Option SeatState) (i : ℕ) : Type 0 where
  state : SeatState
  there : o ≡ Some state
  moment : ℕ
  asked : asked_at state.own i ≡ Some moment

awaited_by : (o : Option SeatState) (i : ℕ) → awaits (own_at o) i ≡ true → IsAwaitedBy o i
awaited_by None i e = absurd (false≢true e)
awaited_by (Some s) i e = of (asked_at s.own i) refl e
  where
    of : (m : Option ℕ) → asked_at s.own i ≡ m → is_some m ≡ true → IsAwaitedBy (Some s) i
    of None is e = absurd (false≢true e)
    of (Some moment) is e = record { state = s; there = refl; moment = moment; asked = is }

-- What is awaited on a seat was asked for.
pub awaited_asked : (b : Beginning) (most : ℕ) (p : Parts) (past : List Record) → StandsFor b most p past → (seat i : ℕ)
    → awaits (own_in p.seats.seats seat) i ≡ true → list_any (asks_for b.d i) past ≡ true
awaited_asked b most p past stands seat i awaited = of (far_of (channel_at p.seats.table seat)) refl
  where
    by : IsAwaitedBy (slice_get p.seats.seats seat) i
    by = awaited_by (slice_get p.seats.seats seat) i awaited

    of : (o : Option Far) → far_of (channel_at p.seats.table seat) ≡ o → list_any (asks_for b.d i) past ≡ true
    of None none = absurd (false≢true (ap (λ (own : List Asking). awaits own i) (sym (stands.fetches.idle seat none)) ∙ awaited))
    of (Some far) is =
        let f = far_is (channel_at p.seats.table seat) far is in
        let l = lives_at b.d f.channel (stands.seats.lives seat) past
        (subst (λ (o : Option Channel). StandsAt b.d o (stands.seats.lives seat) past) f.there (stands.seats.standing.seated.each seat)) f.known in
        let followed = stands.seats.follow seat f.channel l.0 by.state f.there f.known l.1 by.there in
        names_asked b.d l.0 i past (named_then i by.moment (read_story b.d l.0 past)
        (and_parts (nat_lt i (chunks_of b.d)) (is_named_at i by.moment (read_story b.d l.0 past)) (followed.follows.own.named i by.moment by.asked)).1)

-- Each chunk that is noted as asked for was asked for.
pub noted_asked : (b : Beginning) (most : ℕ) (p : Parts) (past : List Record) → StandsFor b most p past → (i : ℕ)
    → slice_index_or (asked_of p.fetching) i false ≡ true → list_any (asks_for b.d i) past ≡ true
noted_asked b most p past stands i noted = of (owned.owner i) refl (sym (owned.noted i) ∙ noted)
  where
    owned : AreOwned (asked_of p.fetching) (own_in p.seats.seats)
    owned = stands.fetches.owned

    of : (o : Option ℕ) → owned.owner i ≡ o → is_some o ≡ true → list_any (asks_for b.d i) past ≡ true
    of None is e = absurd (false≢true e)
    of (Some seat) is e =
        awaited_asked b most p past stands seat i (owned.each seat i ∙ ap (is_at seat) is ∙ eq-eqb seat seat refl)

-- ---- what was named stays named

said_more : (i at : ℕ) (ms : List Message) (story : List Line) → is_named i story ≡ true → is_named i (say at ms story) ≡ true
said_more i at [] story e = e
said_more i at (m ∷ ms) story e = said_more i at ms (Said at m ∷ story) (or_right (names_in i m) (is_named i story) e)

-- What a story names it names with records more that were sent.
pub named_later : (d other : Descriptor) (life : Life) (i moment : ℕ) (rs past : List Record) → AllByRecursion (IsOurs other moment) rs
    → life.opening < length past → is_named i (read_story d life past) ≡ true → is_named i (read_story d life (rs ++ past)) ≡ true
named_later d other life i moment [] past all began e = e
named_later d other life i moment (r ∷ rs) past all began e =
    subst (λ (x : Record). is_named i (read_story d life (x ∷ (rs ++ past))) ≡ true) (sym all.0.is)
    (by (leb life.opening (length (rs ++ past))) (le-leb life.opening (length (rs ++ past)) late)
    (is_read d life (ours ∷ (rs ++ past))) (eqb life.opening (length (rs ++ past))) (now (ours ∷ (rs ++ past)))
    (named_later d other life i moment rs past all.1 began e))
  where
    ours : Record
    ours = Sent moment all.0.receiver all.0.bytes

    late : life.opening ≤ length (rs ++ past)
    late = omega (arith, began, length-append rs past)

    by : (from : Bool) → from ≡ true → (is_read opening : Bool) (at : ℕ) → is_named i (read_story d life (rs ++ past)) ≡ true
        → is_named i (cond from (cond is_read (told d life opening at ours (read_story d life (rs ++ past)))
        (with_unread d life opening at ours (read_story d life (rs ++ past)))) []) ≡ true
    by false is is_read opening at e = absurd (false≢true is)
    by true is true opening at e = said_more i at (said_in d life ours) (read_story d life (rs ++ past)) e
    by true is false opening at e = said_more i at (said_in d life ours) (read_story d life (rs ++ past)) e
