-- Chunks that other peers offered are among the offers of their seats, when something came.
use Rattle.std.proofs.Common.{◌≡◌, ◌⊎◌, inl, inr, ⊎_elim, ℕ, ◌<◌, ◌≤◌, leb, eqb, Bool, true, false, cond, not, ◌&&◌, Some, List, [], ◌∷◌, length, drop, refl, sym, ◌∙◌, ap, subst, arith}
use Rattle.std.specs.List.{list_any}
use Rattle.std.proofs.lemmas.Bool.{false≢true, cases_Bool, and_from, or_cases, or_left, or_right, or_parts, le-leb, leb-true}
use Rattle.pp_terms.specs.format.Descriptor.{Descriptor, chunks_of}
use Rattle.pp_terms.specs.format.Messages.{Message}
use Rattle.pp_terms.specs.format.Traffic as traffic
use Rattle.pp_terms.specs.format.Traffic.{Record, Received, Quiet, Sent}
use Rattle.pp_traffic.specs.Life.{Life, greets, comes_on}
use Rattle.pp_traffic.specs.Past.{now, read, comes_from, is_number, some_since}
use Rattle.pp_traffic.specs.Story.{Line, Heard, Taken, hear, heard_in, told}
use Rattle.pp_promises.specs.OwnSide.{has_in, is_offered}
use Rattle.pp_promises.specs.ReadStory.{is_read, with_unread, read_story}
use Rattle.pp_outside.specs.declared.link.Address.{Address}
use Rattle.pp_channels.specs.Seats.{channel_at}
use Rattle.pp_channels.specs.declared.channel.Channel.{Channel}
use Rattle.pp_lives.specs.declared.arriving.Arrival.{Arrival}
use Rattle.pp_lives.specs.declared.arriving.Arrival.TheVariants as arrivals
use Rattle.pp_peer.specs.declared.parts.Parts.{Parts}
use Rattle.pp_peer.specs.Events.{HearsArrival, HearsProven, with_channel, with_seated}
use Rattle.pp_peer.specs.Greeting.{offers_of}
use Rattle.pp_peer.specs.Standing.{size_of}
use Rattle.pp_peer.specs.Taking.{read_at}
use Rattle.pp_core.proofs.Haves.{sent_offers}
use Rattle.pp_core.proofs.Noting.{IsFetching, GrowsOn, grows_on, grows_same, on_same, reads_grow, reads_noted}

-- ---- what the story offers with one record more

heard_offers : (i at : ℕ) (ms : List Message) (story : List Line) → is_offered i (hear at ms story) ≡ true
    → (list_any (has_in i) ms ≡ true) ⊎ (is_offered i story ≡ true)
heard_offers i at [] story e = inr e
heard_offers i at (m ∷ ms) story e = ⊎_elim
    (λ behind. inl (or_right (has_in i m) (list_any (has_in i) ms) behind))
    (λ here. ⊎_elim
    (λ it. inl (or_left (has_in i m) (list_any (has_in i) ms) it))
    (λ before. inr before)
    (or_cases (has_in i m) (is_offered i story) here))
    (heard_offers i at ms (Heard at m ∷ story) e)

-- Messages of a datagram that came offer a chunk, or it was offered before.
pub received_offers : (d : Descriptor) (life : Life) (i moment : ℕ) (sender : traffic.Address) (bytes : List ℕ) (past : List Record)
    → is_offered i (read_story d life (Received moment sender bytes ∷ past)) ≡ true
    → (list_any (has_in i) (heard_in d life (eqb life.opening (length past)) (Received moment sender bytes)) ≡ true)
    ⊎ (is_offered i (read_story d life past) ≡ true)
received_offers d life i moment sender bytes past e =
    by (leb life.opening (length past)) (is_read d life (Received moment sender bytes ∷ past)) (now (Received moment sender bytes ∷ past)) e
  where
    r : Record
    r = Received moment sender bytes

    by : (from is_read : Bool) (at : ℕ)
        → is_offered i (cond from (cond is_read (told d life (eqb life.opening (length past)) at (Received moment sender bytes) (read_story d life past))
        (with_unread d life (eqb life.opening (length past)) at (Received moment sender bytes) (read_story d life past))) []) ≡ true
        → (list_any (has_in i) (heard_in d life (eqb life.opening (length past)) (Received moment sender bytes)) ≡ true)
        ⊎ (is_offered i (read_story d life past) ≡ true)
    by false is_read at e = absurd (false≢true e)
    by true true at e =
        heard_offers i at (heard_in d life (eqb life.opening (length past)) (Received moment sender bytes)) (read_story d life past) e
    by true false at e = inr e

pub quiet_offers : (d : Descriptor) (life : Life) (i moment : ℕ) (past : List Record) → is_offered i (read_story d life (Quiet moment ∷ past)) ≡ true
    → is_offered i (read_story d life past) ≡ true
quiet_offers d life i moment past e = by (leb life.opening (length past)) (is_read d life (Quiet moment ∷ past)) e
  where
    by : (from is_read : Bool)
        → is_offered i (cond from (cond is_read (Taken (now (Quiet moment ∷ past)) ∷ read_story d life past)
        (Taken (now (Quiet moment ∷ past)) ∷ read_story d life past)) []) ≡ true → is_offered i (read_story d life past) ≡ true
    by false is_read e = absurd (false≢true e)
    by true true e = e
    by true false e = e

-- a life that hasn't begun has no story
pub unbegun_offers : (d : Descriptor) (life : Life) (i : ℕ) (past : List Record) → length past ≤ life.opening
    → is_offered i (read_story d life past) ≡ true → ⊥
unbegun_offers d life i [] le e = false≢true e
unbegun_offers d life i (r ∷ past) le e = ⊎_elim
    (λ from. let low = leb-true life.opening (length past) from in omega (arith, low, le))
    (λ none. by (leb life.opening (length past)) none e)
    (cases_Bool (leb life.opening (length past)))
  where
    by : (from : Bool) → from ≡ false
        → is_offered i (cond from (cond (is_read d life (r ∷ past)) (told d life (eqb life.opening (length past)) (now (r ∷ past)) r (read_story d life past))
        (with_unread d life (eqb life.opening (length past)) (now (r ∷ past)) r (read_story d life past))) []) ≡ true → ⊥
    by true none e = false≢true (sym none)
    by false none e = false≢true e

-- where the life was begun before, the datagram came on it
pub heard_since : (d : Descriptor) (life : Life) (i : ℕ) (r : Record) (opening : Bool) → opening ≡ false
    → list_any (has_in i) (heard_in d life opening r) ≡ true → (comes_on d life r ≡ true) × (list_any (has_in i) (read d r).messages.read ≡ true)
heard_since d life i r true none e = absurd (false≢true (sym none))
heard_since d life i r false none e = by (comes_on d life r) e
  where
    by : (b : Bool) → list_any (has_in i) (cond b (read d r).messages.read []) ≡ true
        → (b ≡ true) × (list_any (has_in i) (read d r).messages.read ≡ true)
    by true e = (refl, e)
    by false e = absurd (false≢true e)

-- where the datagram opens it, those behind the handshake are heard
pub heard_opening : (d : Descriptor) (life : Life) (i : ℕ) (r : Record) (opening : Bool) → opening ≡ true → life.is_dialled ≡ false
    → greets d life r ≡ true → list_any (has_in i) (heard_in d life opening r) ≡ true
    → list_any (has_in i) (drop 1 (read d r).messages.read) ≡ true
heard_opening d life i r false some answered greet e = absurd (false≢true some)
heard_opening d life i r true some answered greet e = by (not life.is_dialled && greets d life r)
    (and_from (not life.is_dialled) (greets d life r) (ap not answered) greet) e
  where
    by : (b : Bool) → b ≡ true
        → list_any (has_in i) (cond b (drop 1 (read d r).messages.read) (cond (comes_on d life r) (read d r).messages.read [])) ≡ true
        → list_any (has_in i) (drop 1 (read d r).messages.read) ≡ true
    by true is e = e
    by false is e = absurd (false≢true is)

-- where nothing came from the address, nothing is offered
pub none_offered : (d : Descriptor) (life : Life) (i : ℕ) (past : List Record) → life.is_dialled ≡ true
    → some_since (comes_from life.address) 0 past ≡ false → is_offered i (read_story d life past) ≡ true → ⊥
none_offered d life i [] dialled none e = false≢true e
none_offered d life i (Quiet moment ∷ past) dialled none e =
    none_offered d life i past dialled (or_parts (leb 0 (length past) && false) (some_since (comes_from life.address) 0 past) none).1
    (quiet_offers d life i moment past e)
none_offered d life i (Sent moment receiver bytes ∷ past) dialled none e =
    none_offered d life i past dialled (or_parts (leb 0 (length past) && false) (some_since (comes_from life.address) 0 past) none).1
    (sent_offers d life i moment receiver bytes past e)
none_offered d life i (Received moment sender bytes ∷ past) dialled none e = ⊎_elim
    (λ here. heard (eqb life.opening (length past)) here)
    (λ before. none_offered d life i past dialled parts.1 before)
    (received_offers d life i moment sender bytes past e)
  where
    r : Record
    r = Received moment sender bytes

    parts : ((leb 0 (length past) && comes_from life.address r) ≡ false) × (some_since (comes_from life.address) 0 past ≡ false)
    parts = or_parts (leb 0 (length past) && comes_from life.address r) (some_since (comes_from life.address) 0 past) none

    apart : comes_from life.address r ≡ false
    apart = ap (λ (b : Bool). b && comes_from life.address r) (sym (le-leb 0 (length past) (omega arith))) ∙ parts.0

    elsewhere : comes_on d life r ≡ false
    elsewhere = ap (λ (b : Bool). b && is_number life.local (read d r).channel) apart

    by : (x y z : Bool) → x ≡ true → z ≡ false
        → list_any (has_in i) (cond ((y && not x) && greets d life r) (drop 1 (read d r).messages.read) (cond z (read d r).messages.read [])) ≡ true → ⊥
    by true true false is none e = false≢true e
    by true false false is none e = false≢true e
    by true y true is none e = false≢true (sym none)
    by false y z is none e = false≢true is

    heard : (opening : Bool) → list_any (has_in i) (heard_in d life opening r) ≡ true → ⊥
    heard opening e = by life.is_dialled opening (comes_on d life r) dialled elsewhere e

-- ---- what becomes of the offers

proven_grows : (sender : Address) (bare : Bool) (seat : ℕ) (bytes : List ℕ) (old new : Parts) → HearsProven sender bare seat bytes old new
    → GrowsOn old new
proven_grows sender bare seat bytes old new p =
    on_same old p.mid new (ap (λ (x : Parts). x.fetching) p.hears.rest) (ap (λ (x : Parts). x.seats.table) p.hears.rest)
    (reads_grow seat p.mid.seats.descriptor bytes 4 p.mid new p.reads)

pub arrival_grows : (a : Arrival) (sender : Address) (bytes : List ℕ) (slot : Bool) (old new : Parts) → HearsArrival a sender bytes slot old new
    → GrowsOn old new
arrival_grows (arrivals.Opened seat next) sender bytes slot old new h =
    on_same old (with_channel false seat bytes (with_seated slot seat old)) new refl refl
    (reads_grow seat old.seats.descriptor bytes next (with_channel false seat bytes (with_seated slot seat old)) new h)
arrival_grows (arrivals.Replied seat) sender bytes slot old new h =
    on_same old (with_channel true seat bytes (with_seated slot seat old)) new refl refl
    (proven_grows sender false seat bytes (with_channel true seat bytes (with_seated slot seat old)) new h)
arrival_grows (arrivals.Heard seat) sender bytes slot old new h = proven_grows sender (eqb (length bytes) 4) seat bytes old new h
arrival_grows _ sender bytes slot old new h = grows_on old new (grows_same old new h)

-- Where a peer fetches, and a seat has a channel afterwards, each chunk that the messages offer which are heard there is noted.
abbrev pub Notes : (chunks seat : ℕ) → List Message → Parts → Parts → Type 0
Notes chunks seat ms old new = IsFetching chunks old → (c : Channel) → channel_at new.seats.table seat ≡ Some c → (i : ℕ) → i < chunks
    → list_any (has_in i) ms ≡ true → offers_of new.fetching seat i ≡ true

fetching_same : (chunks : ℕ) (old mid : Parts) → mid.fetching ≡ old.fetching → mid.holding.store.descriptor ≡ old.holding.store.descriptor
    → IsFetching chunks old → IsFetching chunks mid
fetching_same chunks old mid fetching swarm f = record { size = ap size_of fetching ∙ f.size; swarm = ap chunks_of swarm ∙ f.swarm }

proven_notes : (chunks : ℕ) (sender : Address) (bare : Bool) (seat : ℕ) (bytes : List ℕ) (old new : Parts)
    → HearsProven sender bare seat bytes old new → Notes chunks seat (read_at old.seats.descriptor bytes 4) old new
proven_notes chunks sender bare seat bytes old new p f c there i low is =
    reads_noted chunks seat i p.mid.seats.descriptor bytes 4 p.mid new p.reads
    (fetching_same chunks old p.mid (ap (λ (x : Parts). x.fetching) p.hears.rest) (ap (λ (x : Parts). x.holding.store.descriptor) p.hears.rest) f)
    low c there
    (ap (λ (x : Parts). list_any (has_in i) (read_at x.seats.descriptor bytes 4)) p.hears.rest ∙ is)

pub heard_notes : (chunks seat : ℕ) (a : Arrival) (sender : Address) (bytes : List ℕ) (slot : Bool) (old new : Parts)
    → HearsArrival a sender bytes slot old new → a ≡ arrivals.Heard seat → Notes chunks seat (read_at old.seats.descriptor bytes 4) old new
heard_notes chunks seat (arrivals.Heard k) sender bytes slot old new h e =
    let same : k ≡ seat = cc in
    subst (λ (n : ℕ). Notes chunks n (read_at old.seats.descriptor bytes 4) old new) same
    (proven_notes chunks sender (eqb (length bytes) 4) k bytes old new h)
heard_notes chunks seat a sender bytes slot old new h e = absurd cc

pub replied_notes : (chunks seat : ℕ) (a : Arrival) (sender : Address) (bytes : List ℕ) (slot : Bool) (old new : Parts)
    → HearsArrival a sender bytes slot old new → a ≡ arrivals.Replied seat → Notes chunks seat (read_at old.seats.descriptor bytes 4) old new
replied_notes chunks seat (arrivals.Replied k) sender bytes slot old new h e =
    let same : k ≡ seat = cc in
    subst (λ (n : ℕ). Notes chunks n (read_at old.seats.descriptor bytes 4) old new) same
    (λ f c there i low is. proven_notes chunks sender false k bytes (with_channel true k bytes (with_seated slot k old)) new h
    (fetching_same chunks old (with_channel true k bytes (with_seated slot k old)) refl refl f) c there i low is)
replied_notes chunks seat a sender bytes slot old new h e = absurd cc

pub opened_notes : (chunks seat next : ℕ) (a : Arrival) (sender : Address) (bytes : List ℕ) (slot : Bool) (old new : Parts)
    → HearsArrival a sender bytes slot old new → a ≡ arrivals.Opened seat next
    → Notes chunks seat (read_at old.seats.descriptor bytes next) old new
opened_notes chunks seat next (arrivals.Opened k behind) sender bytes slot old new h e =
    let same : k ≡ seat = cc in
    let at : behind ≡ next = cc in
    subst (λ (m : ℕ). Notes chunks seat (read_at old.seats.descriptor bytes m) old new) at
    (subst (λ (n : ℕ). Notes chunks n (read_at old.seats.descriptor bytes behind) old new) same
    (λ f c there i low is. reads_noted chunks k i old.seats.descriptor bytes behind (with_channel false k bytes (with_seated slot k old)) new h
    (fetching_same chunks old (with_channel false k bytes (with_seated slot k old)) refl refl f) low c there is))
opened_notes chunks seat next a sender bytes slot old new h e = absurd cc
