-- A flush asks for no chunk beyond the limit of a fetch.
use Rattle.std.proofs.Common.{◌≡◌, ℕ, ◌+◌, ◌*◌, ◌^◌, ◌<◌, ◌≤◌, leb, Bool, true, false, ◌&&◌, ◌||◌, Option, Some, None, List, [], ◌∷◌, ◌++◌, map, refl, sym, ◌∙◌, ap, subst, arith}
use Rattle.std.specs.List.{AllByRecursion, list_any}
use Rattle.std.proofs.lemmas.Bool.{and_parts, leb-false, le-leb, lt-leb, ltb-true, or_left, or_right}
use Rattle.std.proofs.lemmas.Option.{same_Some}
use Rattle.pp_terms.specs.disk.Disk.{DiskState}
use Rattle.pp_terms.specs.format.Descriptor.{Descriptor, Method, Bin32, Range32, Bin64, Range64}
use Rattle.pp_terms.specs.format.Messages as plain
use Rattle.pp_terms.specs.format.Messages.{Message}
use Rattle.pp_terms.specs.format.Traffic.{Record, Received, Quiet, Sent, LinkState}
use Rattle.pp_terms.specs.tree.Book.{LookUp}
use Rattle.pp_terms.specs.tree.Range.{Span, within, has, leaves_of, IsRunsFrom, IsTiling}
use Rattle.pp_terms.specs.tree.Tree.{Node}
use Rattle.pp_traffic.specs.Past.{read}
use Rattle.pp_outside.specs.declared.link.Address.{Address}
use Rattle.pp_avail.specs.declared.ranker.Rank.{Rank}
use Rattle.pp_draft.specs.Datagrams.{delivery}
use Rattle.pp_draft.specs.Notes.{AreNames, NamesRange}
use Rattle.pp_draft.specs.declared.note.Note.{Note}
use Rattle.pp_draft.specs.declared.note.Note.TheVariants.{KeepAlive, Handshake, Close, Choke, Unchoke, Ack, Have, Request, Cancel, PexReq, Pex4, Pex6}
use Rattle.pp_fetching.specs.Fetching.{FetchState}
use Rattle.pp_seat.specs.Seats.{SeatState}
use Rattle.pp_news.specs.declared.acknowledgement.Acknowledgement.{Acknowledgement}
use Rattle.pp_agenda.specs.Agendas.{ack_note, have_note, cancel_note, address_note, parts_below, spoken_notes, IsAgenda}
use Rattle.pp_agenda.specs.declared.agenda.Due.{Due}
use Rattle.pp_agenda.proofs.Parts.{all_same, all_turned, kept, OfEach, all_spoken, address_is}
use Rattle.pp_peer.specs.Speaking.{PicksFrom}
use Rattle.pp_core.specs.Offering.{limit_of, reaches, requests_from, RequestsBelow}
use Rattle.pp_core.specs.Peers.{PeerState}
use Rattle.pp_core.specs.Promising.{AsksBelow}
use Rattle.pp_core.specs.Turning.{scene, Sends}
use Rattle.pp_core.proofs.Limits.{SameLimit, limit_kept, back_limit, turned_limit}
use Rattle.pp_core.proofs.Rounds.{turn_kept}
use Rattle.pp_core.proofs.Saying.{IsUnsaid, flush_says_none}
use Rattle.pp_core.proofs.Unsaid.{IsTest, IsNotIn, IsNotRead}

-- ---- messages

or_same : (a b c : Bool) → (a || (b || c)) ≡ ((a || b) || c)
or_same true b c = refl
or_same false b c = refl

reaches_split : (n : ℕ) (ms more : List Message) → reaches n (ms ++ more) ≡ (reaches n ms || reaches n more)
reaches_split n [] more = refl
reaches_split n (plain.Handshake source options ∷ ms) more = reaches_split n ms more
reaches_split n (plain.Data chunk sent_at bytes ∷ ms) more = reaches_split n ms more
reaches_split n (plain.Ack span delay ∷ ms) more = reaches_split n ms more
reaches_split n (plain.Have span ∷ ms) more = reaches_split n ms more
reaches_split n (plain.Integrity span digest ∷ ms) more = reaches_split n ms more
reaches_split n (plain.Pex4 address port ∷ ms) more = reaches_split n ms more
reaches_split n (plain.PexReq ∷ ms) more = reaches_split n ms more
reaches_split n (plain.Request span ∷ ms) more =
    ap (λ (x : Bool). leb n span.last || x) (reaches_split n ms more) ∙ or_same (leb n span.last) (reaches n ms) (reaches n more)
reaches_split n (plain.Cancel span ∷ ms) more = reaches_split n ms more
reaches_split n (plain.Choke ∷ ms) more = reaches_split n ms more
reaches_split n (plain.Unchoke ∷ ms) more = reaches_split n ms more
reaches_split n (plain.Pex6 address port ∷ ms) more = reaches_split n ms more

delivery_reaches : (n : ℕ) (book : LookUp) (nodes : List Node) (chunk sent_at : ℕ) (bytes : List ℕ)
    → reaches n (delivery book nodes chunk sent_at bytes) ≡ false
delivery_reaches n book [] chunk sent_at bytes = refl
delivery_reaches n book (x ∷ nodes) chunk sent_at bytes = delivery_reaches n book nodes chunk sent_at bytes

reaches_test : (d : Descriptor) (n : ℕ) → IsTest d (reaches n)
reaches_test d n = record {
  none = refl;
  split = reaches_split n;
  greeting = λ source some. refl;
  chunk = delivery_reaches n;
}

-- ---- notes

-- A note asks for chunks below a number alone.
abbrev IsBelow : ℕ → Note → Type 0
IsBelow n (Request range) = range.last < n
IsBelow n _ = Unit {0}

named_none : (n : ℕ) (method : Method) (range : Span) (make : Span → Message) (ms : List Message)
    → ((s : Span) (more : List Message) → reaches n (make s ∷ more) ≡ reaches n more) → NamesRange method range make ms → reaches n ms ≡ false
named_none n method range make ms passes r = ap (reaches n) r.messages ∙ all r.spans
  where
    all : (spans : List Span) → reaches n (map make spans) ≡ false
    all [] = refl
    all (s ∷ spans) = passes s (map make spans) ∙ all spans

-- the nodes that tile a range end in it
tiles_end : (from end : ℕ) (nodes : List Node) → IsTiling from end nodes → from ≤ end
tiles_end from end [] t = omega (arith, t)
tiles_end from end (x ∷ xs) t = let more = tiles_end (from + 2 ^ x.layer) end xs t.1 in omega (arith, more)

tiles_below : (n from end : ℕ) (nodes : List Node) → IsTiling from end nodes → end ≤ n → 0 < n
    → AllByRecursion (λ (s : Span). s.last < n) (map leaves_of nodes)
tiles_below n from end [] t le some = tt
tiles_below n from end (x ∷ xs) t le some =
    let more = tiles_end (from + 2 ^ x.layer) end xs t.1 in
    let here : (x.offset + 1) * 2 ^ x.layer ≡ from + 2 ^ x.layer = next x.offset (2 ^ x.layer) ∙ ap (λ (m : ℕ). m + 2 ^ x.layer) t.0 in
    (omega (arith, here, more, le, some), tiles_below n (from + 2 ^ x.layer) end xs t.1 le some)
  where
    next : (a b : ℕ) → (a + 1) * b ≡ a * b + b
    next a b = omega arith

names_below : (n : ℕ) (method : Method) (range : Span) (spans : List Span) → AreNames method range spans → range.last < n
    → AllByRecursion (λ (s : Span). s.last < n) spans
names_below n Bin32 range spans names low =
    subst (λ (xs : List Span). AllByRecursion (λ (s : Span). s.last < n) xs) (sym names.leaves)
    (tiles_below n range.first (range.last + 1) names.nodes names.cover.tiles (omega (arith, low)) (omega (arith, low)))
names_below n Range32 range spans names low = subst (λ (xs : List Span). AllByRecursion (λ (s : Span). s.last < n) xs) (sym names) (low, tt)
names_below n Bin64 range spans names low =
    subst (λ (xs : List Span). AllByRecursion (λ (s : Span). s.last < n) xs) (sym names.leaves)
    (tiles_below n range.first (range.last + 1) names.nodes names.cover.tiles (omega (arith, low)) (omega (arith, low)))
names_below n Range64 range spans names low = subst (λ (xs : List Span). AllByRecursion (λ (s : Span). s.last < n) xs) (sym names) (low, tt)

asked_none : (n : ℕ) (spans : List Span) → AllByRecursion (λ (s : Span). s.last < n) spans → reaches n (map (λ span. plain.Request span) spans) ≡ false
asked_none n [] all = refl
asked_none n (s ∷ spans) all = λ i. lt-leb n s.last all.0 i || asked_none n spans all.1 i

note_below : (d : Descriptor) (n : ℕ) (note : Note) → IsBelow n note → IsNotIn d (reaches n) note
note_below d n KeepAlive is ms said = ap (reaches n) said
note_below d n (Handshake source) is ms said = ap (reaches n) said
note_below d n Close is ms said = ap (reaches n) said
note_below d n Choke is ms said = ap (reaches n) said
note_below d n Unchoke is ms said = ap (reaches n) said
note_below d n (Ack range delay) is ms said = named_none n d.method range (λ span. plain.Ack span delay) ms (λ s more. refl) said
note_below d n (Have range) is ms said = named_none n d.method range (λ span. plain.Have span) ms (λ s more. refl) said
note_below d n (Request range) is ms said =
    ap (reaches n) said.messages ∙ asked_none n said.spans (names_below n d.method range said.spans said.names is)
note_below d n (Cancel range) is ms said = named_none n d.method range (λ span. plain.Cancel span) ms (λ s more. refl) said
note_below d n PexReq is ms said = ap (reaches n) said
note_below d n (Pex4 address port) is ms said = ap (reaches n) said
note_below d n (Pex6 address port) is ms said = ap (reaches n) said

-- ---- an agenda

notes_below : (n : ℕ) (s : SeatState) (due : Due) (rows cancels : List Span) → AllByRecursion (λ (x : Span). x.last < n) due.requests.now
    → OfEach (IsBelow n) s due rows cancels
notes_below n s due rows cancels low = record {
  choke = tt;
  unchoke = tt;
  acks = all_same (λ (x : Acknowledgement). IsBelow n (ack_note x)) due.acknowledgements.now (λ x. tt);
  news = all_same (λ (x : Span). IsBelow n (have_note x)) (parts_below s.cursor due.news.now) (λ x. tt);
  told = all_same (λ (x : Span). IsBelow n (have_note x)) rows (λ x. tt);
  asked = low;
  dropped = all_same (λ (x : Span). IsBelow n (cancel_note x)) cancels (λ x. tt);
  question = tt;
  answers = all_same (λ (x : Address). IsBelow n (address_note x)) due.addresses.now (address_is (IsBelow n) (λ b p. tt) (λ b p. tt));
}

agenda_below : (n : ℕ) (s : SeatState) (due : Due) (agenda : List Note) → IsAgenda s due agenda
    → AllByRecursion (λ (x : Span). x.last < n) due.requests.now → AllByRecursion (IsBelow n) agenda
agenda_below n s due agenda g low = subst (λ (ns : List Note). AllByRecursion (IsBelow n) ns) (sym g.is)
    (kept (AllByRecursion (IsBelow n)) _ (spoken_notes s due g.rows g.cancels) (tt, tt)
    (all_spoken (IsBelow n) s due g.rows g.cancels (notes_below n s due g.rows g.cancels low)))

-- ---- what is picked

runs_below : (n from : ℕ) (xs : List Span) → IsRunsFrom from xs → ((i : ℕ) → has xs i ≡ true → i < n)
    → AllByRecursion (λ (x : Span). x.last < n) xs
runs_below n from [] runs low = tt
runs_below n from (x ∷ xs) runs low = (
  low x.last (or_left (within x x.last) (has xs x.last) (λ i. le-leb x.first x.last runs.1 i && le-leb x.last x.last (omega arith) i)),
  runs_below n (x.last + 2) xs runs.2 (λ i at. low i (or_right (within x i) (has xs i) at)),
)

picks_below : (may : Bool) (order : Rank) (seat room n : ℕ) (picks : List Span) (old new : Option FetchState)
    → PicksFrom may order seat room picks old new → limit_of old ≡ Some n → AllByRecursion (λ (x : Span). x.last < n) picks
picks_below true order seat room n picks (Some old) new p is =
    runs_below n 0 picks p.3.runs (λ i at.
    let wanted = and_parts _ _ (p.3.wanted i at) in
    let low = ltb-true i old.want.limit (and_parts _ _ (and_parts _ _ (and_parts _ _ wanted.0).0).0).1 in
    let same = same_Some old.want.limit n is in
    omega (arith, low, same))
picks_below true order seat room n picks None new p is =
    subst (λ (xs : List Span). AllByRecursion (λ (x : Span). x.last < n) xs) (sym p.0) tt
picks_below false order seat room n picks old new p is =
    subst (λ (xs : List Span). AllByRecursion (λ (x : Span). x.last < n) xs) (sym p.0) tt

-- ---- a flush

none_reached : (d : Descriptor) (n : ℕ) → IsUnsaid d (reaches n) (λ p. limit_of p.fetching ≡ Some n)
none_reached d n = record {
  kept = λ seat refused speaker left a b turn is. turn_kept SameLimit limit_kept seat refused speaker left a b turn ∙ is;
  notes = λ seat refused far greets speaker left a b s is.
      let to = s.speaks in
      let f = to.fills in
      let low = picks_below _ speaker.order seat to.are_picked.room n to.picks s.back.fetching to.picked.fetching to.are_picked.picks_from
      (back_limit seat greets speaker.news.ranges a.parts s.back s.sets_back ∙ is) in
      all_turned (IsBelow n) (IsNotIn d (reaches n)) left.agenda (note_below d n)
      (agenda_below n f.known f.due left.agenda f.agenda
      (subst (λ (xs : List Span). AllByRecursion (λ (x : Span). x.last < n) xs) (sym f.asked_for) low));
}

reaching_read : (d : Descriptor) (n : ℕ) (r : Record) → IsNotRead d (reaches n) r → requests_from d n r ≡ false
reaching_read d n (Received at sender bytes) none = refl
reaching_read d n (Quiet at) none = refl
reaching_read d n (Sent moment receiver bytes) none = none

none_requests : (d : Descriptor) (n : ℕ) (rs : List Record) → AllByRecursion (IsNotRead d (reaches n)) rs → RequestsBelow d n rs
none_requests d n [] all = refl
none_requests d n (r ∷ rs) all = λ i. reaching_read d n r all.0 i || none_requests d n rs all.1 i

-- Where the link tells, each REQUEST that a flush adds lies below the limit.
pub flush_asks_below : (refused : ℕ) (old new : PeerState) (link later : LinkState) (disk left : DiskState)
    → (course : Sends refused old new link later disk left) → AsksBelow (scene old.parts link disk) course.flushes.added
flush_asks_below refused old new link later disk left course b most past before n stands tells is =
    none_requests b.d n course.flushes.added
    (flush_says_none refused old new link later disk left course b most past before stands tells (reaches n) (reaches_test b.d n)
    (λ p. limit_of p.fetching ≡ Some n) (none_reached b.d n)
    (turned_limit old.dials new.dials old.speaker new.speaker refused (scene old.parts link disk) (scene course.sent later left) course.sends ∙ is))

-- ---- more records

-- what lies below a number lies below a greater one
pub reaches_less : (n m : ℕ) (ms : List Message) → n ≤ m → reaches n ms ≡ false → reaches m ms ≡ false
reaches_less n m [] le none = refl
reaches_less n m (plain.Handshake source options ∷ ms) le none = reaches_less n m ms le none
reaches_less n m (plain.Data chunk sent_at bytes ∷ ms) le none = reaches_less n m ms le none
reaches_less n m (plain.Ack span delay ∷ ms) le none = reaches_less n m ms le none
reaches_less n m (plain.Have span ∷ ms) le none = reaches_less n m ms le none
reaches_less n m (plain.Integrity span digest ∷ ms) le none = reaches_less n m ms le none
reaches_less n m (plain.Pex4 address port ∷ ms) le none = reaches_less n m ms le none
reaches_less n m (plain.PexReq ∷ ms) le none = reaches_less n m ms le none
reaches_less n m (plain.Request span ∷ ms) le none = of (leb n span.last) refl none (λ rest. reaches_less n m ms le rest)
  where
    of : (x : Bool) → leb n span.last ≡ x → (x || reaches n ms) ≡ false → (reaches n ms ≡ false → reaches m ms ≡ false)
        → reaches m (plain.Request span ∷ ms) ≡ false
    of true is none later = absurd (let e : true ≡ false = none in cc)
    of false is none later = λ i. lt-leb m span.last (let low = leb-false n span.last is in omega (arith, low, le)) i || later none i
reaches_less n m (plain.Cancel span ∷ ms) le none = reaches_less n m ms le none
reaches_less n m (plain.Choke ∷ ms) le none = reaches_less n m ms le none
reaches_less n m (plain.Unchoke ∷ ms) le none = reaches_less n m ms le none
reaches_less n m (plain.Pex6 address port ∷ ms) le none = reaches_less n m ms le none

pub requests_less : (d : Descriptor) (n m : ℕ) (rs : List Record) → n ≤ m → RequestsBelow d n rs → RequestsBelow d m rs
requests_less d n m [] le none = refl
requests_less d n m (r ∷ rs) le none =
    let both = or_none (requests_from d n r) (list_any (requests_from d n) rs) none in
    λ i. one r both.0 i || requests_less d n m rs le both.1 i
  where
    or_none : (a b : Bool) → (a || b) ≡ false → (a ≡ false) × (b ≡ false)
    or_none true b e = absurd (let x : true ≡ false = e in cc)
    or_none false b e = (refl, e)

    one : (r : Record) → requests_from d n r ≡ false → requests_from d m r ≡ false
    one (Received at sender bytes) e = refl
    one (Quiet at) e = refl
    one (Sent moment receiver bytes) e = reaches_less n m (read d (Sent moment receiver bytes)).messages.read le e
