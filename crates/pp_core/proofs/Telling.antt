-- What is told on a plain channel in a flush, in the words of the promises.
use Rattle.std.proofs.Common.{◌≡◌, ◌⊎◌, inl, inr, ⊎_elim, ℕ, ◌+◌, ◌-◌, ◌<◌, ◌≤◌, leb, Bool, true, false, cond, not, Some, List, [], ◌∷◌, ◌++◌, length, refl, sym, ◌∙◌, ap, subst, arith}
use Rattle.std.specs.Prelude.{slice_get, slice_index_or}
use Rattle.std.specs.List.{AllByRecursion, list_any}
use Rattle.std.proofs.lemmas.Bool.{cases_Bool, cases_lt, both_ways, false≢true, or_right, and_from, le-leb, eq-eqb}
use Rattle.pp_terms.specs.Count.{HasRisen}
use Rattle.pp_terms.specs.disk.Disk.{DiskState, History, moment_of}
use Rattle.pp_terms.specs.format.Descriptor.{Descriptor, chunks_of}
use Rattle.pp_terms.specs.format.Messages.{Datagram, Message}
use Rattle.pp_terms.specs.format.Traffic.{Address, same_address, Record, Received, Quiet, Sent, LinkState, GainsRecords}
use Rattle.pp_terms.specs.tree.Range.{Span, within, has, IsRunsFrom}
use Rattle.pp_ranges.specs.Edits.{number_count}
use Rattle.pp_traffic.specs.Asking.{is_heard}
use Rattle.pp_traffic.specs.Keeping.{announces, StoodThroughout}
use Rattle.pp_traffic.specs.Life.{Life}
use Rattle.pp_traffic.specs.Past.{read, is_number}
use Rattle.pp_traffic.specs.Plain.{IsPlainNow}
use Rattle.pp_traffic.specs.Story.{said_in, told, story}
use Rattle.pp_traffic.proofs.Awaited.{plain_began}
use Rattle.pp_promises.specs.Announced.{tells_of, was_told_of, fewest_new, new_count, is_told_of, IsKnownOf, TellsOfHeld}
use Rattle.pp_promises.specs.LastTurn.{sent_since, earlier}
use Rattle.pp_promises.specs.OwnSide.{has_in}
use Rattle.pp_promises.specs.Served.{is_announced}
use Rattle.pp_outside.specs.Outside.{address_of}
use Rattle.pp_store.specs.Store.{is_committed}
use Rattle.pp_channels.specs.Seats.{channel_at}
use Rattle.pp_channels.specs.declared.channel.Channel.{Channel}
use Rattle.pp_lives.specs.Reading.{is_waiting}
use Rattle.pp_lives.specs.Standing.{Stands, HasSeat}
use Rattle.pp_lives.proofs.Sent.{same_self}
use Rattle.pp_news.specs.News.{has_chunk}
use Rattle.pp_seat.specs.Follows.{Frame, Lost, Follows}
use Rattle.pp_seat.specs.Frames.{tale_of}
use Rattle.pp_seat.specs.Lines.{Tale}
use Rattle.pp_seat.specs.Seats.{SeatState}
use Rattle.pp_seat.proofs.News.{news_are_counted}
use Rattle.pp_seats.specs.Standing.{at_seat as setting_at, frame_in, IsFollowed}
use Rattle.pp_agenda.specs.Agendas.{AreRows}
use Rattle.pp_agenda.proofs.Telling.{rows_are_committed, parts_known}
use Rattle.pp_peer.specs.declared.parts.Parts.{Parts}
use Rattle.pp_peer.specs.Flushing.{IsOurs}
use Rattle.pp_peer.specs.Standing.{Beginning, setting, StandsFor}
use Rattle.pp_core.specs.Remembering.{PassesTold}
use Rattle.pp_core.specs.Peers.{PeerState}
use Rattle.pp_core.specs.Telling.{Tells, end_of, HasOne, IsProven, TellsChunk, Announces}
use Rattle.pp_core.specs.Turning.{scene, Sends}
use Rattle.pp_core.proofs.Flushes.{in_set}
use Rattle.pp_core.proofs.Plain.{stands_there, proven_there}
use Rattle.pp_core.proofs.PlainBefore.{heard_before, plain_then}
use Rattle.pp_core.proofs.Served.{risen_or}
use Rattle.pp_core.proofs.Stories.{IsFound, story_finds}
use Rattle.pp_core.proofs.Told.{announced}
use Rattle.pp_core.proofs.Writing.{any_amid, gained_alike, known_number}

-- ---- rows

starts_within : (x : Span) → x.first ≤ x.last → within x x.first ≡ true
starts_within x le = and_from (leb x.first x.first) (leb x.first x.last) (le-leb x.first x.first (omega arith)) (le-leb x.first x.last le)

rows_run : (from : ℕ) (committed : List Bool) (most : ℕ) (rows : List Span) → AreRows from committed most rows → IsRunsFrom from rows
rows_run from committed most [] are = tt
rows_run from committed most (row ∷ rows) are = (are.1.low, are.1.order, apart rows are.2 (rows_run (row.last + 1) committed (most - 1) rows are.2))
  where
    apart : (rows : List Span) → AreRows (row.last + 1) committed (most - 1) rows → IsRunsFrom (row.last + 1) rows → IsRunsFrom (row.last + 2) rows
    apart [] are runs = tt
    apart (next ∷ rest) more runs = (
      ⊎_elim
          (λ (lt : row.last + 1 < next.first). omega (arith, lt))
          (λ (le : next.first ≤ row.last + 1).
          let here : next.first ≡ row.last + 1 = (let low = runs.0 in omega (arith, low, le)) in
          absurd (both_ways (slice_index_or committed (row.last + 1) false) are.1.ends
          (subst (λ (n : ℕ). slice_index_or committed n false ≡ true) here (more.1.members next.first (starts_within next runs.1)))))
          (cases_lt (row.last + 1) next.first),
      runs.1,
      runs.2,
    )

rows_count : (from : ℕ) (rows : List Span) → IsRunsFrom from rows → length rows ≤ number_count rows
rows_count from [] runs = omega arith
rows_count from (x ∷ xs) runs = (let rest = rows_count (x.last + 2) xs runs.2 in let le = runs.1 in omega (arith, rest, le))

-- ---- records of one turn

since_all : (d : Descriptor) (moment : ℕ) (rs past : List Record) → AllByRecursion (IsOurs d moment) rs → sent_since past ≡ []
    → sent_since (rs ++ past) ≡ rs
since_all d moment [] past all none = none
since_all d moment (r ∷ rs) past all none =
    ap (λ (x : Record). sent_since (x ∷ (rs ++ past))) all.0.is
    ∙ ap (λ (xs : List Record). Sent moment all.0.receiver all.0.bytes ∷ xs) (since_all d moment rs past all.1 none)
    ∙ ap (λ (x : Record). x ∷ rs) (sym all.0.is)

pub earlier_all : (d : Descriptor) (moment : ℕ) (rs past : List Record) → AllByRecursion (IsOurs d moment) rs → earlier (rs ++ past) ≡ earlier past
earlier_all d moment [] past all = refl
earlier_all d moment (r ∷ rs) past all = ap (λ (x : Record). earlier (x ∷ (rs ++ past))) all.0.is ∙ earlier_all d moment rs past all.1

-- what was announced in earlier turns was announced
announced_earlier : (d : Descriptor) (i : ℕ) (past : List Record) → is_announced d i (earlier past) ≡ true → is_announced d i past ≡ true
announced_earlier d i [] e = e
announced_earlier d i (Received at sender bytes ∷ before) e = e
announced_earlier d i (Quiet at ∷ before) e = e
announced_earlier d i (Sent moment receiver bytes ∷ before) e =
    or_right (announces i (read d (Sent moment receiver bytes)).messages.read) (is_announced d i before) (announced_earlier d i before e)

-- ---- what a story tells

pub is_told_found : (i : ℕ) → IsFound (has_in i) (is_told_of i)
is_told_found i = record { said = λ at m before. refl; heard = λ at m before. refl; taken = λ at before. refl }

pub story_tells : (d other : Descriptor) (moment i : ℕ) (life : Life) (rs past : List Record) → AllByRecursion (IsOurs other moment) rs
    → life.opening ≤ length past → (list_any (tells_of d life i) rs ≡ true) ⊎ (is_told_of i (story d life past) ≡ true)
    → is_told_of i (story d life (rs ++ past)) ≡ true
story_tells d other moment i life rs past all le is = story_finds (has_in i) (is_told_of i) (is_told_found i) d other moment life rs past all le is

-- ---- a HAVE that went

said_all : (goes numbered : Bool) (ms others : List Message) → goes ≡ true → numbered ≡ true
    → cond (not goes) [] (cond numbered ms others) ≡ ms
said_all true true ms others g n = refl
said_all true false ms others g n = absurd (false≢true n)
said_all false numbered ms others g n = absurd (false≢true g)

-- a message that passes a test went on the life
pub told_one : (d : Descriptor) (c : Channel) (life : Life) (test : Message → Bool) (added before : List Record) (link later : LinkState)
    → link.traffic ≡ Some before → GainsRecords link.traffic added later.traffic → life.address ≡ address_of c.address
    → (end_of c).number ≡ life.remote → Tells d (end_of c) (HasOne test) link later
    → list_any (λ r. list_any test (said_in d life r)) added ≡ true
told_one d c life test added before link later is gained address number t =
    subst (λ (rs : List Record). list_any (λ x. list_any test (said_in d life x)) rs ≡ true)
    (sym (gained_alike before added (t.newer ++ r ∷ t.older) link.traffic later.traffic is gained t.gained))
    (any_amid (λ x. list_any test (said_in d life x)) t.newer r t.older
    (ap (λ (ms : List Message). list_any test ms)
    (said_all (same_address (address_of c.address) life.address) (is_number life.remote (read d r).channel) (read d r).messages.read _
    (subst (λ (a : Address). same_address (address_of c.address) a ≡ true) (sym address) (same_self (address_of c.address)))
    (ap (λ (x : Datagram). is_number life.remote x.channel) t.written.read ∙ eq-eqb (end_of c).number life.remote number)
    ∙ ap (λ (x : Datagram). x.messages.read) t.written.read)
    ∙ t.holds))
  where
    r : Record
    r = Sent t.moment (address_of c.address) t.bytes

pub have_tells : (d : Descriptor) (c : Channel) (life : Life) (i : ℕ) (added before : List Record) (link later : LinkState)
    → link.traffic ≡ Some before → GainsRecords link.traffic added later.traffic → life.address ≡ address_of c.address
    → (end_of c).number ≡ life.remote → Tells d (end_of c) (HasOne (has_in i)) link later → list_any (tells_of d life i) added ≡ true
have_tells d c life i added before link later is gained address number t =
    told_one d c life (has_in i) added before link later is gained address number t

-- ---- what was told before

-- On each plain channel that is proven each chunk was told of that is committed, is below the cursor and didn't come since the last flush.
abbrev pub ToldBelow : Descriptor → Parts → List Record → Type 0
ToldBelow d p past = (n i : ℕ) (c : Channel) (life : Life) (s : SeatState) → channel_at p.seats.table n ≡ Some c → IsPlainNow d life past
    → life.address ≡ address_of c.address → life.local ≡ c.local → slice_get p.seats.seats n ≡ Some s → s.proven ≡ true
    → is_committed p.holding.store i ≡ true → i < s.cursor → has_chunk p.holding.queue.tickets i ≡ false
    → is_told_of i (story d life past) ≡ true

-- Where no chunk from the cursor on was told of, the seat follows as if no HAVE had been lost.
follows_fresh : (f : Frame) (lost : Lost) (s : SeatState) (t : Tale) → Follows f lost s t → ((i : ℕ) → s.cursor ≤ i → t.told i ≡ false)
    → Follows f (record { chunks = lost.chunks; haves = 0 }) s t
follows_fresh f lost s t h above = record {
  lists = h.lists;
  lacks = h.lacks;
  slot = h.slot;
  window = h.window;
  told = h.told;
  claims = h.claims;
  proven = h.proven;
  own = h.own;
  haves = h.haves;
  fresh = record { early = h.fresh.early; above = λ none i high. above i high };
  exchange = h.exchange;
}

module _ (refused : ℕ) (old new : PeerState) (link later : LinkState) (disk left : DiskState) (course : Sends refused old new link later disk left)
    (b : Beginning) (most : ℕ) (past before : List Record) (h : History) (stands : StandsFor b most old.parts past)
    (size : length old.parts.holding.store.committed ≡ chunks_of b.d) (carries : link.traffic ≡ Some before) (turn : sent_since past ≡ [])
    (found : (i : ℕ) → StoodThroughout b.d h i → b.is_found i ≡ true) (below : ToldBelow b.d old.parts past)
    (passes : PassesTold b.d old.parts past) (none : HasRisen link.faults later.faults → ⊥) (life : Life) (plain : IsPlainNow b.d life past) (heard : is_heard b.d life past ≡ true) where
  abbrev added : List Record
  added = course.flushes.added

  abbrev moment : ℕ
  moment = moment_of disk.history

  abbrev hs : HasSeat old.parts.seats.table stands.seats.lives life
  hs = stands.seats.standing.plains.plain life plain

  there : Stands b.d hs.channel life past
  there = stands_there refused old new link later disk left course b most past stands life plain

  proven_first : IsProven hs.seat hs.channel old.parts
  proven_first = proven_there refused old new link later disk left course b most past stands life plain heard

  abbrev s : SeatState
  s = proven_first.peer.known

  followed : IsFollowed (setting_at (setting b stands.known_of) hs.seat) most s life past
  followed = stands.seats.follow hs.seat hs.channel life s hs.there hs.known hs.lives_there proven_first.peer.messages

  above : (i : ℕ) → s.cursor ≤ i → was_told_of b.d life i past ≡ false
  above i high = ⊎_elim
      (λ was. absurd (let low = passes hs.seat i hs.channel life s hs.there plain there.address there.local proven_first.peer.messages was in
      omega (arith, low, high)))
      (λ no. no)
      (cases_Bool (was_told_of b.d life i past))

  tells : Announces (scene old.parts link disk) later
  tells = announced old.dials new.dials old.speaker new.speaker refused (scene old.parts link disk) (scene course.sent later left) course.sends

  same_swarm : (i : ℕ) → Tells old.parts.seats.descriptor (end_of hs.channel) (HasOne (has_in i)) link later
      → Tells b.d (end_of hs.channel) (HasOne (has_in i)) link later
  same_swarm i t = subst (λ (x : Descriptor). Tells x (end_of hs.channel) (HasOne (has_in i)) link later) stands.seats.swarm t

  chunk_told : (i : ℕ) → TellsChunk hs.channel i (scene old.parts link disk) later → list_any (tells_of b.d life i) added ≡ true
  chunk_told i told = ⊎_elim
      (λ t. have_tells b.d hs.channel life i added before link later carries course.flushes.gained there.address
      (known_number (is_waiting hs.channel) hs.channel.remote life.remote hs.known (there.remote hs.known).0) (same_swarm i t))
      (λ risen. absurd (none risen))
      told

  in_story : (i : ℕ) → (list_any (tells_of b.d life i) added ≡ true) ⊎ (is_told_of i (story b.d life past) ≡ true)
      → is_told_of i (story b.d life (added ++ past)) ≡ true
  in_story i told = story_tells b.d old.parts.seats.descriptor moment i life added past course.flushes.ours
      (let lt = plain_began b.d life past past plain in omega (arith, lt)) told

  committed : (i : ℕ) → IsKnownOf b.d h (added ++ past) i → is_committed old.parts.holding.store i ≡ true
  committed i (inl announced) = stands.holds.announced i (announced_earlier b.d i past
      (subst (λ (xs : List Record). is_announced b.d i xs ≡ true)
      (earlier_all old.parts.seats.descriptor moment added past course.flushes.ours) announced))
  committed i (inr stood) = stands.holds.found i (found i stood)

  many_told : (rows : List Span) → length rows ≡ 64 → AreRows s.cursor old.parts.holding.store.committed 64 rows
      → ((i : ℕ) → has rows i ≡ true → TellsChunk hs.channel i (scene old.parts link disk) later) → fewest_new ≤ new_count b.d life (added ++ past)
  many_told rows len are each =
      let run = rows_run s.cursor old.parts.holding.store.committed 64 rows are in
      let few = rows_count s.cursor rows run in
      let counted = news_are_counted.counted b.d life (added ++ past) (frame_in (setting_at (setting b stands.known_of) hs.seat) life past)
      (record { chunks = followed.lost.chunks; haves = 0 }) s (tale_of b.d life past) rows
      (follows_fresh (frame_in (setting_at (setting b stands.known_of) hs.seat) life past) followed.lost s (tale_of b.d life past)
      followed.follows above) refl
      (λ i. news_are_counted.begun b.d life i past turn
      ∙ ap (λ (xs : List Record). was_told_of b.d life i xs) (sym (earlier_all old.parts.seats.descriptor moment added past course.flushes.ours)))
      (record {
        runs = run;
        each = λ i at. (
          (let low = in_set old.parts.holding.store.committed i
              (parts_known old.parts.holding.store.committed (length old.parts.holding.store.committed) rows i
              (rows_are_committed s.cursor old.parts.holding.store.committed 64 rows are) at) in
              omega (arith, low, size)),
          ap (λ (xs : List Record). list_any (tells_of b.d life i) xs)
              (since_all old.parts.seats.descriptor moment added past course.flushes.ours turn) ∙ chunk_told i (each i at),
        );
      }) in
      omega (arith, len, few, counted)

  pub known_told : (i : ℕ) → IsKnownOf b.d h (added ++ past) i
      → (is_told_of i (story b.d life (added ++ past)) ≡ true) ⊎ (fewest_new ≤ new_count b.d life (added ++ past))
  known_told i is = ⊎_elim
      (λ low. inl (in_story i (⊎_elim
      (λ new_one. inl (chunk_told i (tells.news hs.seat i hs.channel proven_first new_one low)))
      (λ old_one. inr (below hs.seat i hs.channel life s hs.there plain there.address there.local proven_first.peer.messages proven_first.proven
      (committed i is) low old_one))
      (cases_Bool (has_chunk old.parts.holding.queue.tickets i)))))
      (λ high. ⊎_elim
      (λ all. inl (in_story i (inl (chunk_told i (all i high (committed i is))))))
      (λ next. inr (many_told next.0 next.1 next.2 next.3))
      (tells.rest hs.seat hs.channel proven_first))
      (cases_lt i s.cursor)

-- ---- a flush

-- Where all that is committed below the cursors was told of, and nothing from them on, each plain channel whose peer has written was told of what is to be known
-- of, or of many new chunks, unless the link refused a datagram.
pub flush_tells : (refused : ℕ) (old new : PeerState) (link later : LinkState) (disk left : DiskState)
    → (course : Sends refused old new link later disk left) → (b : Beginning) (most : ℕ) (past before : List Record) (h : History)
    → b.since ≤ moment_of disk.history → StandsFor b most old.parts past → length old.parts.holding.store.committed ≡ chunks_of b.d
    → link.traffic ≡ Some before → sent_since past ≡ [] → ((i : ℕ) → StoodThroughout b.d h i → b.is_found i ≡ true) → ToldBelow b.d old.parts past
    → PassesTold b.d old.parts past
    → TellsOfHeld b.d h (course.flushes.added ++ past) ⊎ HasRisen link.faults later.faults
flush_tells refused old new link later disk left course b most past before h since stands size carries turn found below passes =
    ⊎_elim (λ risen. inr risen)
    (λ none. inl (λ life plain heard.
    known_told refused old new link later disk left course b most past before h stands size carries turn found below passes none life
    (plain_then refused old new link later disk left course b most past since stands life plain heard)
    (heard_before b.d old.parts.seats.descriptor (moment_of disk.history) life course.flushes.added past course.flushes.ours heard)))
    (risen_or link.faults later.faults)
