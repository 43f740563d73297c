-- A chunk that goes out on a seat's channel, or doesn't.
use Rattle.std.proofs.Common.{◌≡◌, ◌&&◌, ⊎_elim, inl, inr, ℕ, ◌+◌, ◌<◌, ◌≤◌, Bool, true, false, Option, Some, None, List, [], ◌∷◌, map, length, refl, sym, ◌∙◌, ap, subst, arith}
use Rattle.std.specs.Prelude.{unwrap_or, Ok, Err, IsSome, MatchOption, slice_index_or, ◌^◌, nat_le}
use Rattle.std.specs.List.{slice_get, AllByRecursion, list_all}
use Rattle.std.proofs.Math.ListN.{set}
use Rattle.std.proofs.lemmas.Bool.{both_ways, eq-eqb, cases_lt, false_from_ne_true, or_left, or_right}
use Rattle.std.proofs.lemmas.Option.{same_Some}
use Rattle.pp_terms.specs.format.Traffic as traffic
use Rattle.pp_terms.specs.format.Traffic.{Record, Sent, LinkState, same_address}
use Rattle.pp_terms.specs.format.Descriptor.{Descriptor, chunks_of}
use Rattle.pp_terms.specs.format.Messages as plain
use Rattle.pp_terms.specs.format.Messages.{Message}
use Rattle.pp_terms.specs.tree.Book.{LookUp, IsBacked, has_peaks}
use Rattle.pp_terms.specs.tree.Content.{chunk_length}
use Rattle.pp_terms.specs.disk.Disk.{DiskState, moment_of}
use Rattle.pp_terms.specs.tree.Range.{has, leaves_of, IsRunsFrom}
use Rattle.pp_ranges.specs.Edits.{without_below}
use Rattle.pp_requests.specs.Lists.{without, chunk_count}
use Rattle.pp_terms.specs.tree.Tree.{Node}
use Rattle.pp_outside.specs.Outside.{address_of}
use Rattle.pp_outside.specs.declared.link.Address.{Address}
use Rattle.pp_tree.specs.Book.{entry}
use Rattle.pp_tree.specs.Node.{node_of}
use Rattle.pp_tree.specs.declared.node.Node as declared
use Rattle.pp_traffic.specs.Past.{now, read, is_number, some_since, is_event}
use Rattle.pp_traffic.specs.Life.{Life, comes_on}
use Rattle.pp_traffic.specs.Story.{Line, say, said_in, story}
use Rattle.pp_traffic.specs.Asking.{is_heard}
use Rattle.pp_traffic.specs.Hashes.{is_told, completes, brings}
use Rattle.pp_traffic.specs.Laws.{plan, IsInBook}
use Rattle.pp_traffic.specs.Meter as meters
use Rattle.pp_traffic.specs.Meter.{lets_send, has_room}
use Rattle.pp_traffic.specs.Serving.{AnswersOn, Serves, ServesFrom}
use Rattle.pp_traffic.proofs.Paths.{paths_grow}
use Rattle.pp_traffic.proofs.PlansInBooks.{plans_in_books}
use Rattle.pp_traffic.proofs.Sending.{sent_is_said}
use Rattle.pp_promises.specs.Served.{is_announced}
use Rattle.pp_promises.specs.ReadStory.{read_story}
use Rattle.pp_promises.specs.Datagrams.{is_read_told, Plans, PlansFrom}
use Rattle.pp_channels.specs.Seats.{channel_at, is_begun}
use Rattle.pp_channels.specs.declared.channel.Channel.{Channel}
use Rattle.pp_lives.specs.Reading.{is_waiting}
use Rattle.pp_lives.specs.Laws.{IsReadOf}
use Rattle.pp_lives.specs.Sending.{with_datagram}
use Rattle.pp_lives.specs.declared.lives.Far.{Far}
use Rattle.pp_store.specs.Store.{StoreState, is_held}
use Rattle.pp_lives.specs.Fars.{far_of}
use Rattle.pp_lives.proofs.Own.{told_is}
use Rattle.pp_lives.proofs.Sent.{same_self}
use Rattle.pp_lives.proofs.SeatReads.{seats_read}
use Rattle.pp_lives.proofs.Telling.{since_same}
use Rattle.pp_lives.proofs.Wholes.{seats_live}
use Rattle.pp_plan.specs.Told.{knows}
use Rattle.pp_draft.specs.Datagrams.{hash_of, delivery, IsDatagram}
use Rattle.pp_draft.specs.Posts.{Sends}
use Rattle.pp_draft.specs.Deliveries.{PostsChunk}
use Rattle.pp_draft.specs.declared.chunk.Delivery.{Delivery}
use Rattle.pp_draft.specs.declared.chunk.Unread.{Unread}
use Rattle.pp_desk.specs.Chunks.{IsLetGo, FollowsChunk}
use Rattle.pp_desk.specs.Stored.{CanRead, Reads}
use Rattle.pp_seat.specs.Lines.{Tale, with_said}
use Rattle.pp_seat.specs.Seats.{SeatState}
use Rattle.pp_seat.specs.Follows.{Frame, Lost, Follows, Stays, Says, GivesUp, Always, AreUnannounced, IsNext}
use Rattle.pp_seat.specs.Frames.{since_of, tale_of, IsSameTale}
use Rattle.pp_seat.specs.Laws.{IsLater, with_since}
use Rattle.pp_seat.specs.Awaited.{AreAwaited, AllPassSaid}
use Rattle.pp_seat.proofs.Answering.{answers}
use Rattle.pp_seat.proofs.Awaited.{lines_keep_awaited}
use Rattle.pp_seat.proofs.Outstanding.{clock_now}
use Rattle.pp_seat.proofs.Framing.{same_tales, tales_grow, frames_grow, read_longer, since_none, said_story}
use Rattle.pp_seat.proofs.Passing.{announced_stays}
use Rattle.pp_seats.specs.declared.serving.Next.{Next}
use Rattle.pp_seats.specs.Standing.{SeatsState, Setting, frame_in, IsFollowed, StandsFor, SeatSetting, at_seat}
use Rattle.pp_seats.specs.Sending.{HoldsAnnounced, with_sent}
use Rattle.pp_seats.specs.Serving.{CanServe, is_committed, MayGo, IsReadied, PassesOver, Refuses, GivesUpChunk, SendsChunk}
use Rattle.pp_seats.proofs.Outgoing.{IsFar, far_is, settled, knows_of, leaves_none, leaves_one}
use Rattle.pp_seats.proofs.Passing.{below_fewer}
use Rattle.pp_seats.proofs.Carrying.{all_carried, all_brought, spans_are, no_handshake, waits_for_none, serves_from, plans_from, plan_same}

-- ---- nothing was sent

-- a chunk is given up
pub given_up : (x : Setting) (most : ℕ) (p : SeatsState) (k : ℕ) (c : Channel) (before after : SeatState) (past : List Record)
    → StandsFor x most p past → channel_at p.table k ≡ Some c → is_waiting c ≡ false → slice_get p.seats k ≡ Some before
    → GivesUp before after → after.own ≡ before.own → StandsFor x (most + 1) (record p { seats = set p.seats k after }) past
given_up x most p k c before after past h there known has gives same =
    settled x most (most + 1) p k c 0 before after [] past h there known has (omega arith) (leaves_none x p.table h.lives k past h.standing)
    (λ life living.
    let old = h.follow k c life before there known living has in
    record {
      lost = record { chunks = old.lost.chunks + 1; haves = old.lost.haves };
      chunks = (let few = old.chunks in omega (arith, few));
      haves = (let few = old.haves in omega (arith, few));
      follows = gives.follows (frame_in (at_seat x k) life past) old.lost (tale_of x.d life past) old.follows;
      awaited = subst (λ (own : _). AreAwaited own (read_story x.d life past)) (sym same) old.awaited;
      handed = old.handed;
    })

-- chunks leave the list that aren't announced
pub passed_over : (x : Setting) (most : ℕ) (p : SeatsState) (k : ℕ) (c : Channel) (before after : SeatState) (i end : ℕ) (held : ℕ → Bool) (past : List Record)
    → StandsFor x most p past → channel_at p.table k ≡ Some c → is_waiting c ≡ false → slice_get p.seats k ≡ Some before
    → HoldsAnnounced x held past → IsNext before i → ((j : ℕ) → i ≤ j → j < end → held j ≡ false)
    → Stays (AreUnannounced before.list end) before after → after.own ≡ before.own → StandsFor x most (record p { seats = set p.seats k after }) past
passed_over x most p k c before after i end held past h there known seated holds next none stays same =
    settled x most most p k c 0 before after [] past h there known seated (omega arith) (leaves_none x p.table h.lives k past h.standing)
    (λ life living.
    let old = h.follow k c life before there known living seated in
    record {
      lost = old.lost;
      chunks = old.chunks;
      haves = old.haves;
      follows = stays.follows (frame_in (at_seat x k) life past) old.lost (tale_of x.d life past) (λ j lt listed. unannounced life j lt listed) old.follows;
      awaited = subst (λ (own : _). AreAwaited own (read_story x.d life past)) (sym same) old.awaited;
      handed = old.handed;
    })
  where
    unannounced : (life : Life) (j : ℕ) → j < end → has before.list j ≡ true → since_of x.d life x.is_found j past ≡ None
    unannounced life j lt listed = ⊎_elim
        (λ (low : j < i). absurd (both_ways (has before.list j) (next.least.lesser j low) listed))
        (λ (le : i ≤ j). since_none x.d life x.is_found j past
        (false_from_ne_true (x.is_found j) (λ e. both_ways (held j) (none j le lt) (holds.found j e)))
        (false_from_ne_true (is_announced x.d j past) (λ e. both_ways (held j) (none j le lt) (holds.announced j e))))
        (cases_lt j i)

-- ---- a chunk was sent

later_low : (place more : ℕ) (a b : ℕ → Option ℕ) → place ≤ more → IsLater more a b → IsLater place a b
later_low place more a b le later i = ⊎_elim (λ same. inl same) (λ new. inr (new.0, new.1, new.2, (let low = new.3 in omega (arith, low, le)))) (later i)

-- a seat that follows what was said on its channel in one datagram
pub own_said : (x : SeatSetting) (most : ℕ) (s new : SeatState) (life : Life) (moment : ℕ) (receiver : traffic.Address) (bytes : List ℕ) (ms : List Message) (past : List Record)
    → IsFollowed x most s life past → life.opening < length past → said_in x.d life (Sent moment receiver bytes) ≡ ms
    → Says Always (now past) ms s new → AllPassSaid ms → new.own ≡ s.own → IsFollowed x most new life (Sent moment receiver bytes ∷ past)
own_said x most s new life moment receiver bytes ms past h lt said_is says pass same =
    let r = Sent moment receiver bytes in
    let since : ℕ → Option ℕ = λ i. since_of x.d life x.is_found i (r ∷ past) in
    let longer = read_longer x.d life r past in
    let first = announced_stays (frame_in x life past) h.lost since s (tale_of x.d life past)
    (later_low (length (read_story x.d life past)) (length (read_story x.d life (r ∷ past))) (λ i. since_of x.d life x.is_found i past) since longer
    (frames_grow x.d life x.is_found r past)) h.follows in
    let f = with_since since (frame_in x life past) in
    let said = says.follows f h.lost (tale_of x.d life past) tt first in
    let grown = subst (λ (xs : List Message). IsSameTale (with_said (now past) xs (is_heard x.d life past) (tale_of x.d life past)) (tale_of x.d life (r ∷ past))) said_is
    (tales_grow.sent x.d life moment receiver bytes past lt) in
    let told = same_tales f h.lost new (with_said (now past) ms (is_heard x.d life past) (tale_of x.d life past)) (tale_of x.d life (r ∷ past)) grown said in
    record {
      lost = h.lost;
      chunks = h.chunks;
      haves = h.haves;
      follows = subst (λ (p : Bool). Follows (record (frame_in x life (r ∷ past)) { proven = p }) h.lost new (tale_of x.d life (r ∷ past)))
          (sym (since_same (comes_on x.d life) life.opening r past refl)) told;
      awaited = subst (λ (xs : List Line). AreAwaited new.own xs) (sym (grown.story ∙ said_story (now past) ms (is_heard x.d life past) (tale_of x.d life past)))
          (subst (λ (own : _). AreAwaited own (say (now past) ms (read_story x.d life past))) (sym same)
          ((lines_keep_awaited.passed (now past) ms s.own pass).stays (read_story x.d life past) (clock_now x.d life past) h.awaited));
      handed = or_right (nat_le life.opening (length past) && is_event r) (some_since is_event life.opening past) h.handed;
    }

-- it answers the peer, behind hashes that complete its path
answered : (d : Descriptor) (found : ℕ → Bool) (aware : ℕ → ℕ → Bool) (most : ℕ) (p : SeatsState) (k : ℕ) (c : Channel) (life : Life) (before : SeatState) (i : ℕ) (front : List Message) (nodes : List Node) (past : List Record)
    → let x : Setting = record { d = d; is_found = found; known_of = aware } in
    (h : StandsFor x most p past) → channel_at p.table k ≡ Some c → is_waiting c ≡ false → is_begun c.opening ≡ true → h.lives k ≡ Some life → slice_get p.seats k ≡ Some before
    → before.proven ≡ true → IsNext before i
    → ((f : Frame) (lost : Lost) (t : Tale) (brought : Node → Bool) → Follows f lost before t → list_all brought nodes ≡ true → completes f.chunks brought (is_told f.chunks t.story) i ≡ true)
    → list_all (brings front) nodes ≡ true → AnswersOn d (lets_send d.chunk) past life i front
answered d found aware most p k c life before i front nodes past h there known begun living seated proven next whole brought =
    let x : Setting = record { d = d; is_found = found; known_of = aware } in
    let old = h.follow k c life before there known living seated in
    let t = tale_of d life past in
    let a = answers (frame_in (at_seat x k) life past) old.lost i before t next old.follows in
    let reads = seats_read d p.table h.lives k (read_story d life past) past h.standing (told_is d (channel_at p.table k) (h.lives k) c life past there living known) in
    let is : IsReadOf d life past (read_story d life past) = subst (λ (l : Life). IsReadOf d l past (read_story d life past)) (same_Some reads.0 life (sym reads.1 ∙ living)) reads.2 in
    record {
      alive = seats_live d p.table h.lives k c life past h.standing there living known begun;
      asked_for = is.asks i a.asked_for;
      unchoked = sym is.chokes ∙ a.unchoked;
      heard = sym old.follows.proven ∙ proven;
      whole_path = paths_grow (chunks_of d) (brings front) (brings front) (is_told (chunks_of d) (read_story d life past)) (is_told (chunks_of d) (story d life past)) i
          (λ n e. e) (λ n e. is.tells (chunks_of d) n e) (whole (frame_in (at_seat x k) life past) old.lost t (brings front) old.follows brought);
      in_window = ap has_room (sym (is.window d.chunk)) ∙ a.in_window;
    }

-- What was sent: a chunk behind the hashes of some nodes, to the peer of a seat's channel.
pub record IsChunk (d : Descriptor) (book : LookUp) (c : Channel) (before : SeatState) (i at : ℕ) (nodes : List Node) (bytes datagram : List ℕ) : Type 0 where
  pub written : IsDatagram d (unwrap_or c.remote 0) (delivery book nodes i at bytes) datagram
  pub planned : nodes ≡ plan before.told.chunks (knows before.told) i
  pub given : AllByRecursion (IsInBook d book) nodes
  pub backed : IsBacked d book i bytes
  pub whole : (f : Frame) (lost : Lost) (t : Tale) (brought : Node → Bool) → Follows f lost before t → list_all brought nodes ≡ true
      → completes f.chunks brought (is_told f.chunks t.story) i ≡ true

-- The channel is one on which it may go.
pub record MaySend (p : SeatsState) (k : ℕ) (c : Channel) (before : SeatState) (i : ℕ) : Type 0 where
  pub there : channel_at p.table k ≡ Some c
  pub known : is_waiting c ≡ false
  pub begun : is_begun c.opening ≡ true
  pub seated : slice_get p.seats k ≡ Some before
  pub proven : before.proven ≡ true
  pub next : IsNext before i

pub chunk_serves : (found : ℕ → Bool) (aware : ℕ → ℕ → Bool) (most : ℕ) (p : SeatsState) (k : ℕ) (c : Channel) (before : SeatState) (i at : ℕ) (book : LookUp) (nodes : List Node) (bytes datagram : List ℕ) (moment : ℕ) (past : List Record)
    → StandsFor (record { d = p.descriptor; is_found = found; known_of = aware }) most p past → MaySend p k c before i → IsChunk p.descriptor book c before i at nodes bytes datagram
    → Serves p.descriptor book (lets_send p.descriptor.chunk) past (Sent moment (address_of c.address) datagram)
chunk_serves found aware most p k c before i at book nodes bytes datagram moment past h may is =
    let d = p.descriptor in
    let knows_it = knows_of (record { d = d; is_found = found; known_of = aware }) most p k c past h may.there may.known in
    subst (λ (g : plain.Datagram). ServesFrom d book (lets_send d.chunk) past (address_of c.address) g.channel [] g.messages.read) (sym is.written.read)
    (serves_from d book (lets_send d.chunk) past (address_of c.address) (Some (unwrap_or c.remote 0)) [] nodes i at bytes (record {
      last = refl;
      backed = is.backed;
      hashes = all_carried d book nodes is.given;
      peer = record {
        life = knows_it.0;
        at = knows_it.2.address;
        by = ap (λ (n : ℕ). Some n) knows_it.2.number;
        answers = answered d found aware most p k c knows_it.0 before i (map (hash_of book) nodes) nodes past h may.there may.known may.begun knows_it.1 may.seated may.proven may.next is.whole (all_brought book nodes);
      };
    }))

pub chunk_plans : (found : ℕ → Bool) (aware : ℕ → ℕ → Bool) (most : ℕ) (p : SeatsState) (k : ℕ) (c : Channel) (before : SeatState) (i at : ℕ) (book : LookUp) (nodes : List Node) (bytes datagram : List ℕ) (moment : ℕ) (past : List Record)
    → StandsFor (record { d = p.descriptor; is_found = found; known_of = aware }) most p past → MaySend p k c before i → IsChunk p.descriptor book c before i at nodes bytes datagram
    → Plans p.descriptor (lets_send p.descriptor.chunk) past (Sent moment (address_of c.address) datagram)
chunk_plans found aware most p k c before i at book nodes bytes datagram moment past h may is =
    let d = p.descriptor in
    let x : Setting = record { d = d; is_found = found; known_of = aware } in
    let knows_it = knows_of x most p k c past h may.there may.known in
    let old = h.follow k c knows_it.0 before may.there may.known knows_it.1 may.seated in
    subst (λ (g : plain.Datagram). PlansFrom d (lets_send d.chunk) past (address_of c.address) g.channel [] g.messages.read) (sym is.written.read)
    (plans_from d book (lets_send d.chunk) past (address_of c.address) (Some (unwrap_or c.remote 0)) [] nodes i at bytes (record {
      life = knows_it.0;
      at = knows_it.2.address;
      by = ap (λ (n : ℕ). Some n) knows_it.2.number;
      plans = record {
        answers = answered d found aware most p k c knows_it.0 before i (map (hash_of book) nodes) nodes past h may.there may.known may.begun knows_it.1 may.seated may.proven may.next is.whole (all_brought book nodes);
        exact = spans_are book nodes ∙ ap (map leaves_of) (is.planned ∙ ap (λ (n : ℕ). plan n (knows before.told) i) old.follows.told.content
            ∙ plan_same (chunks_of d) (knows before.told) (is_read_told d knows_it.0 past) i old.follows.told.known);
      };
    }))

-- and the seats stand for it
pub chunk_stands : (found : ℕ → Bool) (aware : ℕ → ℕ → Bool) (most : ℕ) (p : SeatsState) (k : ℕ) (c : Channel) (before after : SeatState) (i : ℕ) (book : LookUp) (nodes : List Node) (bytes datagram : List ℕ) (moment : ℕ) (past : List Record)
    → StandsFor (record { d = p.descriptor; is_found = found; known_of = aware }) most p past → MaySend p k c before i → IsChunk p.descriptor book c before i p.moment nodes bytes datagram
    → Says Always p.moment (delivery book nodes i p.moment bytes) before after → after.own ≡ before.own
    → StandsFor (record { d = p.descriptor; is_found = found; known_of = aware }) most (record p { table = with_sent p.table k false 1 p.moment; seats = set p.seats k after }) (Sent moment (address_of c.address) datagram ∷ past)
chunk_stands found aware most p k c before after i book nodes bytes datagram moment past h may is says same =
    let d = p.descriptor in
    let x : Setting = record { d = d; is_found = found; known_of = aware } in
    let ms = delivery book nodes i p.moment bytes in
    let knows_it = knows_of x most p k c past h may.there may.known in
    let life = knows_it.0 in
    let channel : (read d (Sent moment (address_of c.address) datagram)).channel ≡ Some life.remote =
    ap (λ (g : plain.Datagram). g.channel) is.written.read ∙ ap (λ (n : ℕ). Some n) knows_it.2.number in
    let messages : (read d (Sent moment (address_of c.address) datagram)).messages.read ≡ ms = ap (λ (g : plain.Datagram). g.messages.read) is.written.read in
    let goes : same_address (address_of c.address) life.address ≡ true = subst (λ (a : traffic.Address). same_address (address_of c.address) a ≡ true) (sym knows_it.2.address) (same_self (address_of c.address)) in
    let said_is = sent_is_said.own d life moment (address_of c.address) datagram goes (ap (is_number life.remote) channel ∙ eq-eqb life.remote life.remote refl) ∙ messages in
    settled x most most p k c 1 before after (Sent moment (address_of c.address) datagram ∷ []) past h may.there may.known may.seated (omega arith)
    (leaves_one d found aware p.table h.lives k c life moment datagram ms past h.standing may.there knows_it.1 may.known channel messages (no_handshake book nodes i p.moment bytes))
    (λ l lives_there. subst (λ (y : Life). IsFollowed (at_seat x k) most after y (Sent moment (address_of c.address) datagram ∷ past)) (same_Some life l (sym knows_it.1 ∙ lives_there))
    (own_said (at_seat x k) most before after life moment (address_of c.address) datagram ms past (h.follow k c life before may.there may.known knows_it.1 may.seated) knows_it.2.began said_is
    (subst (λ (n : ℕ). Says Always n ms before after) h.now_is says) (waits_for_none book nodes i p.moment bytes) same))

-- ---- in the words of the calls

may_send : (p : SeatsState) (k : ℕ) (far : Far) (before : SeatState) (i : ℕ) (f : IsFar (channel_at p.table k) far) → MayGo p k far before i → MaySend p k f.channel before i
may_send p k far before i f may = record {
  there = f.there;
  known = f.known;
  begun = ap (λ (y : Far). y.begun) (sym f.is) ∙ may.begun;
  seated = may.there;
  proven = may.proven;
  next = may.next;
}

-- the setting of these seats
abbrev In : SeatsState → Setting → Setting
In p x = record { d = p.descriptor; is_found = x.is_found; known_of = x.known_of }

pub sends_chunk : (p q : SeatsState) (k : ℕ) (store : StoreState) (book : LookUp) (far : Far) (before after : SeatState) (i : ℕ) (nodes : List Node) (bytes datagram : List ℕ) (link later : LinkState) (disk left : DiskState)
    → MayGo p k far before i → is_committed store i ≡ true → nodes ≡ plan before.told.chunks (knows before.told) i → AllByRecursion (IsInBook p.descriptor book) nodes
    → IsBacked p.descriptor book i bytes
    → ((f : Frame) (lost : Lost) (t : Tale) (brought : Node → Bool) → Follows f lost before t → list_all brought nodes ≡ true → completes f.chunks brought (is_told f.chunks t.story) i ≡ true)
    → IsDatagram p.descriptor far.number (delivery book nodes i p.moment bytes) datagram
    → after ≡ record before { list = without i before.list; window = meters.sent i p.moment before.window }
    → chunk_count after.list + 1 ≡ chunk_count before.list → Says Always p.moment (delivery book nodes i p.moment bytes) before after
    → q ≡ record p { table = with_datagram p.table k false p.moment; seats = set p.seats k after }
    → Reads store book i (Ok tt) bytes disk left → Sends (address_of far.address) datagram (moment_of left.history) link later true
    → SendsChunk k store book p q link later disk left
sends_chunk p q k store book far before after i nodes bytes datagram link later disk left may committed planned given backed whole written exact fewer says is reads sends = record {
  far = far;
  before = before;
  after = after;
  chunk = i;
  may = may;
  committed = committed;
  exact = exact;
  is = is;
  fewer = fewer;
  bytes = bytes;
  reads = reads;
  datagram = datagram;
  written = subst (λ (ns : List Node). IsDatagram p.descriptor far.number (delivery book ns i p.moment bytes) datagram) planned written;
  sends = sends;
  stands = λ x most past h. subst (λ (y : Far). StandsFor x most q (Sent m (address_of y.address) datagram ∷ past)) (sym f.is)
      (subst (λ (o : SeatsState). StandsFor x most o (Sent m (address_of f.channel.address) datagram ∷ past)) (sym is)
      (subst (λ (d : Descriptor). StandsFor (record { d = d; is_found = x.is_found; known_of = x.known_of }) most p past
      → StandsFor (record { d = d; is_found = x.is_found; known_of = x.known_of }) most (record p { table = with_sent p.table k false 1 p.moment; seats = set p.seats k after }) (Sent m (address_of f.channel.address) datagram ∷ past))
      h.swarm (λ g. chunk_stands x.is_found x.known_of most p k f.channel before after i book nodes bytes datagram m past g can chunk says (ap (λ (o : SeatState). o.own) exact)) h));
  serves = λ x most past h. subst (λ (y : Far). Serves x.d book (lets_send x.d.chunk) past (Sent m (address_of y.address) datagram)) (sym f.is)
      (subst (λ (d : Descriptor). StandsFor (record { d = d; is_found = x.is_found; known_of = x.known_of }) most p past
      → Serves d book (lets_send d.chunk) past (Sent m (address_of f.channel.address) datagram))
      h.swarm (λ g. chunk_serves x.is_found x.known_of most p k f.channel before i p.moment book nodes bytes datagram m past g can chunk) h);
  plans = λ x most past h. subst (λ (y : Far). Plans x.d (lets_send x.d.chunk) past (Sent m (address_of y.address) datagram)) (sym f.is)
      (subst (λ (d : Descriptor). StandsFor (record { d = d; is_found = x.is_found; known_of = x.known_of }) most p past
      → Plans d (lets_send d.chunk) past (Sent m (address_of f.channel.address) datagram))
      h.swarm (λ g. chunk_plans x.is_found x.known_of most p k f.channel before i p.moment book nodes bytes datagram m past g can chunk) h);
}
  where
    m : ℕ
    m = moment_of left.history

    f : IsFar (channel_at p.table k) far
    f = far_is (channel_at p.table k) far may.is_far

    can : MaySend p k f.channel before i
    can = may_send p k far before i f may

    chunk : IsChunk p.descriptor book f.channel before i p.moment nodes bytes datagram
    chunk = record {
      written = subst (λ (y : Far). IsDatagram p.descriptor y.number (delivery book nodes i p.moment bytes) datagram) f.is written;
      planned = planned;
      given = given;
      backed = backed;
      whole = whole;
    }

pub gives_up : (p q : SeatsState) (k : ℕ) (store : StoreState) (far : Far) (before after : SeatState) (i : ℕ) → MayGo p k far before i → is_committed store i ≡ true
    → after ≡ record before { list = without i before.list } → chunk_count after.list + 1 ≡ chunk_count before.list → GivesUp before after
    → q ≡ record p { seats = set p.seats k after } → GivesUpChunk k store i p q
gives_up p q k store far before after i may committed exact fewer gives is =
    let f = far_is (channel_at p.table k) far may.is_far in
    record {
      far = far;
      before = before;
      after = after;
      may = may;
      committed = committed;
      exact = exact;
      is = is;
      fewer = fewer;
      stands = λ x most past h. subst (λ (o : SeatsState). StandsFor x (most + 1) o past) (sym is)
          (given_up x most p k f.channel before after past h f.there f.known may.there gives (ap (λ (o : SeatState). o.own) exact));
    }

pub passes_over : (p q : SeatsState) (k : ℕ) (store : StoreState) (far : Far) (before after : SeatState) (i end : ℕ) → MayGo p k far before i → is_committed store i ≡ false
    → i < end → IsRunsFrom 0 before.list → ((j : ℕ) → i ≤ j → j < end → is_committed store j ≡ false)
    → after ≡ record before { list = without_below end before.list } → Stays (AreUnannounced before.list end) before after
    → q ≡ record p { seats = set p.seats k after } → PassesOver k store p q
passes_over p q k store far before after i end may absent lt runs none exact stays is =
    let f = far_is (channel_at p.table k) far may.is_far in
    record {
      far = far;
      before = before;
      after = after;
      chunk = i;
      may = may;
      absent = absent;
      end = end;
      exact = exact;
      gap = none;
      is = is;
      fewer = subst (λ (o : SeatState). chunk_count o.list < chunk_count before.list) (sym exact) (below_fewer end before.list i runs may.next.least lt);
      stands = λ x most past h holds. subst (λ (o : SeatsState). StandsFor x most o past) (sym is)
          (passed_over x most p k f.channel before after i end (is_committed store) past h f.there f.known may.there holds may.next none stays (ap (λ (o : SeatState). o.own) exact));
    }

-- ---- a chunk that may go

pub record ReadiedAt (p : SeatsState) (k : ℕ) (next : Next) (s : SeatState) : Type 0 where
  pub far : Far
  pub may : MayGo p k far s next.chunk
  pub content : next.chunk < chunks_of p.descriptor
  pub runs : IsRunsFrom 0 s.list
  pub address : next.to.address ≡ far.address
  pub number : next.to.channel ≡ far.number

pub readied_at : (p : SeatsState) (k : ℕ) (next : Next) (s : SeatState) → IsReadied p k next → slice_get p.seats k ≡ Some s → ReadiedAt p k next s
readied_at p k next s r has =
    let same : r.before ≡ s = same_Some r.before s (sym r.may.there ∙ has) in
    record {
      far = r.far;
      may = subst (λ (o : SeatState). MayGo p k r.far o next.chunk) same r.may;
      content = r.content;
      runs = subst (λ (o : SeatState). IsRunsFrom 0 o.list) same r.runs;
      address = r.address;
      number = r.number;
    }

-- its channel is there
pub used_of : (o : Option Channel) (far : Far) → far_of o ≡ Some far → IsSome o
used_of o far e = let f = far_is o far e in subst (λ (x : Option Channel). IsSome x) (sym f.there) refl

-- the book has what goes before it
pub path_given : (d : Descriptor) (store : StoreState) (book : LookUp) (told : Node → Bool) (i chunks : ℕ) → chunks ≡ chunks_of d → 0 < chunks → chunks ≤ 2 ^ 20 → CanServe d store book
    → is_committed store i ≡ true → i < chunks_of d → AllByRecursion (IsInBook d book) (plan (chunks_of d) told i)
path_given d store book told i chunks is some most can committed lt =
    let held : is_held store i ≡ true = or_left (is_committed store i) (slice_index_or store.pending i false) committed in
    plans_in_books d book told i (omega (arith, is, some)) (omega (arith, is, most)) can.rooted
    (subst (λ (e : Descriptor). has_peaks book (chunks_of e) ≡ true) can.swarm (can.knows.peaks i held)) lt (can.knows.leaf i held)

-- and it can be read
pub readable : (d : Descriptor) (store : StoreState) (book : LookUp) (i n : ℕ) → CanServe d store book → is_committed store i ≡ true → i < chunks_of d
    → n ≡ chunk_length d.size d.chunk i → CanRead store book i n
readable d store book i n can committed lt whole = record {
  within = subst (λ (e : Descriptor). i < chunks_of e) (sym can.swarm) lt;
  whole = whole ∙ ap (λ (e : Descriptor). chunk_length e.size e.chunk i) (sym can.swarm);
  leaf = λ e. can.knows.leaf i (or_left (is_committed store i) (slice_index_or store.pending i false) committed);
}

-- what was read is the book's
pub read_backed : (d : Descriptor) (store : StoreState) (book : LookUp) (i : ℕ) (bytes : List ℕ) (disk left : DiskState) → CanServe d store book → i < chunks_of d
    → length bytes ≡ chunk_length d.size d.chunk i → Reads store book i (Ok tt) bytes disk left → IsBacked d book i bytes
read_backed d store book i bytes disk left can lt whole reads = record { rooted = can.rooted; within = lt; whole = whole; leaf = reads.gives.leaf }

-- ---- where a run of chunks that aren't committed ends

pub record EndsRun (set : List Bool) (i end : ℕ) : Type 0 where
  pub low : i ≤ end
  pub none : (j : ℕ) → i ≤ j → j < end → slice_index_or set j false ≡ false
  pub at : end ≤ i → slice_index_or set i false ≡ true

pub run_ends : (set : List Bool) (i chunks : ℕ) (o : Option ℕ) → i < chunks
    → MatchOption o ((k : ℕ) → i ≤ k → slice_index_or set k false ≡ false)
    (λ e. (i ≤ e) × (e < length set) × (slice_index_or set e false ≡ true) × ((k : ℕ) → i ≤ k → k < e → slice_index_or set k false ≡ false))
    → EndsRun set i (unwrap_or o chunks)
run_ends set i chunks None lt m = record { low = omega (arith, lt); none = λ j le below. m j le; at = λ over. absurd (omega (arith, lt, over)) }
run_ends set i chunks (Some e) lt m = record {
  low = m.0;
  none = m.3;
  at = λ over. (let same : i ≡ e = (let low = m.0 in omega (arith, low, over)) in ap (λ (k : ℕ). slice_index_or set k false) same ∙ m.2);
}

-- ---- what a delivery answers

-- A delivery of a chunk that may go, from a store that has committed it.
pub record Launch (p : SeatsState) (k : ℕ) (store : StoreState) (x : Delivery) (before : SeatState) : Type 0 where
  pub readied : ReadiedAt p k (record { to = x.to; chunk = x.chunk }) before
  pub can : CanServe p.descriptor store (entry x.book.now)
  pub committed : is_committed store x.chunk ≡ true
  pub at : x.sent_at ≡ p.moment
  pub planned : map node_of x.nodes.now ≡ plan before.told.chunks (knows before.told) x.chunk
  pub given : AllByRecursion (IsInBook p.descriptor (entry x.book.now)) (map node_of x.nodes.now)
  pub whole : (f : Frame) (lost : Lost) (t : Tale) (brought : Node → Bool) → Follows f lost before t → list_all brought (map node_of x.nodes.now) ≡ true
      → completes f.chunks brought (is_told f.chunks t.story) x.chunk ≡ true

pub sent_so : (p q : SeatsState) (k : ℕ) (store : StoreState) (x : Delivery) (before after : SeatState) (link later : LinkState) (disk left : DiskState) (sent : Bool) → sent ≡ true → Launch p k store x before
    → PostsChunk p.descriptor x (λ bytes. Reads store (entry x.book.now) x.chunk (Ok tt) bytes disk left)
    (λ datagram. Sends (address_of x.to.address) datagram (moment_of left.history) link later sent × FollowsChunk x sent before after)
    → q ≡ record p { table = with_datagram p.table k false p.moment; seats = set p.seats k after }
    → SendsChunk k store (entry x.book.now) p q link later disk left
sent_so p q k store x before after link later disk left false e l h is = absurd cc
sent_so p q k store x before after link later disk left true e l h is =
    let r = l.readied in
    let follows = h.goes.1 in
    sends_chunk p q k store (entry x.book.now) r.far before after x.chunk (map node_of x.nodes.now) h.bytes h.datagram link later disk left r.may l.committed l.planned l.given
    (read_backed p.descriptor store (entry x.book.now) x.chunk h.bytes disk left l.can r.content h.whole h.given) l.whole
    (subst (λ (n : ℕ). IsDatagram p.descriptor n (delivery (entry x.book.now) (map node_of x.nodes.now) x.chunk p.moment h.bytes) h.datagram) r.number
    (subst (λ (n : ℕ). IsDatagram p.descriptor x.to.channel (delivery (entry x.book.now) (map node_of x.nodes.now) x.chunk n h.bytes) h.datagram) l.at h.written))
    (subst (λ (n : ℕ). after ≡ record before { list = without x.chunk before.list; window = meters.sent x.chunk n before.window }) l.at follows.exact)
    follows.fewer
    (subst (λ (n : ℕ). Says Always n (delivery (entry x.book.now) (map node_of x.nodes.now) x.chunk n h.bytes) before after) l.at (follows.says h.bytes))
    is h.given
    (subst (λ (a : Address). Sends (address_of a) h.datagram (moment_of left.history) link later true) r.address h.goes.0)

pub refused_so : (p q : SeatsState) (k : ℕ) (store : StoreState) (x : Delivery) (before after : SeatState) (link later : LinkState) (disk left : DiskState) (sent : Bool) → sent ≡ false → Launch p k store x before
    → PostsChunk p.descriptor x (λ bytes. Reads store (entry x.book.now) x.chunk (Ok tt) bytes disk left)
    (λ datagram. Sends (address_of x.to.address) datagram (moment_of left.history) link later sent × FollowsChunk x sent before after)
    → q ≡ record p { seats = set p.seats k after }
    → (i : ℕ) × (bytes : List ℕ) × Refuses link later × Reads store (entry x.book.now) i (Ok tt) bytes disk left × GivesUpChunk k store i p q
refused_so p q k store x before after link later disk left true e l h is = absurd cc
refused_so p q k store x before after link later disk left false e l h is = (
  x.chunk,
  h.bytes,
  record { traffic = h.goes.0.outcome.0; risen = h.goes.0.outcome.1; grows = h.goes.0.later; nexts = h.goes.0.nexts; bound = h.goes.0.bound },
  h.given,
  gives_up p q k store l.readied.far before after x.chunk l.readied.may l.committed h.goes.1.exact h.goes.1.fewer h.goes.1.given is,
)

pub unread_so : (p q : SeatsState) (k : ℕ) (store : StoreState) (x : Delivery) (before after : SeatState) (link later : LinkState) (disk left : DiskState) (why : Unread) → Launch p k store x before
    → ((bytes : List ℕ) × Reads store (entry x.book.now) x.chunk (Err why) bytes disk left) × ((later ≡ link) × IsLetGo x before after)
    → q ≡ record p { seats = set p.seats k after }
    → (i : ℕ) × (bytes : List ℕ) × (later ≡ link) × Reads store (entry x.book.now) i (Err why) bytes disk left × GivesUpChunk k store i p q
unread_so p q k store x before after link later disk left why l h is = (
  x.chunk,
  h.0.0,
  h.1.0,
  h.0.1,
  gives_up p q k store l.readied.far before after x.chunk l.readied.may l.committed h.1.1.exact h.1.1.fewer h.1.1.given is,
)

-- ---- the delivery of a launch

pub seat_same : (seats : List SeatState) (k : ℕ) (known before : SeatState) → slice_get seats k ≡ Some known → slice_get seats k ≡ Some before → known ≡ before
seat_same seats k known before one two = same_Some known before (sym one ∙ two)

pub launch_of : (p : SeatsState) (k : ℕ) (store : StoreState) (x : Delivery) (items : List declared.Node) (known before : SeatState) (chunks : ℕ)
    → IsReadied p k (record { to = x.to; chunk = x.chunk }) → slice_get p.seats k ≡ Some known → slice_get p.seats k ≡ Some before → known.told.chunks ≡ chunks_of p.descriptor
    → CanServe p.descriptor store (entry x.book.now) → is_committed store x.chunk ≡ true → x.sent_at ≡ p.moment → x.nodes.now ≡ items
    → map node_of items ≡ plan known.told.chunks (knows known.told) x.chunk
    → ((f : Frame) (lost : Lost) (t : Tale) (brought : Node → Bool) → Follows f lost known t → list_all brought (map node_of items) ≡ true → completes f.chunks brought (is_told f.chunks t.story) x.chunk ≡ true)
    → chunks ≡ chunks_of p.descriptor → 0 < chunks → chunks ≤ 2 ^ 20 → Launch p k store x before
launch_of p k store x items known before chunks r has_known has_before room can committed at nodes plan_is whole is some most =
    let same = seat_same p.seats k known before has_known has_before in
    let planned = plan_is ∙ ap (λ (n : ℕ). plan n (knows known.told) x.chunk) room in
    record {
      readied = readied_at p k (record { to = x.to; chunk = x.chunk }) before r has_before;
      can = can;
      committed = committed;
      at = at;
      planned = ap (λ (ns : List declared.Node). map node_of ns) nodes ∙ plan_is ∙ ap (λ (o : SeatState). plan o.told.chunks (knows o.told) x.chunk) same;
      given = subst (λ (ns : List declared.Node). AllByRecursion (IsInBook p.descriptor (entry x.book.now)) (map node_of ns)) (sym nodes)
          (subst (λ (ns : List Node). AllByRecursion (IsInBook p.descriptor (entry x.book.now)) ns) (sym planned)
          (path_given p.descriptor store (entry x.book.now) (knows known.told) x.chunk chunks is some most can committed r.content));
      whole = subst (λ (ns : List declared.Node). (f : Frame) (lost : Lost) (t : Tale) (brought : Node → Bool) → Follows f lost before t → list_all brought (map node_of ns) ≡ true
          → completes f.chunks brought (is_told f.chunks t.story) x.chunk ≡ true) (sym nodes)
          (subst (λ (o : SeatState). (f : Frame) (lost : Lost) (t : Tale) (brought : Node → Bool) → Follows f lost o t → list_all brought (map node_of items) ≡ true
          → completes f.chunks brought (is_told f.chunks t.story) x.chunk ≡ true) same whole);
    }

-- whatever became of it the seat is one of its content
pub chunk_room : (x : Delivery) (sent : Bool) (before after : SeatState) → FollowsChunk x sent before after → after.told.chunks ≡ before.told.chunks
chunk_room x true before after h = ap (λ (o : SeatState). o.told.chunks) h.exact
chunk_room x false before after h = ap (λ (o : SeatState). o.told.chunks) h.exact
