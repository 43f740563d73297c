-- What is left of what was asked for, once all was sent, in the words of the promises.
use Rattle.std.proofs.Common.{◌≡◌, ◌⊎◌, inl, inr, ⊎_elim, ℕ, zero, suc, ◌+◌, ◌<◌, ◌≤◌, Bool, true, false, cond, Option, Some, None, List, [], ◌∷◌, ◌++◌, length, refl, sym, ◌∙◌, ap, subst, arith}
use Rattle.std.specs.Prelude.{MatchBool, unwrap_or}
use Rattle.std.specs.List.{slice_get}
use Rattle.std.proofs.lemmas.Bool.{cases_Bool, cases_lt, both_ways, false≢true}
use Rattle.std.proofs.lemmas.Option.{same_Some}
use Rattle.pp_terms.specs.Count.{HasRisen}
use Rattle.pp_terms.specs.disk.Disk.{DiskState, History, moment_of}
use Rattle.pp_terms.specs.format.Descriptor.{Descriptor, chunks_of}
use Rattle.pp_terms.specs.format.Traffic.{Record, LinkState}
use Rattle.pp_terms.specs.tree.Range.{has}
use Rattle.pp_terms.proofs.Risings.{risen_more, risen_less}
use Rattle.pp_traffic.specs.Asking.{choked}
use Rattle.pp_traffic.specs.Keeping.{StoodThroughout}
use Rattle.pp_traffic.specs.Life.{Life, answers}
use Rattle.pp_traffic.specs.Meter.{has_room, lets_send}
use Rattle.pp_traffic.specs.Past.{some_since}
use Rattle.pp_traffic.specs.Plain.{IsPlainDial, IsPlainAnswer, IsPlainNow}
use Rattle.pp_traffic.specs.Story.{story}
use Rattle.pp_traffic.specs.Turns.{AtMost}
use Rattle.pp_traffic.proofs.OneMore.{at_since}
use Rattle.pp_traffic.proofs.Plains.{first_some}
use Rattle.pp_promises.specs.ReadStory.{read_story}
use Rattle.pp_promises.specs.Served.{is_announced, MayBeServed, IsOwed, LeavesFew}
use Rattle.pp_promises.proofs.ReadStories.{plains_are_read}
use Rattle.pp_channels.specs.Seats.{at_seat, channel_at, is_begun}
use Rattle.pp_channels.specs.declared.channel.Channel.{Channel}
use Rattle.pp_lives.specs.Fars.{far_of}
use Rattle.pp_lives.specs.Reading.{is_waiting, is_proven}
use Rattle.pp_lives.specs.Standing.{Stands, StandsAt, HasSeat}
use Rattle.pp_lives.specs.declared.lives.Far.{Far}
use Rattle.pp_store.specs.Store.{is_committed}
use Rattle.pp_holding.specs.Holding.{HoldingState}
use Rattle.pp_seat.specs.Follows.{HasNone}
use Rattle.pp_seat.specs.Frames.{since_of}
use Rattle.pp_seat.specs.Seats.{SeatState}
use Rattle.pp_seat.proofs.Framing.{since_none, owed_is_kept, owed_is_given}
use Rattle.pp_seats.specs.Sending.{IsSilent}
use Rattle.pp_seats.specs.Standing.{SeatsState, at_seat as setting_at, IsFollowed}
use Rattle.pp_peer.specs.declared.parts.Parts.{Parts}
use Rattle.pp_peer.specs.Delivering.{IsServedAt}
use Rattle.pp_peer.specs.Flushing.{Scene}
use Rattle.pp_peer.specs.Sending.{SendsAll}
use Rattle.pp_peer.specs.Serving.{most_sent, flying_in, IsServed}
use Rattle.pp_peer.specs.Standing.{Beginning, setting, StandsFor}
use Rattle.pp_peer.proofs.Dialled.{IsDialling, all_dialling}
use Rattle.pp_core.specs.Peers.{PeerState}
use Rattle.pp_core.specs.Turning.{scene, Sends}
use Rattle.pp_core.proofs.Choked.{HasChoke, all_owe, slots_owe, said_choke}
use Rattle.pp_core.proofs.Flushes.{in_set}
use Rattle.pp_core.proofs.Leaving.{leaves_none}

-- ---- small things

-- the count has risen, or it hasn't
pub risen_or : (a b : ℕ) → HasRisen a b ⊎ (HasRisen a b → ⊥)
risen_or a b = ⊎_elim
    (λ lt. inl (λ below. lt))
    (λ (le : b ≤ a). ⊎_elim
    (λ below. inr (λ risen. let lt = risen below in omega (arith, lt, le)))
    (λ high. inl (λ below. absurd (omega (arith, high, below))))
    (cases_lt b 18446744073709551615))
    (cases_lt a b)

most_more : (few more : ℕ) (P : ℕ → Type 0) → few ≤ more → AtMost few P → AtMost more P
most_more few more P le h = (h.0, (let low = h.1 in omega (arith, low, le)), h.2)

-- a seat of the list
pub in_list : (xs : List (Option Channel)) (n : ℕ) (c : Channel) → at_seat xs n ≡ Some c → n < length xs
in_list [] n c e = absurd cc
in_list (x ∷ xs) zero c e = omega arith
in_list (x ∷ xs) (suc n) c e = (let lt = in_list xs n c e in omega (arith, lt))

pub known_far : (waits : Bool) (far : Far) → waits ≡ false → cond waits None (Some far) ≡ Some far
known_far true far e = absurd (false≢true (sym e))
known_far false far e = refl

-- this peer's handshake was sent on a plain channel
pub plain_begun : (d : Descriptor) (life : Life) (past : List Record) → IsPlainNow d life past
    → some_since (answers d life) life.opening past ≡ true
plain_begun d life past plain = of life.is_dialled plain.begins
  where
    of : (dialled : Bool) → MatchBool dialled (IsPlainDial d life past past) (IsPlainAnswer d life past)
        → some_since (answers d life) life.opening past ≡ true
    of true h = at_since (answers d life) life.opening past h.opened
    of false h = first_some _ (answers d life) life.opening past h.replied

-- a seat that was served, on whose channel something may be said, is there
seat_there : (p : SeatsState) (n : ℕ) (far : Far) → IsServed p n → far_of (channel_at p.table n) ≡ Some far → far.begun ≡ true
    → (s : SeatState) × (slice_get p.seats n ≡ Some s)
seat_there p n far (inl (inl silent)) is_far begun =
    absurd (both_ways far.begun (subst (λ (o : Option Far). IsSilent o) is_far silent) begun)
seat_there p n far (inl (inr (s, there, rest))) is_far begun = (s, there)
seat_there p n far (inr many) is_far begun = of (slice_get p.seats n) many
  where
    of : (o : Option SeatState) → most_sent ≤ flying_in o → (s : SeatState) × (o ≡ Some s)
    of None many = absurd (omega (arith, many))
    of (Some s) many = (s, refl)

-- ---- a channel that may be served

-- A peer that stands for its records, whose seats were all served.
pub record HasServed (b : Beginning) (most : ℕ) (p : Parts) (past : List Record) : Type 0 where
  pub stands : StandsFor b most p past
  pub size : length p.holding.store.committed ≡ chunks_of b.d
  pub some : 0 < b.d.chunk
  pub ends : (n : ℕ) → n < 64 → IsServed p.seats n
  pub chokes : (n : ℕ) → n < 64 → (far : Far) → far_of (channel_at p.seats.table n) ≡ Some far → far.begun ≡ true
      → (s : SeatState) → slice_get p.seats.seats n ≡ Some s → HasChoke s

-- what is owed is held, and so it is a chunk of the content
owed_below : (b : Beginning) (most : ℕ) (p : Parts) (past : List Record) → HasServed b most p past → (h : History)
    → ((i : ℕ) → StoodThroughout b.d h i → b.is_found i ≡ true) → (life : Life) (i : ℕ) → IsOwed b.d h life past i → i < chunks_of b.d
owed_below b most p past served h found life i owed =
    let low = in_set p.holding.store.committed i (of owed) in let size = served.size in omega (arith, low, size)
  where
    since : (place : ℕ) → since_of b.d life b.is_found i past ≡ Some place → is_committed p.holding.store i ≡ true
    since place is = ⊎_elim
        (λ yes. served.stands.holds.found i yes)
        (λ no. ⊎_elim
        (λ announced. served.stands.holds.announced i announced)
        (λ none. let x : None ≡ Some place = sym (since_none b.d life b.is_found i past no none) ∙ is in absurd cc)
        (cases_Bool (is_announced b.d i past)))
        (cases_Bool (b.is_found i))

    of : IsOwed b.d h life past i → is_committed p.holding.store i ≡ true
    of (inl owed) = let kept = owed_is_kept.announced b.d life b.is_found i past owed in since kept.0 kept.1
    of (inr (asks, stood)) = served.stands.holds.found i (found i stood)

module _ (b : Beginning) (most : ℕ) (p : Parts) (past : List Record) (served : HasServed b most p past) (h : History)
    (found : (i : ℕ) → StoodThroughout b.d h i → b.is_found i ≡ true) (life : Life)
    (may : MayBeServed b.d (lets_send b.d.chunk) life past) where
  abbrev hs : HasSeat p.seats.table served.stands.seats.lives life
  hs = served.stands.seats.standing.plains.plain life may.plain

  abbrev far : Far
  far = record {
    address = hs.channel.address;
    number = unwrap_or hs.channel.remote 0;
    proven = is_proven hs.channel;
    begun = is_begun hs.channel.opening;
  }

  is_far : far_of (channel_at p.seats.table hs.seat) ≡ Some far
  is_far = ap far_of hs.there ∙ known_far (is_waiting hs.channel) far hs.known

  stands_there : Stands b.d hs.channel life past
  stands_there = subst (λ (o : Option Life). StandsAt b.d (Some hs.channel) o past) hs.lives_there
      (subst (λ (o : Option Channel). StandsAt b.d o (served.stands.seats.lives hs.seat) past) hs.there
      (served.stands.seats.standing.seated.each hs.seat))

  begun : far.begun ≡ true
  begun = stands_there.goes.has_begun ∙ plain_begun b.d life past may.plain

  low : hs.seat < 64
  low = let lt = in_list p.seats.table.channels hs.seat hs.channel hs.there in
      let size = served.stands.seats.standing.seated.are.seats in
      omega (arith, lt, size)

  known : (s : SeatState) × (slice_get p.seats.seats hs.seat ≡ Some s)
  known = seat_there p.seats hs.seat far (served.ends hs.seat low) is_far begun

  abbrev s : SeatState
  s = known.0

  followed : IsFollowed (setting_at (setting b served.stands.known_of) hs.seat) most s life past
  followed = served.stands.seats.follow hs.seat hs.channel life s hs.there hs.known hs.lives_there known.1

  same : read_story b.d life past ≡ story b.d life past
  same = plains_are_read b.d life past may.plain

  none_listed : s.slot ≡ true → HasNone s
  none_listed slot i below = ⊎_elim
      (λ asked. absurd (leaves_none (setting b served.stands.known_of) most p past served.stands.seats served.some served.ends hs.seat i low
      (record {
        far = far;
        is_far = is_far;
        begun = begun;
        known = s;
        there = known.1;
        proven = followed.follows.proven ∙ may.heard;
        slot = slot;
        room = ap has_room followed.follows.window.same ∙ ap (lets_send b.d.chunk) same ∙ may.has_room;
        content = below;
        asked = asked;
      })))
      (λ none. none)
      (cases_Bool (has s.list i))

  few_left : AtMost most (IsOwed b.d h life past)
  few_left = ⊎_elim
      (λ slot. most_more followed.lost.chunks most (IsOwed b.d h life past) followed.chunks
      (owed_is_given b.d h life b.is_found (served.stands.known_of hs.seat) past followed.lost s may.plain followed.follows slot (none_listed slot)
      may.few found (owed_below b most p past served h found life)))
      (λ free. absurd (both_ways (choked (story b.d life past)) may.unchoked
      (ap choked (sym same) ∙ sym followed.follows.slot.same ∙ served.chokes hs.seat low far is_far begun s known.1 free)))
      (cases_Bool s.slot)

-- ---- a flush

served_choke : (o p : Option SeatState) (s : SeatState) → IsServedAt o p → p ≡ Some s
    → (was : SeatState) × (o ≡ Some was) × (HasChoke was → HasChoke s)
served_choke None p s served there = let x : None ≡ Some s = sym served ∙ there in absurd cc
served_choke (Some was) p s served there =
    let is = same_Some served.0 s (sym served.1 ∙ there) in (
      was,
      refl,
      λ has free. ap (λ (x : SeatState). x.choked) (sym is) ∙ ap (λ (x : SeatState). x.choked) served.2
          ∙ has (sym (ap (λ (x : SeatState). x.slot) served.2) ∙ ap (λ (x : SeatState). x.slot) is ∙ free),
    )

-- What is owed on the channels that may be served is what was given up, unless the link refused a datagram.
pub flush_serves : (refused : ℕ) (old new : PeerState) (link later : LinkState) (disk left : DiskState)
    → (course : Sends refused old new link later disk left) → length old.parts.holding.store.committed ≡ chunks_of old.parts.holding.store.descriptor → 0 < old.parts.holding.store.descriptor.chunk
    → (b : Beginning) (most : ℕ) (past : List Record) (h : History) → b.since ≤ moment_of disk.history → StandsFor b most old.parts past
    → ((i : ℕ) → StoodThroughout b.d h i → b.is_found i ≡ true)
    → LeavesFew (most + refused) b.d (lets_send b.d.chunk) h (course.flushes.added ++ past) ⊎ HasRisen link.faults later.faults
flush_serves refused old new link later disk left course size some b most past h since stands found =
    ⊎_elim (λ risen. inr risen)
    (λ none. inl (λ life may. few_left b (most + refused) course.sent (course.flushes.added ++ past) (served none) h found life may))
    (risen_or link.faults later.faults)
  where
    s : SendsAll old.dials new.dials old.speaker new.speaker refused (scene old.parts link disk) (scene course.sent later left)
    s = course.sends

    start : Scene
    start = scene s.given link disk

    dialling : IsDialling start s.dialled
    dialling = all_dialling old.dials new.dials start s.dials_all.0 s.dialled s.dials_all.1 s.dials_all.2

    dialled : StandsFor b (most + 0) s.dialled.parts (dialling.flushes.added ++ past)
    dialled = dialling.flushes.stands b most past since (s.gives_up.stands b most past (s.drops.stands b most past stands))

    end : StandsFor b (most + refused) course.sent (course.flushes.added ++ past)
    end = course.flushes.stands b most past since stands

    swarm : old.parts.holding.store.descriptor ≡ b.d
    swarm = stands.ledger.swarm

    chokes : (HasRisen link.faults later.faults → ⊥) → (n : ℕ) → n < 64 → (far : Far)
        → far_of (channel_at course.sent.seats.table n) ≡ Some far → far.begun ≡ true → (x : SeatState)
        → slice_get course.sent.seats.seats n ≡ Some x → HasChoke x
    chokes none n low far is_far begun x there =
        let was = served_choke (slice_get s.said.parts.seats.seats n) (slice_get course.sent.seats.seats n) x (s.serves.alone.states n) there in
        was.2 (⊎_elim (λ has. has)
        (λ risen. absurd (none (risen_more link.faults s.said.link.faults later.faults s.serves.flushes.later
        (risen_less link.faults s.dialled.link.faults s.said.link.faults dialling.flushes.later risen))))
        (said_choke s.unsaid s.speaks.gathered new.speaker (record s.dialled { parts = s.turned }) s.said s.speaks.turns n low
        (slots_owe n s.dialled.parts s.turned s.turns
        (all_owe (setting b dialled.known_of) (most + 0) s.dialled.parts.seats (dialling.flushes.added ++ past) n dialled.seats))
        far (sym (s.serves.far n) ∙ is_far) begun was.0 was.1))

    served : (HasRisen link.faults later.faults → ⊥) → HasServed b (most + refused) course.sent (course.flushes.added ++ past)
    served none = record {
      stands = end;
      size = ap (λ (x : HoldingState). length x.store.committed) course.flushes.holding ∙ size ∙ ap chunks_of swarm;
      some = subst (λ (d : Descriptor). 0 < d.chunk) swarm some;
      ends = s.serves.ends;
      chokes = chokes none;
    }
