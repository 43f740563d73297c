-- A channel that may be asked, in the words of the promises, is a seat on which more may be asked for.
use Rattle.std.proofs.Common.{◌≡◌, inl, inr, ⊎_elim, ℕ, ◌<◌, ◌≤◌, true, false, Option, Some, None, List, refl, sym, ◌∙◌, ap, subst, arith, not}
use Rattle.std.specs.Prelude.{unwrap_or, slice_get}
use Rattle.std.proofs.lemmas.Bool.{cases_Bool, both_ways, and_from}
use Rattle.pp_terms.specs.format.Descriptor.{Descriptor, chunks_of}
use Rattle.pp_terms.specs.format.Traffic.{Record}
use Rattle.pp_traffic.specs.Fates.{clock}
use Rattle.pp_traffic.specs.Life.{Life}
use Rattle.pp_traffic.specs.Past.{now}
use Rattle.pp_traffic.specs.Story.{story}
use Rattle.pp_traffic.proofs.Moments.{clocks_are_now}
use Rattle.pp_promises.specs.Asked.{MayBeAsked}
use Rattle.pp_promises.specs.OwnSide.{is_choked_by_peer, has_old_request}
use Rattle.pp_promises.specs.ReadStory.{read_story}
use Rattle.pp_promises.proofs.ReadStories.{plains_are_read}
use Rattle.pp_requests.specs.Moments.{asked_at}
use Rattle.pp_channels.specs.Seats.{channel_at, is_begun}
use Rattle.pp_channels.specs.declared.channel.Channel.{Channel}
use Rattle.pp_lives.specs.Fars.{far_of}
use Rattle.pp_lives.specs.Reading.{is_waiting, is_proven}
use Rattle.pp_lives.specs.Standing.{Stands, StandsAt, HasSeat}
use Rattle.pp_lives.specs.declared.lives.Far.{Far}
use Rattle.pp_seat.specs.Lines.{is_asked_at}
use Rattle.pp_seat.specs.Seats.{SeatState}
use Rattle.pp_seats.specs.Sending.{IsSilent}
use Rattle.pp_seats.specs.Standing.{SeatsState, at_seat as setting_at, IsFollowed}
use Rattle.pp_peer.specs.declared.parts.Parts.{Parts}
use Rattle.pp_peer.specs.Serving.{most_sent, flying_in, IsServed}
use Rattle.pp_promises.specs.OwnSide.{most_asked}
use Rattle.pp_core.proofs.Rooms.{most_where_may}
use Rattle.pp_peer.specs.Speaking.{most_of}
use Rattle.pp_peer.specs.Standing.{Beginning, setting, StandsFor}
use Rattle.pp_core.specs.Offering.{IsOfLife}
use Rattle.pp_core.proofs.Served.{in_list, known_far, plain_begun}

-- The seat of a channel's life, to whose peer this peer's handshake was sent, and where more may be asked for. What is awaited
-- there the story names.
pub record IsAskable (d : Descriptor) (p : Parts) (life : Life) (past : List Record) : Type 0 where
  pub seat : ℕ
  pub low : seat < 64
  pub channel : Channel
  pub there : channel_at p.seats.table seat ≡ Some channel
  pub of_life : IsOfLife channel life
  pub far : Far
  pub is_far : far_of (channel_at p.seats.table seat) ≡ Some far
  pub begun : far.begun ≡ true
  pub state : SeatState
  pub state_there : slice_get p.seats.seats seat ≡ Some state
  pub most : most_of state ≡ 32
  pub named : (i moment : ℕ) → asked_at state.own i ≡ Some moment → is_asked_at (chunks_of d) i moment (read_story d life past) ≡ true

seat_there : (p : SeatsState) (n : ℕ) (far : Far) → IsServed p n → far_of (channel_at p.table n) ≡ Some far → far.begun ≡ true
    → (s : SeatState) × (slice_get p.seats n ≡ Some s)
seat_there p n far (inl (inl silent)) is_far begun =
    absurd (both_ways far.begun (subst (λ (o : Option Far). IsSilent o) is_far silent) begun)
seat_there p n far (inl (inr (s, there, rest))) is_far begun = (s, there)
seat_there p n far (inr many) is_far begun = of (slice_get p.seats n) many
  where
    of : (o : Option SeatState) → most_sent ≤ flying_in o → (s : SeatState) × (o ≡ Some s)
    of None many = absurd (omega (arith, many))
    of (Some s) many = (s, refl)

module _ (b : Beginning) (most : ℕ) (p : Parts) (past : List Record) (stands : StandsFor b most p past)
    (ends : (n : ℕ) → n < 64 → IsServed p.seats n) (life : Life) (may : MayBeAsked b.d life past) where
  abbrev hs : HasSeat p.seats.table stands.seats.lives life
  hs = stands.seats.standing.plains.plain life may.plain

  abbrev far : Far
  far = record {
    address = hs.channel.address;
    number = unwrap_or hs.channel.remote 0;
    proven = is_proven hs.channel;
    begun = is_begun hs.channel.opening;
  }

  is_far : far_of (channel_at p.seats.table hs.seat) ≡ Some far
  is_far = ap far_of hs.there ∙ known_far (is_waiting hs.channel) far hs.known

  stands_there : Stands b.d hs.channel life past
  stands_there = subst (λ (o : Option Life). StandsAt b.d (Some hs.channel) o past) hs.lives_there
      (subst (λ (o : Option Channel). StandsAt b.d o (stands.seats.lives hs.seat) past) hs.there
      (stands.seats.standing.seated.each hs.seat))

  begun : far.begun ≡ true
  begun = stands_there.goes.has_begun ∙ plain_begun b.d life past may.plain

  low : hs.seat < 64
  low = let lt = in_list p.seats.table.channels hs.seat hs.channel hs.there in
      let size = stands.seats.standing.seated.are.seats in
      omega (arith, lt, size)

  known : (s : SeatState) × (slice_get p.seats.seats hs.seat ≡ Some s)
  known = seat_there p.seats hs.seat far (ends hs.seat low) is_far begun

  abbrev s : SeatState
  s = known.0

  followed : IsFollowed (setting_at (setting b stands.known_of) hs.seat) most s life past
  followed = stands.seats.follow hs.seat hs.channel life s hs.there hs.known hs.lives_there known.1

  same : read_story b.d life past ≡ story b.d life past
  same = plains_are_read b.d life past may.plain

  clock_is : clock (read_story b.d life past) ≡ now past
  clock_is = ap clock same ∙ clocks_are_now b.d life past followed.handed

  unstopped : s.stopped ≡ false
  unstopped = ⊎_elim
      (λ stopped. absurd (both_ways (has_old_request (now past) (story b.d life past)) may.fresh
      (ap (has_old_request (now past)) (sym same)
      ∙ ap (λ (n : ℕ). has_old_request n (read_story b.d life past)) (sym clock_is) ∙ followed.follows.own.expired stopped)))
      (λ goes_on. goes_on)
      (cases_Bool s.stopped)

  unchoked : s.chokes ≡ false
  unchoked = ⊎_elim
      (λ chokes. absurd (both_ways (is_choked_by_peer (story b.d life past)) may.unchoked
      (ap is_choked_by_peer (sym same) ∙ followed.follows.own.choked chokes)))
      (λ free. free)
      (cases_Bool s.chokes)

  most_is : most_of s ≡ 32
  most_is = most_where_may s (and_from s.proven (not s.chokes) (followed.follows.proven ∙ may.heard) (ap not unchoked)) ∙ ap most_asked unstopped

  pub askable : IsAskable b.d p life past
  askable = record {
    seat = hs.seat;
    low = low;
    channel = hs.channel;
    there = hs.there;
    of_life = record {
      known = hs.known;
      address = stands_there.address;
      local = stands_there.local;
      remote = (stands_there.remote hs.known).0;
    };
    far = far;
    is_far = is_far;
    begun = begun;
    state = s;
    state_there = known.1;
    most = most_is;
    named = followed.follows.own.named;
  }
