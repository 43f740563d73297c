-- A plain channel at the begin of a flush.
use Rattle.std.proofs.Common.{◌≡◌, ⊎_elim, inl, ℕ, true, Option, Some, List, sym, ◌∙◌, ap, subst, arith}
use Rattle.std.specs.List.{slice_get}
use Rattle.std.proofs.lemmas.Bool.{cases_Bool}
use Rattle.pp_terms.specs.disk.Disk.{DiskState}
use Rattle.pp_terms.specs.format.Traffic.{Record, LinkState}
use Rattle.pp_traffic.specs.Asking.{is_heard}
use Rattle.pp_traffic.specs.Life.{Life}
use Rattle.pp_traffic.specs.Plain.{IsPlainNow}
use Rattle.pp_channels.specs.Seats.{is_begun}
use Rattle.pp_channels.specs.Timing.{is_over}
use Rattle.pp_channels.specs.declared.channel.Channel.{Channel}
use Rattle.pp_lives.specs.Standing.{Stands, StandsAt, HasSeat}
use Rattle.pp_lives.proofs.Plainly.{expired_done}
use Rattle.pp_seat.specs.Seats.{SeatState}
use Rattle.pp_peer.specs.Standing.{Beginning, StandsFor}
use Rattle.pp_core.specs.Peers.{PeerState}
use Rattle.pp_core.specs.Telling.{end_of, IsLasting, IsProven}
use Rattle.pp_core.specs.Turning.{scene, Sends}
use Rattle.pp_core.proofs.Choked.{kept_from}
use Rattle.pp_core.proofs.Served.{in_list, plain_begun}
use Rattle.pp_core.proofs.Spoken.{heard_at, IsSpoken, seat_turn, spoken}

module _ (refused : ℕ) (old new : PeerState) (link later : LinkState) (disk left : DiskState) (course : Sends refused old new link later disk left)
    (b : Beginning) (most : ℕ) (past : List Record) (stands : StandsFor b most old.parts past) (life : Life) (plain : IsPlainNow b.d life past) where
  abbrev hs : HasSeat old.parts.seats.table stands.seats.lives life
  hs = stands.seats.standing.plains.plain life plain

  pub stands_there : Stands b.d hs.channel life past
  stands_there = subst (λ (o : Option Life). StandsAt b.d (Some hs.channel) o past) hs.lives_there
      (subst (λ (o : Option Channel). StandsAt b.d o (stands.seats.lives hs.seat) past) hs.there
      (stands.seats.standing.seated.each hs.seat))

  pub begun_there : is_begun hs.channel.opening ≡ true
  begun_there = stands_there.goes.has_begun ∙ plain_begun b.d life past plain

  lasting : IsLasting hs.seat hs.channel old.parts
  lasting = record {
    below = (let lt = in_list old.parts.seats.table.channels hs.seat hs.channel hs.there in
        let size = stands.seats.standing.seated.are.seats in
        omega (arith, lt, size));
    there = hs.there;
    lasts = ⊎_elim
        (λ over. absurd ((expired_done b.d old.parts.seats.table stands.seats.lives hs.seat hs.channel past stands.seats.standing.seated
        stands.seats.standing.plains hs.there (ap (λ (n : ℕ). is_over n (Some hs.channel)) (sym stands.seats.now_is) ∙ over)).plain
        life hs.lives_there plain))
        (λ lasts. lasts)
        (cases_Bool (is_over old.parts.seats.moment (Some hs.channel)));
  }

  says : IsSpoken hs.seat (end_of hs.channel) (scene old.parts link disk) later
  says = spoken hs.seat hs.channel (end_of hs.channel) (scene old.parts link disk) later (heard_at hs.seat hs.channel old.parts lasting hs.known)
      (inl begun_there) (seat_turn hs.seat hs.channel old.dials new.dials old.speaker new.speaker refused (scene old.parts link disk)
      (scene course.sent later left) lasting course.sends)

  known : (s : SeatState) × (slice_get old.parts.seats.seats hs.seat ≡ Some s)
  known =
      let from = kept_from old.parts.seats.moment (slice_get old.parts.seats.seats hs.seat) (slice_get says.turn.begin.parts.seats.seats hs.seat)
      says.speaks.sets_back.known says.speaks.sets_back.there says.turn.kept.seats.state in (from.0, from.1)

  -- where something came for this peer's number the channel is proven
  pub proven_there : is_heard b.d life past ≡ true → IsProven hs.seat hs.channel old.parts
  proven_there heard = record {
    peer = record { lasting = lasting; numbered = hs.known; begun = inl begun_there; known = known.0; messages = known.1 };
    proven = (stands.seats.follow hs.seat hs.channel life known.0 hs.there hs.known hs.lives_there known.1).follows.proven ∙ heard;
  }
