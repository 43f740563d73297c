-- Each plain channel's offers are noted as an event comes.
use Rattle.std.proofs.Common.{◌≡◌, ◌⊎◌, inl, inr, ⊎_elim, ℕ, ◌<◌, ◌≤◌, ltb, eqb, Bool, true, false, cond, not, ◌&&◌, ◌||◌, Option, Some, None, List, [], ◌∷◌, length, refl, sym, ◌∙◌, ap, subst, arith}
use Rattle.std.specs.Prelude.{MatchBool, is_some}
use Rattle.std.specs.List.{list_any}
use Rattle.std.proofs.lemmas.Bool.{false≢true, both_ways, cases_lt, and_parts, and_from, or_left, or_right, or_parts, eq-eqb, lt-ltb, ne_eqb}
use Rattle.std.proofs.lemmas.List.{length-append}
use Rattle.std.proofs.lemmas.Option.{same_Some}
use Rattle.pp_terms.specs.format.Descriptor.{Descriptor, chunks_of}
use Rattle.pp_terms.specs.format.Messages.{Messages}
use Rattle.pp_terms.specs.format.Traffic as traffic
use Rattle.pp_terms.specs.format.Traffic.{Record, Received, Quiet, same_address}
use Rattle.pp_traffic.specs.Awaiting.{Awaits, AwaitsAnswer, AwaitsDial, IsReplyOfPeer}
use Rattle.pp_traffic.specs.Life.{Life, greets, answers, begins_fitting, begins_as, comes_on}
use Rattle.pp_traffic.specs.Past.{read, comes_from, goes_to, is_number, some_since, some_until, is_at}
use Rattle.pp_traffic.specs.Plain.{concerns, greets_once, asks_anew, none_until_first, is_handshake, IsPlainNow}
use Rattle.pp_traffic.specs.Story.{heard_in}
use Rattle.pp_traffic.proofs.Awaited.{plain_grows, plain_began}
use Rattle.pp_traffic.proofs.Plains.{greets_from}
use Rattle.pp_traffic.proofs.Standing.{found_at, found_since, stands_since, stands_until}
use Rattle.pp_promises.specs.OwnSide.{has_in, is_offered}
use Rattle.pp_promises.specs.ReadStory.{read_story}
use Rattle.pp_outside.specs.Arrivals.{IsEvent}
use Rattle.pp_outside.specs.Outside.{address_of, record_of}
use Rattle.pp_outside.specs.declared.link.Address.{Address}
use Rattle.pp_outside.specs.declared.link.Event.{Event}
use Rattle.pp_outside.specs.declared.link.Event.TheVariants as events
use Rattle.pp_channels.specs.Seats.{has_local, channel_at}
use Rattle.pp_channels.specs.declared.channel.Channel.{Channel}
use Rattle.pp_fetching.specs.Fetching.{FetchState}
use Rattle.pp_lives.specs.Arriving.{Arrives}
use Rattle.pp_lives.specs.Reading.{opens, is_waiting}
use Rattle.pp_lives.specs.Standing.{Stands, HasSeat, HasDial}
use Rattle.pp_lives.specs.declared.arriving.Arrival.{Arrival}
use Rattle.pp_lives.specs.declared.arriving.Arrival.TheVariants as arrivals
use Rattle.pp_lives.proofs.Arrivals.{contents_read, living_of}
use Rattle.pp_lives.proofs.Own.{stands_of}
use Rattle.pp_lives.proofs.Sent.{same_self}
use Rattle.pp_peer.specs.declared.parts.Parts.{Parts}
use Rattle.pp_peer.specs.Events.{TakesDatagram, TakesEvent, Absorbs, after_datagram}
use Rattle.pp_peer.specs.Greeting.{offers_of}
use Rattle.pp_peer.specs.Standing.{Beginning, IsWhole, size_of, StandsFor}
use Rattle.pp_peer.specs.Taking.{read_at}
use Rattle.pp_peer.proofs.Arrived.{datagram_is}
use Rattle.pp_core.specs.Offering.{IsOfLife, IsOpen, OffersHeard}
use Rattle.pp_core.proofs.Arriving.{IsHeardOn, IsRepliedOn, on_its_seat}
use Rattle.pp_core.proofs.Entering.{IsOpened, IsReplied, arrives_entered, opened_anew, heard_on}
use Rattle.pp_core.proofs.Haves.{of_life_before}
use Rattle.pp_core.proofs.Heeding.{received_offers, quiet_offers, unbegun_offers, heard_since, heard_opening, none_offered, arrival_grows, heard_notes, replied_notes, opened_notes}
use Rattle.pp_core.proofs.Noting.{size_some, IsFetching, GrowsOn}

-- ---- records of an address

at_low : (test : Record → Bool) (place : ℕ) (past : List Record) → is_at test place past ≡ true → place < length past
at_low test place past e =
    let s = found_at test place past e in
    omega (arith, s.place, ap length s.split, length-append s.after (s.here ∷ s.before))

open_began : (d : Descriptor) (life : Life) (past : List Record) → IsOpen d life past → life.opening < length past
open_began d life past (inl plain) = plain_began d life past past plain
open_began d life past (inr awaits) =
    let begins = subst (λ (x : Bool). MatchBool x (AwaitsDial d life past) (AwaitsAnswer d life past)) awaits.0 awaits.1.begins in
    at_low (greets_once d life) life.opening past begins.opened

answers_goes : (d : Descriptor) (life : Life) (r : Record) → answers d life r ≡ true → goes_to life.address r ≡ true
answers_goes d life r e =
    let outer = and_parts (goes_to life.address r && is_number (cond life.is_dialled 0 life.remote) (read d r).channel)
    (begins_as life.local (read d r).messages.read) e in
    (and_parts (goes_to life.address r) (is_number (cond life.is_dialled 0 life.remote) (read d r).channel) outer.0).0

opens_concerns : (d : Descriptor) (life : Life) (r : Record) → opens d life r ≡ true → concerns life.address r ≡ true
opens_concerns d life r e = by life.is_dialled e
  where
    by : (b : Bool) → cond b (answers d life r) (greets d life r) ≡ true → concerns life.address r ≡ true
    by true e = or_right (comes_from life.address r) (goes_to life.address r) (answers_goes d life r e)
    by false e = or_left (comes_from life.address r) (goes_to life.address r) (greets_from d life r e)

-- nothing was sent to an address, before a life began or since
never_answered : (d : Descriptor) (life l : Life) (past : List Record) → l.address ≡ life.address → some_since (answers d l) l.opening past ≡ true
    → some_until (concerns life.address) life.opening past ≡ false → some_since (goes_to life.address) life.opening past ≡ false → ⊥
never_answered d life l past same answered fresh none =
    let s = found_since (answers d l) l.opening past answered in
    let goes = subst (λ (a : traffic.Address). goes_to a s.here ≡ true) same (answers_goes d l s.here s.passes) in
    ⊎_elim
    (λ early. both_ways (some_until (concerns life.address) life.opening past) fresh
    (stands_until (concerns life.address) life.opening past (record {
      after = s.after;
      here = s.here;
      before = s.before;
      split = s.split;
      place = early;
      passes = or_right (comes_from life.address s.here) (goes_to life.address s.here) goes;
    })))
    (λ late. both_ways (some_since (goes_to life.address) life.opening past) none
    (stands_since (goes_to life.address) life.opening past
    (record { after = s.after; here = s.here; before = s.before; split = s.split; place = late; passes = goes })))
    (cases_lt (length s.before) life.opening)

-- no other life of an address was opened, where nothing came from it or went to it
never_opened : (d : Descriptor) (life l : Life) (past : List Record) → l.address ≡ life.address → is_at (opens d l) l.opening past ≡ true
    → life.opening ≡ length past → some_until (concerns life.address) life.opening past ≡ false → ⊥
never_opened d life l past same opened here fresh =
    let s = found_at (opens d l) l.opening past opened in
    both_ways (some_until (concerns life.address) life.opening past) fresh
    (stands_until (concerns life.address) life.opening past (record {
      after = s.after;
      here = s.here;
      before = s.before;
      split = s.split;
      place = omega (arith, here, ap length s.split, length-append s.after (s.here ∷ s.before));
      passes = subst (λ (a : traffic.Address). concerns a s.here ≡ true) same (opens_concerns d l s.here s.passes);
    }))

sized : (chunks : ℕ) (o : Option FetchState) → is_some o ≡ true → ((f : FetchState) → o ≡ Some f → length f.want.had ≡ chunks)
    → size_of o ≡ Some chunks
sized chunks None some size = absurd (false≢true some)
sized chunks (Some f) some size = ap (λ (n : ℕ). Some n) (size f refl)

-- ---- a datagram

module _ (b : Beginning) (most : ℕ) (past : List Record) (old mid : Parts) (stands : StandsFor b most old past) (whole : IsWhole old)
    (sender : Address) (moment : ℕ) (bytes : List ℕ) (t : TakesDatagram sender bytes moment (after_datagram old) mid)
    (heard : OffersHeard b.d old past) (life : Life) (n : ℕ) (c : Channel) (there : channel_at mid.seats.table n ≡ Some c)
    (of_life : IsOfLife c life) (fetching : is_some mid.fetching ≡ true) (i : ℕ) (low : i < chunks_of b.d)
    (offered : is_offered i (read_story b.d life (Received moment (address_of sender) bytes ∷ past)) ≡ true) where
  abbrev r : Record
  r = Received moment (address_of sender) bytes

  abbrev lives : ℕ → Option Life
  lives = stands.seats.lives

  abbrev goal : Type 0
  goal = offers_of mid.fetching n i ≡ true

  grows : GrowsOn t.mid mid
  grows = arrival_grows t.arrival sender bytes t.slot t.mid mid t.hears

  same_fetching : t.mid.fetching ≡ old.fetching
  same_fetching = ap (λ (p : Parts). p.fetching) t.rest

  fetched : is_some old.fetching ≡ true
  fetched = sym (ap is_some same_fetching) ∙ sym (size_some t.mid.fetching mid.fetching grows.size) ∙ fetching

  is_fetching : IsFetching (chunks_of b.d) t.mid
  is_fetching = record {
    size = ap size_of same_fetching ∙ sized (chunks_of b.d) old.fetching fetched
        (λ f is. whole.content f is ∙ ap chunks_of stands.ledger.swarm);
    swarm = ap (λ (p : Parts). chunks_of p.holding.store.descriptor) t.rest ∙ ap chunks_of stands.ledger.swarm;
  }

  -- what the seat offered it offers
  kept : offers_of old.fetching n i ≡ true → goal
  kept was = grows.each n i c there (ap (λ (o : Option FetchState). offers_of o n i) same_fetching ∙ was)

  swarm : t.mid.seats.descriptor ≡ b.d
  swarm = t.swarm ∙ stands.seats.swarm

  arrives : Arrives b.d old.seats.table sender t.mid.seats.moment bytes t.arrival t.mid.seats.table
  arrives = subst (λ (d : Descriptor). Arrives d old.seats.table sender t.mid.seats.moment bytes t.arrival t.mid.seats.table) stands.seats.swarm
      t.arrives

  -- the channel as the messages found it
  came : (e : Channel) × (channel_at t.mid.seats.table n ≡ Some e) × (is_waiting e ≡ false) × (e.address ≡ c.address) × (e.local ≡ c.local)
      × (e.remote ≡ c.remote)
  came = grows.came n c there of_life.known

  abbrev Known : Type 0
  Known = (e : Channel) × (channel_at old.seats.table n ≡ Some e) × (is_waiting e ≡ false) × (e.address ≡ came.0.address) × (e.local ≡ came.0.local)
      × (e.remote ≡ came.0.remote)

  entered : Known ⊎ (IsOpened sender t.arrival n old.seats.table came.0 ⊎ IsReplied t.arrival n old.seats.table came.0)
  entered = arrives_entered b.d old.seats.table sender t.mid.seats.moment bytes t.mid.seats.table t.arrival arrives n came.0 came.1 came.2

  of_known : (e : Known) → IsOfLife e.0 life
  of_known e = of_life_before c e.0 life of_life e.2 (e.3 ∙ came.3) (e.4 ∙ came.4) (e.5 ∙ came.5)

  all_read : 4 ≤ length bytes → list_any (has_in i) (read b.d r).messages.read ≡ true
      → list_any (has_in i) (read_at t.mid.seats.descriptor bytes 4) ≡ true
  all_read long some = ap (λ (d : Descriptor). list_any (has_in i) (read_at d bytes 4)) swarm
      ∙ ap (λ (m : Messages). list_any (has_in i) m.read) (sym (contents_read b.d bytes long)) ∙ some

  -- a datagram that came on a life that began before
  on_life : life.opening < length past → list_any (has_in i) (heard_in b.d life (eqb life.opening (length past)) r) ≡ true
      → (comes_on b.d life r ≡ true) × (list_any (has_in i) (read b.d r).messages.read ≡ true)
  on_life began here = heard_since b.d life i r (eqb life.opening (length past)) (ne_eqb life.opening (length past) (λ is. omega (arith, is, began))) here

  -- on a channel that was there
  on_known : IsOpen b.d life past → Known → goal
  on_known open_still e = ⊎_elim
      (λ here.
      let it = on_life (open_began b.d life past open_still) here in
      let on = and_parts (comes_from life.address r) (is_number life.local (read b.d r).channel) it.0 in
      let at = heard_on b.d old.seats.table t.mid.seats.table sender t.mid.seats.moment bytes t.arrival n moment e.0
      stands.seats.standing.seated.are arrives e.1 e.2
      (subst (λ (a : traffic.Address). comes_from a r ≡ true) (of_known e).address on.0)
      (subst (λ (k : ℕ). is_number k (read b.d r).channel ≡ true) (of_known e).local on.1) in
      heard_notes (chunks_of b.d) n t.arrival sender bytes t.slot t.mid mid t.hears at.0 is_fetching c there i low (all_read at.1 it.1))
      (λ before. kept (heard life open_still n e.0 e.1 (of_known e) fetched i low before))
      (received_offers b.d life i moment (address_of sender) bytes past offered)

  -- what stands for a seat's channel
  stood : (k : ℕ) (e : Channel) (l : Life) → channel_at old.seats.table k ≡ Some e → lives k ≡ Some l → Stands b.d e l past
  stood k e l is living = stands_of b.d (channel_at old.seats.table k) (lives k) e l past (stands.seats.standing.seated.each k) is living

  local_is : came.0.local ≡ life.local
  local_is = came.4 ∙ sym of_life.local

  -- where the life has its seat, no channel was opened or replied to with its number
  seat_alone : HasSeat old.seats.table lives life → IsOpened sender t.arrival n old.seats.table came.0 ⊎ IsReplied t.arrival n old.seats.table came.0 → ⊥
  seat_alone h (inl o) =
      let st = stood h.seat h.channel life h.there h.lives_there in
      both_ways (has_local came.0.local (Some h.channel)) (ap (has_local came.0.local) (sym h.there) ∙ o.fresh h.seat)
      (eq-eqb h.channel.local came.0.local (sym st.local ∙ sym local_is))
  seat_alone h (inr p) =
      let st = stood h.seat h.channel life h.there h.lives_there in
      let one : n ≡ h.seat = stands.seats.standing.seated.are.differ n h.seat p.before h.channel p.there h.there (p.local ∙ local_is ∙ st.local) in
      let same = same_Some p.before h.channel (sym p.there ∙ ap (λ (k : ℕ). channel_at old.seats.table k) one ∙ h.there) in
      both_ways (is_waiting h.channel) h.known (ap is_waiting (sym same) ∙ p.waits)

  -- a channel at the address of the life, where nothing was sent there
  address_is : came.0.address ≡ c.address
  address_is = came.3

  replied_never : (l : Life) (e : Channel) → Stands b.d e l past → e.address ≡ came.0.address → l.address ≡ life.address
  replied_never l e st same = st.address ∙ ap address_of (same ∙ address_is) ∙ sym of_life.address

  -- a dial awaits no reply at an address to which nothing was sent
  no_dial : Awaits b.d life past → AwaitsAnswer b.d life past → IsReplied t.arrival n old.seats.table came.0 → ⊥
  no_dial awaits answer p =
      let begun = stands.seats.begun n p.before p.there p.waits in
      let l = living_of b.d old.seats.table lives past n p.before stands.seats.standing.seated p.there (inr begun) in
      let st = stood n p.before l.0 p.there l.1 in
      never_answered b.d life l.0 past (replied_never l.0 p.before st p.address) (sym st.goes.has_begun ∙ begun) awaits.fresh answer.none_sent

  -- no other handshake came for channel 0
  no_opening : Awaits b.d life (r ∷ past) → life.is_dialled ≡ false → AwaitsAnswer b.d life past → life.opening < length past
      → IsOpened sender t.arrival n old.seats.table came.0 → ⊥
  no_opening awaits answered answer began o =
      let begins = subst (λ (x : Bool). MatchBool x (AwaitsDial b.d life (r ∷ past)) (AwaitsAnswer b.d life (r ∷ past))) answered awaits.begins in
      let anew = opened_anew b.d old.seats.table t.mid.seats.table sender t.mid.seats.moment moment n o.next bytes
      (subst (λ (a : Arrival). Arrives b.d old.seats.table sender t.mid.seats.moment bytes a t.mid.seats.table) o.is arrives) in
      let from : comes_from life.address r ≡ true = subst (λ (a : traffic.Address). same_address (address_of sender) a ≡ true)
      (ap address_of (sym o.address ∙ address_is) ∙ sym of_life.address) (same_self (address_of sender)) in
      let asks : asks_anew b.d life r ≡ true = and_from (comes_from life.address r && is_number 0 (read b.d r).channel)
      (list_any is_handshake (read b.d r).messages.read)
      (and_from (comes_from life.address r) (is_number 0 (read b.d r).channel) from anew.zero) anew.shakes in
      let both = and_from (ltb life.opening (length past)) (asks_anew b.d life r) (lt-ltb life.opening (length past) began) asks in
      both_ways (some_since (goes_to life.address) life.opening past) answer.none_sent
      (ap (λ (x : Bool). not x || some_since (goes_to life.address) life.opening past) (sym both)
      ∙ (and_parts (not (ltb life.opening (length past) && asks_anew b.d life r) || some_since (goes_to life.address) life.opening past)
      (none_until_first (goes_to life.address) (asks_anew b.d life) life.opening past) begins.only_one).0)

  -- where the channel was plain
  on_plain : IsPlainNow b.d life past → goal
  on_plain plain = ⊎_elim
      (λ e. on_known (inl plain) e)
      (λ new. absurd (seat_alone (stands.seats.standing.plains.plain life plain) new))
      entered

  -- where it awaited this peer's reply
  on_awaiting : life.is_dialled ≡ false → Awaits b.d life past → Awaits b.d life (r ∷ past) → goal
  on_awaiting answered awaits still =
      let answer = subst (λ (x : Bool). MatchBool x (AwaitsDial b.d life past) (AwaitsAnswer b.d life past)) answered awaits.begins in
      ⊎_elim
      (λ e. on_known (inr (answered, awaits)) e)
      (λ new. ⊎_elim
      (λ o. absurd (no_opening still answered answer (at_low (greets_once b.d life) life.opening past answer.opened) o))
      (λ p. absurd (no_dial awaits answer p))
      new)
      entered

  -- where the datagram opened it
  on_opening : life.is_dialled ≡ false → life.opening ≡ length past → greets_once b.d life r ≡ true
      → some_until (concerns life.address) life.opening past ≡ false → goal
  on_opening answered here once fresh = ⊎_elim
      (λ e. absurd (
      let l = living_of b.d old.seats.table lives past n e.0 stands.seats.standing.seated e.1 (inl e.2) in
      let st = stood n e.0 l.0 e.1 l.1 in
      never_opened b.d life l.0 past (replied_never l.0 e.0 st e.3) st.opened here fresh))
      (λ new. ⊎_elim
      (λ o. opened o)
      (λ p. absurd (
      let l = living_of b.d old.seats.table lives past n p.before stands.seats.standing.seated p.there
      (inr (stands.seats.begun n p.before p.there p.waits)) in
      let st = stood n p.before l.0 p.there l.1 in
      never_opened b.d life l.0 past (replied_never l.0 p.before st p.address) st.opened here fresh))
      new)
      entered
    where
      opened : IsOpened sender t.arrival n old.seats.table came.0 → goal
      opened o = ⊎_elim
          (λ these.
          let anew = opened_anew b.d old.seats.table t.mid.seats.table sender t.mid.seats.moment moment n o.next bytes
          (subst (λ (a : Arrival). Arrives b.d old.seats.table sender t.mid.seats.moment bytes a t.mid.seats.table) o.is arrives) in
          opened_notes (chunks_of b.d) n o.next t.arrival sender bytes t.slot t.mid mid t.hears o.is is_fetching c there i low
          (ap (λ (d : Descriptor). list_any (has_in i) (read_at d bytes o.next)) swarm ∙ ap (list_any (has_in i)) anew.behind
          ∙ heard_opening b.d life i r (eqb life.opening (length past)) (eq-eqb life.opening (length past) here) answered
          (and_parts (greets b.d life r) _ once).0 these))
          (λ before. absurd (unbegun_offers b.d life i past (omega (arith, here)) before))
          (received_offers b.d life i moment (address_of sender) bytes past offered)

  -- where the datagram is the reply to this peer's dial
  on_reply : IsReplyOfPeer b.d life r past → goal
  on_reply of_peer = ⊎_elim
      (λ (h : IsHeardOn old.seats.table lives life bytes t.arrival). absurd (not_both h.has))
      (λ (h : IsRepliedOn b.d old.seats.table lives life bytes r past t.arrival). ⊎_elim
      (λ e. absurd (not_known e))
      (λ new. ⊎_elim
      (λ o. absurd (let x : arrivals.Opened n o.next ≡ arrivals.Replied h.has.seat = sym o.is ∙ h.is in cc))
      (λ p. ⊎_elim
      (λ these. replied_notes (chunks_of b.d) n t.arrival sender bytes t.slot t.mid mid t.hears p.is is_fetching c there i low
      (all_read h.long (on_life (at_low (answers b.d life) life.opening past awaited.opened) these).1))
      (λ before. absurd (none_offered b.d life i past of_peer.0 awaited.none_came before))
      (received_offers b.d life i moment (address_of sender) bytes past offered))
      new)
      entered)
      (on_its_seat b.d old.seats.table t.mid.seats.table lives past sender moment t.mid.seats.moment bytes t.arrival life stands.seats.standing arrives
      ((plain_grows.up_to b.d life r past).1 (inr of_peer)) comes)
    where
      awaited : AwaitsDial b.d life past
      awaited = subst (λ (x : Bool). MatchBool x (AwaitsDial b.d life past) (AwaitsAnswer b.d life past)) of_peer.0 of_peer.1.begins

      outer : ((comes_from life.address r && is_number (cond life.is_dialled life.local 0) (read b.d r).channel) ≡ true)
          × (begins_fitting b.d life.is_dialled life.remote (read b.d r).messages.read ≡ true)
      outer = and_parts (comes_from life.address r && is_number (cond life.is_dialled life.local 0) (read b.d r).channel)
          (begins_fitting b.d life.is_dialled life.remote (read b.d r).messages.read) of_peer.2

      comes : comes_on b.d life r ≡ true
      comes = subst (λ (x : Bool). (comes_from life.address r && is_number (cond x life.local 0) (read b.d r).channel) ≡ true) of_peer.0 outer.0

      dial : HasDial old.seats.table lives life
      dial = stands.seats.standing.plains.dial life of_peer.0 of_peer.1

      dial_local : dial.channel.local ≡ life.local
      dial_local =
          let st = stood dial.seat dial.channel dial.lives_there.0 dial.there dial.lives_there.1 in
          sym st.local ∙ sym (ap (λ (l : Life). l.local) dial.lives_there.2)

      -- no channel whose other peer's number is known has that of the dial
      waits_alone : (k : ℕ) (e : Channel) → channel_at old.seats.table k ≡ Some e → is_waiting e ≡ false → e.local ≡ life.local → ⊥
      waits_alone k e is known local =
          let one : k ≡ dial.seat = stands.seats.standing.seated.are.differ k dial.seat e dial.channel is dial.there (local ∙ sym dial_local) in
          let same = same_Some e dial.channel (sym is ∙ ap (λ (j : ℕ). channel_at old.seats.table j) one ∙ dial.there) in
          both_ways (is_waiting e) known (ap is_waiting same ∙ dial.waits)

      not_known : Known → ⊥
      not_known e = waits_alone n e.0 e.1 e.2 (e.4 ∙ local_is)

      not_both : HasSeat old.seats.table lives life → ⊥
      not_both h = waits_alone h.seat h.channel h.there h.known (sym (stood h.seat h.channel life h.there h.lives_there).local)

  -- whatever it was before
  datagram_noted : IsOpen b.d life (r ∷ past) → goal
  datagram_noted (inl plain) = ⊎_elim
      (λ before. on_plain before.0)
      (λ reply. on_reply reply)
      ((plain_grows.received b.d life moment (address_of sender) bytes past).0 plain).1
  datagram_noted (inr awaits) = ⊎_elim
      (λ before. on_awaiting awaits.0 before awaits.1)
      (λ opened. on_opening awaits.0 opened.0
      (subst (λ (x : Bool). MatchBool x (answers b.d life r ≡ true) (greets_once b.d life r ≡ true)) awaits.0 opened.1)
      (or_parts (ltb (length past) life.opening && concerns life.address r) (some_until (concerns life.address) life.opening past) awaits.1.fresh).1)
      (plain_grows.awaited b.d life r past awaits.1)

-- ---- an event

open_quiet : (d : Descriptor) (life : Life) (moment : ℕ) (past : List Record) → IsOpen d life (Quiet moment ∷ past) → IsOpen d life past
open_quiet d life moment past (inl plain) = inl ((plain_grows.quiet d life moment past).0 plain).0
open_quiet d life moment past (inr awaits) = ⊎_elim
    (λ before. inr (awaits.0, before))
    (λ opened. absurd (false≢true (subst (λ (x : Bool). MatchBool x (answers d life (Quiet moment) ≡ true) (greets_once d life (Quiet moment) ≡ true))
    awaits.0 opened.1)))
    (plain_grows.awaited d life (Quiet moment) past awaits.1)

taken_heard : (b : Beginning) (most : ℕ) (past : List Record) (old mid : Parts) → StandsFor b most old past → IsWhole old → (event : Event)
    (bytes : List ℕ) → IsEvent event bytes → TakesEvent event bytes old mid → OffersHeard b.d old past → OffersHeard b.d mid (record_of event bytes ∷ past)
taken_heard b most past old mid stands whole (events.Datagram sender len at) bytes fits t heard =
    subst (λ (r : Record). OffersHeard b.d mid (r ∷ past)) (sym (datagram_is (events.Datagram sender len at) bytes sender len at refl fits))
    (λ life is seat c there of_life fetching i low offered.
    datagram_noted b most past old mid stands whole sender at bytes t heard life seat c there of_life fetching i low offered is)
taken_heard b most past old mid stands whole (events.Quiet at) bytes fits t heard =
    λ life is seat c there of_life fetching i low offered.
    ap (λ (p : Parts). offers_of p.fetching seat i) t
    ∙ heard life (open_quiet b.d life at past is) seat c (ap (λ (p : Parts). channel_at p.seats.table seat) (sym t) ∙ there) of_life
    (ap (λ (p : Parts). is_some p.fetching) (sym t) ∙ fetching) i low (quiet_offers b.d life i at past offered)

-- An event keeps it.
pub absorbs_heard : (b : Beginning) (most : ℕ) (past : List Record) (old new : Parts) → StandsFor b most old past → IsWhole old → (event : Event)
    (bytes : List ℕ) → IsEvent event bytes → Absorbs event bytes old new → OffersHeard b.d old past → OffersHeard b.d new (record_of event bytes ∷ past)
absorbs_heard b most past old new stands whole event bytes fits a heard life is seat c there of_life fetching i low offered =
    ap (λ (p : Parts). offers_of p.fetching seat i) a.rest
    ∙ taken_heard b most past old a.mid stands whole event bytes fits a.takes heard life is seat c
    (ap (λ (p : Parts). channel_at p.seats.table seat) (sym a.rest) ∙ there) of_life
    (ap (λ (p : Parts). is_some p.fetching) (sym a.rest) ∙ fetching) i low offered

-- A peer to which nothing came has heard nothing.
pub none_heard : (d : Descriptor) (p : Parts) → OffersHeard d p []
none_heard d p life is seat c there of_life fetching i low offered = absurd (false≢true offered)
