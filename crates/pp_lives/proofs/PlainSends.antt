-- Each plain channel has its seat: where this peer sends, dials, or opens a channel.
use Rattle.std.proofs.Common.{◌≡◌, ◌≢◌, ⊎_elim, ℕ, ◌<◌, eqb, leb, Bool, true, false, cond, ◌&&◌, Option, Some, None, List, ◌∷◌, ◌++◌, length, refl, sym, ◌∙◌, ap, subst, arith}
use Rattle.std.specs.Prelude.{MatchBool}
use Rattle.std.proofs.lemmas.Bool.{cases_Bool, cases_order, or_right, and_parts, both_ways, cond-true, cond-false, false_from_ne_true, eqb-true, eqb-false, eq-eqb, ne_eqb}
use Rattle.std.proofs.lemmas.Option.{same_Some}
use Rattle.pp_terms.specs.format.Traffic as traffic
use Rattle.pp_terms.specs.format.Traffic.{Record, Received, Sent, same_address}
use Rattle.pp_terms.specs.format.Descriptor.{Descriptor}
use Rattle.pp_traffic.specs.Past.{read, comes_from, goes_to, is_number, some_since, some_until, is_at}
use Rattle.pp_traffic.specs.Life.{Life, greets, answers, begins_as}
use Rattle.pp_traffic.specs.Plain.{concerns, greets_once}
use Rattle.pp_traffic.specs.Awaiting.{Awaits, AwaitsDial, AwaitsAnswer, IsReply}
use Rattle.pp_traffic.specs.Places.{StandsBefore}
use Rattle.pp_traffic.proofs.Standing.{found_at, stands_since, stands_until}
use Rattle.pp_traffic.proofs.Plains.{IsReplyTo, one_opening}
use Rattle.pp_traffic.proofs.Awaited.{plain_grows, answers_goes}
use Rattle.pp_outside.specs.Outside.{address_of}
use Rattle.pp_outside.specs.declared.link.Address.{Address}
use Rattle.pp_channels.specs.Seats.{is_dialled, answered, dialled}
use Rattle.pp_channels.specs.declared.channel.Channel.{Channel}
use Rattle.pp_lives.specs.Reading.{is_waiting}
use Rattle.pp_channels.specs.Seats.{Seats, channel_at}
use Rattle.pp_lives.specs.Standing.{Stands, Seated, Plains}
use Rattle.pp_lives.specs.Calls.{Changes, with_life, dialled_life, IsDialOf}
use Rattle.pp_lives.proofs.Staying.{began, waits_dialled}
use Rattle.pp_lives.proofs.Own.{stands_of}
use Rattle.pp_lives.proofs.Missed.{MissesAll}
use Rattle.pp_lives.proofs.Sent.{same_is, same_there}
use Rattle.pp_lives.proofs.Plainly.{awaits_none, no_reply, plains_received}

-- ---- one record of two kinds

-- What this peer sent to an address at a place is before or behind what opened a fresh channel there.
sent_apart : (d : Descriptor) (life other : Life) (past : List Record) → life.is_dialled ≡ false → Awaits d life past → is_at (answers d other) other.opening past ≡ true → other.address ≡ life.address → ⊥
sent_apart d life other past answered is opened same =
    let s = found_at (answers d other) other.opening past opened in
    let goes : goes_to life.address s.here ≡ true = subst (λ (a : traffic.Address). goes_to a s.here ≡ true) same (answers_goes d other s.here s.passes) in
    let begins = subst (λ (b : Bool). MatchBool b (AwaitsDial d life past) (AwaitsAnswer d life past)) answered is.begins in
    ⊎_elim
    (λ here. elsewhere s.after s.here s.before s.split s.place goes here)
    (λ apart. ⊎_elim
    (λ later. both_ways (some_since (goes_to life.address) life.opening past) begins.none_sent
    (stands_since (goes_to life.address) life.opening past (record { after = s.after; here = s.here; before = s.before; split = s.split; place = omega (arith, s.place, later); passes = goes })))
    (λ earlier. both_ways (some_until (concerns life.address) life.opening past) is.fresh
    (stands_until (concerns life.address) life.opening past (record { after = s.after; here = s.here; before = s.before; split = s.split; place = omega (arith, s.place, earlier); passes = or_right (comes_from life.address s.here) (goes_to life.address s.here) goes })))
    apart)
    (cases_order life.opening other.opening)
  where
    elsewhere : (after : List Record) (r : Record) (before : List Record) → past ≡ after ++ r ∷ before → length before ≡ other.opening → goes_to life.address r ≡ true → life.opening ≡ other.opening → ⊥
    elsewhere after r before split place goes here =
        let begins = subst (λ (b : Bool). MatchBool b (AwaitsDial d life past) (AwaitsAnswer d life past)) answered is.begins in
        both_ways (some_since (goes_to life.address) life.opening past) begins.none_sent
        (stands_since (goes_to life.address) life.opening past (record { after = after; here = r; before = before; split = split; place = omega (arith, place, here); passes = goes }))

-- A life that awaits its reply, which is the datagram that was sent on a seat, is the seat's.
reply_is_own : (d : Descriptor) (c : Channel) (mine life : Life) (r : Record) (past : List Record) → Stands d c mine past
    → mine.address ≡ life.address → mine.remote ≡ life.remote → mine.local ≡ life.local → goes_to life.address r ≡ true → IsReply d life r past → mine ≡ life
reply_is_own d c mine life r past st address remote local goes reply = ⊎_elim
    (λ dialled. absurd (sent_apart d life mine past reply.0 reply.1 (subst (λ (b : Bool). is_at (λ x. cond b (answers d mine x) (greets d mine x)) mine.opening past ≡ true) dialled st.opened) address))
    (λ answered.
    let begins = subst (λ (b : Bool). MatchBool b (AwaitsDial d life past) (AwaitsAnswer d life past)) reply.0 reply.1.begins in
    let to : IsReplyTo d life r past = record {
      answered = reply.0;
      opened = begins.opened;
      none_sent = begins.none_sent;
      goes = goes;
      is_answer = reply.2;
      rest = record { only_one = begins.only_one; fresh = reply.1.fresh; open_still = reply.1.open_still; timely = reply.1.timely };
    } in
    let opening : life.opening ≡ mine.opening = one_opening d mine life r past answered (sym address)
    (subst (λ (b : Bool). is_at (λ x. cond b (answers d mine x) (greets d mine x)) mine.opening past ≡ true) answered st.opened) to in
    let make : traffic.Address → ℕ → ℕ → Bool → ℕ → Life = λ a l n b o. record { address = a; local = l; remote = n; is_dialled = b; opening = o } in
    ap (λ (a : traffic.Address). make a mine.local mine.remote mine.is_dialled mine.opening) address
    ∙ ap (λ (n : ℕ). make life.address n mine.remote mine.is_dialled mine.opening) local
    ∙ ap (λ (n : ℕ). make life.address life.local n mine.is_dialled mine.opening) remote
    ∙ ap (λ (b : Bool). make life.address life.local life.remote b mine.opening) (answered ∙ sym reply.0)
    ∙ ap (λ (n : ℕ). make life.address life.local life.remote life.is_dialled n) (sym opening))
    (cases_Bool mine.is_dialled)

-- ---- a datagram was sent on a seat

pub plains_said : (d : Descriptor) (t new : Seats) (lives : ℕ → Option Life) (seat : ℕ) (c : Channel) (mine : Life) (moment : ℕ) (bytes : List ℕ) (past : List Record)
    → Seated d t lives past → Plains d t lives past → channel_at t seat ≡ Some c → lives seat ≡ Some mine → is_waiting c ≡ false
    → (read d (Sent moment (address_of c.address) bytes)).channel ≡ Some mine.remote
    → ((number : ℕ) → 0 < number → begins_as number (read d (Sent moment (address_of c.address) bytes)).messages.read ≡ true → number ≡ c.local)
    → Changes t new seat (Some c) → Plains d new lives (Sent moment (address_of c.address) bytes ∷ past)
plains_said d t new lives seat c mine moment bytes past s p there living known number own ch =
    let r = Sent moment (address_of c.address) bytes in
    let st = stands_of d (channel_at t seat) (lives seat) c mine past (s.each seat) there living in
    let same = same_there t new seat c there ch in
    record {
      plain = λ life is. ⊎_elim
          (λ before. let h = p.plain life before in record { seat = h.seat; channel = h.channel; there = same h.seat ∙ h.there; lives_there = h.lives_there; known = h.known })
          (λ reply. record { seat = seat; channel = c; there = ch.there; lives_there = living ∙ ap (λ (x : Life). Some x) (own_life life reply st); known = known })
          ((plain_grows.sent d life moment (address_of c.address) bytes past).0 is);
      dial = λ life dialled is. ⊎_elim
          (λ before. let h = p.dial life dialled before in record { seat = h.seat; channel = h.channel; there = same h.seat ∙ h.there; lives_there = h.lives_there; waits = h.waits; unshadowed = h.unshadowed })
          (λ here. absurd (
          let answers_it = subst (λ (b : Bool). MatchBool b (answers d life r ≡ true) (greets_once d life r ≡ true)) dialled here.1 in
          let zero = subst (λ (b : Bool). is_number (cond b 0 life.remote) (read d r).channel ≡ true) dialled (numbered life r answers_it) in
          both_ways (is_number 0 (read d r).channel) (ap (is_number 0) number ∙ ne_eqb mine.remote 0 (λ z. let some = (st.remote known).1 in omega arith)) zero))
          (plain_grows.awaited d life r past is);
      dial_alone = λ one other a e at_one at_other. p.dial_alone one other a e (sym (same one) ∙ at_one) (sym (same other) ∙ at_other);
      shadow = λ other e also shadowed dialled. or_right (leb 0 (length past) && comes_from (address_of e.address) r) (some_since (comes_from (address_of e.address)) 0 past) (p.shadow other e (sym (same other) ∙ also) shadowed dialled);
    }
  where
    numbered : (life : Life) (r : Record) → answers d life r ≡ true → is_number (cond life.is_dialled 0 life.remote) (read d r).channel ≡ true
    numbered life r e =
        let outer = and_parts (goes_to life.address r && is_number (cond life.is_dialled 0 life.remote) (read d r).channel) (begins_as life.local (read d r).messages.read) e in
        (and_parts (goes_to life.address r) (is_number (cond life.is_dialled 0 life.remote) (read d r).channel) outer.0).1

    own_life : (life : Life) → IsReply d life (Sent moment (address_of c.address) bytes) past → Stands d c mine past → mine ≡ life
    own_life life reply st =
        let r = Sent moment (address_of c.address) bytes in
        let goes = answers_goes d life r reply.2 in
        let outer = and_parts (goes_to life.address r && is_number (cond life.is_dialled 0 life.remote) (read d r).channel) (begins_as life.local (read d r).messages.read) reply.2 in
        let n = subst (λ (b : Bool). is_number (cond b 0 life.remote) (read d r).channel ≡ true) reply.0 (numbered life r reply.2) in
        reply_is_own d c mine life r past st
        (st.address ∙ same_is (address_of c.address) life.address goes)
        (eqb-true mine.remote life.remote (sym (ap (is_number life.remote) number) ∙ n))
        (st.local ∙ sym (own life.local reply.1.local_some outer.1)) goes reply

-- ---- this peer's handshake was sent to channel 0

-- a plain channel isn't made so
dial_no_reply : (d : Descriptor) (life : Life) (r : Record) (past : List Record) → (read d r).channel ≡ Some 0 → IsReply d life r past → ⊥
dial_no_reply d life r past number reply =
    let outer = and_parts (goes_to life.address r && is_number (cond life.is_dialled 0 life.remote) (read d r).channel) (begins_as life.local (read d r).messages.read) reply.2 in
    let n = (and_parts (goes_to life.address r) (is_number (cond life.is_dialled 0 life.remote) (read d r).channel) outer.0).1 in
    let m : is_number life.remote (read d r).channel ≡ true = subst (λ (b : Bool). is_number (cond b 0 life.remote) (read d r).channel ≡ true) reply.0 n in
    let z : 0 ≡ life.remote = eqb-true 0 life.remote (sym (ap (is_number life.remote) number) ∙ m) in
    let some = reply.1.remote_some in omega arith

pub plains_dialled : (d : Descriptor) (t new : Seats) (lives : ℕ → Option Life) (seat : ℕ) (c : Channel) (moment : ℕ) (bytes : List ℕ) (past : List Record)
    → Plains d t lives past → channel_at t seat ≡ Some c → lives seat ≡ None → is_waiting c ≡ true → IsDialOf d c (Sent moment (address_of c.address) bytes)
    → Changes t new seat (Some c)
    → Plains d new (with_life seat (Some (dialled_life (address_of c.address) c.local (length past))) lives) (Sent moment (address_of c.address) bytes ∷ past)
plains_dialled d t new lives seat c moment bytes past p there living waits is_dial ch =
    let r = Sent moment (address_of c.address) bytes in
    let l' = dialled_life (address_of c.address) c.local (length past) in
    let lives' = with_life seat (Some l') lives in
    let same = same_there t new seat c there ch in
    let else : (other : ℕ) → other ≢ seat → lives' other ≡ lives other = λ other ne. cond-false (eqb other seat) (Some l') (lives other) (ne_eqb other seat ne) in
    let not_seat : (k : ℕ) (l : Life) → lives k ≡ Some l → k ≢ seat = λ k l is e. (let x = sym living ∙ ap lives (sym e) ∙ is in cc) in
    record {
      plain = λ life is. ⊎_elim
          (λ before. let h = p.plain life before in record {
            seat = h.seat;
            channel = h.channel;
            there = same h.seat ∙ h.there;
            lives_there = else h.seat (not_seat h.seat life h.lives_there) ∙ h.lives_there;
            known = h.known;
          })
          (λ reply. absurd (dial_no_reply d life r past is_dial.number reply))
          ((plain_grows.sent d life moment (address_of c.address) bytes past).0 is);
      dial = λ life dialled is. ⊎_elim
          (λ before. let h = p.dial life dialled before in record {
            seat = h.seat;
            channel = h.channel;
            there = same h.seat ∙ h.there;
            lives_there = (h.lives_there.0, else h.seat (not_seat h.seat h.lives_there.0 h.lives_there.1) ∙ h.lives_there.1, h.lives_there.2);
            waits = h.waits;
            unshadowed = h.unshadowed;
          })
          (λ here.
          let answers_it = subst (λ (b : Bool). MatchBool b (answers d life r ≡ true) (greets_once d life r ≡ true)) dialled here.1 in
          let outer = and_parts (goes_to life.address r && is_number (cond life.is_dialled 0 life.remote) (read d r).channel) (begins_as life.local (read d r).messages.read) answers_it in
          let address : address_of c.address ≡ life.address = same_is (address_of c.address) life.address (answers_goes d life r answers_it) in
          let local : c.local ≡ life.local = eqb-true c.local life.local (sym (ap (begins_as life.local) is_dial.alone) ∙ outer.1) in
          let make : traffic.Address → ℕ → Bool → ℕ → Life = λ a l b o. record { address = a; local = l; remote = life.remote; is_dialled = b; opening = o } in
          record {
            seat = seat;
            channel = c;
            there = ch.there;
            lives_there = (
              l',
              cond-true (eqb seat seat) (Some l') (lives seat) (eq-eqb seat seat refl),
              ap (λ (a : traffic.Address). make a life.local life.is_dialled life.opening) (sym address)
                  ∙ ap (λ (n : ℕ). make (address_of c.address) n life.is_dialled life.opening) (sym local)
                  ∙ ap (λ (b : Bool). make (address_of c.address) c.local b life.opening) dialled
                  ∙ ap (λ (n : ℕ). make (address_of c.address) c.local true n) here.0,
            );
            waits = waits;
            unshadowed = false_from_ne_true c.shadowed (λ shadowed.
                both_ways (some_since (comes_from life.address) 0 (r ∷ past)) (awaits_none d life (r ∷ past) dialled is)
                (or_right (leb 0 (length past) && comes_from life.address r) (some_since (comes_from life.address) 0 past)
                (subst (λ (a : traffic.Address). some_since (comes_from a) 0 past ≡ true) address (p.shadow seat c there shadowed (waits_dialled c waits)))));
          })
          (plain_grows.awaited d life r past is);
      dial_alone = λ one other a e at_one at_other. p.dial_alone one other a e (sym (same one) ∙ at_one) (sym (same other) ∙ at_other);
      shadow = λ other e also shadowed dialled. or_right (leb 0 (length past) && comes_from (address_of e.address) r) (some_since (comes_from (address_of e.address)) 0 past) (p.shadow other e (sym (same other) ∙ also) shadowed dialled);
    }

pub plains_redialled : (d : Descriptor) (t new : Seats) (lives : ℕ → Option Life) (seat : ℕ) (c : Channel) (mine : Life) (moment : ℕ) (bytes : List ℕ) (past : List Record)
    → Seated d t lives past → Plains d t lives past → channel_at t seat ≡ Some c → lives seat ≡ Some mine → is_waiting c ≡ true → IsDialOf d c (Sent moment (address_of c.address) bytes)
    → Changes t new seat (Some c) → Plains d new lives (Sent moment (address_of c.address) bytes ∷ past)
plains_redialled d t new lives seat c mine moment bytes past s p there living waits is_dial ch =
    let r = Sent moment (address_of c.address) bytes in
    let st = stands_of d (channel_at t seat) (lives seat) c mine past (s.each seat) there living in
    let same = same_there t new seat c there ch in
    record {
      plain = λ life is. ⊎_elim
          (λ before. let h = p.plain life before in record { seat = h.seat; channel = h.channel; there = same h.seat ∙ h.there; lives_there = h.lives_there; known = h.known })
          (λ reply. absurd (dial_no_reply d life r past is_dial.number reply))
          ((plain_grows.sent d life moment (address_of c.address) bytes past).0 is);
      dial = λ life dialled is. ⊎_elim
          (λ before. let h = p.dial life dialled before in record { seat = h.seat; channel = h.channel; there = same h.seat ∙ h.there; lives_there = h.lives_there; waits = h.waits; unshadowed = h.unshadowed })
          (λ here. absurd (
          let answers_it = subst (λ (b : Bool). MatchBool b (answers d life r ≡ true) (greets_once d life r ≡ true)) dialled here.1 in
          let address : address_of c.address ≡ life.address = same_is (address_of c.address) life.address (answers_goes d life r answers_it) in
          let opened : is_at (answers d mine) mine.opening past ≡ true = subst (λ (b : Bool). is_at (λ x. cond b (answers d mine x) (greets d mine x)) mine.opening past ≡ true) (st.dialled ∙ waits_dialled c waits) st.opened in
          let f = found_at (answers d mine) mine.opening past opened in
          let goes : goes_to life.address f.here ≡ true = subst (λ (a : traffic.Address). goes_to a f.here ≡ true) (st.address ∙ address) (answers_goes d mine f.here f.passes) in
          let stands : StandsBefore (concerns life.address) life.opening (r ∷ past) = record {
            after = r ∷ f.after;
            here = f.here;
            before = f.before;
            split = ap (λ (xs : List Record). r ∷ xs) f.split;
            place = omega (arith, f.place, here.0, began d c mine past st);
            passes = or_right (comes_from life.address f.here) (goes_to life.address f.here) goes;
          } in
          both_ways (some_until (concerns life.address) life.opening (r ∷ past)) is.fresh (stands_until (concerns life.address) life.opening (r ∷ past) stands)))
          (plain_grows.awaited d life r past is);
      dial_alone = λ one other a e at_one at_other. p.dial_alone one other a e (sym (same one) ∙ at_one) (sym (same other) ∙ at_other);
      shadow = λ other e also shadowed dialled. or_right (leb 0 (length past) && comes_from (address_of e.address) r) (some_since (comes_from (address_of e.address)) 0 past) (p.shadow other e (sym (same other) ∙ also) shadowed dialled);
    }

-- ---- a channel was opened, or is to be dialled

-- the other seats are as they were, and a free one has a channel that no handshake of this peer went on
pub plains_opened : (d : Descriptor) (t new : Seats) (lives : ℕ → Option Life) (seat : ℕ) (sender : Address) (remote local heard_moment moment : ℕ) (bytes : List ℕ) (l' : Option Life) (past : List Record)
    → Plains d t lives past → channel_at t seat ≡ None → Changes t new seat (Some (answered sender remote heard_moment local))
    → MissesAll d t lives (Received moment (address_of sender) bytes)
    → Plains d new (with_life seat l' lives) (Received moment (address_of sender) bytes ∷ past)
plains_opened d t new lives seat sender remote local heard_moment moment bytes l' past p free ch m =
    let r = Received moment (address_of sender) bytes in
    let lives' = with_life seat l' lives in
    let c' = answered sender remote heard_moment local in
    let else : (other : ℕ) → other ≢ seat → lives' other ≡ lives other = λ other ne. cond-false (eqb other seat) l' (lives other) (ne_eqb other seat ne) in
    let not_seat : (k : ℕ) (c : Channel) → channel_at t k ≡ Some c → k ≢ seat = λ k c there e. (let x = sym free ∙ ap (channel_at t) (sym e) ∙ there in cc) in
    let was : (other : ℕ) (e : Channel) → channel_at new other ≡ Some e → is_dialled e.opening ≡ true → channel_at t other ≡ Some e = λ other e also dialled. ⊎_elim
    (λ same. absurd (let x = ap (λ (z : Channel). is_dialled z.opening) (same_Some c' e (sym ch.there ∙ ap (channel_at new) (sym (eqb-true other seat same)) ∙ also)) ∙ dialled in cc))
    (λ apart. sym (ch.others other (eqb-false other seat apart)) ∙ also)
    (cases_Bool (eqb other seat)) in
    plains_received d t new lives lives' moment (address_of sender) bytes past p
    (λ life h is open_still. let ne = not_seat h.seat h.channel h.there in
    record { seat = h.seat; channel = h.channel; there = ch.others h.seat ne ∙ h.there; lives_there = else h.seat ne ∙ h.lives_there; known = h.known })
    (λ life h of_peer open_still. absurd (no_reply d t lives life r h (m h.seat h.channel h.lives_there.0 h.there h.lives_there.1) of_peer.0 of_peer.2))
    (λ life h dialled is none. let ne = not_seat h.seat h.channel h.there in record {
      seat = h.seat;
      channel = h.channel;
      there = ch.others h.seat ne ∙ h.there;
      lives_there = (h.lives_there.0, else h.seat ne ∙ h.lives_there.1, h.lives_there.2);
      waits = h.waits;
      unshadowed = h.unshadowed;
    })
    (λ one other a e at_one at_other da de same. p.dial_alone one other a e (was one a at_one da) (was other e at_other de) da de same)
    (λ other e also shadowed dialled. or_right (leb 0 (length past) && comes_from (address_of e.address) r) (some_since (comes_from (address_of e.address)) 0 past) (p.shadow other e (was other e also dialled) shadowed dialled))

pub plains_dials : (d : Descriptor) (t new : Seats) (lives : ℕ → Option Life) (seat : ℕ) (receiver : Address) (moment local : ℕ) (past : List Record)
    → Plains d t lives past → channel_at t seat ≡ None → Changes t new seat (Some (dialled receiver moment local))
    → ((other : ℕ) (e : Channel) → channel_at t other ≡ Some e → address_of e.address ≡ address_of receiver → ⊥)
    → Plains d new (with_life seat None lives) past
plains_dials d t new lives seat receiver moment local past p free ch none_there =
    let lives' = with_life seat None lives in
    let c' = dialled receiver moment local in
    let else : (other : ℕ) → other ≢ seat → lives' other ≡ lives other = λ other ne. cond-false (eqb other seat) None (lives other) (ne_eqb other seat ne) in
    let not_seat : (k : ℕ) (c : Channel) → channel_at t k ≡ Some c → k ≢ seat = λ k c there e. (let x = sym free ∙ ap (channel_at t) (sym e) ∙ there in cc) in
    let mine : (other : ℕ) (e : Channel) → eqb other seat ≡ true → channel_at new other ≡ Some e → c' ≡ e = λ other e same also. same_Some c' e (sym ch.there ∙ ap (channel_at new) (sym (eqb-true other seat same)) ∙ also) in
    let was : (other : ℕ) (e : Channel) → eqb other seat ≡ false → channel_at new other ≡ Some e → channel_at t other ≡ Some e = λ other e apart also. sym (ch.others other (eqb-false other seat apart)) ∙ also in
    record {
      plain = λ life is. let h = p.plain life is in let ne = not_seat h.seat h.channel h.there in
          record { seat = h.seat; channel = h.channel; there = ch.others h.seat ne ∙ h.there; lives_there = else h.seat ne ∙ h.lives_there; known = h.known };
      dial = λ life dialled is. let h = p.dial life dialled is in let ne = not_seat h.seat h.channel h.there in record {
        seat = h.seat;
        channel = h.channel;
        there = ch.others h.seat ne ∙ h.there;
        lives_there = (h.lives_there.0, else h.seat ne ∙ h.lives_there.1, h.lives_there.2);
        waits = h.waits;
        unshadowed = h.unshadowed;
      };
      dial_alone = λ one other a e at_one at_other da de same. ⊎_elim
          (λ one_is. ⊎_elim
          (λ other_is. eqb-true one seat one_is ∙ sym (eqb-true other seat other_is))
          (λ other_apart. absurd (none_there other e (was other e other_apart at_other) (sym same ∙ ap (λ (z : Channel). address_of z.address) (sym (mine one a one_is at_one)))))
          (cases_Bool (eqb other seat)))
          (λ one_apart. ⊎_elim
          (λ other_is. absurd (none_there one a (was one a one_apart at_one) (same ∙ ap (λ (z : Channel). address_of z.address) (sym (mine other e other_is at_other)))))
          (λ other_apart. p.dial_alone one other a e (was one a one_apart at_one) (was other e other_apart at_other) da de same)
          (cases_Bool (eqb other seat)))
          (cases_Bool (eqb one seat));
      shadow = λ other e also shadowed dialled. ⊎_elim
          (λ same. absurd (let x = ap (λ (z : Channel). z.shadowed) (mine other e same also) ∙ shadowed in cc))
          (λ apart. p.shadow other e (was other e apart also) shadowed dialled)
          (cases_Bool (eqb other seat));
    }
