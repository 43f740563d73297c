-- A datagram of a plain channel comes on the channel's seat.
use Rattle.std.proofs.Common.{◌≡◌, ◌⊎◌, inl, inr, ⊎_elim, ℕ, ◌<◌, ◌≤◌, eqb, Bool, true, false, cond, ◌&&◌, ◌||◌, Option, Some, None, List, [], ◌∷◌, length, take, refl, sym, ◌∙◌, ap, subst, arith}
use Rattle.std.specs.Prelude.{position, is_some}
use Rattle.std.specs.Int.{w32, from_be_bytes}
use Rattle.std.proofs.lemmas.List.Quantifiers.{position-Some}
use Rattle.std.proofs.lemmas.Bool.{cases_Bool, or_cases, and_parts, and_from, both_ways, eqb-true, eq-eqb}
use Rattle.pp_terms.specs.format.Traffic as traffic
use Rattle.pp_terms.specs.format.Traffic.{Record, Received, same_address}
use Rattle.pp_terms.specs.format.Descriptor.{Descriptor}
use Rattle.pp_terms.specs.format.Messages.{Message, Handshake, WireKind, Messages}
use Rattle.pp_terms.proofs.MovedSteps.{channel_none}
use Rattle.pp_traffic.specs.Past.{read, comes_from, is_number, some_since}
use Rattle.pp_traffic.specs.Life.{Life, begins, begins_fitting, fits, comes_on}
use Rattle.pp_traffic.specs.Awaiting.{IsReplyOfPeer}
use Rattle.pp_promises.specs.ReadStory.{read_story}
use Rattle.pp_outside.specs.Outside.{address_of, is_same}
use Rattle.pp_outside.specs.declared.link.Address.{Address}
use Rattle.pp_channels.specs.Seats.{Seats, channel_at, is_source, has_remote, is_found}
use Rattle.pp_channels.specs.declared.channel.Channel.{Channel}
use Rattle.pp_lives.specs.Reading.{is_blank, is_waiting}
use Rattle.pp_lives.specs.Standing.{HasSeat, HasDial, Standing}
use Rattle.pp_lives.specs.Arriving.{contents, is_faulty, begins_faulty, is_shadowed_at, is_waiting_at, is_given_up, Awaited, Comes, Numbered, IsNumbered, IsOwn, Arrives}
use Rattle.pp_lives.specs.declared.arriving.Arrival.{Arrival}
use Rattle.pp_lives.specs.declared.arriving.Arrival.TheVariants as arrivals
use Rattle.pp_lives.proofs.Arrivals.{number_read, contents_read, none_passes, there_of, found_there, living_of}
use Rattle.pp_lives.proofs.Own.{stands_of}
use Rattle.pp_lives.proofs.Plainly.{known_came, awaits_none}
use Rattle.pp_lives.proofs.Sent.{same_self, same_is}

-- ---- what a datagram for a seat's number means there

-- it is long enough to have a number
numbered_of : (d : Descriptor) (t : Seats) (sender : Address) (now : ℕ) (bytes : List ℕ) (result : Arrival) (new : Seats)
    → Arrives d t sender now bytes result new → (length bytes < 4) ⊎ IsNumbered d t sender now bytes result new
numbered_of d t sender now bytes arrivals.Short new a = inl a.0
numbered_of d t sender now bytes result new a = inr a

-- a channel has that number
owned_of : (d : Descriptor) (t : Seats) (number : ℕ) (sender : Address) (now : ℕ) (bytes : List ℕ) (result : Arrival) (new : Seats)
    → Numbered d t number sender now bytes result new
    → (position (is_found number sender) t.channels ≡ None) ⊎ IsOwn d t number sender now bytes result new
owned_of d t number sender now bytes arrivals.NoChannel new a = inl a.0
owned_of d t number sender now bytes result new a = inr a

-- on a channel that is known it is heard
known_heard : (d : Descriptor) (t : Seats) (seat : ℕ) (sender : Address) (now : ℕ) (bytes : List ℕ) (result : Arrival) (new : Seats)
    → is_waiting_at (channel_at t seat) ≡ false → Comes d t seat sender now bytes result new → result ≡ arrivals.Heard seat
known_heard d t seat sender now bytes (arrivals.Heard k) new known c = ap (λ (n : ℕ). arrivals.Heard n) c.0
known_heard d t seat sender now bytes result new known c = absurd (both_ways (is_waiting_at (channel_at t seat)) known c.0)

-- The datagram is the reply that the dial at a seat awaits.
record IsReplyAt (d : Descriptor) (t : Seats) (seat : ℕ) (sender : Address) (remote : ℕ) (bytes : List ℕ) : Type 0 where
  waits : is_waiting_at (channel_at t seat) ≡ true
  fitting : begins_fitting d true remote (contents d bytes).read ≡ true
  some : 0 < remote
  unshadowed : is_shadowed_at (channel_at t seat) ≡ false
  new_source : position (is_source sender remote) t.channels ≡ None

fitting_begins : (d : Descriptor) (remote : ℕ) (ms : List Message) → begins_fitting d true remote ms ≡ true → begins ms ≡ true
fitting_begins d remote [] e = cc
fitting_begins d remote (Handshake source options ∷ ms) e = refl
fitting_begins d remote (_ ∷ ms) e = absurd cc

fitting_whole : (d : Descriptor) (remote : ℕ) (ms : List Message) (fault : Option (ℕ × WireKind)) → begins_fitting d true remote ms ≡ true
    → begins_faulty fault ms ≡ false
fitting_whole d remote [] fault e = absurd cc
fitting_whole d remote (m ∷ ms) None e = refl
fitting_whole d remote (m ∷ ms) (Some (place, kind)) e = refl

not_given : (d : Descriptor) (t : Seats) (seat source : ℕ) (sender : Address) (remote : ℕ) (bytes : List ℕ) → IsReplyAt d t seat sender remote bytes
    → source ≡ remote → is_given_up t seat sender source ≡ true → ⊥
not_given d t seat source sender remote bytes is same given = ⊎_elim
    (λ first. ⊎_elim
    (λ none. let some = is.some in let e = eqb-true source 0 none in omega arith)
    (λ used. let unused : is_some (position (is_source sender source) t.channels) ≡ false =
    ap (λ (n : ℕ). is_some (position (is_source sender n) t.channels)) same ∙ ap is_some is.new_source in
    both_ways (is_some (position (is_source sender source) t.channels)) unused used)
    (or_cases (eqb source 0) (is_some (position (is_source sender source) t.channels)) first))
    (λ shadowed. both_ways (is_shadowed_at (channel_at t seat)) is.unshadowed shadowed)
    (or_cases (eqb source 0 || is_some (position (is_source sender source) t.channels)) (is_shadowed_at (channel_at t seat)) given)

awaited_replied : (d : Descriptor) (t : Seats) (seat : ℕ) (sender : Address) (remote now : ℕ) (bytes : List ℕ) (result : Arrival) (new : Seats)
    → IsReplyAt d t seat sender remote bytes → Awaited d t seat sender now bytes result new → result ≡ arrivals.Replied seat
awaited_replied d t seat sender remote now bytes (arrivals.NoReply k) new is a =
    absurd (both_ways (begins (contents d bytes).read) a.2 (fitting_begins d remote (contents d bytes).read is.fitting))
awaited_replied d t seat sender remote now bytes (arrivals.Cut k) new is a =
    absurd (both_ways (is_faulty (contents d bytes)) (fitting_whole d remote (contents d bytes).read (contents d bytes).fault is.fitting) a.1)
awaited_replied d t seat sender remote now bytes (arrivals.Differs k) new is a =
    let parts = and_parts (eqb a.source remote) (fits d true a.options) (ap (begins_fitting d true remote) (sym a.first) ∙ is.fitting) in
    absurd (both_ways (fits d true a.options) a.does.1 parts.1)
awaited_replied d t seat sender remote now bytes (arrivals.Given k) new is a =
    let parts = and_parts (eqb a.source remote) (fits d true a.options) (ap (begins_fitting d true remote) (sym a.first) ∙ is.fitting) in
    absurd (not_given d t seat a.source sender remote bytes is (eqb-true a.source remote parts.0) a.does.2)
awaited_replied d t seat sender remote now bytes (arrivals.Replied k) new is a = ap (λ (n : ℕ). arrivals.Replied n) a.does.0
awaited_replied d t seat sender remote now bytes result new is a = absurd a.does

waiting_replied : (d : Descriptor) (t : Seats) (seat : ℕ) (sender : Address) (remote now : ℕ) (bytes : List ℕ) (result : Arrival) (new : Seats)
    → IsReplyAt d t seat sender remote bytes → Comes d t seat sender now bytes result new → result ≡ arrivals.Replied seat
waiting_replied d t seat sender remote now bytes (arrivals.Heard k) new is c = absurd (both_ways (is_waiting_at (channel_at t seat)) c.1 is.waits)
waiting_replied d t seat sender remote now bytes result new is c = awaited_replied d t seat sender remote now bytes result new is c.1

-- ---- which seat it is for

module _ (d : Descriptor) (t new : Seats) (lives : ℕ → Option Life) (past : List Record) (sender : Address) (moment now : ℕ) (bytes : List ℕ)
    (result : Arrival)
    (standing : Standing d t lives past) (arrives : Arrives d t sender now bytes result new) where
  abbrev came : Record
  came = Received moment (address_of sender) bytes

  -- one for the number and from the address of a channel is for its seat
  for_seat : (seat : ℕ) (c : Channel) (local : ℕ) (address : traffic.Address) → channel_at t seat ≡ Some c → local ≡ c.local
      → address ≡ address_of c.address
      → 0 < local → (comes_from address came && is_number local (read d came).channel) ≡ true
      → Comes d t seat sender now bytes result new × (4 ≤ length bytes)
  for_seat seat c local address there local_is address_is some comes = ⊎_elim
      (λ short. absurd (let none = ap (is_number local) (channel_none d bytes short) in
      both_ways (is_number local (read d came).channel) none parts.1))
      (λ a. (numbered a, a.long))
      (numbered_of d t sender now bytes result new arrives)
    where
      parts : (comes_from address came ≡ true) × (is_number local (read d came).channel ≡ true)
      parts = and_parts (comes_from address came) (is_number local (read d came).channel) comes

      same : address_of c.address ≡ address_of sender
      same = sym address_is ∙ sym (same_is (address_of sender) address parts.0)

      numbered : IsNumbered d t sender now bytes result new → Comes d t seat sender now bytes result new
      numbered a = ⊎_elim
          (λ none. absurd (both_ways (is_found n sender (channel_at t seat)) (none_passes (is_found n sender) t.channels seat refl none)
          (ap (is_found n sender) there ∙ and_from (eqb c.local n) (is_same c.address sender) (eq-eqb c.local n (sym local_is ∙ sym number))
          (ap (λ (x : traffic.Address). same_address x (address_of sender)) same ∙ same_self (address_of sender)))))
          (λ own. let f = found_there t own.seat n sender own.found in
          let one : seat ≡ own.seat = standing.seated.are.differ seat own.seat c f.channel there f.there (sym local_is ∙ sym number ∙ sym f.local) in
          subst (λ (k : ℕ). Comes d t k sender now bytes result new) (sym one) own.does)
          (owned_of d t n sender now bytes result new (a.other (λ zero_is. omega (arith, some, number, zero_is))))
        where
          n : ℕ
          n = from_be_bytes w32 (take 4 bytes)

          number : n ≡ local
          number = eqb-true n local (sym (ap (is_number local) (number_read d came bytes refl a.long)) ∙ parts.1)

  pub known_comes : (life : Life) (h : HasSeat t lives life) → 0 < life.local → comes_on d life came ≡ true
      → (result ≡ arrivals.Heard h.seat) × (4 ≤ length bytes)
  known_comes life h some comes =
      let st = stands_of d (channel_at t h.seat) (lives h.seat) h.channel life past (standing.seated.each h.seat) h.there h.lives_there in
      let own = for_seat h.seat h.channel life.local life.address h.there st.local st.address some comes in
      (known_heard d t h.seat sender now bytes result new (ap is_waiting_at h.there ∙ h.known) own.0, own.1)

  -- no other channel of the address has its number, since nothing came from there
  none_else : (remote : ℕ) → some_since (comes_from (address_of sender)) 0 past ≡ false → position (is_source sender remote) t.channels ≡ None
  none_else remote none_came = by (position (is_source sender remote) t.channels) refl
    where
      at : (k : ℕ) (e : Channel) → channel_at t k ≡ Some e → is_source sender remote (Some e) ≡ true → ⊥
      at k e also is =
          let parts = and_parts (has_remote remote e.remote) (same_address (address_of e.address) (address_of sender)) is in
          ⊎_elim
          (λ waits. let nothing = ap (has_remote remote)
          (standing.seated.unknown k e also waits) in both_ways (has_remote remote e.remote) nothing parts.0)
          (λ known. let l = living_of d t lives past k e standing.seated also (inl known) in
          let st = stands_of d (channel_at t k) (lives k) e l.0 past (standing.seated.each k) also l.1 in
          both_ways (some_since (comes_from (address_of sender)) 0 past) none_came
          (subst (λ (a : traffic.Address). some_since (comes_from a) 0 past ≡ true) (same_is (address_of e.address) (address_of sender) parts.1)
          (known_came d e l.0 past st known)))
          (cases_Bool (is_waiting e))

      by : (o : Option ℕ) → position (is_source sender remote) t.channels ≡ o → position (is_source sender remote) t.channels ≡ None
      by None e = e
      by (Some k) e =
          let p = (position-Some (is_source sender remote) t.channels k None e).1 in
          let c = there_of (is_source sender remote) (channel_at t k) refl p in
          absurd (at k c.0 c.1 (ap (is_source sender remote) (sym c.1) ∙ p))

  -- nothing was read or said on a dial that awaits this reply
  blank_before : (life : Life) (h : HasDial t lives life) → 0 < life.remote → address_of h.channel.address ≡ address_of sender
      → position (is_source sender life.remote) t.channels ≡ None → is_blank (read_story d life past) ≡ true
  blank_before life h some same none = ⊎_elim
      (λ blank. ap (λ (x : Life). is_blank (read_story d x past)) h.lives_there.2 ∙ blank)
      (λ rest. ⊎_elim
      (λ shadowed. absurd (both_ways h.channel.shadowed h.unshadowed shadowed))
      (λ (used : (other : ℕ) × (is_source h.channel.address life.remote (channel_at t other) ≡ true)).
      absurd (both_ways (is_source sender life.remote (channel_at t used.0)) (none_passes (is_source sender life.remote) t.channels used.0 refl none)
      (of_sender (channel_at t used.0) used.1)))
      rest)
      (standing.seated.blank h.seat h.channel h.lives_there.0 h.there h.lives_there.1 h.waits life.remote some)
    where
      of_sender : (o : Option Channel) → is_source h.channel.address life.remote o ≡ true → is_source sender life.remote o ≡ true
      of_sender None is = is
      of_sender (Some c) is = subst (λ (a : traffic.Address). (has_remote life.remote c.remote && same_address (address_of c.address) a) ≡ true) same is

  pub dial_comes : (life : Life) (h : HasDial t lives life) → IsReplyOfPeer d life came past → comes_on d life came ≡ true
      → (result ≡ arrivals.Replied h.seat) × (4 ≤ length bytes) × (is_blank (read_story d life past) ≡ true)
  dial_comes life h of_peer comes =
      let l = h.lives_there in
      let st = stands_of d (channel_at t h.seat) (lives h.seat) h.channel l.0 past (standing.seated.each h.seat) h.there l.1 in
      let local_is : life.local ≡ h.channel.local = ap (λ (x : Life). x.local) l.2 ∙ st.local in
      let address_is : life.address ≡ address_of h.channel.address = ap (λ (x : Life). x.address) l.2 ∙ st.address in
      let own = for_seat h.seat h.channel life.local life.address h.there local_is address_is of_peer.1.local_some comes in
      let from = (and_parts (comes_from life.address came) (is_number life.local (read d came).channel) comes).0 in
      let sender_is : life.address ≡ address_of sender = sym (same_is (address_of sender) life.address from) in
      let none_came = subst (λ (a : traffic.Address). some_since (comes_from a) 0 past ≡ false) sender_is
      (awaits_none d life past of_peer.0 of_peer.1) in
      let fitting = (and_parts (comes_from life.address came && is_number (cond life.is_dialled life.local 0) (read d came).channel)
      (begins_fitting d life.is_dialled life.remote (read d came).messages.read) of_peer.2).1 in (
        waiting_replied d t h.seat sender life.remote now bytes result new (record {
          waits = ap is_waiting_at h.there ∙ h.waits;
          fitting = ap (λ (m : Messages). begins_fitting d true life.remote m.read) (sym (contents_read d bytes own.1))
              ∙ subst (λ (b : Bool). begins_fitting d b life.remote (read d came).messages.read ≡ true) of_peer.0 fitting;
          some = of_peer.1.remote_some;
          unshadowed = ap is_shadowed_at h.there ∙ h.unshadowed;
          new_source = none_else life.remote none_came;
        }) own.0,
        own.1,
        blank_before life h of_peer.1.remote_some (sym address_is ∙ sender_is) (none_else life.remote none_came),
      )
