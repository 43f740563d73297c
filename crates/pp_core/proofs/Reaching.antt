-- An address that was looked at is reached, and no later step of a flush changes that before chunks go.
use Rattle.std.proofs.Common.{◌≡◌, ◌⊎◌, inl, inr, ⊎_elim, ℕ, zero, suc, ◌-◌, ◌<◌, ◌≤◌, Bool, true, false, cond, ◌||◌, Option, Some, None, option_map, List, [], ◌∷◌, map, length, not, refl, sym, ◌∙◌, ap, subst, arith}
use Rattle.std.specs.Prelude.{MatchBool, is_none, position, nat_lt}
use Rattle.std.specs.List.{AllByRecursion, list_any, position_or_len}
use Rattle.std.proofs.Math.ListN.{set}
use Rattle.std.proofs.lemmas.Bool.{cases_lt, cond-true, lt-ltb, leb-false, both_ways, not-true}
use Rattle.std.proofs.lemmas.List.{length-set, length-map, set-set, get_or-set_same}
use Rattle.std.proofs.lemmas.List.Folds.{list_any_at}
use Rattle.std.proofs.lemmas.List.Quantifiers.{position-Some}
use Rattle.std.proofs.lemmas.List.Sums.{prefix_len_passes}
use Rattle.std.proofs.lemmas.Option.{same_Some}
use Rattle.pp_terms.proofs.Addressed.{same_self}
use Rattle.pp_terms.specs.disk.Disk.{DiskState}
use Rattle.pp_terms.specs.format.Traffic.{LinkState}
use Rattle.pp_terms.specs.tree.Range.{Span}
use Rattle.pp_outside.specs.declared.link.Address.{Address}
use Rattle.pp_outside.specs.Outside.{address_of, is_same}
use Rattle.pp_channels.specs.declared.channel.Channel.{Channel}
use Rattle.pp_channels.specs.Seats.{Seats, at_seat, channel_at, used_of, changed, closed, dialled, free_seat, has_address, with_channel_at, with_handshake, after_drop}
use Rattle.pp_lives.specs.Fars.{far_of}
use Rattle.pp_lives.specs.Reading.{is_waiting}
use Rattle.pp_lives.specs.Sending.{with_datagram}
use Rattle.pp_seat.specs.declared.service.Turn.{Turn}
use Rattle.pp_seats.specs.Standing.{SeatsState}
use Rattle.pp_seats.specs.Sending.{with_sent}
use Rattle.pp_seats.specs.Greeting.{Dials, with_dial}
use Rattle.pp_peer.specs.declared.dialling.Dial.{Dial}
use Rattle.pp_peer.specs.declared.dialling.DialState.{DialState}
use Rattle.pp_peer.specs.declared.dialling.DialState.TheVariants.{New, Seated, Dropped}
use Rattle.pp_lives.specs.declared.lives.Far.{Far}
use Rattle.pp_peer.specs.declared.parts.Parts.{Parts}
use Rattle.pp_peer.specs.declared.speaking.Speaker.{Speaker}
use Rattle.pp_peer.specs.Flushing.{Scene}
use Rattle.pp_peer.specs.Greeting.{IsGreeted}
use Rattle.pp_peer.specs.Dialling.{Tries, has_channel, is_due, noticed, after_dial, StepsDial, DialsEach, with_queue, DialsSuggested}
use Rattle.pp_peer.specs.Slotting.{GrantsInTurn, TurnsLongest, TurnsNone, TurnsSlots}
use Rattle.pp_peer.specs.Speaking.{SetsBack, SetsBackTo, SpeaksTo, Attends}
use Rattle.pp_core.specs.Peers.{PeerState}
use Rattle.pp_core.specs.Turning.{scene, Sends}
use Rattle.pp_core.specs.Reaching.{IsResting, IsReached, addresses_of, Reaches}
use Rattle.pp_core.proofs.Rounds.{IsStepwise, turns_kept}

-- ---- channels that stay

-- A channel is there still, to the same address.
abbrev Remains : Option Channel → Option Channel → Type 0
Remains None new = Unit {0}
Remains (Some c) new = (d : Channel) × (new ≡ Some d) × (d.address ≡ c.address)

remains : (o : Option Channel) → Remains o o
remains None = tt
remains (Some c) = (c, refl, refl)

remains_on : (a b c : Option Channel) → Remains a b → Remains b c → Remains a c
remains_on None b c one two = tt
remains_on (Some x) b c one two =
    let then : Remains (Some one.0) c = subst (λ (o : Option Channel). Remains o c) one.1 two in (then.0, then.1, then.2 ∙ one.2)

remains_set : (xs : List (Option Channel)) (k : ℕ) (o : Option Channel) → Remains (at_seat xs k) o → (n : ℕ)
    → Remains (at_seat xs n) (at_seat (set xs k o) n)
remains_set [] k o r n = remains (at_seat [] n)
remains_set (x ∷ xs) zero o r zero = r
remains_set (x ∷ xs) zero o r (suc n) = remains (at_seat xs n)
remains_set (x ∷ xs) (suc k) o r zero = remains x
remains_set (x ∷ xs) (suc k) o r (suc n) = remains_set xs k o r n

remains_dropped : (d o : Option Channel) → Remains o (after_drop d o)
remains_dropped d None = tt
remains_dropped d (Some c) = (_, refl, refl)

remains_map : (d : Option Channel) (xs : List (Option Channel)) (n : ℕ) → Remains (at_seat xs n) (at_seat (map (after_drop d) xs) n)
remains_map d [] n = remains (at_seat [] n)
remains_map d (x ∷ xs) zero = remains_dropped d x
remains_map d (x ∷ xs) (suc n) = remains_map d xs n

-- Each channel is there still.
pub record Stay (t new : Seats) : Type 0 where
  pub each : (n : ℕ) → Remains (channel_at t n) (channel_at new n)
  pub many : length new.channels ≡ length t.channels

stay_none : (t : Seats) → Stay t t
stay_none t = record { each = λ n. remains (channel_at t n); many = refl }

stay_twice : (a b c : Seats) → Stay a b → Stay b c → Stay a c
stay_twice a b c one two = record {
  each = λ n. remains_on (channel_at a n) (channel_at b n) (channel_at c n) (one.each n) (two.each n);
  many = two.many ∙ one.many;
}

stay_same : (t new : Seats) → new ≡ t → Stay t new
stay_same t new e = subst (λ (s : Seats). Stay t s) (sym e) (stay_none t)

stay_changed : (t : Seats) (k : ℕ) (f : Channel → Channel) → ((c : Channel) → (f c).address ≡ c.address) → Stay t (changed t k f)
stay_changed t k f keeps = record {
  each = remains_set t.channels k (option_map f (channel_at t k)) (of (channel_at t k));
  many = length-set t.channels k (option_map f (channel_at t k));
}
  where
    of : (o : Option Channel) → Remains o (option_map f o)
    of None = tt
    of (Some c) = (f c, refl, keeps c)

stay_datagram : (t : Seats) (k : ℕ) (opens : Bool) (now : ℕ) → Stay t (with_datagram t k opens now)
stay_datagram t k true now =
    stay_twice t (changed t k (λ c. record c { wrote = now })) (with_datagram t k true now)
    (stay_changed t k (λ c. record c { wrote = now }) (λ c. refl))
    (stay_changed (changed t k (λ c. record c { wrote = now })) k (λ c. record c { opening = with_handshake c.opening }) (λ c. refl))
stay_datagram t k false now = stay_changed t k (λ c. record c { wrote = now }) (λ c. refl)

stay_sent : (t : Seats) (k : ℕ) (opens : Bool) (sent now : ℕ) → Stay t (with_sent t k opens sent now)
stay_sent t k opens sent now = of (nat_lt 0 sent)
  where
    of : (b : Bool) → Stay t (cond b (with_datagram t k opens now) t)
    of true = stay_datagram t k opens now
    of false = stay_none t

-- ---- what stays with them

any_there : (test : Option Channel → Bool) (xs : List (Option Channel)) → list_any test xs ≡ true
    → (n : ℕ) × (n < length xs) × (test (at_seat xs n) ≡ true)
any_there test [] e = absurd cc
any_there test (x ∷ xs) e = of (test x) refl e (λ e. any_there test xs e)
  where
    of : (b : Bool) → test x ≡ b → (b || list_any test xs) ≡ true
        → (list_any test xs ≡ true → (n : ℕ) × (n < length xs) × (test (at_seat xs n) ≡ true))
        → (n : ℕ) × (n < suc (length xs)) × (test (at_seat (x ∷ xs) n) ≡ true)
    of true is e more = (0, omega arith, is)
    of false is e more = let rest = more e in (suc rest.0, (let lt = rest.1 in omega (arith, lt)), rest.2)

in_use : (xs : List (Option Channel)) (n : ℕ) (c : Channel) → at_seat xs n ≡ Some c → n < length xs
in_use [] n c e = absurd cc
in_use (x ∷ xs) zero c e = omega arith
in_use (x ∷ xs) (suc n) c e = (let lt = in_use xs n c e in omega (arith, lt))

address_stays : (a : Address) (o new : Option Channel) → Remains o new → has_address a o ≡ true → has_address a new ≡ true
address_stays a None new r e = absurd cc
address_stays a (Some c) new r e = ap (has_address a) r.1 ∙ ap (λ (x : Address). is_same x a) r.2 ∙ e

there_at : (a : Address) (o : Option Channel) → has_address a o ≡ true → (c : Channel) × (o ≡ Some c)
there_at a None e = absurd cc
there_at a (Some c) e = (c, refl)

has_at : (a : Address) (xs : List (Option Channel)) (n : ℕ) → has_address a (at_seat xs n) ≡ true → list_any (has_address a) xs ≡ true
has_at a xs n e = let there = there_at a (at_seat xs n) e in list_any_at (has_address a) xs n None (in_use xs n there.0 there.1) e

channel_stays : (a : Address) (t new : Seats) → Stay t new → list_any (has_address a) t.channels ≡ true → list_any (has_address a) new.channels ≡ true
channel_stays a t new s e =
    let there = any_there (has_address a) t.channels e in
    has_at a new.channels there.0 (address_stays a (channel_at t there.0) (channel_at new there.0) (s.each there.0) there.2)

-- a seat that is free is found
none_free : (xs : List (Option Channel)) (n : ℕ) → position is_none xs ≡ None → n < length xs → is_none (at_seat xs n) ≡ false
none_free xs n none lt = ⊎_elim
    (λ (low : position_or_len is_none xs < length xs).
    let some : position is_none xs ≡ Some (position_or_len is_none xs) =
    cond-true (nat_lt (position_or_len is_none xs) (length xs)) (Some (position_or_len is_none xs)) None
    (lt-ltb (position_or_len is_none xs) (length xs) low) in
    let both : None ≡ Some (position_or_len is_none xs) = sym none ∙ some in absurd cc)
    (λ (past : length xs ≤ position_or_len is_none xs). not-true (is_none (at_seat xs n))
    (prefix_len_passes (λ x. not (is_none x)) xs n None (omega (arith, past, lt))))
    (cases_lt (position_or_len is_none xs) (length xs))

free_before : (o new : Option Channel) → Remains o new → is_none new ≡ true → is_none o ≡ true
free_before None new r e = refl
free_before (Some c) new r e = let x : false ≡ true = sym (ap (λ (y : Option Channel). is_none y) r.1) ∙ e in absurd cc

full_stays : (t new : Seats) → Stay t new → free_seat t ≡ None → free_seat new ≡ None
full_stays t new s none = of (free_seat new) refl
  where
    of : (o : Option ℕ) → free_seat new ≡ o → free_seat new ≡ None
    of None e = e
    of (Some n) e =
        let free = position-Some is_none new.channels n None e in
        let many = s.many in
        absurd (both_ways (is_none (channel_at t n)) (none_free t.channels n none (let lt = free.0 in omega (arith, lt, many)))
        (free_before (channel_at t n) (channel_at new n) (s.each n) free.1))

-- The channels stay, and the moment does.
pub record Remain (old new : Parts) : Type 0 where
  pub stay : Stay old.seats.table new.seats.table
  pub moment : new.seats.moment ≡ old.seats.moment

remain_none : (p : Parts) → Remain p p
remain_none p = record { stay = stay_none p.seats.table; moment = refl }

remain_twice : (a b c : Parts) → Remain a b → Remain b c → Remain a c
remain_twice a b c one two = record {
  stay = stay_twice a.seats.table b.seats.table c.seats.table one.stay two.stay;
  moment = two.moment ∙ one.moment;
}

-- where the seats are these
remain_by : (old new : Parts) (table : Seats) → Stay old.seats.table table → new.seats.table ≡ table → new.seats.moment ≡ old.seats.moment
    → Remain old new
remain_by old new table s is moment = record { stay = subst (λ (t : Seats). Stay old.seats.table t) (sym is) s; moment = moment }

remain_seats : (old new : Parts) → new.seats.table ≡ old.seats.table → new.seats.moment ≡ old.seats.moment → Remain old new
remain_seats old new table moment = remain_by old new old.seats.table (stay_none old.seats.table) table moment

remain_same : (old new : Parts) → new ≡ old → Remain old new
remain_same old new e = remain_seats old new (ap (λ (p : Parts). p.seats.table) e) (ap (λ (p : Parts). p.seats.moment) e)

pub reached_still : (old new : Parts) (dial : Dial) → Remain old new → IsReached old dial → IsReached new dial
reached_still old new dial r (inl has) = inl (channel_stays dial.address old.seats.table new.seats.table r.stay has)
reached_still old new dial r (inr (inl rests)) = inr (inl (subst (λ (n : ℕ). IsResting n dial.state) (sym r.moment) rests))
reached_still old new dial r (inr (inr full)) = inr (inr (full_stays old.seats.table new.seats.table r.stay full))

pub all_reached_still : (old new : Parts) (dials : List Dial) → Remain old new → AllByRecursion (IsReached old) dials
    → AllByRecursion (IsReached new) dials
all_reached_still old new [] r a = tt
all_reached_still old new (dial ∷ dials) r a = (reached_still old new dial r a.0, all_reached_still old new dials r a.1)

-- ---- dials

none_at : (o : Option Channel) → is_none o ≡ true → o ≡ None
none_at None e = refl
none_at (Some c) e = absurd cc

-- the channels with one more, at a free seat
made : (to : Address) (p : SeatsState) (k : ℕ) → free_seat p.table ≡ Some k
    → (number : ℕ) × ((with_dial to p).channels ≡ set p.table.channels k (Some (dialled to p.moment number)))
made to p k free = (_, ap (λ (o : Option ℕ). (with_channel_at o (dialled to p.moment) p.table).channels) free)

module _ (to : Address) (p : SeatsState) (k : ℕ) (free : free_seat p.table ≡ Some k) where
  vacant : channel_at p.table k ≡ None
  vacant = none_at (channel_at p.table k) (position-Some is_none p.table.channels k None free).1

  low : k < length p.table.channels
  low = (position-Some is_none p.table.channels k None free).0

  made_stay : Stay p.table (with_dial to p)
  made_stay =
      let m = made to p k free in record {
        each = λ n. subst (λ (xs : List (Option Channel)). Remains (channel_at p.table n) (at_seat xs n)) (sym m.1)
            (remains_set p.table.channels k (Some (dialled to p.moment m.0))
            (subst (λ (o : Option Channel). Remains o (Some (dialled to p.moment m.0))) (sym vacant) tt) n);
        many = ap (λ (xs : List (Option Channel)). length xs) m.1 ∙ length-set p.table.channels k (Some (dialled to p.moment m.0));
      }

  made_has : has_address to (channel_at (with_dial to p) k) ≡ true
  made_has =
      let m = made to p k free in
      ap (λ (xs : List (Option Channel)). has_address to (at_seat xs k)) m.1
      ∙ ap (has_address to) (get_or-set_same p.table.channels k (Some (dialled to p.moment m.0)) None low)
      ∙ same_self (address_of to)

  -- one that was dropped again
  dropped_stay : Stay p.table (closed (with_dial to p) k)
  dropped_stay =
      let m = made to p k free in
      let xs : List (Option Channel) = set (with_dial to p).channels k None in
      let is : xs ≡ set p.table.channels k None =
      ap (λ (ys : List (Option Channel)). set ys k None) m.1 ∙ set-set p.table.channels k (Some (dialled to p.moment m.0)) None in
      record {
        each = λ n. remains_on (channel_at p.table n) (at_seat xs n) (channel_at (closed (with_dial to p) k) n)
            (subst (λ (ys : List (Option Channel)). Remains (channel_at p.table n) (at_seat ys n)) (sym is)
            (remains_set p.table.channels k None (subst (λ (o : Option Channel). Remains o None) (sym vacant) tt) n))
            (remains_map (channel_at (with_dial to p) k) xs n);
        many = length-map xs (after_drop (channel_at (with_dial to p) k)) ∙ ap (λ (ys : List (Option Channel)). length ys) is
            ∙ length-set p.table.channels k None;
      }

dials_stay : (to : Address) (moment : ℕ) (sent : Bool) (old new : SeatsState) (link later : LinkState) → Dials to moment sent old new link later
    → Stay old.table new.table
dials_stay to moment sent old new link later d = subst (λ (t : Seats). Stay old.table t) (sym (ap (λ (p : SeatsState). p.table) d.is)) (of sent)
  where
    of : (b : Bool) → Stay old.table (cond b (with_datagram (with_dial to old) d.seat true old.moment) (closed (with_dial to old) d.seat))
    of true = stay_twice old.table (with_dial to old) _ (made_stay to old d.seat d.free) (stay_datagram (with_dial to old) d.seat true old.moment)
    of false = dropped_stay to old d.seat d.free

tries_remain : (to : Address) (sent : Option Bool) (old new : Scene) → Tries to sent old new → Remain old.parts new.parts
tries_remain to None old new t = remain_same old.parts new.parts t.1.same
tries_remain to (Some sent) old new t = record {
  stay = dials_stay to _ sent old.parts.seats new.parts.seats old.link new.link t.1.dials;
  moment = ap (λ (p : SeatsState). p.moment) t.1.dials.is;
}

-- an address to which a handshake was sent has a channel
dialled_has : (to : Address) (old new : Scene) → Tries to (Some true) old new → has_channel new.parts to ≡ true
dialled_has to old new t =
    let d = t.1.dials in
    let table = with_dial to old.parts.seats in
    ap (λ (p : SeatsState). list_any (has_address to) p.table.channels) d.is
    ∙ channel_stays to table (with_datagram table d.seat true old.parts.seats.moment) (stay_datagram table d.seat true old.parts.seats.moment)
    (has_at to table.channels d.seat (made_has to old.parts.seats d.seat d.free))

rests_at_once : (now : ℕ) → IsResting now (Dropped now)
rests_at_once now = omega arith

rests_noticed : (now : ℕ) (state : DialState) → is_due now state ≡ false → IsResting now (noticed now state)
rests_noticed now New e = absurd cc
rests_noticed now Seated e = rests_at_once now
rests_noticed now (Dropped at) e = (let lt = leb-false 30_000_000 (now - at) e in omega (arith, lt))

reaches_tried : (dial left : Dial) (sent : Option Bool) (a b : Scene) → left.address ≡ dial.address → has_channel a.parts dial.address ≡ false
    → Tries dial.address sent a b → left.state ≡ after_dial a.parts.seats.moment dial.state sent → IsReached b.parts left
reaches_tried dial left None a b same has t is = ⊎_elim
    (λ found. absurd (both_ways (has_channel a.parts dial.address) has found))
    (λ full. inr (inr (ap (λ (p : Parts). free_seat p.seats.table) t.1.same ∙ full)))
    t.1.none.why
reaches_tried dial left (Some true) a b same has t is = inl (ap (has_channel b.parts) same ∙ dialled_has dial.address a b t)
reaches_tried dial left (Some false) a b same has t is =
    inr (inl (subst (λ (s : DialState). IsResting b.parts.seats.moment s) (sym is)
    (subst (λ (n : ℕ). IsResting n (Dropped a.parts.seats.moment)) (sym (tries_remain dial.address (Some false) a b t).moment)
    (rests_at_once a.parts.seats.moment))))

step_reaches : (dial left : Dial) (a b : Scene) → left.address ≡ dial.address → StepsDial dial left.state a b
    → Remain a.parts b.parts × IsReached b.parts left
step_reaches dial left a b same step = of (has_channel a.parts dial.address) refl step
  where
    due : (x : Bool) → has_channel a.parts dial.address ≡ false → is_due a.parts.seats.moment dial.state ≡ x
        → MatchBool x ((sent : Option Bool) × Tries dial.address sent a b × (left.state ≡ after_dial a.parts.seats.moment dial.state sent))
        ((b ≡ a) × (left.state ≡ noticed a.parts.seats.moment dial.state))
        → Remain a.parts b.parts × IsReached b.parts left
    due true has e h = (tries_remain dial.address h.0 a b h.1, reaches_tried dial left h.0 a b same has h.1 h.2)
    due false has e h = (
      remain_same a.parts b.parts (ap (λ (s : Scene). s.parts) h.0),
      inr (inl (subst (λ (n : ℕ). IsResting n left.state) (sym (ap (λ (s : Scene). s.parts.seats.moment) h.0))
          (subst (λ (s : DialState). IsResting a.parts.seats.moment s) (sym h.1) (rests_noticed a.parts.seats.moment dial.state e)))),
    )

    of : (x : Bool) → has_channel a.parts dial.address ≡ x
        → MatchBool x ((b ≡ a) × (left.state ≡ Seated))
        (MatchBool (is_due a.parts.seats.moment dial.state)
        ((sent : Option Bool) × Tries dial.address sent a b × (left.state ≡ after_dial a.parts.seats.moment dial.state sent))
        ((b ≡ a) × (left.state ≡ noticed a.parts.seats.moment dial.state)))
        → Remain a.parts b.parts × IsReached b.parts left
    of true has h = (
      remain_same a.parts b.parts (ap (λ (s : Scene). s.parts) h.0),
      inl (ap (λ (s : Scene). has_channel s.parts left.address) h.0 ∙ ap (has_channel a.parts) same ∙ has),
    )
    of false has h = due (is_due a.parts.seats.moment dial.state) has refl h

-- Each of the addresses was looked at.
pub record AllReached (dials lefts : List Dial) (a b : Parts) : Type 0 where
  pub remain : Remain a b
  pub reached : AllByRecursion (IsReached b) lefts
  pub addresses : addresses_of lefts ≡ addresses_of dials

pub each_reached : (dials lefts : List Dial) (a c : Scene) → DialsEach dials lefts a c → AllReached dials lefts a.parts c.parts
each_reached [] [] a c h = record { remain = remain_same a.parts c.parts (ap (λ (s : Scene). s.parts) h); reached = tt; addresses = refl }
each_reached [] (left ∷ lefts) a c h = absurd h
each_reached (dial ∷ dials) [] a c h = absurd h
each_reached (dial ∷ dials) (left ∷ lefts) a c h =
    let one = step_reaches dial left a h.0 h.1 h.2 in
    let rest = each_reached dials lefts h.0 c h.3 in
    record {
      remain = remain_twice a.parts h.0.parts c.parts one.0 rest.remain;
      reached = (reached_still h.0.parts c.parts left rest.remain one.1, rest.reached);
      addresses = ap (λ (x : Address). x ∷ addresses_of lefts) h.1 ∙ ap (λ (xs : List Address). dial.address ∷ xs) rest.addresses;
    }

pub suggested_remain : (queue : List Address) (a c : Scene) → DialsSuggested queue a c → Remain a.parts c.parts
suggested_remain [] a c h = remain_same a.parts c.parts (ap (λ (s : Scene). s.parts) h)
suggested_remain (address ∷ queue) a c h = of (nat_lt (used_of a.parts.seats.table) 32) h (λ mid m. suggested_remain queue mid c m)
  where
    of : (b : Bool) → MatchBool b ((sent : Option Bool) × (mid : Scene) × Tries address sent (with_queue queue a) mid × DialsSuggested queue mid c)
        (c ≡ a)
        → ((mid : Scene) → DialsSuggested queue mid c → Remain mid.parts c.parts)
        → Remain a.parts c.parts
    of true h more =
        let one = tries_remain address h.0 (with_queue queue a) h.1 h.2 in
        remain_twice a.parts h.1.parts c.parts (record { stay = one.stay; moment = one.moment }) (more h.1 h.3)
    of false h more = remain_same a.parts c.parts (ap (λ (s : Scene). s.parts) h)

-- ---- slots

grants_remain : (seats : List ℕ) (old new : Parts) → GrantsInTurn seats old new → Remain old new
grants_remain [] old new g = remain_same old new g.0
grants_remain (seat ∷ seats) old new g =
    remain_twice old g.0 new
    (remain_seats old g.0 (ap (λ (p : Parts). p.seats.table) g.1.rest ∙ ap (λ (p : SeatsState). p.table) g.1.turns.is)
    (ap (λ (p : Parts). p.seats.moment) g.1.rest ∙ ap (λ (p : SeatsState). p.moment) g.1.turns.is))
    (grants_remain seats g.0 new g.2)

pub slots_remain : (old new : Parts) → TurnsSlots old new → Remain old new
slots_remain old new t = remain_twice old t.mid new (first t.turned) (grants_remain t.grants.0 t.mid new t.grants.1)
  where
    first : TurnsLongest old t.mid ⊎ TurnsNone old t.mid → Remain old t.mid
    first (inl l) = remain_seats old t.mid (ap (λ (p : Parts). p.seats.table) l.rest ∙ ap (λ (p : SeatsState). p.table) l.turns.is)
        (ap (λ (p : Parts). p.seats.moment) l.rest ∙ ap (λ (p : SeatsState). p.moment) l.turns.is)
    first (inr n) = remain_same old t.mid n.same

-- ---- what is said

greets_remain : (seat moment : ℕ) (sent : Bool) (old new : Parts) (link later : LinkState) → IsGreeted seat moment sent old new link later
    → Remain old new
greets_remain seat moment true old new link later g =
    remain_by old new (with_datagram old.seats.table seat true old.seats.moment) (stay_datagram old.seats.table seat true old.seats.moment)
    (ap (λ (p : SeatsState). p.table) g.greets.is) (ap (λ (p : SeatsState). p.moment) g.greets.is)
greets_remain seat moment false old new link later (inl r) =
    remain_seats old new (ap (λ (p : Parts). p.seats.table) r.rest) (ap (λ (p : Parts). p.seats.moment) r.rest)
greets_remain seat moment false old new link later (inr n) = remain_same old new n.same

back_remain : (seat : ℕ) (greets : Bool) (news : List Span) (old new : Parts) → SetsBack seat greets news old new → Remain old new
back_remain seat greets news old new s = of s.known.proven greets news s.sets
  where
    of : (is_proven does : Bool) (xs : List Span) → SetsBackTo is_proven does xs seat old new → Remain old new
    of true does xs h = remain_same old new h
    of false true xs h = remain_seats old new (ap (λ (p : SeatsState). p.table) h.0.is) (ap (λ (p : SeatsState). p.moment) h.0.is)
    of false false [] h = remain_same old new h
    of false false (x ∷ xs) h = remain_seats old new (ap (λ (p : SeatsState). p.table) h.0.is) (ap (λ (p : SeatsState). p.moment) h.0.is)

speaks_remain : (seat : ℕ) (far : Far) (greets : Bool) (refused : ℕ) (speaker left : Speaker) (old new : Scene)
    → SpeaksTo (record { seat = seat; far = far; greets = greets }) refused speaker left old new → Remain old.parts new.parts
speaks_remain seat far greets refused speaker left old new s =
    remain_twice old.parts s.picked new.parts
    (remain_seats old.parts s.picked (ap (λ (p : Parts). p.seats.table) s.are_picked.rest) (ap (λ (p : Parts). p.seats.moment) s.are_picked.rest))
    (remain_twice s.picked s.said new.parts
    (remain_by s.picked s.said _ (stay_sent s.picked.seats.table seat _ _ s.picked.seats.moment)
    (ap (λ (p : SeatsState). p.table) s.says.speaks.is) (ap (λ (p : SeatsState). p.moment) s.says.speaks.is))
    (remain_seats s.said new.parts (ap (λ (p : Parts). p.seats.table) s.settles.rest) (ap (λ (p : Parts). p.seats.moment) s.settles.rest)))

attends_remain : (seat : ℕ) (turn : Option Turn) (old new : Parts) → Attends seat turn old new → Remain old new
attends_remain seat turn old new a =
    remain_seats old new (ap (λ (p : Parts). p.seats.table) a.keeps.rest) (ap (λ (p : Parts). p.seats.moment) a.keeps.rest)

pub remain_kept : IsStepwise Remain
remain_kept = record {
  none = remain_none;
  twice = remain_twice;
  greets = greets_remain;
  back = back_remain;
  speaks = speaks_remain;
  attends = attends_remain;
}

-- ---- the whole

-- a channel whose other peer is known has its address
far_address : (far : Far) (b : Bool) (c : Channel) (x : Far) → x.address ≡ c.address → cond b None (Some x) ≡ Some far
    → has_address far.address (Some c) ≡ true
far_address far true c x same e = let y : None ≡ Some far = e in absurd cc
far_address far false c x same e =
    ap (λ (a : Address). is_same a far.address) (sym same ∙ ap (λ (f : Far). f.address) (same_Some x far e))
    ∙ same_self (address_of far.address)

known_address : (far : Far) (o : Option Channel) → far_of o ≡ Some far → has_address far.address o ≡ true
known_address far None e = absurd cc
known_address far (Some c) e = far_address far (is_waiting c) c _ refl e

pub flush_reaches : (refused : ℕ) (old new : PeerState) (link later : LinkState) (disk left : DiskState) → Sends refused old new link later disk left
    → Reaches old new link later disk left
flush_reaches refused old new link later disk left course =
    let s = course.sends in
    let all = each_reached old.dials new.dials (scene s.given link disk) s.dials_all.0 s.dials_all.1 in
    let then = remain_twice s.dials_all.0.parts s.dialled.parts s.said.parts
    (suggested_remain s.dials_all.0.parts.pex.queue s.dials_all.0 s.dialled s.dials_all.2)
    (remain_twice s.dialled.parts s.turned s.said.parts (slots_remain s.dialled.parts s.turned s.turns)
    (turns_kept Remain remain_kept 64 s.unsaid s.speaks.gathered new.speaker (record s.dialled { parts = s.turned }) s.said s.speaks.turns)) in
    record {
      refused = refused;
      course = course;
      addresses = all.addresses;
      reached = all_reached_still s.dials_all.0.parts s.said.parts new.dials then all.reached;
      known = λ n far is. has_at far.address new.parts.seats.table.channels n (known_address far (channel_at new.parts.seats.table n)
          (ap (λ (p : Parts). far_of (channel_at p.seats.table n)) course.rest ∙ s.serves.far n ∙ is));
    }
