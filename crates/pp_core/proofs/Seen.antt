-- From the address of each channel something came, or it was dialled.
use Rattle.std.proofs.Common.{◌≡◌, ◌⊎◌, inl, inr, ⊎_elim, ℕ, suc, eqb, Bool, true, false, cond, ◌&&◌, Option, Some, None, List, [], ◌∷◌, ◌++◌, length, refl, subst}
use Rattle.std.specs.List.{list_any}
use Rattle.std.proofs.lemmas.Bool.{cases_Bool, both_ways, false≢true, and_parts, and_from, or_cases, or_left, or_right}
use Rattle.pp_terms.specs.format.Descriptor.{Descriptor}
use Rattle.pp_terms.specs.format.Messages.{Message, Handshake}
use Rattle.pp_terms.specs.format.Traffic.{Address, same_address, Record}
use Rattle.pp_traffic.specs.Past.{read, comes_from, goes_to, is_number, is_at}
use Rattle.pp_traffic.specs.Life.{Life, greets, answers, begins_as}
use Rattle.pp_traffic.specs.Plain.{is_handshake, concerns}
use Rattle.pp_traffic.proofs.Plains.{greets_from}
use Rattle.pp_promises.specs.Asked.{dials}
use Rattle.pp_outside.specs.Outside.{address_of}
use Rattle.pp_outside.specs.declared.link.Address as outside
use Rattle.pp_channels.specs.Seats.{at_seat, channel_at, has_address}
use Rattle.pp_channels.specs.declared.channel.Channel.{Channel}
use Rattle.pp_lives.specs.Reading.{opens, is_waiting}
use Rattle.pp_lives.proofs.Arrivals.{living_of}
use Rattle.pp_lives.proofs.Own.{stands_of}
use Rattle.pp_lives.proofs.Sent.{same_is}
use Rattle.pp_seats.specs.Standing.{SeatsState, Setting, StandsFor}

-- ---- records that pass a test

-- records among which one passes a test have one that passes another which it passes too
any_more : (test more : Record → Bool) → ((r : Record) → test r ≡ true → more r ≡ true) → (past : List Record) → list_any test past ≡ true
    → list_any more past ≡ true
any_more test more each [] e = absurd (false≢true e)
any_more test more each (r ∷ past) e = ⊎_elim
    (λ here. or_left (more r) (list_any more past) (each r here))
    (λ later. or_right (more r) (list_any more past) (any_more test more each past later))
    (or_cases (test r) (list_any test past) e)

-- one that passes a test stays, whatever is sent
any_later : (test : Record → Bool) (rs past : List Record) → list_any test past ≡ true → list_any test (rs ++ past) ≡ true
any_later test [] past e = e
any_later test (r ∷ rs) past e = or_right (test r) (list_any test (rs ++ past)) (any_later test rs past e)

-- the record at a place passes one of two tests
any_of : (test one other : Record → Bool) → ((r : Record) → test r ≡ true → (one r ≡ true) ⊎ (other r ≡ true)) → (place : ℕ) (past : List Record)
    → is_at test place past ≡ true → (list_any one past ≡ true) ⊎ (list_any other past ≡ true)
any_of test one other each place [] e = absurd (false≢true e)
any_of test one other each place (r ∷ past) e = ⊎_elim
    (λ here. ⊎_elim
    (λ is. inl (or_left (one r) (list_any one past) is))
    (λ is. inr (or_left (other r) (list_any other past) is))
    (each r (and_parts (eqb place (length past)) (test r) here).1))
    (λ later. ⊎_elim
    (λ is. inl (or_right (one r) (list_any one past) is))
    (λ is. inr (or_right (other r) (list_any other past) is))
    (any_of test one other each place past later))
    (or_cases (eqb place (length past) && test r) (is_at test place past) e)

-- ---- what opens a channel

as_handshake : (number : ℕ) (ms : List Message) → begins_as number ms ≡ true → list_any is_handshake ms ≡ true
as_handshake number [] e = absurd (false≢true e)
as_handshake number (Handshake source options ∷ ms) e = refl
as_handshake number (_ ∷ ms) e = absurd (false≢true e)

opened_by : (d : Descriptor) (life : Life) (r : Record) → opens d life r ≡ true
    → (comes_from life.address r ≡ true) ⊎ (dials d life.address r ≡ true)
opened_by d life r e = ⊎_elim
    (λ dialled.
    let is : answers d life r ≡ true = subst (λ (b : Bool). cond b (answers d life r) (greets d life r) ≡ true) dialled e in
    let outer = and_parts (goes_to life.address r && is_number (cond life.is_dialled 0 life.remote) (read d r).channel)
    (begins_as life.local (read d r).messages.read) is in
    let inner = and_parts (goes_to life.address r) (is_number (cond life.is_dialled 0 life.remote) (read d r).channel) outer.0 in
    inr (and_from (goes_to life.address r && is_number 0 (read d r).channel) (list_any is_handshake (read d r).messages.read)
    (and_from (goes_to life.address r) (is_number 0 (read d r).channel) inner.0
    (subst (λ (b : Bool). is_number (cond b 0 life.remote) (read d r).channel ≡ true) dialled inner.1))
    (as_handshake life.local (read d r).messages.read outer.1)))
    (λ answered. inl (greets_from d life r (subst (λ (b : Bool). cond b (answers d life r) (greets d life r) ≡ true) answered e)))
    (cases_Bool life.is_dialled)

-- ---- the address of a channel

-- From the address something came, or it was dialled.
abbrev pub IsSeen : Descriptor → Address → List Record → Type 0
IsSeen d a past = (list_any (comes_from a) past ≡ true) ⊎ (list_any (dials d a) past ≡ true)

pub seen_later : (d : Descriptor) (a : Address) (rs past : List Record) → IsSeen d a past → IsSeen d a (rs ++ past)
seen_later d a rs past (inl came) = inl (any_later (comes_from a) rs past came)
seen_later d a rs past (inr dialled) = inr (any_later (dials d a) rs past dialled)

pub channel_seen : (x : Setting) (most : ℕ) (p : SeatsState) (past : List Record) → StandsFor x most p past → (seat : ℕ) (c : Channel)
    → channel_at p.table seat ≡ Some c → IsSeen x.d (address_of c.address) past
channel_seen x most p past stands seat c there =
    let standing = stands.standing in
    let l = living_of x.d p.table stands.lives past seat c standing.seated there
    (⊎_elim (λ waits. inr (stands.begun seat c there waits)) (λ known. inl known) (cases_Bool (is_waiting c))) in
    let s = stands_of x.d (channel_at p.table seat) (stands.lives seat) c l.0 past (standing.seated.each seat) there l.1 in
    subst (λ (a : Address). IsSeen x.d a past) s.address
    (any_of (opens x.d l.0) (comes_from l.0.address) (dials x.d l.0.address) (opened_by x.d l.0) l.0.opening past s.opened)

-- the address of some channel was seen
has_there : (a : outside.Address) (xs : List (Option Channel)) → list_any (has_address a) xs ≡ true
    → (n : ℕ) × (c : Channel) × (at_seat xs n ≡ Some c) × (address_of c.address ≡ address_of a)
has_there a [] e = absurd (false≢true e)
has_there a (None ∷ xs) e = let rest = has_there a xs e in (suc rest.0, rest.1, rest.2, rest.3)
has_there a (Some c ∷ xs) e = of (cases_Bool (same_address (address_of c.address) (address_of a))) (λ later. has_there a xs later)
  where
    of : (same_address (address_of c.address) (address_of a) ≡ true) ⊎ (same_address (address_of c.address) (address_of a) ≡ false)
        → (list_any (has_address a) xs ≡ true → (n : ℕ) × (c : Channel) × (at_seat xs n ≡ Some c) × (address_of c.address ≡ address_of a))
        → (n : ℕ) × (e : Channel) × (at_seat (Some c ∷ xs) n ≡ Some e) × (address_of e.address ≡ address_of a)
    of (inl same) more = (0, c, refl, same_is (address_of c.address) (address_of a) same)
    of (inr apart) more =
        let rest = more (⊎_elim
        (λ same. absurd (both_ways (same_address (address_of c.address) (address_of a)) apart same))
        (λ later. later)
        (or_cases (same_address (address_of c.address) (address_of a)) (list_any (has_address a) xs) e)) in
        (suc rest.0, rest.1, rest.2, rest.3)

pub has_seen : (x : Setting) (most : ℕ) (p : SeatsState) (past : List Record) → StandsFor x most p past → (a : outside.Address)
    → list_any (has_address a) p.table.channels ≡ true → IsSeen x.d (address_of a) past
has_seen x most p past stands a has =
    let h = has_there a p.table.channels has in
    subst (λ (y : Address). IsSeen x.d y past) h.3 (channel_seen x most p past stands h.0 h.1 h.2)

dialled_concerns : (d : Descriptor) (a : Address) (r : Record) → dials d a r ≡ true → concerns a r ≡ true
dialled_concerns d a r e =
    let goes = and_parts (goes_to a r) (is_number 0 (read d r).channel)
    (and_parts (goes_to a r && is_number 0 (read d r).channel) (list_any is_handshake (read d r).messages.read) e).0 in
    or_right (comes_from a r) (goes_to a r) goes.0

-- a record concerns the address
pub seen_concerns : (d : Descriptor) (a : Address) (past : List Record) → IsSeen d a past → list_any (concerns a) past ≡ true
seen_concerns d a past (inl came) = any_more (comes_from a) (concerns a) (λ r e. or_left (comes_from a r) (goes_to a r) e) past came
seen_concerns d a past (inr dialled) = any_more (dials d a) (concerns a) (dialled_concerns d a) past dialled
