-- What turns keep of what a peer promises, turn by turn.
use Rattle.std.proofs.Common.{◌≡◌, ◌⊎◌, inl, inr, ⊎_elim, ℕ, zero, suc, ◌+◌, ◌-◌, ◌<◌, ◌≤◌, Bool, true, false, Option, Some, List, [], ◌∷◌, ◌++◌, refl, sym, ◌∙◌, subst, arith}
use Rattle.std.specs.List.{AllByRecursion, list_any}
use Rattle.std.proofs.lemmas.Bool.{cases_lt, cond-true, cond-false, or_parts}
use Rattle.pp_terms.specs.disk.Disk.{DiskState, History}
use Rattle.pp_terms.specs.disk.Image.{holds}
use Rattle.pp_terms.specs.format.Descriptor.{Descriptor}
use Rattle.pp_terms.specs.format.Traffic.{Address, Record, Received, Quiet, Sent, GainsRecords}
use Rattle.pp_terms.specs.tree.Book.{LookUp}
use Rattle.pp_traffic.specs.Meter.{lets_send}
use Rattle.pp_traffic.specs.Keeping.{EachAnnounced}
use Rattle.pp_traffic.specs.Past.{EachRecord}
use Rattle.pp_traffic.specs.Turns.{is_closing, in_turns, AtTurnEndsBut, AtEndsOfTurnsBut}
use Rattle.pp_traffic.proofs.Awaited.{plain_began}
use Rattle.pp_promises.specs.Announced.{AcknowledgesFirst, TellsOfHeld}
use Rattle.pp_promises.specs.Answered.{KeepsUp}
use Rattle.pp_promises.specs.LastTurn.{sent_since}
use Rattle.pp_promises.specs.Served.{LeavesFew}
use Rattle.pp_promises.specs.Stored.{StoresAll}
use Rattle.pp_promises.proofs.Growth.{contradictions_stay}
use Rattle.pp_outside.specs.Outside.{record_of}
use Rattle.pp_outside.specs.declared.link.Event.{Event}
use Rattle.pp_outside.specs.declared.link.Event.TheVariants as came
use Rattle.pp_paths.specs.Judge.{KeepsEntries}
use Rattle.pp_store.specs.Store.{StoreState, is_committed, is_held}
use Rattle.pp_complete.specs.Shipped.{StoresShipped}
use Rattle.pp_complete.proofs.Knowing.{announced_has}
use Rattle.pp_peer.specs.Flushing.{IsOurs}
use Rattle.pp_core.specs.Offering.{AsksOrHolds, requests_from}
use Rattle.pp_core.specs.Keeping.{IsThere, IsKeeping}
use Rattle.pp_core.specs.Peers.{PeerState}
use Rattle.pp_core.specs.Storing.{StoresIn, CommitsTold}
use Rattle.pp_core.proofs.Shipping.{faults_stay}
use Rattle.pp_turns.specs.Promising.{Ended, Came, Refused, faults_of, FailsFew}
use Rattle.pp_turns.specs.Turning.{Post}

-- ---- what is stored

pub each_grows : (d : Descriptor) (book more : LookUp) (store fuller : StoreState) → KeepsEntries book more
    → ((i : ℕ) → is_held store i ≡ true → is_held fuller i ≡ true) → (past : List Record) → EachRecord (StoresIn d book store) past
    → EachRecord (StoresIn d more fuller) past
each_grows d book more store fuller entries held [] each = tt
each_grows d book more store fuller entries held (r ∷ past) each = (
  λ life i bytes brings proof. ⊎_elim
      (λ is. inl (held i is))
      (λ against. inr (contradictions_stay book more _ entries against))
      (each.0 life i bytes brings proof),
  each_grows d book more store fuller entries held past each.1,
)

-- what comes with the hashes that the peer lacks is held still
pub each_ships : (d : Descriptor) (had : ℕ → Bool) (book more : LookUp) (store fuller : StoreState) → KeepsEntries book more
    → ((i : ℕ) → is_held store i ≡ true → is_held fuller i ≡ true) → (past : List Record)
    → EachRecord (StoresShipped d had book (is_held store)) past → EachRecord (StoresShipped d had more (is_held fuller)) past
each_ships d had book more store fuller entries held [] each = tt
each_ships d had book more store fuller entries held (r ∷ past) each = (
  λ life i bytes brings told theirs shipped. ⊎_elim
      (λ is. inl (held i is))
      (λ fault. inr (faults_stay d book more theirs entries fault))
      (each.0 life i bytes brings told theirs shipped),
  each_ships d had book more store fuller entries held past each.1,
)

-- what holds of each record but of those that were sent, holds of all once more are sent
pub each_sent : (Q : List Record → Record → Type 0) (d : Descriptor) (moment : ℕ)
    → ((before : List Record) (at : ℕ) (receiver : Address) (bytes : List ℕ) → Q before (Sent at receiver bytes))
    → (sent past : List Record) → AllByRecursion (IsOurs d moment) sent → EachRecord Q past → EachRecord Q (sent ++ past)
each_sent Q d moment none [] past ours each = each
each_sent Q d moment none (r ∷ rs) past ours each = (
  subst (Q (rs ++ past)) (sym ours.0.is) (none (rs ++ past) _ _ _),
  each_sent Q d moment none rs past ours.1 each,
)

-- what a peer that kept its disk had at first, and what it announced, is committed
pub commits_told : (d : Descriptor) (since : ℕ) (first p : PeerState) (disk : DiskState) (past : List Record) → p.parts.holding.store.descriptor ≡ d
    → ((i : ℕ) → is_committed first.parts.holding.store i ≡ true → is_committed p.parts.holding.store i ≡ true) → IsKeeping since p disk past
    → CommitsTold d (is_committed first.parts.holding.store) past p.parts.holding.store
commits_told d since first p disk past swarm stay keeping = record {
  committed = λ i each. ⊎_elim
      (λ had. stay i had)
      (λ told. (announced_has d (IsThere p disk) i past (subst (λ (e : Descriptor). EachAnnounced e (IsThere p disk) past) swarm keeping.announced)
      told).1.committed)
      each;
}

-- ---- the ends of turns

-- An event begins a turn.
pub ends_before : (few : ℕ) (P : List Record → Type 0) (event : Event) (bytes : List ℕ) (past : List Record) → AtEndsOfTurnsBut few P past
    → AtTurnEndsBut few P (record_of event bytes ∷ past)
ends_before few P (came.Datagram sender len at) bytes past ends = ends
ends_before few P (came.Quiet at) bytes past ends = ends

turns_alike : (few : ℕ) (P : List Record → Type 0) (d : Descriptor) (moment : ℕ) (sent past : List Record) → AllByRecursion (IsOurs d moment) sent
    → AtTurnEndsBut few P past → AtTurnEndsBut few P (sent ++ past)
turns_alike few P d moment [] past ours ends = ends
turns_alike few P d moment (r ∷ rs) past ours ends =
    subst (λ (x : Record). AtTurnEndsBut few P (x ∷ (rs ++ past))) (sym ours.0.is) (turns_alike few P d moment rs past ours.1 ends)

one_more_fails : (few : ℕ) (P : List Record → Type 0) (past : List Record) → AtTurnEndsBut few P past → AtEndsOfTurnsBut (suc few) P past
one_more_fails few P past ends = inr (few, refl, ends)

-- P fails at the ends of no more turns than before, or of one more where that is granted.
more_fail : (few : ℕ) (P : List Record → Type 0) (past : List Record) → AtTurnEndsBut few P past → AtTurnEndsBut (suc few) P past
more_fail few P [] ends = tt
more_fail few P (Received at sender bytes ∷ past) (inl both) = inl (both.0, more_fail few P past both.1)
more_fail few P (Received at sender bytes ∷ past) (inr fails) =
    inr (few, refl, subst (λ (n : ℕ). AtTurnEndsBut n P past) (sym fails.1) (more_fail fails.0 P past fails.2))
more_fail few P (Quiet at ∷ past) (inl both) = inl (both.0, more_fail few P past both.1)
more_fail few P (Quiet at ∷ past) (inr fails) =
    inr (few, refl, subst (λ (n : ℕ). AtTurnEndsBut n P past) (sym fails.1) (more_fail fails.0 P past fails.2))
more_fail few P (Sent moment receiver bytes ∷ past) ends = more_fail few P past ends

module _ (first old new : Post) (P : List Record → Type 0) where
  -- an event came
  pub fails_event : (event : Event) (bytes : List ℕ) (past : List Record) → faults_of old ≤ faults_of new → FailsFew Ended first old P past
      → FailsFew Came first new P (record_of event bytes ∷ past)
  fails_event event bytes past later f =
      (f.0, (let sum = f.1 in omega (arith, sum, later)), ends_before f.0 P event bytes past f.2)

  -- the wait was refused
  pub fails_refused : (past : List Record) → faults_of old < faults_of new → FailsFew Ended first old P past → FailsFew Refused first new P past
  fails_refused past risen (few, sum, ends) = of ends
    where
      of : AtEndsOfTurnsBut few P past → FailsFew Refused first new P past
      of (inl both) = (few, omega (arith, sum, risen), both.1)
      of (inr fails) = (few, omega (arith, sum, risen), subst (λ (n : ℕ). AtTurnEndsBut n P past) (sym fails.1) (more_fail fails.0 P past fails.2))

  -- what was due was sent behind an event, and then P holds, or something was refused
  pub fails_sent : (d : Descriptor) (moment : ℕ) (sent past : List Record) → AllByRecursion (IsOurs d moment) sent → faults_of old ≤ faults_of new
      → P (sent ++ past) ⊎ (faults_of old < faults_of new) → FailsFew Came first old P past → FailsFew Ended first new P (sent ++ past)
  fails_sent d moment sent past ours later (inl holds) f =
      (f.0, (let sum = f.1 in omega (arith, sum, later)), inl (holds, turns_alike f.0 P d moment sent past ours f.2))
  fails_sent d moment sent past ours later (inr risen) f = (
    suc f.0,
    (let sum = f.1 in omega (arith, sum, risen)),
    one_more_fails f.0 P (sent ++ past) (turns_alike f.0 P d moment sent past ours f.2),
  )

  -- or behind a wait that was refused
  pub fails_sent_late : (d : Descriptor) (moment : ℕ) (sent past : List Record) → AllByRecursion (IsOurs d moment) sent → faults_of old ≤ faults_of new
      → FailsFew Refused first old P past → FailsFew Ended first new P (sent ++ past)
  fails_sent_late d moment sent past ours later f = (
    suc f.0,
    (let sum = f.1 in omega (arith, sum, later)),
    one_more_fails f.0 P (sent ++ past) (turns_alike f.0 P d moment sent past ours f.2),
  )

-- before the first turn
pub fails_none : (first : Post) (P : List Record → Type 0) → P [] → FailsFew Ended first first P []
fails_none first P holds = (0, omega arith, inl (holds, tt))

-- ---- nothing yet

-- no channel is plain before anything came or went
pub owes_none : (most : ℕ) (d : Descriptor) (h : History) → LeavesFew most d (lets_send d.chunk) h []
owes_none most d h life may = let began = plain_began d life [] [] may.plain in absurd (omega (arith, began))

-- ---- the last turn, and what closed the channels behind it

-- no more turns fail than so many
pub fails_at_most : (few most : ℕ) (P : List Record → Type 0) (past : List Record) → few ≤ most → AtEndsOfTurnsBut few P past → AtEndsOfTurnsBut most P past
fails_at_most few most P past le ends = by (⊎_elim (λ lt. inr lt) (λ same. inl (omega (arith, same, le))) (cases_lt few most))
  where
    by : (few ≡ most) ⊎ (few < most) → AtEndsOfTurnsBut most P past
    by (inl same) = subst (λ (n : ℕ). AtEndsOfTurnsBut n P past) same ends
    by (inr lt) = climb (most - few - 1) few (omega (arith, lt)) ends
      where
        up : (n : ℕ) → AtEndsOfTurnsBut n P past → AtEndsOfTurnsBut (suc n) P past
        up n (inl both) = inl (both.0, more_fail n P past both.1)
        up n (inr fails) = inr (n, refl, subst (λ (m : ℕ). AtTurnEndsBut m P past) (sym fails.1) (more_fail fails.0 P past fails.2))

        climb : (steps n : ℕ) → n + steps + 1 ≡ most → AtEndsOfTurnsBut n P past → AtEndsOfTurnsBut most P past
        climb zero n sum ends = subst (λ (m : ℕ). AtEndsOfTurnsBut m P past) (omega (arith, sum)) (up n ends)
        climb (suc steps) n sum ends = climb steps (suc n) (omega (arith, sum)) (up n ends)

unclosed : (d : Descriptor) (past : List Record) → list_any (is_closing d) past ≡ false → in_turns d past ≡ past
unclosed d [] none = refl
unclosed d (r ∷ past) none = cond-false (is_closing d r) (in_turns d past) (r ∷ past) (or_parts (is_closing d r) (list_any (is_closing d) past) none).0

pub in_turns_closed : (d : Descriptor) (closing turned : List Record) → AllByRecursion (λ (r : Record). is_closing d r ≡ true) closing
    → list_any (is_closing d) turned ≡ false → in_turns d (closing ++ turned) ≡ turned
in_turns_closed d [] turned all none = unclosed d turned none
in_turns_closed d (r ∷ closing) turned all none =
    cond-true (is_closing d r) (in_turns d (closing ++ turned)) (r ∷ (closing ++ turned)) all.0 ∙ in_turns_closed d closing turned all.1 none

-- ---- what the disk reads

-- what is held in a store is in what the disk reads
pub each_read : (d : Descriptor) (book : LookUp) (store : StoreState) (reads : List ℕ)
    → ((i : ℕ) → is_held store i ≡ true → holds d reads i ≡ true) → (past : List Record) → EachRecord (StoresIn d book store) past
    → StoresAll d book reads past
each_read d book store reads held [] each = tt
each_read d book store reads held (r ∷ past) each = (
  λ life i bytes brings proof. ⊎_elim (λ is. inl (held i is)) (λ against. inr against) (each.0 life i bytes brings proof),
  each_read d book store reads held past each.1,
)

-- ---- what the link tells

pub gained_some : (old new : Option (List Record)) (added before : List Record) → GainsRecords old added new → old ≡ Some before
    → new ≡ Some (added ++ before)
gained_some old new added before gained is = subst (λ (o : Option (List Record)). GainsRecords o added new) is gained

pub event_below : (d : Descriptor) (n : ℕ) (event : Event) (bytes : List ℕ) → requests_from d n (record_of event bytes) ≡ false
event_below d n (came.Datagram sender len at) bytes = refl
event_below d n (came.Quiet at) bytes = refl

pub event_open : (d : Descriptor) (event : Event) (bytes : List ℕ) → is_closing d (record_of event bytes) ≡ false
event_open d (came.Datagram sender len at) bytes = refl
event_open d (came.Quiet at) bytes = refl

pub keeps_none : (d : Descriptor) → KeepsUp d []
keeps_none d life is = let began = plain_began d life [] [] is in absurd (omega (arith, began))

-- ---- while the link refuses nothing

-- behind what came the last turn ends, and P holds
pub ends_sent : (P : List Record → Type 0) (d : Descriptor) (moment : ℕ) (sent past : List Record) → AllByRecursion (IsOurs d moment) sent
    → P (sent ++ past) → AtTurnEndsBut 0 P past → AtEndsOfTurnsBut 0 P (sent ++ past)
ends_sent P d moment sent past ours holds ends = inl (holds, turns_alike 0 P d moment sent past ours ends)

-- no channel is plain before anything came or went
pub tells_none : (d : Descriptor) (h : History) → TellsOfHeld d h []
tells_none d h life is = let began = plain_began d life [] [] is in absurd (omega (arith, began))

-- nothing was sent since an event came
pub event_last : (event : Event) (bytes : List ℕ) (past : List Record) → sent_since (record_of event bytes ∷ past) ≡ []
event_last (came.Datagram sender len at) bytes past = refl
event_last (came.Quiet at) bytes past = refl

-- nothing is to be acknowledged before anything came
pub acknowledges_none : (d : Descriptor) (book : LookUp) → AcknowledgesFirst d book []
acknowledges_none d book quiet = tt

-- no channel may be asked before anything came or went
pub asks_none : (d : Descriptor) (below : ℕ) (others : ℕ → Bool) → AsksOrHolds d below others []
asks_none d below others life may = let began = plain_began d life [] [] may.plain in absurd (omega (arith, began))
