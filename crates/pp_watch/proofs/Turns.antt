-- A turn over devices that were watched, as that of a peer of a world.
use Rattle.std.proofs.Common.{◌≡◌, ◌⊎◌, inl, inr, ℕ, ◌+◌, ◌^◌, ◌<◌, Bool, true, false, Some, List, [], ◌∷◌, ◌++◌, refl, sym, ◌∙◌, ap, subst, arith}
use Rattle.std.specs.Prelude.{Option, Result, Ok, Err, if◌then◌else◌}
use Rattle.std.specs.List.{AllByRecursion}
use Rattle.std.proofs.Common.{append_assoc, None}
use Rattle.std.proofs.lemmas.Option.{same_Some}
use Rattle.pp_terms.specs.disk.Disk.{moment_of}
use Rattle.pp_terms.specs.disk.Calls.{history_of}
use Rattle.pp_terms.specs.disk.Disk.{History}
use Rattle.pp_terms.specs.format.Traffic.{Record, GainsRecords}
use Rattle.pp_terms.specs.tree.Book.{LookUp}
use Rattle.pp_outside.specs.MemoryDisk as disks
use Rattle.pp_outside.specs.MemoryLink as links
use Rattle.pp_outside.specs.Outside.{record_of}
use Rattle.pp_outside.specs.declared.call.Call.TheVariants as calls
use Rattle.pp_outside.specs.declared.link.Address.{Address}
use Rattle.pp_outside.specs.declared.link.Event.{Event}
use Rattle.pp_outside.specs.declared.link.LinkFault.{LinkFault}
use Rattle.pp_outside.specs.declared.memory_link.MemoryLink.{MemoryLink}
use Rattle.pp_world.specs.DiskCalls.{MakesCalls}
use Rattle.pp_world.specs.Orders.{has_order, times_used}
use Rattle.pp_world.specs.Schedule.{Device, Read, Write, Sync, Send, Receive}
use Rattle.pp_world.specs.Session.{Session}
use Rattle.pp_world.specs.Turn.{WentAt, event_of, wait_records, with_turn, TakesTurn}
use Rattle.pp_world.specs.World.{PeerState}
use Rattle.pp_watch.specs.Used.{used, stands, order_if, gained}
use Rattle.pp_watch.specs.Done as doings
use Rattle.pp_watch.specs.Sent as sendings
use Rattle.pp_watch.specs.Shown.{ShowsDisk, ShowsLink, with_calls}
use Rattle.pp_watch.specs.Turned.{Devices, GainsSent, StopsForCause, after_turn}
use Rattle.pp_watch.specs.Waiting.{record_at, HasWaited}
use Rattle.pp_watch.proofs.Orders.{stands_if, stands_due, spent_if, due_before, none_later, later_if}
use Rattle.pp_watch.proofs.Showing.{makes_calls, shows_calls, gained_below, used_is, used_none, at_most_once}
use denote.Ref.{Bor}

-- ---- the wait

-- what a link that told its records tells once it gained more
pub gains_of : (old : Option (List Record)) (before added : List Record) (new : Option (List Record)) → old ≡ Some before
    → GainsRecords old added new → new ≡ Some (added ++ before)
gains_of None before added new is gains = cc
gains_of (Some rs) before added new is gains = gains ∙ ap (λ (l : List Record). Some (added ++ l)) (same_Some rs before is)

module _ (clock : ℕ) (came : Option (Address × Bor (List ℕ))) (from mid : MemoryLink) (buffer : List ℕ) where
  -- what the link carried then, and how much of it was refused
  waits_traffic : (is_deaf : Bool) (event : Result Event LinkFault) (r : Record) (before : List Record)
      → HasWaited is_deaf clock came from mid buffer event → record_at clock came ≡ r → (links.state_of from).traffic ≡ Some before
      → (links.state_of mid).traffic ≡ Some ((if is_deaf then [] else r ∷ []) ++ before)
  waits_traffic true (Ok e) r before w is was = (let failed = w.deaf refl in cc)
  waits_traffic true (Err f) r before w is was = w.does.refused ∙ was
  waits_traffic false (Err f) r before w is was = (let heard = w.heard refl in cc)
  waits_traffic false (Ok e) r before w is was =
      gains_of _ before (record_of e buffer ∷ []) _ was w.does.gained
      ∙ ap (λ (x : Record). Some (x ∷ before)) (w.heard_it ∙ is)

  waits_faults : (is_deaf : Bool) (event : Result Event LinkFault) → HasWaited is_deaf clock came from mid buffer event
      → (links.state_of from).faults + 1 < 2 ^ 64 → (links.state_of mid).faults ≡ (links.state_of from).faults + used is_deaf false
  waits_faults true (Ok e) w low = (let failed = w.deaf refl in cc)
  waits_faults true (Err f) w low = (let is = w.faults in omega (arith, is, low))
  waits_faults false (Ok e) w low = (let is = w.faults in omega (arith, is))
  waits_faults false (Err f) w low = (let heard = w.heard refl in cc)

  waits_nexts : (is_deaf : Bool) (event : Result Event LinkFault) → HasWaited is_deaf clock came from mid buffer event
      → (links.state_of from).nexts + 1 < 2 ^ 64 → (links.state_of mid).nexts ≡ (links.state_of from).nexts + 1
  waits_nexts is_deaf event w low = (let is = w.does.nexts in omega (arith, is, low))

-- ---- the turn

module _ (most clock : ℕ) (came : Option (Address × Bor (List ℕ))) (old : Devices) (mid : MemoryLink) (new : Devices) (buffer : List ℕ)
    (event : Result Event LinkFault) (x : PeerState) (s : Session) (earlier : List Session) (book : LookUp) (goes_on : Bool)
    (went : List Record) (low : most + 4 < 2 ^ 64) (was : x.sessions ≡ s ∷ earlier)
    (shows : ShowsDisk most old.disk x) (over : ShowsLink most old.link x.orders s)
    (waited : HasWaited x.orders.receive clock came old.link mid buffer event) (comes : record_at clock came ≡ event_of clock x.queue)
    (done : doings.HasDone (doings.as_before old.disk) new.disk) (sent : sendings.HasSent (sendings.as_before mid) new.link)
    (goes : GainsSent (record { disk = old.disk; link = mid }) new went) (goes_how : StopsForCause goes_on (record { disk = old.disk; link = mid }) new went) where
  abbrev pub added : List Record
  added = went ++ wait_records clock x

  -- the orders of the link behind the wait
  send_was : links.order_of mid calls.Send ≡ order_if x.orders.send
  send_was = waited.others calls.Send (λ e. cc) ∙ over.send

  next_was : links.order_of mid calls.Next ≡ None
  next_was = spent_if _ _ _ over.receive waited.spent

  bind_was : links.order_of mid calls.Bind ≡ None
  bind_was = waited.others calls.Bind (λ e. cc) ∙ over.bind

  abbrev pub after : PeerState
  after = after_turn goes_on done.calls new added book s earlier x

  base : MakesCalls x (with_calls done.calls new.disk x)
  base = makes_calls most old.disk new.disk x shows done (omega (arith, low))

  calls_made : MakesCalls x after
  calls_made = record {
    calls = base.calls;
    made = base.made;
    are_calls = base.are_calls;
    ordered = none_new;
    writes = base.writes;
    faults = base.faults;
    hard = base.hard;
  }
    where
      none_new : (call : Device) → has_order after.orders call ≡ true → has_order x.orders call ≡ true
      none_new Read is = base.ordered Read is
      none_new Write is = base.ordered Write is
      none_new Sync is = base.ordered Sync is
      none_new Send is = due_before _ _ _ send_was (sent.ordered calls.Send) is
      none_new Receive is = cc

  moment_is : moment_of (disks.state_of new.disk).history ≡ moment_of (history_of after.disk)
  moment_is = ap (λ (h : History). moment_of h) (shows_calls most old.disk new.disk x shows done (omega (arith, low))).history

  goes_then : (b : Bool) → b ≡ goes_on → (after.is_running ≡ true) ⊎ ((after.is_running ≡ false) × (went ≡ []) × (x.hard < after.hard))
  goes_then true is = inl (sym is)
  goes_then false is =
      let how = subst (λ (g : Bool). StopsForCause g (record { disk = old.disk; link = mid }) new went) (sym is) goes_how in
      let few = (shows_calls most old.disk new.disk x shows done (omega (arith, low))).few_hard in
      let risen = how.1 (omega (arith, few, low)) in
      inr (sym is, how.0, (let same = shows.hard in omega (arith, risen, same)))

  pub takes : TakesTurn clock x added after
  takes = record {
    session = s;
    earlier = earlier;
    was = was;
    calls = calls_made;
    sent = went;
    gained = refl;
    went = subst (λ (n : ℕ). AllByRecursion (WentAt n) went) moment_is goes.went;
    waited = refl;
    book = book;
    is = refl;
    queue = refl;
    goes_on = goes_then goes_on refl;
  }

  pub shows_disk : ShowsDisk (most + 4) new.disk after
  shows_disk = (let shown = shows_calls most old.disk new.disk x shows done (omega (arith, low)) in record {
    unattached = shown.unattached;
    history = shown.history;
    faults = shown.faults;
    hard = shown.hard;
    few = (let few = shown.few in omega (arith, few));
    few_hard = (let few = shown.few_hard in omega (arith, few));
    read = shown.read;
    write = shown.write;
    sync = shown.sync;
    attach = shown.attach;
    len = shown.len;
  })

  -- the session's link
  abbrev pub later : Session
  later = with_turn s added book x after

  receives : used x.orders.receive false ≡ times_used Receive x.orders after.orders
  receives = refl

  sends : sendings.used_of calls.Send (sendings.as_before mid) new.link ≡ times_used Send x.orders after.orders
  sends = used_is _ _ _ _ (stands_if _ _ send_was) (stands_due _ _ _ send_was (sent.ordered calls.Send))

  no_next : sendings.used_of calls.Next (sendings.as_before mid) new.link ≡ 0
  no_next = used_none _ _ (ap stands next_was)

  no_bind : sendings.used_of calls.Bind (sendings.as_before mid) new.link ≡ 0
  no_bind = used_none _ _ (ap stands bind_was)

  refused : (links.state_of new.link).faults ≡ later.refused
  refused =
      let few = over.few in
      let same = over.faults in
      let first = waits_faults clock came old.link mid buffer x.orders.receive event waited (omega (arith, same, few, low)) in
      let once = at_most_once x.orders.receive false in
      let twice = at_most_once x.orders.send after.orders.send in
      let all : sendings.used_of calls.Bind (sendings.as_before mid) new.link + sendings.used_of calls.Next (sendings.as_before mid) new.link
      + sendings.used_of calls.Send (sendings.as_before mid) new.link ≡ times_used Send x.orders after.orders =
      omega (arith, sends, no_next, no_bind) in
      let below = gained_below (links.state_of mid).faults (times_used Send x.orders after.orders)
      (omega (arith, first, same, few, low, once, twice)) in
      let is = sent.faults ∙ ap (gained (links.state_of mid).faults) all in
      omega (arith, is, below, first, same)

  pub shows_link : ShowsLink (most + 4) new.link after.orders later
  shows_link = record {
    traffic = gains_of _ _ went _ (waits_traffic clock came old.link mid buffer x.orders.receive event (event_of clock x.queue) s.traffic waited comes over.traffic) goes.gained
        ∙ ap (λ (rs : List Record). Some rs) (sym (append_assoc went (wait_records clock x) s.traffic));
    faults = refused;
    nexts = (let few = over.few_turns in let same = over.nexts in
        let first = waits_nexts clock came old.link mid buffer x.orders.receive event waited (omega (arith, same, few, low)) in
        let is = goes.nexts in omega (arith, is, first, same));
    few = (let few = over.few in let once = at_most_once x.orders.receive false in let twice = at_most_once x.orders.send after.orders.send in
        omega (arith, few, once, twice));
    few_turns = (let few = over.few_turns in omega (arith, few));
    send = later_if _ _ _ send_was (sent.ordered calls.Send);
    receive = none_later _ _ next_was (sent.ordered calls.Next);
    bind = none_later _ _ bind_was (sent.ordered calls.Bind);
    idle = ap (λ a. a.coming) (sent.idle waited.idle) ∙ waited.idle;
  }
