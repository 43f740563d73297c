-- A disk that was watched, as that of a peer of a world.
use Rattle.std.proofs.Common.{◌≡◌, ℕ, zero, suc, ◌+◌, ◌^◌, ◌<◌, ◌≤◌, Bool, true, false, None, List, [], ◌∷◌, ◌++◌, refl, sym, ◌∙◌, ap, arith}
use Rattle.std.specs.Prelude.{take}
use Rattle.pp_terms.specs.disk.Disk.{History, fresh}
use Rattle.pp_terms.specs.disk.Calls.{Did, after_call, replay, attached, history_of}
use Rattle.pp_outside.specs.MemoryDisk as disks
use Rattle.pp_outside.specs.declared.call.Call.{Call}
use Rattle.pp_outside.specs.declared.call.Call.TheVariants as calls
use Rattle.pp_outside.specs.declared.memory_disk.MemoryDisk.{MemoryDisk}
use Rattle.pp_world.specs.DiskCalls.{MakesCalls}
use Rattle.pp_world.specs.Orders.{has_order, times_used}
use Rattle.pp_world.specs.Schedule.{Device, Read, Write, Sync, Send, Receive}
use Rattle.pp_world.specs.World.{PeerState}
use Rattle.pp_watch.specs.Used.{used, stands, gained}
use Rattle.pp_watch.specs.Done.{as_before, used_of, hard_of, HasDone}
use Rattle.pp_watch.specs.Shown.{ShowsDisk, with_calls}
use Rattle.pp_watch.proofs.Doings.{attached_call}
use Rattle.pp_watch.proofs.Orders.{stands_if, stands_due, due_before, none_later, later_if}

-- ---- histories

pub replay-append : (h : History) (done more : List Did) → replay h (done ++ more) ≡ replay (replay h done) more
replay-append h [] more = refl
replay-append h (call ∷ done) more = replay-append (after_call h call) done more

-- where a disk was attached, and what was done to it then
pub attached_replay : (f h : History) (done : List Did) → attached f (replay h done) ≡ replay (attached f h) done
attached_replay f h [] = refl
attached_replay f h (call ∷ done) =
    attached_replay f (after_call h call) done ∙ ap (λ (x : History). replay x done) (attached_call f h call)

module _ (f h h' : History) (done more : List Did) where
  pub history_more : attached f h ≡ attached f (replay f done) → attached h h' ≡ attached h (replay h more)
      → attached f h' ≡ attached f (replay f (done ++ more))
  history_more was made =
      ap (attached f) made
      ∙ attached_replay f h more
      ∙ ap (λ (x : History). replay x more) was
      ∙ sym (attached_replay f (replay f done) more)
      ∙ sym (ap (attached f) (replay-append f done more))

-- the history of calls of a disk that was never attached
pub history_unattached : (image : List ℕ) (done : List Did) (at : ℕ) → at ≡ 0
    → history_of (record { image = image; done = done; attached_at = at }) ≡ attached (fresh image) (replay (fresh image) done)
history_unattached image done at none =
    ap (λ (n : ℕ). attached (replay (fresh image) (take n done)) (replay (fresh image) done)) none

-- ---- counts

pub gained_below : (count n : ℕ) → count + n < 2 ^ 64 → gained count n ≡ count + n
gained_below count zero low = omega arith
gained_below count (suc n) low = (let less = gained_below count n (omega (arith, low)) in omega (arith, less, low))

pub used_is : (before now old new : Bool) → before ≡ old → now ≡ new → used before now ≡ used old new
used_is before now old new was is = ap (λ (b : Bool). used b now) was ∙ ap (used old) is

pub at_most_once : (before now : Bool) → used before now ≤ 1
at_most_once true true = omega arith
at_most_once true false = omega arith
at_most_once false now = omega arith

pub used_none : (before now : Bool) → before ≡ false → used before now ≡ 0
used_none before now none = ap (λ (b : Bool). used b now) none

-- ---- calls

module _ (most : ℕ) (old new : MemoryDisk) (x : PeerState) (shows : ShowsDisk most old x) (done : HasDone (as_before old) new) (low : most + 3 < 2 ^ 64) where
  abbrev after : PeerState
  after = with_calls done.calls new x

  reads : used_of calls.Read (as_before old) new ≡ times_used Read x.orders after.orders
  reads = used_is _ _ _ _ (stands_if _ _ shows.read) (stands_due _ _ _ shows.read (done.ordered calls.Read))

  writes : used_of calls.Write (as_before old) new ≡ times_used Write x.orders after.orders
  writes = used_is _ _ _ _ (stands_if _ _ shows.write) (stands_due _ _ _ shows.write (done.ordered calls.Write))

  syncs : used_of calls.Sync (as_before old) new ≡ times_used Sync x.orders after.orders
  syncs = used_is _ _ _ _ (stands_if _ _ shows.sync) (stands_due _ _ _ shows.sync (done.ordered calls.Sync))

  no_attach : used_of calls.Attach (as_before old) new ≡ 0
  no_attach = used_none _ _ (ap stands shows.attach)

  no_len : used_of calls.Len (as_before old) new ≡ 0
  no_len = used_none _ _ (ap stands shows.len)

  hards : hard_of (as_before old) new ≡ times_used Write x.orders after.orders + times_used Sync x.orders after.orders
  hards = omega (arith, writes, syncs, no_attach, no_len)

  alls : used_of calls.Read (as_before old) new + hard_of (as_before old) new
      ≡ times_used Read x.orders after.orders + times_used Write x.orders after.orders + times_used Sync x.orders after.orders
  alls = omega (arith, reads, hards)

  once_read : times_used Read x.orders after.orders ≤ 1
  once_read = at_most_once x.orders.read after.orders.read

  once_write : times_used Write x.orders after.orders ≤ 1
  once_write = at_most_once x.orders.write after.orders.write

  once_sync : times_used Sync x.orders after.orders ≤ 1
  once_sync = at_most_once x.orders.sync after.orders.sync

  faults : after.faults ≡ x.faults + times_used Read x.orders after.orders + times_used Write x.orders after.orders
      + times_used Sync x.orders after.orders
  faults =
      let few = shows.few in
      let below = gained_below x.faults (used_of calls.Read (as_before old) new + hard_of (as_before old) new)
      (omega (arith, few, low, alls, once_read, once_write, once_sync)) in
      let is = done.faults ∙ ap (λ (n : ℕ). gained n (used_of calls.Read (as_before old) new + hard_of (as_before old) new)) shows.faults in
      omega (arith, is, below, alls)

  hard : after.hard ≡ x.hard + times_used Write x.orders after.orders + times_used Sync x.orders after.orders
  hard =
      let few = shows.few_hard in
      let below = gained_below x.hard (hard_of (as_before old) new) (omega (arith, few, low, hards, once_write, once_sync)) in
      let is = done.hard ∙ ap (λ (n : ℕ). gained n (hard_of (as_before old) new)) shows.hard in
      omega (arith, is, below, hards)

  none_new : (call : Device) → has_order after.orders call ≡ true → has_order x.orders call ≡ true
  none_new Read is = due_before _ _ _ shows.read (done.ordered calls.Read) is
  none_new Write is = due_before _ _ _ shows.write (done.ordered calls.Write) is
  none_new Sync is = due_before _ _ _ shows.sync (done.ordered calls.Sync) is
  none_new Send is = is
  none_new Receive is = is

  pub makes_calls : MakesCalls x after
  makes_calls = record {
    calls = done.calls;
    made = refl;
    are_calls = done.are_calls;
    ordered = none_new;
    writes = done.writes ∙ writes;
    faults = faults;
    hard = hard;
  }

  none_then : (call : Call) → disks.order_of old call ≡ None → disks.order_of new call ≡ None
  none_then call none = none_later _ _ none (done.ordered call)

  pub shows_calls : ShowsDisk (most + 3) new after
  shows_calls = record {
    unattached = shows.unattached;
    history = history_then;
    faults = refl;
    hard = refl;
    few = (let is = faults in let few = shows.few in omega (arith, is, few, once_read, once_write, once_sync));
    few_hard = (let is = hard in let few = shows.few_hard in omega (arith, is, few, once_write, once_sync));
    read = later_if _ _ _ shows.read (done.ordered calls.Read);
    write = later_if _ _ _ shows.write (done.ordered calls.Write);
    sync = later_if _ _ _ shows.sync (done.ordered calls.Sync);
    attach = none_then calls.Attach shows.attach;
    len = none_then calls.Len shows.len;
  }
    where
      was : attached (fresh x.disk.image) (disks.state_of old).history ≡ attached (fresh x.disk.image) (replay (fresh x.disk.image) x.disk.done)
      was = shows.history ∙ history_unattached x.disk.image x.disk.done x.disk.attached_at shows.unattached

      history_then : attached (fresh x.disk.image) (disks.state_of new).history ≡ history_of after.disk
      history_then = history_more (fresh x.disk.image) (disks.state_of old).history (disks.state_of new).history x.disk.done done.calls was done.made
          ∙ sym (history_unattached x.disk.image (x.disk.done ++ done.calls) x.disk.attached_at shows.unattached)
