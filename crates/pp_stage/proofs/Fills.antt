-- A disk that an import filled.
use Rattle.std.proofs.Common.{◌≡◌, inl, ℕ, ◌+◌, Bool, true, false, None, Some, List, [], Result, Ok, Err, refl, sym, ◌∙◌, ap, subst, arith}
use Rattle.std.specs.Prelude.{is_ok}
use Rattle.pp_terms.specs.disk.Calls.{Calls, attached, history_of}
use Rattle.pp_terms.specs.command.Stream.{SourceState}
use Rattle.pp_terms.specs.disk.Disk.{DiskState, DoesSync, History, IsImage, IsKnown, Throughout, fresh, moment_of, settled}
use Rattle.pp_terms.specs.disk.Store.{IsStoreOf}
use Rattle.pp_terms.specs.format.Descriptor.{Descriptor}
use Rattle.pp_outside.specs.MemoryDisk as disks
use Rattle.pp_outside.specs.declared.call.Call.{Call}
use Rattle.pp_outside.specs.declared.call.Call.TheVariants as calls
use Rattle.pp_outside.specs.declared.disk.DiskFault.{DiskFault}
use Rattle.pp_outside.specs.declared.memory_disk.MemoryDisk.{MemoryDisk}
use Rattle.pp_store.specs.Import.{HasAnswer}
use Rattle.pp_store.specs.Imported.{imported}
use Rattle.pp_store.specs.declared.importing.ImportFault.{ImportFault}
use Rattle.pp_watch.specs.Done as doings
use Rattle.pp_watch.specs.Shown.{ShowsDisk}
use Rattle.pp_watch.specs.Used.{stands, gained}
use Rattle.pp_watch.proofs.Orders.{none_later}
use Rattle.pp_watch.proofs.Showing.{shows_calls, used_none}
use Rattle.pp_world.specs.Worlds.{IsFilled, empty_disk, idle}
use Rattle.pp_stage.specs.Filling.{HasStore, ShowsFilled}
use Rattle.pp_stage.proofs.Taken.{done_of}

-- ---- the store

-- A sync settles what reads give, which was one of the images that are the store.
settles : (d : Descriptor) (content : List ℕ) (old new : History) → Throughout old (moment_of old) (IsStoreOf d content)
    → IsImage old.epoch old.reads → new ≡ settled old old.reads → HasStore d content new
settles d content old new all image is = record {
  settled = ap (λ (h : History). h.epoch) is ∙ ap (λ (r : List ℕ). record { durable = r; pending = [] }) (sym (ap (λ (h : History). h.reads) is));
  store = subst (IsStoreOf d content) (sym (ap (λ (h : History). h.reads) is)) (all old.reads (inl image));
}

-- So it is behind an import and a sync of which neither was refused.
pub stored : (chunk : ℕ) (content : List ℕ) (source source' : SourceState) (old mid new : DiskState) (import : Result Descriptor ImportFault)
    (sync : Result (Unit {0}) DiskFault) → HasAnswer chunk source source' old mid import → source.left ≡ Some content → IsKnown old → IsKnown mid
    → is_ok import ≡ true → DoesSync mid sync new → is_ok sync ≡ true → IsImage mid.history.epoch mid.history.reads
    → HasStore (imported content chunk) content new.history
stored chunk content source source' old mid new (Err fault) sync answer left was known is does done image = absurd cc
stored chunk content source source' old mid new (Ok d) (Err fault) answer left was known is does done image = absurd cc
stored chunk content source source' old mid new (Ok d) (Ok u) answer left was known is does done image =
    settles (imported content chunk) content mid.history new.history (answer.stored was content left) image (does.done known)

-- ---- the disk

module _ (d : Descriptor) (content : List ℕ) (old new : MemoryDisk)
    (state : disks.state_of old ≡ record { tells = true; honest = true; history = fresh []; faults = 0; hard = 0 })
    (none : (call : Call) → disks.order_of old call ≡ None) (enough : disks.is_short new ≡ false)
    (since : doings.IsSince (doings.as_before old) new) (store : HasStore d content (disks.state_of new).history) where
  done : doings.HasDone (doings.as_before old) new
  done = done_of (doings.as_before old) new enough since

  unused : (call : Call) → doings.used_of call (doings.as_before old) new ≡ 0
  unused call = used_none _ _ (ap stands (none call))

  unordered : (call : Call) → disks.order_of new call ≡ None
  unordered call = none_later _ _ (none call) (done.ordered call)

  hardly : doings.hard_of (doings.as_before old) new ≡ 0
  hardly =
      (let a = unused calls.Attach in let l = unused calls.Len in let w = unused calls.Write in let s = unused calls.Sync in omega (arith, a, l, w, s))

  hard : (disks.state_of new).hard ≡ 0
  hard = done.hard ∙ ap (gained (disks.state_of old).hard) hardly ∙ ap (λ (s : DiskState). s.hard) state

  never : doings.used_of calls.Read (doings.as_before old) new + doings.hard_of (doings.as_before old) new ≡ 0
  never = (let r = unused calls.Read in let h = hardly in omega (arith, r, h))

  faults : (disks.state_of new).faults ≡ 0
  faults = done.faults ∙ ap (gained (disks.state_of old).faults) never ∙ ap (λ (s : DiskState). s.faults) state

  before : ShowsDisk 0 old (idle empty_disk)
  before = record {
    unattached = refl;
    history = ap (λ (s : DiskState). attached (fresh []) s.history) state;
    faults = ap (λ (s : DiskState). s.faults) state;
    hard = ap (λ (s : DiskState). s.hard) state;
    few = omega arith;
    few_hard = omega arith;
    read = none calls.Read;
    write = none calls.Write;
    sync = none calls.Sync;
    attach = none calls.Attach;
    len = none calls.Len;
  }

  abbrev filled_by : Calls
  filled_by = record { image = []; done = done.calls; attached_at = 0 }

  same : attached (fresh []) (disks.state_of new).history ≡ history_of filled_by
  same = (shows_calls 0 old new (idle empty_disk) before done (omega arith)).history

  pub filled : ShowsFilled d content new
  filled = record {
    calls = filled_by;
    filled = record {
      was = refl;
      unattached = refl;
      settled = subst (λ (h : History). h.epoch ≡ record { durable = h.reads; pending = [] }) same store.settled;
      store = subst (λ (h : History). IsStoreOf d content h.reads) same store.store;
    };
    shows = record {
      unattached = refl;
      history = same;
      faults = faults;
      hard = hard;
      few = omega arith;
      few_hard = omega arith;
      read = unordered calls.Read;
      write = unordered calls.Write;
      sync = unordered calls.Sync;
      attach = unordered calls.Attach;
      len = unordered calls.Len;
    };
  }
