-- A run of an upgrade, from what the upgrade does.
use Rattle.std.proofs.Common.{◌≡◌, ◌⊎◌, inl, inr, ℕ, ◌<◌, Bool, List, [], length, Some, Ok, Err, refl, sym, ◌∙◌, ap, subst, arith}
use Rattle.pp_terms.specs.format.Descriptor.{Descriptor}
use Rattle.pp_terms.specs.format.Traffic.{LinkState}
use Rattle.pp_terms.specs.disk.Disk.{DiskState, History, IsKnown, DoesAttach, moment_of}
use Rattle.pp_terms.specs.disk.Untouched.{IsFreshlyAttached}
use Rattle.pp_terms.specs.command.Stream.{SourceState, SinkState}
use Rattle.pp_terms.proofs.Knowing.{known_on}
use Rattle.pp_tree.specs.Book.{BookState, entry}
use Rattle.pp_store.specs.declared.upgrading.UpgradeFault.{UpgradeFault}
use Rattle.pp_store.specs.declared.upgrading.UpgradeFault.TheVariants as fault
use Rattle.pp_store.specs.Keep.{KeepsDisk}
use Rattle.pp_store.specs.Import.{TakesAtMost, IsUntouched}
use Rattle.pp_store.specs.Old.{HasOldHeader, old_size}
use Rattle.pp_store.specs.Sound.{StaysSound}
use Rattle.pp_store.specs.Upgrade.{HasUpgraded, LeavesUpgraded, IsBegun, IsDone}
use Rattle.pp_node.specs.declared.status.Status.{Status}
use Rattle.pp_node.specs.declared.status.Status.TheVariants.{Done, Usage, NotAStore, Incomplete, DiskFault, LinkFault, SourceFault, SinkFault, NotEmpty, ContentSize, Schedule, Memory, Damaged, AuditNo, Recording, NoLife, TooLarge, Shape}
use Rattle.pp_node.specs.Outside.{outside}
use Rattle.pp_node.specs.Upgrading.{IsStored, UpgradesIn, ReportsUpgrade, IsUpgradeRun}
use Rattle.pp_node.proofs.Readies.{stays_sound, sound_attached}
use Rattle.pp_node.proofs.Runs.{none_there}

-- ---- how it ended

pub reports_upgrade : (f other : UpgradeFault) (status : Status) (old new : SinkState) → f ≡ other → ReportsUpgrade other status old new → ReportsUpgrade f status old new
reports_upgrade f other status old new is said = subst (λ (x : UpgradeFault). ReportsUpgrade x status old new) (sym is) said

module _ (d : Descriptor) (source source' : SourceState) (disk disk' : DiskState) (book book' : BookState) (fresh : IsKnown disk → IsFreshlyAttached disk.history) where
  pub upgraded_stored : (set : List Bool) → IsDone d source disk disk' (entry book') set → IsStored d source disk disk' set
  upgraded_stored set done = record {
    begins = done.begins;
    count = done.count;
    held = λ known bytes told. (done.taken known bytes told).held;
    stored = done.stored;
  }

  found_empty : disk'.history ≡ disk.history → (IsKnown disk → disk.history.reads ≡ []) → IsKnown disk → disk'.history.found ≡ []
  found_empty same empty known = ap (λ (h : History). h.found) same ∙ (fresh known).showed ∙ empty known

  fresh_still : disk'.history ≡ disk.history → IsKnown disk → IsFreshlyAttached disk'.history
  fresh_still same known = subst IsFreshlyAttached (sym same) (fresh known)

  pub upgrade_fault : (link : LinkState) (f : UpgradeFault) (status : Status) (sink sink' : SinkState) → HasUpgraded d source source' disk disk' (entry book') (Err f)
      → ReportsUpgrade f status sink sink' → UpgradesIn status d (outside disk link source sink book) (outside disk' link source' sink' book')
  upgrade_fault link (fault.NotEmpty len) status sink sink' answer said =
      subst (λ (s : Status). UpgradesIn s d (outside disk link source sink book) (outside disk' link source' sink' book')) (sym said.0) (record {
        len = len;
        some = answer.some;
        counted = λ known. answer.counted known ∙ ap (λ (bytes : List ℕ). length bytes) (sym (ap (λ (h : History). h.found) answer.unwritten ∙ (fresh known).showed));
        unwritten = fresh_still answer.unwritten;
        unread = answer.unread;
        said = said.1;
      })
  upgrade_fault link (fault.NotAStore at found want) status sink sink' answer said =
      subst (λ (s : Status). UpgradesIn s d (outside disk link source sink book) (outside disk' link source' sink' book')) (sym said.0) (record {
        at = at;
        found = found;
        want = want;
        other = answer.other;
        empty = found_empty answer.unwritten answer.empty;
        unwritten = fresh_still answer.unwritten;
        said = said.1;
      })
  upgrade_fault link fault.Source status sink sink' answer said =
      subst (λ (s : Status). UpgradesIn s d (outside disk link source sink book) (outside disk' link source' sink' book')) (sym said.0)
      (record { risen = answer.risen; no_store = answer.left.no_store; said = said.1 })
  upgrade_fault link fault.Disk status sink sink' answer said =
      subst (λ (s : Status). UpgradesIn s d (outside disk link source sink book) (outside disk' link source' sink' book')) (sym said.0)
      (record { risen = answer; said = said.1 })
  upgrade_fault link fault.Memory status sink sink' answer said =
      subst (λ (s : Status). UpgradesIn s d (outside disk link source sink book) (outside disk' link source' sink' book')) (sym said.0)
      (record { no_store = answer.left.no_store; silent = said.1 })

-- ---- what holds whatever its status

module _ (status : Status) (d : Descriptor) (source source' : SourceState) (old new : DiskState) (fresh : IsKnown old → IsFreshlyAttached old.history) (keeps : KeepsDisk old new) where
  start_is : IsKnown old → new.history.start ≡ moment_of old.history
  start_is known = (keeps.attachment known).start ∙ (fresh known).started

  found_is : IsKnown old → new.history.found ≡ old.history.reads
  found_is known = (keeps.attachment known).found ∙ (fresh known).showed

  some_found : IsKnown old → 0 < length new.history.found → 0 < length old.history.reads
  some_found known some = subst (λ (b : List ℕ). 0 < length b) (found_is known) some

  begun_since : IsBegun d source old new → IsKnown old → IsFreshlyAttached new.history ⊎ ((bytes : List ℕ) → source.left ≡ Some bytes → HasOldHeader d bytes)
  begun_since (inl same) known = inl (subst IsFreshlyAttached (sym same) (fresh known))
  begun_since (inr header) known = inr header

  pub upgrade_run : (IsKnown old → old.history.reads ≡ [] → (bytes : List ℕ) → source.left ≡ Some bytes → LeavesUpgraded d bytes old.history new.history)
      → (IsKnown old → StaysSound d old.history new.history) → IsBegun d source old new
      → (IsKnown old → 0 < length old.history.reads → IsUntouched source source' old new) → TakesAtMost (old_size d) source source'
      → (IsKnown old → 0 < length old.history.reads → (status ≡ NotEmpty) ⊎ (status ≡ DiskFault))
      → IsUpgradeRun status d source source' old new
  upgrade_run whole sound begun untouched takes refused = record {
    whole = λ known empty bytes told moment after.
        whole known (sym (found_is known) ∙ empty) bytes told moment (subst (λ (s : ℕ). s < moment) (start_is known) after);
    sound = λ known. stays_sound d old.history new.history (fresh known) (keeps.attachment known) (sound known);
    begun = begun_since begun;
    refused = λ known some. refused known (some_found known some);
    unwritten = λ known some. subst IsFreshlyAttached (sym (untouched known (some_found known some)).unwritten) (fresh known);
    unread = λ known some. (untouched known (some_found known some)).unread;
    takes = takes;
  }

-- an answer that says that the disk was empty
pub refused_set : (status : Status) (d : Descriptor) (source : SourceState) (old new : DiskState) (book : BookState) (set : List Bool) → IsDone d source old new (entry book) set
    → IsKnown old → 0 < length old.history.reads → (status ≡ NotEmpty) ⊎ (status ≡ DiskFault)
refused_set status d source old new book set done known some = absurd (none_there old.history.reads (done.empty known) some)

pub refused_upgrade : (f : UpgradeFault) (status : Status) (d : Descriptor) (source source' : SourceState) (sink sink' : SinkState) (old new : DiskState) (book : BookState)
    → HasUpgraded d source source' old new (entry book) (Err f) → ReportsUpgrade f status sink sink' → IsKnown old → 0 < length old.history.reads
    → (status ≡ NotEmpty) ⊎ (status ≡ DiskFault)
refused_upgrade (fault.NotEmpty len) status d source source' sink sink' old new book answer report known some = inl report.0
refused_upgrade (fault.NotAStore at found want) status d source source' sink sink' old new book answer report known some =
    absurd (none_there old.history.reads (answer.empty known) some)
refused_upgrade fault.Source status d source source' sink sink' old new book answer report known some = absurd (none_there old.history.reads (answer.empty known) some)
refused_upgrade fault.Disk status d source source' sink sink' old new book answer report known some = inr report.0
refused_upgrade fault.Memory status d source source' sink sink' old new book answer report known some = absurd (none_there old.history.reads (answer.empty known) some)

-- ---- from before the attachment

-- a run whose attachment was refused
pub attach_upgrade : {E : Type 0} (status : Status) (d : Descriptor) (source : SourceState) (old new : DiskState) (name : List ℕ) (refusal : E)
    → DoesAttach old name (Err refusal) new → status ≡ DiskFault → IsUpgradeRun status d source source old new
attach_upgrade status d source old new name refusal does is = record {
  whole = λ known empty bytes told moment after le. absurd (let s = (does.attached known).started in omega (arith, s, after, le));
  sound = λ known began. sound_attached d new.history (fresh known) began;
  begun = λ known. inl (fresh known);
  refused = λ known some. inr is;
  unwritten = λ known some. fresh known;
  unread = λ known some. refl;
  takes = λ content told. (0, omega arith, told);
}
  where
    fresh : IsKnown old → IsFreshlyAttached new.history
    fresh known = record { started = (does.attached known).started; began = (does.attached known).began; showed = (does.attached known).showed }

module _ {E : Type 0} {name : List ℕ} (d : Descriptor) (source source' : SourceState) (sink sink' : SinkState) (old mid new : DiskState) (attached : DoesAttach {E = E} old name (Ok tt) mid) where
  known_mid : IsKnown old → IsKnown mid
  known_mid = known_on old mid attached.call.tells attached.call.honest

  stored_since : (set : List Bool) → IsStored d source mid new set → IsStored d source old new set
  stored_since set s = record { begins = s.begins; count = s.count; held = λ known. s.held (known_mid known); stored = λ known. s.stored (known_mid known) }

  pub upgrade_since : (link : LinkState) (book book' : BookState) (status : Status) → UpgradesIn status d (outside mid link source sink book) (outside new link source' sink' book')
      → UpgradesIn status d (outside old link source sink book) (outside new link source' sink' book')
  upgrade_since link book book' Done e = record { set = e.set; stored = stored_since e.set e.stored; said = e.said }
  upgrade_since link book book' NotAStore e = record {
    at = e.at;
    found = e.found;
    want = e.want;
    other = e.other;
    empty = λ known. e.empty (known_mid known);
    unwritten = λ known. e.unwritten (known_mid known);
    said = e.said;
  }
  upgrade_since link book book' DiskFault e = record {
    risen = λ below. let r : mid.faults < new.faults = e.risen below in omega (arith, attached.call.cause.later, r);
    said = e.said;
  }
  upgrade_since link book book' SourceFault e = record { risen = e.risen; no_store = λ known. e.no_store (known_mid known); said = e.said }
  upgrade_since link book book' SinkFault e = record { set = e.set; stored = stored_since e.set e.stored; risen = e.risen }
  upgrade_since link book book' NotEmpty e = record {
    len = e.len;
    some = e.some;
    counted = λ known. e.counted (known_mid known);
    unwritten = λ known. e.unwritten (known_mid known);
    unread = e.unread;
    said = e.said;
  }
  upgrade_since link book book' Memory e = record { no_store = λ known. e.no_store (known_mid known); silent = e.silent }
  upgrade_since link book book' Usage e = e
  upgrade_since link book book' LinkFault e = e
  upgrade_since link book book' Incomplete e = e
  upgrade_since link book book' ContentSize e = e
  upgrade_since link book book' Schedule e = e
  upgrade_since link book book' Damaged e = e
  upgrade_since link book book' AuditNo e = e
  upgrade_since link book book' Recording e = e
  upgrade_since link book book' NoLife e = e
  upgrade_since link book book' TooLarge e = e
  upgrade_since link book book' Shape e = e

  pub upgraded_since : (status : Status) → IsUpgradeRun status d source source' mid new → IsUpgradeRun status d source source' old new
  upgraded_since status r = record {
    whole = λ known. r.whole (known_mid known);
    sound = λ known. r.sound (known_mid known);
    begun = λ known. r.begun (known_mid known);
    refused = λ known. r.refused (known_mid known);
    unwritten = λ known. r.unwritten (known_mid known);
    unread = λ known. r.unread (known_mid known);
    takes = r.takes;
  }
