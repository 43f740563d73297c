-- A run of an import, from what the import does.
use Rattle.std.proofs.Common.{◌≡◌, ◌⊎◌, inl, inr, ℕ, ◌+◌, ◌<◌, List, [], length, Some, Err, refl, sym, ◌∙◌, ap, subst, arith}
use Rattle.pp_terms.specs.format.Descriptor.{Descriptor}
use Rattle.pp_terms.specs.disk.Store.{IsNoStore}
use Rattle.pp_terms.specs.disk.Disk.{DiskState, IsKnown, DoesAttach, moment_of}
use Rattle.pp_terms.specs.command.Stream.{SourceState, SinkState}
use Rattle.pp_store.specs.declared.importing.ImportFault.{ImportFault}
use Rattle.pp_store.specs.declared.importing.ImportFault.TheVariants as fault
use Rattle.pp_store.specs.Keep.{KeepsDisk}
use Rattle.pp_store.specs.Import.{most_bytes, HasAnswer, IsUntouched, LeavesWholeStores, TakesAtMost, IsImported}
use Rattle.pp_store.specs.Growing.{IsContent}
use Rattle.pp_store.specs.Imported.{imported}
use Rattle.pp_store.specs.Sound.{StaysSound}
use Rattle.pp_node.proofs.Readies.{stays_sound, sound_attached}
use Rattle.pp_store.proofs.Sealing.{empty_no_store}
use Rattle.pp_node.specs.declared.status.Status.{Status}
use Rattle.pp_node.specs.declared.status.Status.TheVariants.{NotEmpty, DiskFault}
use Rattle.pp_terms.specs.disk.Untouched.{IsFreshlyAttached}
use Rattle.pp_node.specs.Run.{IsImportRun, Reports}

module _ (status : Status) (chunk : ℕ) (source source' : SourceState) (old new : DiskState) (fresh : IsKnown old → IsFreshlyAttached old.history) (keeps : KeepsDisk old new) where
  start_is : IsKnown old → new.history.start ≡ moment_of old.history
  start_is known = (keeps.attachment known).start ∙ (fresh known).started

  found_is : IsKnown old → new.history.found ≡ old.history.reads
  found_is known = (keeps.attachment known).found ∙ (fresh known).showed

  pub import_run : (IsKnown old → (content : List ℕ) → source.left ≡ Some content → LeavesWholeStores chunk content old.history new.history)
      → (IsKnown old → (content : List ℕ) → source.left ≡ Some content → IsContent chunk content → StaysSound (imported content chunk) old.history new.history)
      → (IsKnown old → old.history.reads ≡ [] → moment_of new.history ≡ moment_of old.history → IsNoStore new.history.reads)
      → (IsKnown old → 0 < length old.history.reads → IsUntouched source source' old new)
      → TakesAtMost (most_bytes chunk + 1) source source'
      → (IsKnown old → 0 < length old.history.reads → (status ≡ NotEmpty) ⊎ (status ≡ DiskFault))
      → IsImportRun status chunk source source' old new
  import_run whole sound no_store untouched takes refused = record {
    whole = λ known content told moment after. whole known content told moment (subst (λ (s : ℕ). s < moment) (start_is known) after);
    sound = λ known content told fits. stays_sound (imported content chunk) old.history new.history (fresh known) (keeps.attachment known) (sound known content told fits);
    no_store = λ known empty same. no_store known (sym (found_is known) ∙ empty) (same ∙ start_is known);
    refused = λ known some. refused known (subst (λ (b : List ℕ). 0 < length b) (found_is known) some);
    unwritten = λ known some.
        subst IsFreshlyAttached (sym (untouched known (subst (λ (b : List ℕ). 0 < length b) (found_is known) some)).unwritten) (fresh known);
    unread = λ known some. (untouched known (subst (λ (b : List ℕ). 0 < length b) (found_is known) some)).unread;
    takes = takes;
  }

pub none_there : (bytes : List ℕ) → bytes ≡ [] → 0 < length bytes → ⊥
none_there bytes is some = let none : length bytes ≡ 0 = ap length is in omega (arith, none, some)

pub refused_done : (status : Status) (chunk : ℕ) (source : SourceState) (old new : DiskState) (d : Descriptor) → IsImported chunk source old new d
    → IsKnown old → 0 < length old.history.reads → (status ≡ NotEmpty) ⊎ (status ≡ DiskFault)
refused_done status chunk source old new d done known some = absurd (none_there old.history.reads (done.empty known) some)

pub refused_fault : (f : ImportFault) (status : Status) (chunk : ℕ) (source source' : SourceState) (sink sink' : SinkState) (old new : DiskState)
    → HasAnswer chunk source source' old new (Err f) → Reports f status sink sink' → IsKnown old → 0 < length old.history.reads → (status ≡ NotEmpty) ⊎ (status ≡ DiskFault)
refused_fault (fault.NotEmpty len) status chunk source source' sink sink' old new answer report known some = inl report.0
refused_fault (fault.ContentSize count) status chunk source source' sink sink' old new answer report known some = absurd (none_there old.history.reads (answer.empty known) some)
refused_fault fault.Source status chunk source source' sink sink' old new answer report known some = absurd (none_there old.history.reads (answer.empty known) some)
refused_fault fault.Disk status chunk source source' sink sink' old new answer report known some = inr report.0

-- a run whose attachment was refused
pub attach_run : {E : Type 0} (status : Status) (chunk : ℕ) (source : SourceState) (old new : DiskState) (name : List ℕ) (fault : E) → DoesAttach old name (Err fault) new
    → status ≡ DiskFault → IsImportRun status chunk source source old new
attach_run status chunk source old new name fault does is = record {
  whole = λ known content told moment after le. absurd (let s = (does.attached known).started in omega (arith, s, after, le));
  sound = λ known content told fits began. sound_attached (imported content chunk) new.history
      (record { started = (does.attached known).started; began = (does.attached known).began; showed = (does.attached known).showed }) began;
  no_store = λ known empty same. empty_no_store new.history.reads (sym (does.attached known).showed ∙ empty);
  refused = λ known some. inr is;
  unwritten = λ known some. record { started = (does.attached known).started; began = (does.attached known).began; showed = (does.attached known).showed };
  unread = λ known some. refl;
  takes = λ content told. (0, omega arith, told);
}
