-- What is found in a store that was attached.
use Rattle.std.proofs.Common.{◌≡◌, inl, inr, ⊎_elim, ℕ, ◌<◌, ◌≤◌, Bool, true, List, length, get_or, Result, Ok, Err, sym, ◌∙◌, ap, subst, arith}
use Rattle.std.specs.Prelude.{Option}
use Rattle.pp_terms.specs.Count.{HasRisen}
use Rattle.pp_terms.specs.tree.Book.{LookUp}
use Rattle.pp_terms.specs.format.Descriptor.{Descriptor, chunks_of}
use Rattle.pp_terms.specs.disk.Store.{header, HasHeader}
use Rattle.pp_terms.specs.disk.Image.{known, is_found}
use Rattle.std.proofs.lemmas.Bool.{false≢true}
use Rattle.pp_terms.specs.disk.Disk.{DiskState, Epoch, History, IsImage, IsKnown, GainsName, DoesAttach}
use Rattle.pp_terms.specs.disk.Sound.{IsSound, BeganSound}
use Rattle.pp_terms.proofs.Facts.{member_below}
use Rattle.pp_terms.proofs.Knowing.{known_on}
use Rattle.pp_scan.specs.declared.scanning.ScanFault.{ScanFault}
use Rattle.pp_scan.specs.declared.scanning.ScanFault.TheVariants.{NotAStore, Disk, Memory}
use Rattle.pp_terms.proofs.Untouched.{freshly_attached, synced_at_most}
use Rattle.pp_scan.specs.Header.{IsDifference}
use Rattle.pp_scan.specs.Look.{KeepsAll, OnlySyncs}
use Rattle.pp_scan.specs.Holding.{is_there}
use Rattle.pp_scan.specs.Scan as scan
use Rattle.pp_scan.proofs.Holds.{found_there, empty_none}
use Rattle.pp_terms.specs.disk.Untouched.{IsFreshlyAttached, IsSyncedAtMost}
use Rattle.pp_store.specs.Probe.{HasProbed}
use Rattle.pp_store.specs.declared.findings.Probe.{Probe}
use Rattle.pp_store.specs.declared.findings.ProbeFault.{ProbeFault}
use Rattle.pp_store.specs.declared.findings.ProbeFault.TheVariants as probes
use Rattle.pp_node.specs.Looking.{IsOf, IsFound, IsOther, IsRefused, HasLooked, IsUnwritten}

-- a file that is empty or begins with the header isn't another's
pub none_other : (d : Descriptor) (reads : List ℕ) (at found want : ℕ) → IsOf d reads → 0 < length reads → IsDifference reads (header d) at found want → ⊥
none_other d reads at found want (inl empty) some first = let none : length reads ≡ 0 = ap (λ (r : List ℕ). length r) empty in omega (arith, none, some)
none_other d reads at found want (inr begins) some first = first.differ (first.found_is ∙ begins at first.within ∙ sym first.want_is)

-- names as seen from before calls that keep them, and from after them
pub named_later : (old : Option (List (List ℕ))) (name : List ℕ) (mid new : Option (List (List ℕ))) → GainsName old name mid → new ≡ mid → GainsName old name new
named_later old name mid new gains same = subst (λ (o : Option (List (List ℕ))). GainsName old name o) (sym same) gains

module _ (d : Descriptor) (old new : DiskState) (book : LookUp) (fresh : IsKnown old → IsFreshlyAttached old.history) (looks : OnlySyncs old new)
    (whole : IsKnown old → IsImage old.history.epoch old.history.reads) where
  -- a sync keeps what reads give and what they gave at the attachment
  pub same_found : IsKnown old → new.history.found ≡ old.history.reads
  same_found known = ⊎_elim (λ e. ap (λ (h : History). h.found) e) (λ e. ap (λ (h : History). h.found) e) (looks.either known) ∙ (fresh known).showed

  pub same_reads : IsKnown old → new.history.reads ≡ old.history.reads
  same_reads known = ⊎_elim (λ e. ap (λ (h : History). h.reads) e) (λ e. ap (λ (h : History). h.reads) e) (looks.either known)

  pub unwritten_scan : IsUnwritten old new
  unwritten_scan = record {
    tells = looks.tells;
    honest = looks.honest;
    synced = λ known. synced_at_most old.history new.history (fresh known) (looks.either known);
    faults = looks.faults;
  }

  pub names_scan : IsKnown old → new.history.names ≡ old.history.names
  names_scan known = ⊎_elim (λ e. ap (λ (h : History). h.names) e) (λ e. ap (λ (h : History). h.names) e) (looks.either known)

  -- what reads gave at the attachment is sound where every image was
  sound_then : IsKnown old → BeganSound d new.history → IsSound d old.history.reads
  sound_then known began =
      let same : new.history.first ≡ old.history.epoch =
      ⊎_elim (λ e. ap (λ (h : History). h.first) e) (λ e. ap (λ (h : History). h.first) e) (looks.either known) ∙ (fresh known).began in
      began old.history.reads (subst (λ (e : Epoch). IsImage e old.history.reads) (sym same) (whole known))

  -- where a chunk was found the file isn't empty
  begins_found : (i : ℕ) → is_found d old.history.reads i ≡ true → IsOf d old.history.reads → HasHeader d old.history.reads
  begins_found i found (inl empty) = absurd (false≢true (sym (ap (λ (r : List ℕ). is_found d r i) empty ∙ empty_none d i) ∙ found))
  begins_found i found (inr begins) = begins

  found_scan : (set : List Bool) → scan.IsScanned d old book set → IsFound d old new book set
  found_scan set is = record {
    count = is.count;
    leaf = is.leaf;
    found = λ known i lt. is.found known i lt ∙ ap (λ (r : List ℕ). is_found d r i) (sym (same_found known));
    there = λ known began i at.
        let within : i < chunks_of d = omega (arith, member_below set i at, is.count) in
        let is_there' = sym (is.found known i within) ∙ at in
        ap (λ (r : List ℕ). is_there d r book i) (same_reads known)
        ∙ found_there d old.history.reads book i (is.known known) (is.peaks i at) (begins_found i is_there' (is.begins known)) (sound_then known began) within is_there';
    begins = λ known. subst (IsOf d) (sym (same_found known)) (is.begins known);
  }

  pub looked_scan : (unread : Type 0) (result : Result (List Bool) ScanFault) → (IsKnown old → IsOf d old.history.reads)
      → scan.HasFound unread d old new book result → HasLooked d old new book result
  looked_scan unread (Ok set) begins is = found_scan set is
  looked_scan unread (Err (NotAStore at found want)) begins is = record {
    within = is.within;
    differ = is.differ;
    wanted = is.wanted;
    untouched = λ known. absurd (none_other d old.history.reads at found want (begins known) (is.some known) (is.first known));
    some = λ known. subst (λ (r : List ℕ). 0 < length r) (sym (same_found known)) (is.some known);
    first = λ known. let one = is.first known in let e = sym (same_found known) in record {
      within = one.within;
      found_is = one.found_is ∙ ap (λ (r : List ℕ). get_or r at 0) e;
      want_is = one.want_is;
      differ = one.differ;
      first = λ k lt. ap (λ (r : List ℕ). get_or r k 0) (sym e) ∙ one.first k lt;
    };
  }
  looked_scan unread (Err Disk) begins risen = record { risen = risen; compared = λ known. inl (subst (IsOf d) (sym (same_found known)) (begins known)) }
  looked_scan unread (Err Memory) begins is = λ known. subst (IsOf d) (sym (same_found known)) (begins known)

-- as seen from before calls that only read
pub fresh_after : (old new : DiskState) → KeepsAll old new → (IsKnown old → IsFreshlyAttached old.history) → IsKnown new → IsFreshlyAttached new.history
fresh_after old new keeps fresh known =
    subst (λ (h : History). IsFreshlyAttached h) (sym keeps.same) (fresh (known_on new old (sym keeps.tells) (sym keeps.honest) known))

-- readings alone, after the attachment
module _ (d : Descriptor) (old new : DiskState) (fresh : IsKnown old → IsFreshlyAttached old.history) (keeps : KeepsAll old new) where
  pub fresh_kept : IsKnown old → IsFreshlyAttached new.history
  fresh_kept known = subst IsFreshlyAttached (sym keeps.same) (fresh known)

  pub found_kept : IsKnown old → new.history.found ≡ old.history.reads
  found_kept known = ap (λ (h : History). h.found) keeps.same ∙ (fresh known).showed

  pub unwritten_kept : IsUnwritten old new
  unwritten_kept = record {
    tells = keeps.tells;
    honest = keeps.honest;
    synced = λ known. inl (fresh_kept known);
    faults = keeps.faults;
  }

  pub other_kept : (at found want : ℕ) → scan.IsOther d at found want old → IsOther d at found want old new
  other_kept at found want is = record {
    within = is.within;
    differ = is.differ;
    wanted = is.wanted;
    some = λ known. subst (λ (r : List ℕ). 0 < length r) (sym (found_kept known)) (is.some known);
    first = λ known. subst (λ (r : List ℕ). IsDifference r (header d) at found want) (sym (found_kept known)) (is.first known);
    untouched = fresh_kept;
  }

  pub refused_kept : HasRisen old.faults new.faults → IsRefused d old new
  refused_kept risen = record { risen = risen; compared = λ known. inr (fresh_kept known) }

  pub other_probed : (result : Result Probe ProbeFault) (at found want : ℕ) → result ≡ Err (probes.NotAStore at found want) → HasProbed d old new result → IsOther d at found want old new
  other_probed result at found want is does = other_kept at found want (subst (HasProbed d old new) is does)

  pub refused_probed : (result : Result Probe ProbeFault) → result ≡ Err probes.Disk → HasProbed d old new result → IsRefused d old new
  refused_probed result is does = refused_kept (subst (HasProbed d old new) is does)

-- as seen from after readings
pub unwritten_on : (old mid new : DiskState) → IsUnwritten old mid → KeepsAll mid new → IsUnwritten old new
unwritten_on old mid new is keeps = record {
  tells = keeps.tells ∙ is.tells;
  honest = keeps.honest ∙ is.honest;
  synced = λ known. subst IsSyncedAtMost (sym keeps.same) (is.synced known);
  faults = omega (arith, is.faults, keeps.faults);
}

-- an attachment that was refused
pub unwritten_attached : {E : Type 0} (name : List ℕ) (old new : DiskState) (result : Result (Unit {0}) E) → DoesAttach old name result new → IsUnwritten old new
unwritten_attached name old new result does = record {
  tells = does.call.tells;
  honest = does.call.honest;
  synced = λ known. inl (freshly_attached name old.history new.history (does.attached known));
  faults = does.call.cause.later;
}

-- a file of another, as seen from before calls that keep what is known of the disk
pub other_since : (d : Descriptor) (old mid new : DiskState) → (IsKnown old → IsKnown mid) → (at found want : ℕ) → IsOther d at found want mid new → IsOther d at found want old new
other_since d old mid new known_mid at found want is = record {
  within = is.within;
  differ = is.differ;
  wanted = is.wanted;
  some = λ known. is.some (known_mid known);
  first = λ known. is.first (known_mid known);
  untouched = λ known. is.untouched (known_mid known);
}

-- as seen from before the attachment, or before readings
module _ (d : Descriptor) (old mid new : DiskState) (book : LookUp) (known_mid : IsKnown old → IsKnown mid) (later : old.faults ≤ mid.faults) where
  pub looked_later : (result : Result (List Bool) ScanFault) → HasLooked d mid new book result → HasLooked d old new book result
  looked_later (Ok set) is = record {
    count = is.count;
    leaf = is.leaf;
    found = λ known. is.found (known_mid known);
    there = λ known. is.there (known_mid known);
    begins = λ known. is.begins (known_mid known);
  }
  looked_later (Err (NotAStore at found want)) is = other_since d old mid new known_mid at found want is
  looked_later (Err Disk) is = record {
    risen = λ below. let r : mid.faults < new.faults = is.risen below in omega arith;
    compared = λ known. is.compared (known_mid known);
  }
  looked_later (Err Memory) is = λ known. is (known_mid known)

  pub unwritten_later : mid.tells ≡ old.tells → mid.honest ≡ old.honest → IsUnwritten mid new → IsUnwritten old new
  unwritten_later tells honest is = record {
    tells = is.tells ∙ tells;
    honest = is.honest ∙ honest;
    synced = λ known. is.synced (known_mid known);
    faults = omega (arith, is.faults);
  }
