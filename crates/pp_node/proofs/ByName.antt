-- What is found of a store by its swarm's name, step by step.
use Rattle.std.proofs.Common.{◌≡◌, inl, inr, ℕ, ◌<◌, ◌≤◌, List, [], ◌∷◌, ◌++◌, length, get_or, Result, Ok, Err, OnOk, refl, sym, ◌∙◌, ap, subst, codes, decimal, append_assoc, arith}
use Rattle.std.specs.Prelude.{Bool, slice_index, Option, Some, None}
use Rattle.pp_terms.specs.command.Stream.{SinkState, Gains}
use Rattle.pp_terms.specs.disk.Disk.{DiskState, History, IsKnown}
use Rattle.pp_terms.specs.disk.Store.{header, HasHeader}
use Rattle.pp_terms.specs.disk.Untouched.{IsFreshlyAttached}
use Rattle.pp_terms.specs.format.Descriptor.{Descriptor}
use Rattle.pp_terms.specs.tree.Book.{LookUp}
use Rattle.pp_tree.specs.Book.{BookState, IsBookOf, entry}
use Rattle.pp_scan.specs.Look.{KeepsAll}
use Rattle.pp_scan.specs.declared.scanning.ScanFault.{ScanFault}
use Rattle.pp_scan.specs.declared.scanning.ScanFault.TheVariants as scans
use Rattle.pp_stream.proofs.Written.{gains_more}
use Rattle.pp_targets.specs.Target.{SwarmName}
use Rattle.pp_named.specs.Front.{sized, size_in}
use Rattle.pp_named.specs.Told.{HasTold, TellsDescriptor}
use Rattle.pp_named.specs.declared.probing.NameFault.{NameFault}
use Rattle.pp_named.specs.declared.probing.NameFault.TheVariants as probes
use Rattle.pp_node.specs.Looking.{HasLooked, IsFound, IsOther}
use Rattle.pp_node.specs.Naming.{IsTold, IsOtherThan, IsChanged, IsOfNoSize, IsScanned, HasFound, FindsNamed, IsInShape, fault_of_name, shape_line, ReportsNaming, NamedChecksIn}
use Rattle.pp_node.specs.Outside.{Outside}
use Rattle.pp_node.specs.declared.naming.Found.{Found}
use Rattle.pp_node.specs.declared.naming.NamingFault.{NamingFault}
use Rattle.pp_node.specs.declared.naming.NamingFault.TheVariants as fault
use Rattle.pp_node.specs.declared.status.Status.{Status}
use Rattle.pp_terms.proofs.Knowing.{known_on}
use Rattle.pp_node.proofs.Looks.{none_other}

-- ---- what is said

shape_is : {T E : Type 0} (k j : ℕ) (old mid new : Option (List ℕ)) (result : Result T E) → Gains old (codes "shape: node " ++ decimal k ++ codes " ") mid
    → OnOk result (Gains mid (decimal j ++ 10 ∷ []) new) → OnOk result (Gains old (shape_line k j) new)
unfolding shape_line
shape_is k j old mid new (Ok x) first second =
    let front : List ℕ = codes "shape: node " ++ decimal k ++ codes " " in
    subst (λ (t : List ℕ). Gains old t new) (sym (append_assoc front (decimal j) (10 ∷ [])))
    (gains_more old mid new front (decimal j ++ 10 ∷ []) first second)
shape_is k j old mid new (Err e) first second = tt

pub shape_said : {T E : Type 0} (k j k' j' : ℕ) (old mid new : Option (List ℕ)) (result : Result T E) → k' ≡ k → j' ≡ j
    → Gains old (codes "shape: node " ++ decimal k' ++ codes " ") mid → OnOk result (Gains mid (decimal j' ++ 10 ∷ []) new)
    → OnOk result (Gains old (shape_line k j) new)
shape_said k j k' j' old mid new result k_is j_is first second =
    let same : shape_line k' j' ≡ shape_line k j = ap (λ (n : ℕ). shape_line n j') k_is ∙ ap (λ (n : ℕ). shape_line k n) j_is in
    subst (λ (t : List ℕ). OnOk result (Gains old t new)) same (shape_is k' j' old mid new result first second)

pub reports_naming : (f other : NamingFault) (status : Status) (old new : SinkState) → f ≡ other → ReportsNaming other status old new → ReportsNaming f status old new
reports_naming f other status old new is reported = subst (λ (f : NamingFault). ReportsNaming f status old new) (sym is) reported

-- ---- as seen from before the attachment, or before readings

module _ (name : SwarmName) (old mid new : DiskState) (known_mid : IsKnown old → IsKnown mid) where
  pub told_later : (e : Descriptor) → IsTold name e mid new → IsTold name e old new
  told_later e is = record {
    valid = is.valid;
    of = is.of;
    some = λ known. is.some (known_mid known);
    begins = λ known. is.begins (known_mid known);
    size = λ known. is.size (known_mid known);
  }

  pub told_back : IsKnown old → (e : Descriptor) → IsTold name e old new → IsTold name e mid new
  told_back known e is = record {
    valid = is.valid;
    of = is.of;
    some = λ k. is.some known;
    begins = λ k. is.begins known;
    size = λ k. is.size known;
  }

  scanned_later : (e : Descriptor) (book : BookState) → IsScanned name e mid new book → IsScanned name e old new book
  scanned_later e book is = record { told = told_later e is.told; rooted = is.rooted }

  found_later : (d : Descriptor) (book : LookUp) (set : List Bool) → IsFound d mid new book set → IsFound d old new book set
  found_later d book set is = record {
    count = is.count;
    leaf = is.leaf;
    found = λ known. is.found (known_mid known);
    there = λ known. is.there (known_mid known);
    begins = λ known. is.begins (known_mid known);
  }

  pub other_later : (at found want : ℕ) → IsOtherThan name at found want mid new → IsOtherThan name at found want old new
  other_later at found want is = record {
    within = is.within;
    fixed = is.fixed;
    differ = is.differ;
    wanted = is.wanted;
    found_is = λ known. is.found_is (known_mid known);
    first = λ known. is.first (known_mid known);
    untouched = λ known. is.untouched (known_mid known);
  }

  changed_later : (at found want : ℕ) → IsChanged name at found want mid new → IsChanged name at found want old new
  changed_later at found want is = record {
    unknown = λ known. is.unknown (known_mid known);
    descriptor = is.descriptor;
    of = is.of;
    other = record {
      within = is.other.within;
      differ = is.other.differ;
      wanted = is.other.wanted;
      some = λ known. is.other.some (known_mid known);
      first = λ known. is.other.first (known_mid known);
      untouched = λ known. is.other.untouched (known_mid known);
    };
  }

  pub finds_later : old.faults ≤ mid.faults → (book : BookState) (result : Result Found NamingFault) → FindsNamed name mid new book result
      → FindsNamed name old new book result
  finds_later later book (Ok found) is = record {
    scanned = scanned_later found.descriptor book is.scanned;
    chunks = found_later found.descriptor (entry book) found.set is.chunks;
    shaped = is.shaped;
  }
  finds_later later book (Err (fault.NotAStore at found want)) (inl is) = inl (other_later at found want is)
  finds_later later book (Err (fault.NotAStore at found want)) (inr is) = inr (changed_later at found want is)
  finds_later later book (Err (fault.Size size)) is = record {
    cause = is.cause;
    some = λ known. is.some (known_mid known);
    begins = λ known. is.begins (known_mid known);
    untouched = λ known. is.untouched (known_mid known);
  }
  finds_later later book (Err (fault.Shape node)) is = record {
    descriptor = is.descriptor;
    scanned = scanned_later is.descriptor book is.scanned;
    first = is.first;
  }
  finds_later later book (Err fault.Disk) risen = λ below. let r : mid.faults < new.faults = risen below in omega (arith, later, r)
  finds_later later book (Err fault.Memory) is = (is.0, told_later is.0 is.1)

-- ---- what the header tells, behind readings alone

first_is_P : (name : SwarmName) (size : ℕ) → 80 ≡ slice_index (header (sized name size)) 0
unfolding header
first_is_P name size = refl

-- the first byte of an empty file counts as a zero
pub empty_other : (name : SwarmName) (old new : DiskState) → (IsKnown old → new.history.found ≡ []) → (IsKnown old → IsFreshlyAttached new.history)
    → IsOtherThan name 0 0 80 old new
empty_other name old new empty untouched = record {
  within = omega arith;
  fixed = inl (omega arith);
  differ = λ e. omega (arith, e);
  wanted = first_is_P name;
  found_is = λ known. ap (λ (r : List ℕ). get_or r 0 0) (sym (empty known));
  first = λ known k size lt fixed. absurd (omega (arith, lt));
  untouched = untouched;
}

module _ (name : SwarmName) (old new : DiskState) (fresh : IsKnown old → IsFreshlyAttached old.history) (keeps : KeepsAll old new) where
  known_before : IsKnown new → IsKnown old
  known_before = known_on new old (sym keeps.tells) (sym keeps.honest)

  pub kept_found : IsKnown old → new.history.found ≡ old.history.reads
  kept_found known = ap (λ (h : History). h.found) keeps.same ∙ (fresh known).showed

  kept_fresh : IsKnown old → IsFreshlyAttached new.history
  kept_fresh known = subst IsFreshlyAttached (sym keeps.same) (fresh known)

  pub tells_on : (e : Descriptor) → TellsDescriptor name old e → TellsDescriptor name new e
  tells_on e is = record {
    valid = is.valid;
    of = is.of;
    some = λ known. subst (λ (h : History). 0 < length h.reads) (sym keeps.same) (is.some (known_before known));
    begins = λ known. subst (λ (h : History). HasHeader e h.reads) (sym keeps.same) (is.begins (known_before known));
    size = λ known. is.size (known_before known) ∙ ap (λ (h : History). size_in h.reads) (sym keeps.same);
  }

  -- an empty file, whose first byte counts as a zero
  pub fresh_other : (IsKnown old → old.history.reads ≡ []) → IsOtherThan name 0 0 80 old new
  fresh_other empty = empty_other name old new (λ known. kept_found known ∙ empty known) kept_fresh

  pub other_kept : (at found want : ℕ) → HasTold name old new (Err (probes.NotAStore at found want)) → IsOtherThan name at found want old new
  other_kept at found want is = record {
    within = is.within;
    fixed = is.fixed;
    differ = is.differ;
    wanted = is.wanted;
    found_is = λ known. is.found_is known ∙ ap (λ (r : List ℕ). get_or r at 0) (sym (kept_found known));
    first = λ known k size lt fixed. ap (λ (r : List ℕ). get_or r k 0) (kept_found known) ∙ is.first known k size lt fixed;
    untouched = kept_fresh;
  }

  pub size_kept : (size : ℕ) → HasTold name old new (Err (probes.Size size)) → IsOfNoSize name size old new
  size_kept size is = record {
    cause = is.cause;
    some = λ known. subst (λ (r : List ℕ). 0 < length r) (sym (kept_found known)) (is.some known);
    begins = λ known. subst (λ (r : List ℕ). HasHeader (sized name size) r) (sym (kept_found known)) (is.begins known);
    untouched = kept_fresh;
  }

  -- what is answered where no descriptor was told
  pub none_found : (told : Result (Option Descriptor) NameFault) (book : BookState) → told ≡ Ok None → HasTold name old new told
      → FindsNamed name old new book (Err (fault.NotAStore 0 0 80))
  none_found told book is has = inl (fresh_other (subst (HasTold name old new) is has))

  pub fault_found : (f : NameFault) (book : BookState) → HasTold name old new (Err f) → FindsNamed name old new book (Err (fault_of_name f))
  fault_found (probes.NotAStore at found want) book has = inl (other_kept at found want has)
  fault_found (probes.Size size) book has = size_kept size has
  fault_found probes.Disk book has = has

-- the descriptor that was told
pub tells_of : (name : SwarmName) (old new : DiskState) (told : Result (Option Descriptor) NameFault) (e : Descriptor) → told ≡ Ok (Some e)
    → HasTold name old new told → TellsDescriptor name old e
tells_of name old new told e is has = subst (HasTold name old new) is has

-- ---- the scan behind it

module _ (name : SwarmName) (e : Descriptor) (old new : DiskState) (tells : TellsDescriptor name old e)
    (kept : IsKnown old → new.history.found ≡ old.history.reads) where
  pub told_scanned : IsTold name e old new
  told_scanned = record {
    valid = tells.valid;
    of = tells.of;
    some = λ known. subst (λ (r : List ℕ). 0 < length r) (sym (kept known)) (tells.some known);
    begins = λ known. subst (λ (r : List ℕ). HasHeader e r) (sym (kept known)) (tells.begins known);
    size = λ known. tells.size known ∙ ap (λ (r : List ℕ). size_in r) (sym (kept known));
  }

  pub shaped_found : (book : BookState) (set : List Bool) (result : Result Found NamingFault) → IsBookOf e book
      → HasLooked e old new (entry book) (Ok set) → IsInShape e set book result → FindsNamed name old new book result
  shaped_found book set (Ok found) rooted looked is = subst (λ (d : Descriptor). HasFound name d found.set old new book) (sym is.0)
      (subst (λ (s : List Bool). HasFound name e s old new book) (sym is.1)
      (record { scanned = record { told = told_scanned; rooted = rooted }; chunks = looked; shaped = is.2 }))
  shaped_found book set (Err (fault.NotAStore at found want)) rooted looked is = absurd is
  shaped_found book set (Err (fault.Size size)) rooted looked is = absurd is
  shaped_found book set (Err (fault.Shape node)) rooted looked is =
      record { descriptor = e; scanned = record { told = told_scanned; rooted = rooted }; first = is }
  shaped_found book set (Err fault.Disk) rooted looked is = absurd is
  shaped_found book set (Err fault.Memory) rooted looked is = absurd is

  pub changed_found : (book : BookState) (looked : Result (List Bool) ScanFault) (at found want : ℕ) → looked ≡ Err (scans.NotAStore at found want)
      → HasLooked e old new (entry book) looked → FindsNamed name old new book (Err (fault.NotAStore at found want))
  changed_found book looked at found want is has = inr (record {
    unknown = λ known. none_other e new.history.found at found want (inr (told_scanned.begins known)) (told_scanned.some known) (other.first known);
    descriptor = e;
    of = tells.of;
    other = other;
  })
    where
      other : IsOther e at found want old new
      other = subst (HasLooked e old new (entry book)) is has

  pub unread_found : (book : BookState) (looked : Result (List Bool) ScanFault) → looked ≡ Err scans.Disk
      → HasLooked e old new (entry book) looked → FindsNamed name old new book (Err fault.Disk)
  unread_found book looked is has = (subst (HasLooked e old new (entry book)) is has).risen

  pub short_found : (book : BookState) → FindsNamed name old new book (Err fault.Memory)
  short_found book = (e, told_scanned)

-- two descriptors of a name that a header tells are one
pub told_once : (name : SwarmName) (a b : Descriptor) (old new : DiskState) → IsKnown old → IsTold name a old new → IsTold name b old new → a ≡ b
told_once name a b old new known one other = λ i. record {
  root = (one.of.root ∙ sym other.of.root) i;
  chunk = (one.of.chunk ∙ sym other.of.chunk) i;
  size = (one.size known ∙ sym (other.size known)) i;
  method = (one.of.method ∙ sym other.of.method) i;
}

-- ---- how a check ends that found nothing

pub reported : (name : SwarmName) (f : NamingFault) (status : Status) (old new : Outside) → FindsNamed name old.disk new.disk new.book (Err f)
    → ReportsNaming f status old.sink new.sink → NamedChecksIn status name old new
reported name (fault.NotAStore at found want) status old new is said = subst (λ (s : Status). NamedChecksIn s name old new) (sym said.0)
    (record { at = at; found = found; want = want; other = is; said = said.1 })
reported name (fault.Size size) status old new is said = subst (λ (s : Status). NamedChecksIn s name old new) (sym said.0)
    (record { size = size; is = is; said = said.1 })
reported name (fault.Shape node) status old new is said = subst (λ (s : Status). NamedChecksIn s name old new) (sym said.0)
    (record { layer = node.layer; offset = node.offset; is = is; said = said.1 })
reported name fault.Disk status old new is said = subst (λ (s : Status). NamedChecksIn s name old new) (sym said.0)
    (record { risen = is; said = said.1 })
reported name fault.Memory status old new is said = subst (λ (s : Status). NamedChecksIn s name old new) (sym said.0)
    (record { descriptor = is.0; told = is.1; silent = said.1 })
