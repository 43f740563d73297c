-- A content that is written by the name of its swarm, from what its parts do.
use Rattle.std.proofs.Common.{◌≡◌, ◌⊎◌, inl, inr, ℕ, ◌<◌, List, length, Err, sym, ◌∙◌, ap, subst}
use Rattle.pp_terms.specs.disk.Disk.{DiskState, History, IsKnown}
use Rattle.pp_terms.specs.disk.Store.{HasHeader}
use Rattle.pp_terms.specs.format.Descriptor.{Descriptor}
use Rattle.pp_terms.specs.tree.Tree.{empty_hash}
use Rattle.pp_terms.proofs.Facts.{bytes_cases}
use Rattle.pp_tree.specs.Book.{BookState, entry}
use Rattle.pp_scan.specs.Look.{KeepsAll}
use Rattle.pp_targets.specs.Target.{SwarmName, FitsName}
use Rattle.pp_targets.specs.Depth.{HasZeroNode}
use Rattle.pp_targets.specs.Law.{IsShaped, ClashesSomewhere}
use Rattle.pp_targets.proofs.WholeBooks.{backed_is_content_of_name}
use Rattle.pp_named.specs.Front.{size_in}
use Rattle.pp_named.specs.Shape.{IsMisshapen}
use Rattle.pp_node.specs.Exporting.{IsExported, ExportsIn}
use Rattle.pp_node.specs.Looking.{Lasts}
use Rattle.pp_node.specs.Naming.{IsTold, IsScanned, FindsNamed}
use Rattle.pp_node.specs.NamedExporting.{NamedExportsIn, status_of_naming}
use Rattle.pp_node.specs.Outside.{Outside}
use Rattle.pp_node.specs.declared.naming.NamingFault.{NamingFault}
use Rattle.pp_node.specs.declared.naming.NamingFault.TheVariants as fault
use Rattle.pp_node.specs.declared.status.Status.{Status}
use Rattle.pp_node.specs.declared.status.Status.TheVariants.{Done, Usage, NotAStore, Incomplete, DiskFault, LinkFault, SourceFault, SinkFault, NotEmpty, ContentSize, Schedule, Memory, Damaged, AuditNo, Recording, NoLife, TooLarge, Shape}
use Rattle.pp_node.proofs.Looks.{none_other}

-- each node that covers no chunk is 32 zero bytes, where none is found that isn't
shaped_book : (e : Descriptor) (book : BookState) → ((k j : ℕ) → IsMisshapen e (entry book) k j → ⊥) → IsShaped e (entry book)
shaped_book e book shaped k j digest inside past is = elim (bytes_cases digest empty_hash) [
  | inl same ↦ same
  | inr other ↦ absurd (shaped k j (record { in_tree = inside; past = past; filled = record { digest = digest; is = is; differ = other } }))
]

-- ---- what the header told, behind readings

module _ (name : SwarmName) (e : Descriptor) (old mid new : DiskState) (keeps : KeepsAll mid new) where
  found_same : new.history.found ≡ mid.history.found
  found_same = ap (λ (h : History). h.found) keeps.same

  pub told_on : IsTold name e old mid → IsTold name e old new
  told_on is = record {
    valid = is.valid;
    of = is.of;
    some = λ known. subst (λ (r : List ℕ). 0 < length r) (sym found_same) (is.some known);
    begins = λ known. subst (λ (r : List ℕ). HasHeader e r) (sym found_same) (is.begins known);
    size = λ known. is.size known ∙ ap (λ (r : List ℕ). size_in r) (sym found_same);
  }

  told_off : IsTold name e old new → IsTold name e old mid
  told_off is = record {
    valid = is.valid;
    of = is.of;
    some = λ known. subst (λ (r : List ℕ). 0 < length r) found_same (is.some known);
    begins = λ known. subst (λ (r : List ℕ). HasHeader e r) found_same (is.begins known);
    size = λ known. is.size known ∙ ap (λ (r : List ℕ). size_in r) found_same;
  }

  pub lasts_on : (IsTold name e old mid → Lasts e mid.history) → IsTold name e old new → Lasts e new.history
  lasts_on lasts is = subst (λ (h : History). Lasts e h) (sym keeps.same) (lasts (told_off is))

-- ---- what came of writing the content

module _ (name : SwarmName) (e : Descriptor) (old new : Outside) (scanned : IsScanned name e old.disk new.disk new.book)
    (shaped : (k j : ℕ) → IsMisshapen e (entry new.book) k j → ⊥) where
  is_content : (x : IsExported e old new) (content : List ℕ) → FitsName name content
      → (x.content ≡ content) ⊎ (ClashesSomewhere e content (entry new.book) x.content ⊎ HasZeroNode content e.chunk)
  is_content x content fits = backed_is_content_of_name name e (entry new.book) x.content scanned.told.valid scanned.told.of (shaped_book e new.book shaped)
      (record { size = x.size; each = λ i lt. (x.each i lt).backed }) content fits

  changed : (at found want : ℕ) → ExportsIn NotAStore e old new → IsKnown old.disk → ⊥
  changed at found want is known = none_other e new.disk.history.found is.at is.found is.want (inr (scanned.told.begins known)) (scanned.told.some known) (is.other.first known)

  pub export_told : (status : Status) → ExportsIn status e old new → NamedExportsIn status name old new
  export_told Done is = record { descriptor = e; scanned = scanned; shaped = shaped; exported = is; contents = is_content is }
  export_told Incomplete is = record { descriptor = e; scanned = scanned; shaped = shaped; ends = is }
  export_told DiskFault is = inr (record { descriptor = e; scanned = scanned; shaped = shaped; ends = is })
  export_told SinkFault is = record { descriptor = e; scanned = scanned; shaped = shaped; ends = is }
  export_told Damaged is = record { descriptor = e; scanned = scanned; shaped = shaped; ends = is }
  export_told NotAStore is = record {
    at = is.at;
    found = is.found;
    want = is.want;
    other = inr (record { unknown = changed is.at is.found is.want is; descriptor = e; of = scanned.told.of; other = is.other });
    said = is.said;
  }
  export_told Memory is = record { descriptor = e; told = scanned.told; silent = is.silent }
  export_told Usage is = absurd is
  export_told LinkFault is = absurd is
  export_told SourceFault is = absurd is
  export_told NotEmpty is = absurd is
  export_told ContentSize is = absurd is
  export_told Schedule is = absurd is
  export_told AuditNo is = absurd is
  export_told Recording is = absurd is
  export_told NoLife is = absurd is
  export_told TooLarge is = absurd is
  export_told Shape is = absurd is

-- nothing was found, and nothing is said of it
pub export_unfound : (name : SwarmName) (f : NamingFault) (old new : Outside) → FindsNamed name old.disk new.disk new.book (Err f) → new.sink ≡ old.sink
    → NamedExportsIn (status_of_naming f) name old new
export_unfound name (fault.NotAStore at found want) old new is silent = record { at = at; found = found; want = want; other = is; said = silent }
export_unfound name (fault.Size size) old new is silent = record { size = size; is = is; said = silent }
export_unfound name (fault.Shape node) old new is silent = record { layer = node.layer; offset = node.offset; is = is; said = silent }
export_unfound name fault.Disk old new is silent = inl (record { risen = is; said = silent })
export_unfound name fault.Memory old new is silent = record { descriptor = is.0; told = is.1; silent = silent }
