-- An import, once the disk's length was found to be 0.
use Rattle.std.proofs.Common.{◌≡◌, ℕ, ◌<◌, List, length, Result, Ok, Err, sym, ◌∙◌, ap, subst, arith}
use Rattle.pp_terms.specs.format.Descriptor.{Descriptor}
use Rattle.pp_terms.specs.disk.Disk.{DiskState, History, IsKnown, DoesLen, moment_of}
use Rattle.pp_terms.specs.command.Stream.{SourceState}
use Rattle.pp_terms.proofs.Knowing.{known_on}
use Rattle.pp_store.specs.declared.importing.ImportFault.{ImportFault}
use Rattle.pp_store.specs.declared.importing.ImportFault.TheVariants.{NotEmpty, ContentSize, Source, Disk}
use Rattle.pp_store.specs.Import.{IsUnbegun, HasAnswer, LeavesWholeStores}

module _ {E : Type 0} (chunk n : ℕ) (source source' : SourceState) (old mid new : DiskState) (counts : DoesLen {E = E} old (Ok n) mid) where
  known_mid : IsKnown old → IsKnown mid
  known_mid = known_on old mid counts.call.tells counts.call.honest

  same_reads : mid.history.reads ≡ old.history.reads
  same_reads = ap (λ (h : History). h.reads) counts.same

  counted_left : IsUnbegun mid new → IsUnbegun old new
  counted_left left = record {
    no_store = λ known. left.no_store (known_mid known);
    images = λ known m after. left.images (known_mid known) m (subst (λ (h : History). moment_of h < m) (sym counts.same) after);
  }

  pub counted_answer : (result : Result Descriptor ImportFault) → HasAnswer chunk source source' mid new result → HasAnswer chunk source source' old new result
  counted_answer (Ok d) a = record {
    empty = λ known. sym same_reads ∙ a.empty (known_mid known);
    described = a.described;
    stored = λ known. a.stored (known_mid known);
  }
  counted_answer (Err (NotEmpty len)) a = record {
    some = a.some;
    counted = λ known. a.counted (known_mid known) ∙ ap (λ (h : History). length h.reads) counts.same;
    unread = a.unread;
    unwritten = a.unwritten ∙ counts.same;
  }
  counted_answer (Err (ContentSize count)) a = record {
    empty = λ known. sym same_reads ∙ a.empty (known_mid known);
    either = a.either;
    counted = a.counted;
    left = counted_left a.left;
  }
  counted_answer (Err Source) a = record {
    empty = λ known. sym same_reads ∙ a.empty (known_mid known);
    risen = a.risen;
    left = counted_left a.left;
  }
  counted_answer (Err Disk) a = record {
    risen = λ below. let r : mid.faults < new.faults = a.risen below in omega (arith, counts.call.cause.later, r);
    hard = λ below. let r : mid.hard < new.hard = a.hard below in omega (arith, counts.hard_cause.later, r);
  }

pub counted_whole : (chunk : ℕ) (old mid new : History) (content : List ℕ) → mid ≡ old → LeavesWholeStores chunk content mid new → LeavesWholeStores chunk content old new
counted_whole chunk old mid new content same leaves = subst (λ (h : History). LeavesWholeStores chunk content h new) same leaves
