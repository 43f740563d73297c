-- A store that was opened agrees with its file.
use Rattle.std.proofs.Common.{◌≡◌, inl, ⊎_elim, ℕ, ◌*◌, ◌<◌, Bool, true, false, List, [], length, get_or, replicate, sym, ◌∙◌, ap, subst, arith}
use Rattle.std.proofs.lemmas.Bool.{cases_lt, false≢true}
use Rattle.std.proofs.lemmas.List.{length-append, length-replicate}
use Rattle.pp_terms.specs.tree.Book.{LookUp, IsRooted}
use Rattle.pp_terms.specs.format.Descriptor.{Descriptor, chunks_of, IsDescriptor}
use Rattle.pp_terms.specs.disk.Image.{is_found, StandsIn}
use Rattle.pp_terms.specs.disk.Disk.{DiskState, History, IsImage, IsKnown, MayLeave, Throughout, moment_of}
use Rattle.pp_terms.specs.disk.Store.{HasHeader}
use Rattle.pp_terms.specs.disk.Sound.{IsSound}
use Rattle.pp_terms.proofs.Founds.{held_found}
use Rattle.pp_terms.proofs.Images.{sole_image}
use Rattle.pp_terms.proofs.Facts.{member_below, none_in}
use Rattle.pp_scan.specs.Look.{synced}
use Rattle.pp_scan.specs.Scan.{IsScanned}
use Rattle.pp_scan.proofs.Reading.{no_bytes}
use Rattle.pp_scan.proofs.Holds.{found_there, empty_none}
use Rattle.pp_store.specs.Pairs.{PairStands}
use Rattle.pp_store.specs.Store.{made, IsOpened, IsSized, AgreesWith, KnowsHeld, in_either}
use Rattle.pp_store.proofs.Puttings.{either_case}
use Rattle.pp_store.proofs.Opening.{made_reads, made_image, made_begins}
use Rattle.pp_store.proofs.Marking.{IsMarked, marked_pairs, marked_stand}

-- where none is pending
only_committed : (committed pending : List Bool) (n i : ℕ) → pending ≡ replicate n false → in_either committed pending i ≡ true → get_or committed i false ≡ true
only_committed committed pending n i none held = ⊎_elim
    (λ one. one)
    (λ two. absurd (false≢true (sym (ap (λ (ps : List Bool). get_or ps i false) none ∙ none_in n i) ∙ two)))
    (either_case (get_or committed i false) (get_or pending i false) held)

module _ (d : Descriptor) (disk : DiskState) (book : LookUp) (committed pending pairs : List Bool) (valid : IsDescriptor d) (rooted : IsRooted d book)
    (scanned : IsScanned d disk book committed) (none : pending ≡ replicate (chunks_of d) false) (marked : IsMarked d book pairs)
    (size : length pairs ≡ 2 * chunks_of d) where
  within : (i : ℕ) → get_or committed i false ≡ true → i < chunks_of d
  within i at = omega (arith, member_below committed i at, scanned.count)

  pub opened_sized : IsSized d committed pending pairs
  opened_sized = record {
    committed_size = scanned.count;
    pending_size = ap (λ (ps : List Bool). length ps) none ∙ length-replicate (chunks_of d) false;
    pairs_size = size;
    supported = λ i held.
        let at = only_committed committed pending (chunks_of d) i none held in
        marked_pairs d book pairs i valid rooted marked (within i at) (scanned.leaf i at) (scanned.peaks i at);
    apart = λ i two. absurd (false≢true (sym (ap (λ (ps : List Bool). get_or ps i false) none ∙ none_in (chunks_of d) i) ∙ two));
  }

  pub opened_knows : (live : Bool) → KnowsHeld (record { descriptor = d; committed = committed; pending = pending; pairs = pairs; live = live }) book
  opened_knows live = record {
    leaf = λ i held. scanned.leaf i (only_committed committed pending (chunks_of d) i none held);
    peaks = λ i held. scanned.peaks i (only_committed committed pending (chunks_of d) i none held);
  }

  module _ (new : History) (live : Bool) (known_disk : IsKnown disk) (opened : IsOpened d disk.history new) where
    in_empty : disk.history.reads ≡ [] → (i : ℕ) → get_or committed i false ≡ true → ⊥
    in_empty empty i at =
        false≢true (sym (ap (λ (r : List ℕ). is_found d r i) empty ∙ empty_none d i) ∙ sym (scanned.found known_disk i (within i at)) ∙ at)

    no_pair : (reads : List ℕ) (k j : ℕ) → reads ≡ [] → PairStands d book reads k j → ⊥
    no_pair reads k j empty stands =
        let long : length stands.left ≡ 32 = rooted.digests k (2 * j) stands.left stands.joined.left_is in
        let inside = stands.there.inside in
        let nothing : length reads ≡ 0 = ap (λ (r : List ℕ). length r) empty in
        omega (arith, inside, long, length-append stands.left stands.right, nothing)

    pub opened_agrees : IsSound d disk.history.reads
        → AgreesWith (record { descriptor = d; committed = committed; pending = pending; pairs = pairs; live = live }) book new.reads
    opened_agrees sound = ⊎_elim
        (λ some.
        let same : new.reads ≡ disk.history.reads = ap (λ (h : History). h.reads) (opened.scanned some) in
        let begins : HasHeader d disk.history.reads = ⊎_elim
        (λ empty. absurd (let nothing : length disk.history.reads ≡ 0 = ap (λ (r : List ℕ). length r) empty in omega arith))
        (λ begins. begins)
        (scanned.begins known_disk) in
        subst (λ (r : List ℕ). AgreesWith (record { descriptor = d; committed = committed; pending = pending; pairs = pairs; live = live }) book r) (sym same) (record {
          begins = begins;
          chunks = λ i held.
              let at = only_committed committed pending (chunks_of d) i none held in
              found_there d disk.history.reads book i (scanned.known known_disk) (scanned.peaks i at) begins sound (within i at)
              (sym (scanned.found known_disk i (within i at)) ∙ at);
          pairs_stand = marked_stand d book pairs disk.history.reads marked size (scanned.known known_disk);
        }))
        (λ nothing.
        let empty : disk.history.reads ≡ [] = no_bytes disk.history.reads (omega arith) in
        let same : new.reads ≡ made_reads d disk.history = ap (λ (h : History). h.reads) (opened.fresh empty) in
        record {
          begins = λ k lt. ap (λ (r : List ℕ). get_or r k 0) same ∙ made_begins d disk.history valid k lt;
          chunks = λ i held. absurd (in_empty empty i (only_committed committed pending (chunks_of d) i none held));
          pairs_stand = λ k j inner stored. absurd (no_pair disk.history.reads k j empty
              (marked_stand d book pairs disk.history.reads marked size (scanned.known known_disk) k j inner stored));
        })
        (cases_lt 0 (length disk.history.reads))

  -- what stood in every image is committed
  pub opened_taken : IsKnown disk → IsImage disk.history.epoch disk.history.reads → (i : ℕ)
      → Throughout disk.history (moment_of disk.history) (λ image. StandsIn d image i) → get_or committed i false ≡ true
  opened_taken known_disk whole i all =
      let stood = all disk.history.reads (inl whole) in
      scanned.found known_disk i stood.within ∙ held_found d disk.history.reads i (sym (sym stood.opened)) (sym (sym stood.held))

-- afterwards there is one image
pub opened_one : (d : Descriptor) (old new : History) → IsOpened d old new → (image : List ℕ) → MayLeave new image → image ≡ new.reads
opened_one d old new opened image may = ⊎_elim
    (λ some. one (opened.scanned some))
    (λ nothing. fresh (opened.fresh (no_bytes old.reads (omega arith))))
    (cases_lt 0 (length old.reads))
  where
    one : new ≡ synced old → image ≡ new.reads
    one is = sole_image old.reads image (subst (λ (h : History). MayLeave h image) is may) ∙ sym (ap (λ (h : History). h.reads) is)

    fresh : new ≡ made d old → image ≡ new.reads
    fresh is = made_image d old new image is may ∙ sym (ap (λ (h : History). h.reads) is)
