-- What a crash may leave during an upgrade.
use Rattle.std.proofs.Common.{◌≡◌, ◌⊎◌, inl, inr, ⊎_elim, ℕ, suc, ◌+◌, ◌^◌, ◌*◌, ◌<◌, ◌≤◌, ◌==◌, min, Bool, true, false, Option, Some, List, [], length, get_or, set, drop, replicate, Result, Ok, Err, OnOk, IfOk, IfErr, refl, sym, ◌∙◌, ap, subst, arith}
use Rattle.std.proofs.lemmas.Bool.{cases_lt, cases_Bool, false≢true}
use Rattle.std.proofs.lemmas.List.{drop_all}
use Rattle.pp_terms.specs.format.Descriptor.{Descriptor, chunks_of, height_of, IsDescriptor}
use Rattle.pp_terms.specs.disk.Store.{header, gate_place, file_size, HasHeader, IsNoStore}
use Rattle.pp_terms.specs.disk.Image.{holds, is_open}
use Rattle.pp_terms.specs.disk.Sound.{IsSound}
use Rattle.pp_terms.specs.tree.Book.{LookUp}
use Rattle.pp_terms.specs.command.Stream.{SourceState}
use Rattle.pp_terms.specs.disk.Disk.{Epoch, DiskState, History, IsKnown, DoesSync, DoesLen, IsImage, IsOver, MayLeaveSince, Throughout, moment_of, written, pends, after_write}
use Rattle.pp_terms.proofs.Headers.{length-header}
use Rattle.pp_terms.proofs.Images.{length-written, written_inside, written_outside, sole_image, since_now, moment-settled}
use Rattle.pp_terms.proofs.Knowing.{known_on}
use Rattle.pp_scan.specs.Look.{KeepsAll, synced}
use Rattle.pp_scan.specs.Layers.{HasKnown}
use Rattle.pp_scan.specs.Verify.{IsVerified}
use Rattle.pp_store.specs.Keep.{KeepsDisk}
use Rattle.pp_store.specs.Import.{TakesAtMost, IsUnbegun}
use Rattle.pp_store.specs.Behind.{IsBehind, KeepsBehind}
use Rattle.pp_store.specs.Front.{DoesFront}
use Rattle.pp_store.specs.Gates.{gates_opened}
use Rattle.pp_store.specs.Sound.{StaysSound}
use Rattle.pp_store.specs.Store.{cleared}
use Rattle.pp_store.specs.Old.{old_header, HasOldHeader, old_slot_size, old_size, old_holds, old_file}
use Rattle.pp_store.specs.Upgrade.{IsUpgraded, IsTaken, IsCopied, IsFileOf, HasUpgraded, HasFault, HasHeaderFault, HasSlotsFault, IsOtherByte, DoesUpgrade, DoesUpgradeSlots, IsHeldSet, IsSealed, HasSealed, finished, IsFinishing, opening, heading, IsSealing, verified, finishing}
use Rattle.pp_store.specs.declared.upgrading.UpgradeFault.{UpgradeFault}
use Rattle.pp_store.specs.declared.upgrading.UpgradeFault.TheVariants.{NotEmpty, NotAStore, Source, Disk, Memory}
use Rattle.pp_store.proofs.Copies.{takes_both}
use Rattle.pp_store.proofs.Ends.{front_keeps, disk_more, takes_at_most}
use Rattle.pp_store.proofs.Writings.{behind_keeps}
use Rattle.pp_store.proofs.Freshening.{sound_zero, front_sound}
use Rattle.pp_terms.proofs.Facts.{member_below}
use Rattle.pp_store.proofs.GateWrites.{gates_closed, gates_size, gates_keep, open_made, over_torn}
use Rattle.pp_store.proofs.Staying.{Stays, stays_more, sync_stays, front_stays, settled_zero, behind_stays, walking_sound}
use Rattle.pp_store.proofs.OldFiles.{IsSlotwise, copied_slotwise, known_same, holds_same}
use Rattle.pp_store.proofs.Opening.{has_header}
use Rattle.pp_store.proofs.PairWrites.{gate_clear}
use Rattle.pp_store.proofs.Sealing.{no_store, short_no_store, empty_no_store, clearing, walking_none, throughout_later}
use Rattle.pp_store.proofs.Surviving.{some_chunks, held_elsewhere}
use Rattle.pp_store.proofs.Gated.{gate_low, file_long}

-- ---- a verified file, and its header

-- The file is as long as the store; the chunks with open gates are those members, and they are held.
pub record IsReady (d : Descriptor) (member : ℕ → Bool) (reads : List ℕ) : Type 0 where
  pub size : length reads ≡ file_size d
  pub opened : (i : ℕ) → i < chunks_of d → is_open d reads i ≡ member i
  pub held : (i : ℕ) → i < chunks_of d → member i ≡ true → holds d reads i ≡ true

pub ready_sound : (d : Descriptor) (member : ℕ → Bool) (image : List ℕ) → IsReady d member image → IsSound d image
ready_sound d member image is = record {
  long = λ begins. omega (arith, is.size);
  held = λ begins i lt opened. is.held i lt (sym (is.opened i lt) ∙ opened);
}

module _ (d : Descriptor) (valid : IsDescriptor d) where
  long_file : 64 < file_size d
  long_file = file_long d valid (some_chunks d valid).0

  -- other bytes at the front
  pub ready_over : (member : ℕ → Bool) (reads image : List ℕ) → IsReady d member reads → IsOver 0 64 reads image → length image ≡ length reads
      → IsReady d member image
  ready_over member reads image is over same = record {
    size = same ∙ is.size;
    opened = λ i lt. ap (λ (b : ℕ). b == 0x4f)
        (over.outside (gate_place d.chunk i) (let low = gate_low d i valid lt in omega (arith, low, is.size)) (λ w. omega (arith, w.1))) ∙ is.opened i lt;
    held = λ i lt here. held_elsewhere d i 0 64 reads image valid lt (inr (omega arith)) (λ k low. inr (omega arith)) (λ k unfilled. inr (omega arith)) over
        (is.held i lt here);
  }

  -- while the header is written, and with it
  module _ (member : ℕ → Bool) (reads : List ℕ) (is : IsReady d member reads) where
    header_long : length (header d) ≡ 64
    header_long = length-header d valid.root_length

    pub ready_heading : (image : List ℕ) → IsImage (pends (record { durable = reads; pending = [] }) 0 (header d)) image → IsReady d member image
    ready_heading image im = ready_over member reads image is
        (record {
          no_shorter = im.no_shorter;
          outside = λ k lt out. im.stays k lt (λ p. ⊎_elim (λ w. out (w.0, omega (arith, w.1, header_long))) (λ none. none) p);
        })
        (omega (arith, im.no_shorter, im.no_longer, header_long, is.size, long_file))

    pub ready_headed : IsReady d member (written reads 0 (header d))
    ready_headed = ready_over member reads (written reads 0 (header d)) is
        (record {
          no_shorter = omega (arith, length-written reads 0 (header d));
          outside = λ k lt out. written_outside reads 0 (header d) k (λ w. out (w.0, omega (arith, w.1, header_long)));
        })
        (omega (arith, length-written reads 0 (header d), header_long, is.size, long_file))

  -- an image with the header is the whole store
  pub ready_right : (file image : List ℕ) → IsReady d (λ i. old_holds d file i) image → HasHeader d image → IsUpgraded d file image
  ready_right file image is begins = record {
    begins = has_header d image valid begins (omega (arith, is.size, long_file));
    size = is.size;
    opened = is.opened;
    held = is.held;
  }

  -- the gates of what a file holds are opened, where all were closed
  pub ready_opened : (set : List Bool) (h : History) → length set ≡ chunks_of d → length h.reads ≡ file_size d
      → ((i : ℕ) → get_or h.reads (gate_place d.chunk i) 0 ≡ 0) → IsHeldSet d h.reads set
      → IsReady d (λ i. get_or set i false) (gates_opened d set h).reads
  ready_opened set h count long closed held = record {
    size = gates_size d 0 set h (file_size d) (λ k here. gate_low d (0 + k) valid (let low = member_below set k here in omega (arith, low, count))) long;
    opened = λ i lt. ⊎_elim
        (λ yes_open. subst (λ (m : ℕ). is_open d (gates_opened d set h).reads m ≡ true) (let z : 0 + i ≡ i = omega arith in z) (open_made d 0 set h i yes_open) ∙ sym yes_open)
        (λ not_open.
        ap (λ (b : ℕ). b == 0x4f)
        (gates_closed d 0 set h i (λ k here e. false≢true (sym not_open ∙ ap (λ (m : ℕ). get_or set m false) (let z : i ≡ k = omega (arith, e) in z) ∙ here)) ∙ closed i)
        ∙ sym not_open)
        (cases_Bool (get_or set i false));
    held = λ i lt here. gates_keep d (λ (reads : List ℕ). holds d reads i ≡ true)
        (λ k old new torn.
        let clear = gate_clear d i k in
        held_elsewhere d i (gate_place d.chunk k) 1 old new valid lt clear.chunk clear.way clear.unfilled (over_torn (gate_place d.chunk k) 1 old new torn))
        0 set h (sym (held i lt) ∙ here);
  }

-- ---- a file that was copied

module _ (P : List ℕ → Type 0) (zero_first : (image : List ℕ) → get_or image 0 0 ≡ 0 → P image) (d : Descriptor) (mid : History) (none : get_or mid.reads 0 0 ≡ 0)
    (some : 0 < length mid.reads)
    (there : (set : List Bool) → length set ≡ chunks_of d → IsHeldSet d mid.reads set
    → (image : List ℕ) → IsImage (pends (synced (gates_opened d set (synced mid))).epoch 0 (header d)) image → P image)
    (done : (set : List Bool) → length set ≡ chunks_of d → IsHeldSet d mid.reads set → P (written (gates_opened d set (synced mid)).reads 0 (header d))) where
  opened_stays : (new : History) → IsBehind (synced mid) new → Stays P (synced mid) new
  opened_stays new behind = behind_stays P zero_first (synced mid) new (settled_zero mid mid.reads some none) behind

  pub sealing_stays : (new : History) → IsSealing d (synced mid) new → Stays P (synced mid) new
  sealing_stays _ (verified new is) = subst (Stays P (synced mid)) (sym is) (λ moment le all. all)
  sealing_stays _ (finishing set new count held (opening _ behind)) = opened_stays new behind
  sealing_stays _ (finishing set new count held (heading _ behind leaves)) =
      let walked = gates_opened d set (synced mid) in
      let same : moment_of walked ≡ moment_of (synced mid) = ap (λ (past : List Epoch). length past) behind.past in
      stays_more P (synced mid) walked new (omega (arith, same)) (opened_stays walked behind)
      (front_stays P (header d) walked (zero_first walked.reads (behind.header 0 (omega arith) ∙ none)) (there set count held) (done set count held) new leaves)

  -- and the sync before
  pub sealed_stays : (new : History) → (new ≡ mid) ⊎ IsSealing d (synced mid) new → Stays P mid new
  sealed_stays new (inl is) = subst (Stays P mid) (sym is) (λ moment le all. all)
  sealed_stays new (inr sealing) =
      stays_more P mid (synced mid) new (omega (arith, moment-settled mid mid.reads)) (sync_stays P mid (zero_first mid.reads none)) (sealing_stays new sealing)

-- An upgrade from an empty file on, whose slots were copied.
module _ (d : Descriptor) (valid : IsDescriptor d) (old : History) (empty : old.reads ≡ []) (mid : History) (behind : IsBehind (cleared old) mid) where
  pub none_first : get_or mid.reads 0 0 ≡ 0
  none_first = behind.header 0 (omega arith) ∙ written_inside old.reads 0 (replicate 8 0) 0 (omega arith)

  pub cleared_later : moment_of old + 2 ≡ moment_of mid
  cleared_later =
      let same : moment_of mid ≡ moment_of (cleared old) = ap (λ (past : List Epoch). length past) behind.past in
      omega (arith, same, moment-settled (after_write (synced old) 0 (replicate 8 0)) (written old.reads 0 (replicate 8 0)), moment-settled old old.reads)

  -- no image with the header was left so far
  pub copying_none : (moment : ℕ) → moment_of old < moment → Throughout mid moment IsNoStore
  copying_none = walking_none old mid empty behind

  pub verified_none : (new : History) → new ≡ synced mid → (moment : ℕ) → moment_of old < moment → Throughout new moment IsNoStore
  verified_none new is moment after =
      subst (λ (h : History). Throughout h moment IsNoStore) (sym is)
      (throughout_later (synced mid) (suc (moment_of old)) moment IsNoStore after
      (sync_stays IsNoStore mid (no_store mid.reads none_first) (suc (moment_of old)) (omega (arith, cleared_later)) (copying_none (suc (moment_of old)) (omega arith))))

  module _ (long : length mid.reads ≡ file_size d) (closed : (i : ℕ) → get_or mid.reads (gate_place d.chunk i) 0 ≡ 0) where
    ready : (set : List Bool) → length set ≡ chunks_of d → IsHeldSet d mid.reads set
        → IsReady d (λ i. get_or set i false) (gates_opened d set (synced mid)).reads
    ready set count held = ready_opened d valid set (synced mid) count long closed held

    nonempty : 0 < length mid.reads
    nonempty = let large = file_long d valid (some_chunks d valid).0 in omega (arith, large, long)

    pub sealed_sound : (new : History) → (new ≡ mid) ⊎ IsSealing d (synced mid) new → StaysSound d old new
    sealed_sound new left =
        stays_more (IsSound d) old mid new (omega (arith, cleared_later)) (walking_sound d valid old empty mid behind)
        (sealed_stays (IsSound d) (λ image none. sound_zero d image valid none) d mid none_first nonempty
        (λ set count held image im. ready_sound d (λ i. get_or set i false) image
        (ready_heading d valid (λ i. get_or set i false) (gates_opened d set (synced mid)).reads (ready set count held) image im))
        (λ set count held. ready_sound d (λ i. get_or set i false) (written (gates_opened d set (synced mid)).reads 0 (header d))
        (ready_headed d valid (λ i. get_or set i false) (gates_opened d set (synced mid)).reads (ready set count held)))
        new left)

    -- the old file is copied slot by slot
    module _ (file : List ℕ) (slots : IsSlotwise d mid.reads file) where
      as_old : (set : List Bool) → IsHeldSet d mid.reads set → (i : ℕ) → i < chunks_of d → get_or set i false ≡ old_holds d file i
      as_old set held i lt = held i lt ∙ holds_same d mid.reads file slots valid i lt

      -- its members are the chunks which the old file holds
      old_ready : (set : List Bool) (image : List ℕ) → IsHeldSet d mid.reads set → IsReady d (λ i. get_or set i false) image
          → IsReady d (λ i. old_holds d file i) image
      old_ready set image held is = record {
        size = is.size;
        opened = λ i lt. is.opened i lt ∙ as_old set held i lt;
        held = λ i lt here. is.held i lt (as_old set held i lt ∙ here);
      }

      abbrev IsRight : List ℕ → Type 0
      IsRight image = HasHeader d image → IsUpgraded d file image

      right_none : (image : List ℕ) → IsNoStore image → IsRight image
      right_none image none begins = absurd (none d valid begins)

      right_there : (set : List Bool) → length set ≡ chunks_of d → IsHeldSet d mid.reads set
          → (image : List ℕ) → IsImage (pends (synced (gates_opened d set (synced mid))).epoch 0 (header d)) image → IsRight image
      right_there set count held image im = ready_right d valid file image (old_ready set image held
          (ready_heading d valid (λ i. get_or set i false) (gates_opened d set (synced mid)).reads (ready set count held) image im))

      right_done : (set : List Bool) → length set ≡ chunks_of d → IsHeldSet d mid.reads set
          → IsRight (written (gates_opened d set (synced mid)).reads 0 (header d))
      right_done set count held = ready_right d valid file (written (gates_opened d set (synced mid)).reads 0 (header d))
          (old_ready set (written (gates_opened d set (synced mid)).reads 0 (header d)) held
          (ready_headed d valid (λ i. get_or set i false) (gates_opened d set (synced mid)).reads (ready set count held)))

      pub sealed_right : (new : History) → (new ≡ mid) ⊎ IsSealing d (synced mid) new → (moment : ℕ) → moment_of old < moment
          → Throughout new moment IsRight
      sealed_right new left moment after =
          throughout_later new (suc (moment_of old)) moment IsRight after
          (sealed_stays IsRight (λ image none. right_none image (no_store image none)) d mid none_first nonempty right_there right_done new left
          (suc (moment_of old)) (omega (arith, cleared_later))
          (λ image since. right_none image (copying_none (suc (moment_of old)) (omega arith) image since)))

      -- what is left at the end
      pub sealed_done : (set : List Bool) (new : History) → length set ≡ chunks_of d → IsHeldSet d mid.reads set → new ≡ finished d set (synced mid)
          → Throughout new (moment_of new) (IsUpgraded d file)
      sealed_done set new count held is image since =
          let walked = gates_opened d set (synced mid) in
          let bytes = written walked.reads 0 (header d) in
          let now : Throughout (finished d set (synced mid)) (moment_of (finished d set (synced mid))) (IsUpgraded d file) =
          (λ im at. subst (IsUpgraded d file)
          (sym (sole_image bytes im (since_now (finished d set (synced mid)) im at)))
          (right_done set count held (header_written walked.reads))) in
          subst (λ (h : History). (im : List ℕ) → MayLeaveSince h (moment_of h) im → IsUpgraded d file im) (sym is) now image since
        where
          header_written : (reads : List ℕ) → HasHeader d (written reads 0 (header d))
          header_written reads k lt =
              let size = length-header d valid.root_length in
              let at : 0 + k ≡ k = omega arith in
              ap (λ (n : ℕ). get_or (written reads 0 (header d)) n 0) (sym at) ∙ written_inside reads 0 (header d) k (omega (arith, size, lt))

-- ---- a file that was verified

module _ (d : Descriptor) (old mid new : DiskState) (book : LookUp) (set : List Bool) (found : IsVerified d old book set) (looks : KeepsAll old mid) where
  known_mid : IsKnown old → IsKnown mid
  known_mid = known_on old mid looks.tells looks.honest

  pub sealed_by : (IsKnown mid → new.history ≡ finished d set mid.history) → IsSealed d old.history old new book set
  sealed_by done = record {
    count = found.count;
    held = λ known i lt. found.held known i lt;
    known = λ known. found.known known;
    done = λ known. done (known_mid known) ∙ ap (λ (h : History). finished d set h) looks.same;
  }

  pub left_by : (IsKnown mid → IsFinishing d set mid.history new.history) → IsKnown old → IsSealing d old.history new.history
  left_by left known =
      finishing set new.history found.count (λ i lt. found.held known i lt)
      (subst (λ (h : History). IsFinishing d set h new.history) looks.same (left (known_mid known)))

-- and the sync before
pub seal_answer : {E : Type 0} (d : Descriptor) (old mid new : DiskState) (book : LookUp) (result : Result (List Bool) UpgradeFault) (u : Unit {0})
    → DoesSync {E = E} old (Ok u) mid → HasSealed d mid.history mid new book result → HasSealed d (synced old.history) old new book result
seal_answer d old mid new book (Ok set) u sync sealed = record {
  count = sealed.count;
  held = λ known. subst (λ (h : History). IsHeldSet d h.reads set) (sync.done known) (sealed.held (known_on old mid sync.call.tells sync.call.honest known));
  known = λ known. subst (λ (h : History). HasKnown d h.reads book) (sync.done known) (sealed.known (known_on old mid sync.call.tells sync.call.honest known));
  done = λ known. sealed.done (known_on old mid sync.call.tells sync.call.honest known) ∙ ap (λ (h : History). finished d set h) (sync.done known);
}
seal_answer d old mid new book (Err Disk) u sync sealed = λ below. let r : mid.faults < new.faults = sealed below in omega (arith, r, sync.call.cause.later)
seal_answer d old mid new book (Err Memory) u sync sealed = λ known. sealed (known_on old mid sync.call.tells sync.call.honest known) ∙ sync.done known
seal_answer d old mid new book (Err Source) u sync sealed = absurd sealed
seal_answer d old mid new book (Err (NotEmpty len)) u sync sealed = absurd sealed
seal_answer d old mid new book (Err (NotAStore at want found)) u sync sealed = absurd sealed

-- ---- the header of version 1

pub old_header_is : (d : Descriptor) → set (header d) 7 49 ≡ old_header d
unfolding header old_header
old_header_is d = refl

module _ (d : Descriptor) (count : ℕ) (source source' : SourceState) (bytes wanted : List ℕ) (is : wanted ≡ old_header d) (size : length bytes ≡ 64)
    (given : (content : List ℕ) → source.left ≡ Some content → (k : ℕ) → k < length bytes → get_or bytes k 0 ≡ get_or content k 0) where
  pub header_read : ((content : List ℕ) → source.left ≡ Some content → (count ≡ min (length content) (length bytes)) × (source'.left ≡ Some (drop count content)))
      → (result : Result (Unit {0}) UpgradeFault) → OnOk result ((k : ℕ) → k < 64 → get_or bytes k 0 ≡ get_or wanted k 0)
      → (content : List ℕ) → source.left ≡ Some content → OnOk result (HasOldHeader d content × (source'.left ≡ Some (drop 64 content)))
  header_read read (Err fault) same content told = tt
  header_read read (Ok u) same content told = (
    λ k lt. sym (given content told k (omega (arith, size, lt))) ∙ same k lt ∙ ap (λ (b : List ℕ). get_or b k 0) is,
    (read content told).1 ∙ ap Some (⊎_elim
        (λ short. drop_all count content (omega (arith, (read content told).0, size, short)) ∙ sym (drop_all 64 content (omega (arith, short))))
        (λ long. ap (λ (n : ℕ). drop n content) (let e : count ≡ 64 = omega (arith, (read content told).0, size, long) in e))
        (cases_lt (length content) 64)),
  )

  pub header_other : (result : Result (Unit {0}) UpgradeFault) → IfErr result (IsOtherByte bytes wanted) → IfErr result (HasHeaderFault d source source')
  header_other (Ok u) other = tt
  header_other (Err (NotAStore at found want)) other = record {
    within = other.within;
    differ = other.differ;
    wanted = other.want_is ∙ ap (λ (b : List ℕ). get_or b at 0) is;
    first = λ content told. record {
      within = other.within;
      found_is = other.found_is ∙ given content told at (omega (arith, size, other.within));
      want_is = other.want_is ∙ ap (λ (b : List ℕ). get_or b at 0) is;
      differ = other.differ;
      first = λ k lt. sym (given content told k (omega (arith, size, lt, other.within))) ∙ other.first k lt ∙ ap (λ (b : List ℕ). get_or b k 0) is;
    };
  }
  header_other (Err (NotEmpty len)) other = absurd other
  header_other (Err Source) other = absurd other
  header_other (Err Disk) other = absurd other
  header_other (Err Memory) other = absurd other

-- ---- an upgrade, once the header was read

-- the front couldn't be cleared
pub front_fault : {E : Type 0} (d : Descriptor) (source : SourceState) (disk new : DiskState) (book : LookUp) (fault : E) → IsDescriptor d
    → (IsKnown disk → disk.history.reads ≡ []) → DoesFront (replicate 8 0) disk (Err fault) new → DoesUpgradeSlots d source source disk new book (Err Disk)
front_fault d source disk new book fault valid empty does = record {
  done = tt;
  fault = does.cause.risen refl;
  whole = λ known bytes file moment after le image since begins.
      absurd (clearing IsNoStore short_no_store no_store disk.history (empty known) new.history (does.leaves known) moment after le image since d valid begins);
  sound = λ known. front_sound d disk.history valid (empty known) new.history (does.leaves known);
  takes = λ content told. (0, omega arith, told);
  later = omega arith;
  keeps = front_keeps (replicate 8 0) disk new (Err fault) does;
}

module _ {E : Type 0} (d : Descriptor) (valid : IsDescriptor d) (source source' : SourceState) (disk front mid : DiskState) (u : Unit {0})
    (empty : IsKnown disk → disk.history.reads ≡ []) (clears : DoesFront {E = E} (replicate 8 0) disk (Ok u) front) (keeps : KeepsBehind front mid)
    (takes : TakesAtMost (2 ^ height_of d * old_slot_size d.chunk) source source') (later : source.faults ≤ source'.faults) where
  known_front : IsKnown disk → IsKnown front
  known_front = known_on disk front clears.tells clears.honest

  known_copied : IsKnown disk → IsKnown mid
  known_copied known = known_on front mid keeps.tells keeps.honest (known_front known)

  behind : IsKnown disk → IsBehind (cleared disk.history) mid.history
  behind known = subst (λ (h : History). IsBehind h mid.history) (clears.done known) (keeps.behind (known_front known))

  kept_mid : KeepsDisk disk mid
  kept_mid = disk_more disk front mid (front_keeps (replicate 8 0) disk front (Ok u) clears) (behind_keeps front mid keeps)

  pub unbegun_mid : IsUnbegun disk mid
  unbegun_mid = record {
    no_store = λ known. no_store mid.history.reads (none_first d valid disk.history (empty known) mid.history (behind known));
    images = λ known moment after le. copying_none d valid disk.history (empty known) mid.history (behind known) moment after;
  }

  -- a fault while slots were copied
  pub copying_fault : (book : LookUp) (f : UpgradeFault) → HasFault f source source' front mid → DoesUpgradeSlots d source source' disk mid book (Err f)
  copying_fault book f fault = record {
    done = tt;
    fault = by f fault;
    whole = λ known bytes file moment after le image since begins.
        absurd (copying_none d valid disk.history (empty known) mid.history (behind known) moment after image since d valid begins);
    sound = λ known. walking_sound d valid disk.history (empty known) mid.history (behind known);
    takes = takes;
    later = later;
    keeps = kept_mid;
  }
    where
      by : (f : UpgradeFault) → HasFault f source source' front mid → HasSlotsFault f source source' disk mid
      by (NotEmpty len) fault = fault
      by (NotAStore at found want) fault = fault
      by Memory fault = absurd fault
      by Source fault = (fault, unbegun_mid)
      by Disk fault = λ below. let r : front.faults < mid.faults = fault below in omega (arith, r, clears.cause.later)

  -- the slots were copied, and then the file was sealed
  module _ (new : DiskState) (book : LookUp) (copied : IsKnown front → IsCopied d source.left mid.history.reads) (long : IsKnown front → length mid.history.reads ≡ file_size d)
      (sealing : IsKnown mid → (new.history ≡ mid.history) ⊎ IsSealing d (synced mid.history) new.history) (kept_new : KeepsDisk mid new) where
    slots : IsKnown disk → (bytes : List ℕ) → IsFileOf d source.left bytes → IsSlotwise d mid.history.reads (old_file d bytes)
    slots known bytes file =
        copied_slotwise d bytes mid.history.reads (long (known_front known))
        (subst (λ (left : Option (List ℕ)). IsCopied d left mid.history.reads) file.1 (copied (known_front known)))

    answered : (result : Result (List Bool) UpgradeFault) → HasSealed d (synced mid.history) mid new book result
        → IfOk result (λ set. (length set ≡ chunks_of d) × (IsKnown disk → (bytes : List ℕ) → IsFileOf d source.left bytes
        → IsTaken d bytes book set × Throughout new.history (moment_of new.history) (IsUpgraded d (old_file d bytes))))
    answered (Err f) sealed = tt
    answered (Ok set) sealed = (
      sealed.count,
      λ known bytes file.
          let slotwise = slots known bytes file in
          let held = sealed.held (known_copied known) in (
            record {
              held = λ i lt. held i lt ∙ holds_same d mid.history.reads (old_file d bytes) slotwise valid i lt;
              known = λ k j. sealed.known (known_copied known) k j ∙ known_same d mid.history.reads (old_file d bytes) slotwise k j;
            },
            sealed_done d valid disk.history (empty known) mid.history (behind known) (long (known_front known)) (copied (known_front known)).gates
                (old_file d bytes) slotwise set new.history sealed.count held (sealed.done (known_copied known)),
          ),
    )

    faulted : (result : Result (List Bool) UpgradeFault) → HasSealed d (synced mid.history) mid new book result
        → IfErr result (λ fault. HasSlotsFault fault source source' disk new)
    faulted (Ok set) sealed = tt
    faulted (Err (NotEmpty len)) sealed = sealed
    faulted (Err (NotAStore at found want)) sealed = sealed
    faulted (Err Source) sealed = absurd sealed
    faulted (Err Disk) sealed = λ below. let r : mid.faults < new.faults = sealed below in omega (arith, r, clears.cause.later, keeps.faults)
    faulted (Err Memory) sealed = record {
      no_store = λ known. subst (λ (h : History). IsNoStore h.reads) (sym (sealed (known_copied known)))
          (no_store mid.history.reads (none_first d valid disk.history (empty known) mid.history (behind known)));
      images = λ known moment after le.
          verified_none d valid disk.history (empty known) mid.history (behind known) new.history (sealed (known_copied known)) moment after;
    }

    pub slots_done : (result : Result (List Bool) UpgradeFault) → HasSealed d (synced mid.history) mid new book result → DoesUpgradeSlots d source source' disk new book result
    slots_done result sealed = record {
      done = answered result sealed;
      fault = faulted result sealed;
      whole = λ known bytes file moment after le.
          sealed_right d valid disk.history (empty known) mid.history (behind known) (long (known_front known)) (copied (known_front known)).gates
          (old_file d bytes) (slots known bytes file) new.history (sealing (known_copied known)) moment after;
      sound = λ known. sealed_sound d valid disk.history (empty known) mid.history (behind known) (long (known_front known)) (copied (known_front known)).gates
          new.history (sealing (known_copied known));
      takes = takes;
      later = later;
      keeps = disk_more disk mid new kept_mid kept_new;
    }

-- ---- an upgrade from its beginning

-- what is done behind the header
module _ (d : Descriptor) (source mid source' : SourceState) (disk new : DiskState) (book : LookUp) (empty : IsKnown disk → disk.history.reads ≡ [])
    (taken : TakesAtMost 64 source mid) (later : source.faults ≤ mid.faults)
    (begins : (bytes : List ℕ) → source.left ≡ Some bytes → HasOldHeader d bytes × (mid.left ≡ Some (drop 64 bytes))) where
  as_file : (bytes : List ℕ) → source.left ≡ Some bytes → IsFileOf d mid.left bytes
  as_file bytes told = begins bytes told

  pub upgrade_done : (result : Result (List Bool) UpgradeFault) → DoesUpgradeSlots d mid source' disk new book result → DoesUpgrade d source source' disk new book result
  upgrade_done result does = record {
    answer = by result does.done does.fault;
    whole = λ known bytes told. does.whole known bytes (as_file bytes told);
    sound = does.sound;
    begun = inr (λ bytes told. (begins bytes told).0);
    takes = takes_both source mid source' 64 (2 ^ height_of d * old_slot_size d.chunk) (old_size d) (omega arith) taken does.takes;
    later = omega (arith, later, does.later);
    keeps = does.keeps;
  }
    where
      by : (result : Result (List Bool) UpgradeFault)
          → IfOk result (λ set. (length set ≡ chunks_of d) × (IsKnown disk → (bytes : List ℕ) → IsFileOf d mid.left bytes
          → IsTaken d bytes book set × Throughout new.history (moment_of new.history) (IsUpgraded d (old_file d bytes))))
          → IfErr result (λ fault. HasSlotsFault fault mid source' disk new) → HasUpgraded d source source' disk new book result
      by (Ok set) done fault = record {
        empty = empty;
        begins = λ bytes told. (begins bytes told).0;
        count = done.0;
        taken = λ known bytes told. (done.1 known bytes (as_file bytes told)).0;
        stored = λ known bytes told. (done.1 known bytes (as_file bytes told)).1;
      }
      by (Err (NotEmpty len)) done fault = absurd fault
      by (Err (NotAStore at found want)) done fault = absurd fault
      by (Err Source) done fault = record {
        empty = empty;
        risen = λ below. let r : mid.faults < source'.faults = fault.0 below in omega (arith, r, later);
        left = fault.1;
      }
      by (Err Disk) done fault = fault
      by (Err Memory) done fault = record { empty = empty; left = fault }

-- nothing was done on the disk
module _ (d : Descriptor) (source source' : SourceState) (disk : DiskState) (book : LookUp) (empty : IsKnown disk → disk.history.reads ≡ [])
    (taken : TakesAtMost 64 source source') (later : source.faults ≤ source'.faults) where
  unbegun_yet : IsUnbegun disk disk
  unbegun_yet = record { no_store = λ known. empty_no_store disk.history.reads (empty known); images = λ known moment after le. absurd (omega (arith, after, le)) }

  untouched_by : (f : UpgradeFault) → HasUpgraded d source source' disk disk book (Err f) → DoesUpgrade d source source' disk disk book (Err f)
  untouched_by f answer = record {
    answer = answer;
    whole = λ known bytes told moment after le. absurd (omega (arith, after, le));
    sound = λ known moment le all. all;
    begun = inl refl;
    takes = takes_at_most source source' 64 (old_size d) (omega arith) taken;
    later = later;
    keeps = record {
      tells = refl;
      honest = refl;
      later = omega arith;
      attachment = λ known. record { start = refl; first = refl; found = refl; names = refl };
      faults = omega arith;
      hard = omega arith;
    };
  }

  pub header_fault : (f : UpgradeFault) → HasHeaderFault d source source' f → DoesUpgrade d source source' disk disk book (Err f)
  header_fault (NotAStore at found want) other = untouched_by (NotAStore at found want) (record { other = other; empty = empty; unwritten = refl })
  header_fault Source risen = untouched_by Source (record { empty = empty; risen = risen; left = unbegun_yet })
  header_fault (NotEmpty len) none = absurd none
  header_fault Disk none = absurd none
  header_fault Memory none = absurd none

  pub no_memory : DoesUpgrade d source source' disk disk book (Err Memory)
  no_memory = untouched_by Memory (record { empty = empty; left = unbegun_yet })

-- and its length was asked for before
module _ {E : Type 0} (d : Descriptor) (source source' : SourceState) (old mid new : DiskState) (book : LookUp) (len : ℕ) (counts : DoesLen {E = E} old (Ok len) mid) where
  counted_known : IsKnown old → IsKnown mid
  counted_known = known_on old mid counts.call.tells counts.call.honest

  counted_empty : (IsKnown mid → mid.history.reads ≡ []) → IsKnown old → old.history.reads ≡ []
  counted_empty empty known = ap (λ (h : History). h.reads) (sym counts.same) ∙ empty (counted_known known)

  counted_unbegun : IsUnbegun mid new → IsUnbegun old new
  counted_unbegun left = record {
    no_store = λ known. left.no_store (counted_known known);
    images = λ known moment after le. left.images (counted_known known) moment (subst (λ (h : History). moment_of h < moment) (sym counts.same) after) le;
  }

  pub counted_upgrade : (result : Result (List Bool) UpgradeFault) → HasUpgraded d source source' mid new book result → HasUpgraded d source source' old new book result
  counted_upgrade (Ok set) answer = record {
    empty = counted_empty answer.empty;
    begins = answer.begins;
    count = answer.count;
    taken = λ known. answer.taken (counted_known known);
    stored = λ known. answer.stored (counted_known known);
  }
  counted_upgrade (Err (NotEmpty n)) answer = record {
    some = answer.some;
    counted = λ known. answer.counted (counted_known known) ∙ ap (λ (h : History). length h.reads) counts.same;
    unread = answer.unread;
    unwritten = answer.unwritten ∙ counts.same;
  }
  counted_upgrade (Err (NotAStore at found want)) answer = record {
    other = answer.other;
    empty = counted_empty answer.empty;
    unwritten = answer.unwritten ∙ counts.same;
  }
  counted_upgrade (Err Source) answer = record { empty = counted_empty answer.empty; risen = answer.risen; left = counted_unbegun answer.left }
  counted_upgrade (Err Disk) answer = λ below. let r : mid.faults < new.faults = answer below in omega (arith, r, counts.call.cause.later)
  counted_upgrade (Err Memory) answer = record { empty = counted_empty answer.empty; left = counted_unbegun answer.left }
