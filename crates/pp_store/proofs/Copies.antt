-- Slots that are copied, one after the other.
use Rattle.std.proofs.Common.{◌≡◌, ◌⊎◌, ⊎_elim, ℕ, suc, ◌+◌, ◌-◌, ◌*◌, ◌%◌, ◌^◌, ◌<◌, ◌≤◌, ◌==◌, min, Bool, false, Option, Some, List, [], ◌∷◌, ◌++◌, length, get_or, drop, Result, Ok, Err, OnOk, sym, ◌∙◌, ap, subst, arith}
use Rattle.std.proofs.Math.Pow.{pow_mono}
use Rattle.std.proofs.lemmas.Bool.{cases_lt, cases_eq, eqb-false}
use Rattle.std.proofs.lemmas.List.{length-drop, length-append, drop-drop, drop_all, get_or-drop, get_or_append_left, get_or_past}
use Rattle.pp_terms.specs.format.Descriptor.{Descriptor, height_of}
use Rattle.pp_terms.specs.disk.Store.{chunk_place, gate_place, slot_size, file_size}
use Rattle.pp_terms.specs.disk.Disk.{DiskState, written}
use Rattle.pp_terms.specs.command.Stream.{SourceState}
use Rattle.pp_terms.proofs.Images.{length-written, written_inside, written_outside}
use Rattle.pp_store.specs.Import.{TakesAtMost}
use Rattle.pp_store.specs.Old.{old_slot_size}
use Rattle.pp_store.specs.Upgrade.{IsCopied, CopiesSlot, HasFault}
use Rattle.pp_store.specs.declared.upgrading.UpgradeFault.{UpgradeFault}
use Rattle.pp_store.specs.declared.upgrading.UpgradeFault.TheVariants.{NotEmpty, NotAStore, Source, Disk, Memory}
use Rattle.pp_store.proofs.Pieces.{slot_order}
use Rattle.pp_store.proofs.Stretching.{power_low}

-- So many slots were copied of what the source was to give.
pub record IsCopying (chunk count : ℕ) (left : Option (List ℕ)) (reads : List ℕ) : Type 0 where
  pub size : length reads ≤ chunk_place chunk count
  pub gates : (i : ℕ) → get_or reads (gate_place chunk i) 0 ≡ 0
  pub bytes : (told : List ℕ) → left ≡ Some told → (i r : ℕ) → i < count → r < old_slot_size chunk
      → get_or reads (chunk_place chunk i + r) 0 ≡ get_or told (i * old_slot_size chunk + r) 0

pub copying_first : (chunk : ℕ) (left : Option (List ℕ)) (reads : List ℕ) → length reads ≤ 64 → IsCopying chunk 0 left reads
copying_first chunk left reads short = record {
  size = omega (arith, short);
  gates = λ i. get_or_past reads (gate_place chunk i) 0 (omega (arith, short));
  bytes = λ told is i r lt low. absurd (omega (arith, lt));
}

module _ (chunk count : ℕ) (more : Bool) (left mid next : Option (List ℕ)) (reads reads' : List ℕ) (is : IsCopying chunk count left reads)
    (taken : (told : List ℕ) → left ≡ Some told → mid ≡ Some (drop (count * old_slot_size chunk) told)) (one : CopiesSlot chunk count more mid next reads reads') where
  next_slot : suc count * slot_size chunk ≡ count * slot_size chunk + slot_size chunk
  next_slot = omega arith

  long : length (written reads (chunk_place chunk count) one.bytes) ≤ chunk_place chunk (suc count)
  long = omega (arith, length-written reads (chunk_place chunk count) one.bytes, one.size, is.size, next_slot)

  -- what stands in another slot
  elsewhere : (i r : ℕ) → (i ≡ count → ⊥) → r < slot_size chunk
      → get_or (written reads (chunk_place chunk count) one.bytes) (chunk_place chunk i + r) 0 ≡ get_or reads (chunk_place chunk i + r) 0
  elsewhere i r ne low = written_outside reads (chunk_place chunk count) one.bytes (chunk_place chunk i + r) (λ w. ⊎_elim
      (λ before. let le = slot_order (slot_size chunk) i count before in omega (arith, w.0, le, low))
      (λ behind. let le = slot_order (slot_size chunk) count i (omega (arith, behind, ne)) in omega (arith, w.1, le, one.size))
      (cases_lt i count))

  here : (r : ℕ) → r < slot_size chunk → get_or (written reads (chunk_place chunk count) one.bytes) (chunk_place chunk count + r) 0 ≡ get_or one.bytes r 0
  here r low = written_inside reads (chunk_place chunk count) one.bytes r (omega (arith, one.size, low))

  copied_slot : IsCopying chunk (suc count) left (written reads (chunk_place chunk count) one.bytes)
  copied_slot = record {
    size = long;
    gates = λ i.
        let at : chunk_place chunk i + old_slot_size chunk ≡ gate_place chunk i = omega arith in
        ap (λ (p : ℕ). get_or (written reads (chunk_place chunk count) one.bytes) p 0) (sym at) ∙ ⊎_elim
        (λ same.
        ap (λ (j : ℕ). get_or (written reads (chunk_place chunk count) one.bytes) (chunk_place chunk j + old_slot_size chunk) 0) same
        ∙ here (old_slot_size chunk) (omega arith) ∙ one.closed)
        (λ other. elsewhere i (old_slot_size chunk) other (omega arith) ∙ ap (λ (p : ℕ). get_or reads p 0) at ∙ is.gates i)
        (cases_eq i count);
    bytes = λ told at i r lt low. ⊎_elim
        (λ same.
        ap (λ (j : ℕ). get_or (written reads (chunk_place chunk count) one.bytes) (chunk_place chunk j + r) 0) same
        ∙ here r (omega (arith, low)) ∙ one.given (drop (count * old_slot_size chunk) told) (taken told at) r low
        ∙ get_or-drop (count * old_slot_size chunk) told r 0 ∙ ap (λ (j : ℕ). get_or told (j * old_slot_size chunk + r) 0) (sym same))
        (λ other. elsewhere i r other (omega (arith, low)) ∙ is.bytes told at i r (omega (arith, lt, other)) low)
        (cases_eq i count);
  }

  pub copying_more : IsCopying chunk (count + 1) left reads'
  copying_more =
      let up : suc count ≡ count + 1 = omega arith in
      subst (λ (r : List ℕ). IsCopying chunk (count + 1) left r) (sym one.wrote) (subst (λ (n : ℕ). IsCopying chunk n left (written reads (chunk_place chunk count) one.bytes)) up copied_slot)

  pub taken_more : (told : List ℕ) → left ≡ Some told → next ≡ Some (drop ((count + 1) * old_slot_size chunk) told)
  taken_more told at =
      let sum : old_slot_size chunk + count * old_slot_size chunk ≡ (count + 1) * old_slot_size chunk = omega arith in
      one.left (drop (count * old_slot_size chunk) told) (taken told at)
      ∙ ap Some (drop-drop (old_slot_size chunk) (count * old_slot_size chunk) told ∙ ap (λ (n : ℕ). drop n told) (let z : count * old_slot_size chunk + old_slot_size chunk ≡ (count + 1) * old_slot_size chunk = omega arith in z))

  -- the source has ended
  pub told_short : more ≡ false → (told : List ℕ) → left ≡ Some told → length told ≤ (count + 1) * old_slot_size chunk
  told_short done told at =
      let few = one.ended (drop (count * old_slot_size chunk) told) (taken told at) done in
      let sum : (count + 1) * old_slot_size chunk ≡ count * old_slot_size chunk + old_slot_size chunk = omega arith in
      omega (arith, few, length-drop (count * old_slot_size chunk) told, sum)

-- All slots that may be were copied, or the source has ended before.
pub copied_all : (d : Descriptor) (left : Option (List ℕ)) (count : ℕ) (reads : List ℕ) → IsCopying d.chunk count left reads → count ≤ 2 ^ height_of d
    → (count ≡ 2 ^ height_of d) ⊎ ((told : List ℕ) → left ≡ Some told → length told ≤ count * old_slot_size d.chunk) → IsCopied d left reads
copied_all d left count reads is most ends = record {
  size = ⊎_elim
      (λ less. let le = slot_order (slot_size d.chunk) count (2 ^ height_of d) less in omega (arith, is.size, le))
      (λ all. let same : chunk_place d.chunk count ≡ file_size d = ap (λ (n : ℕ). chunk_place d.chunk n) (let e : count ≡ 2 ^ height_of d = omega (arith, all, most) in e) in
      omega (arith, is.size, same))
      (cases_lt count (2 ^ height_of d));
  gates = is.gates;
  bytes = λ told at i r lt low. ⊎_elim
      (λ before. is.bytes told at i r before low)
      (λ behind. ⊎_elim
      (λ all. absurd (omega (arith, all, behind, lt)))
      (λ ended.
      let short = ended told at in
      let one : count * slot_size d.chunk ≤ i * slot_size d.chunk = times count i (slot_size d.chunk) behind in
      let two : count * old_slot_size d.chunk ≤ i * old_slot_size d.chunk = times count i (old_slot_size d.chunk) behind in
      get_or_past reads (chunk_place d.chunk i + r) 0 (omega (arith, is.size, one))
      ∙ sym (get_or_past told (i * old_slot_size d.chunk + r) 0 (omega (arith, short, two))))
      ends)
      (cases_lt i count);
}
  where
    times : (a b w : ℕ) → a ≤ b → a * w ≤ b * w
    times a b w le = grind (arith, le)

-- the file gets its length
module _ (d : Descriptor) (left : Option (List ℕ)) (reads : List ℕ) (is : IsCopied d left reads) (some : 64 < file_size d) where
  pub longer_size : length (written reads (file_size d - 1) (0 ∷ [])) ≡ file_size d
  longer_size = omega (arith, length-written reads (file_size d - 1) (0 ∷ []), is.size, some)

  pub longer_copied : IsCopied d left (written reads (file_size d - 1) (0 ∷ []))
  longer_copied = record {
    size = omega (arith, longer_size);
    gates = λ i. ⊎_elim
        (λ last.
        let at : file_size d - 1 + 0 ≡ gate_place d.chunk i = omega (arith, last) in
        ap (λ (p : ℕ). get_or (written reads (file_size d - 1) (0 ∷ [])) p 0) (sym at) ∙ written_inside reads (file_size d - 1) (0 ∷ []) 0 (omega arith))
        (λ other. written_outside reads (file_size d - 1) (0 ∷ []) (gate_place d.chunk i) (λ w. other (omega (arith, w.0, w.1))) ∙ is.gates i)
        (cases_eq (gate_place d.chunk i) (file_size d - 1));
    bytes = λ told at i r lt low.
        let le = slot_order (slot_size d.chunk) i (2 ^ height_of d) lt in
        written_outside reads (file_size d - 1) (0 ∷ []) (chunk_place d.chunk i + r) (λ w. omega (arith, w.0, le, low)) ∙ is.bytes told at i r lt low;
  }

-- ---- the source and the faults

pub takes_both : (old mid new : SourceState) (one two most : ℕ) → one + two ≤ most → TakesAtMost one old mid → TakesAtMost two mid new → TakesAtMost most old new
takes_both old mid new one two most le first second content told =
    let (n, few, left) = first content told in
    let (m, low, rest) = second (drop n content) left in
    (n + m, omega (arith, few, low, le), rest ∙ ap Some (drop-drop m n content))

pub slots_fault : (f : UpgradeFault) (source mid source' : SourceState) (disk between disk' : DiskState) → source.faults ≤ mid.faults → disk.faults ≤ between.faults
    → HasFault f mid source' between disk' → HasFault f source source' disk disk'
slots_fault (NotEmpty len) source mid source' disk between disk' le later fault = fault
slots_fault (NotAStore at found want) source mid source' disk between disk' le later fault = fault
slots_fault Memory source mid source' disk between disk' le later fault = fault
slots_fault Source source mid source' disk between disk' le later fault = λ below. let r : mid.faults < source'.faults = fault below in omega (arith, r, le)
slots_fault Disk source mid source' disk between disk' le later fault = λ below. let r : between.faults < disk'.faults = fault below in omega (arith, r, later)

-- the slots' numbers
pub slot_low : (h slot : ℕ) → h ≤ 20 → slot < 1 * 2 ^ h % 2 ^ 32 → (slot < 2 ^ h) × (slot < 2 ^ 20)
slot_low h slot low lt =
    let up : 2 ^ h ≤ 2 ^ 20 = pow_mono low in
    let same = power_low h low in
    (omega (arith, lt, same), omega (arith, lt, same, up))

pub all_slots : (h slot : ℕ) → h ≤ 20 → slot ≤ 1 * 2 ^ h % 2 ^ 32 → 1 * 2 ^ h % 2 ^ 32 ≤ slot → slot ≡ 2 ^ h
all_slots h slot low le ge = let same = power_low h low in omega (arith, le, ge, same)

-- one slot, by what was read
pub slot_copied : (chunk slot count : ℕ) (source source' : Option (List ℕ)) (reads reads' bytes : List ℕ) → length bytes ≡ slot_size chunk
    → reads' ≡ written reads (chunk_place chunk slot) bytes → get_or bytes (length bytes - 1) 0 ≡ 0
    → ((told : List ℕ) → source ≡ Some told → (count ≡ min (length told) (length bytes - 1)) × (source' ≡ Some (drop count told)))
    → ((told : List ℕ) → source ≡ Some told → (r : ℕ) → r < length bytes - 1 → get_or bytes r 0 ≡ get_or told r 0)
    → CopiesSlot chunk slot (count == chunk + 64) source source' reads reads'
slot_copied chunk slot count source source' reads reads' bytes size wrote closed read given =
    let last : length bytes - 1 ≡ old_slot_size chunk = omega (arith, size) in
    record {
      bytes = bytes;
      size = size;
      wrote = wrote;
      closed = ap (λ (p : ℕ). get_or bytes p 0) (sym last) ∙ closed;
      given = λ told at r low. given told at r (omega (arith, last, low));
      left = λ told at. (read told at).1 ∙ ap Some (⊎_elim
          (λ short. drop_all count told (omega (arith, (read told at).0, last, short)) ∙ sym (drop_all (old_slot_size chunk) told (omega (arith, short))))
          (λ long. ap (λ (n : ℕ). drop n told) (let e : count ≡ old_slot_size chunk = omega (arith, (read told at).0, last, long) in e))
          (cases_lt (length told) (old_slot_size chunk)));
      ended = λ told at less. let ne = eqb-false count (chunk + 64) less in omega (arith, (read told at).0, last, ne);
    }

-- what stands in front of the gate
pub slot_bytes : {E : Type 0} (result : Result ℕ E) (buffer rest told : List ℕ) → length rest ≡ 1
    → OnOk result ((k : ℕ) → k < length buffer → get_or buffer k 0 ≡ get_or told k 0)
    → OnOk result ((r : ℕ) → r < length (buffer ++ rest) - 1 → get_or (buffer ++ rest) r 0 ≡ get_or told r 0)
slot_bytes (Err fault) buffer rest told one given = tt
slot_bytes (Ok n) buffer rest told one given = λ r low.
    let lt : r < length buffer = omega (arith, low, length-append buffer rest, one) in
    get_or_append_left buffer rest 0 r lt ∙ given r lt
