-- How an import goes on and ends.
use Rattle.std.proofs.Common.{◌≡◌, ◌⊎◌, ◌↔◌, inl, inr, ⊎_elim, ℕ, zero, suc, ◌+◌, ◌-◌, ◌*◌, ◌/◌, ◌%◌, ◌<◌, ◌≤◌, min, Bool, true, false, IsTrue, Some, List, [], length, get_or, take, drop, replicate, Result, Ok, Err, OnOk, IfOk, IfErr, refl, sym, ◌∙◌, ap, subst, arith}
use Rattle.std.proofs.lemmas.Bool.{cases_eq, cases_lt, false≢true}
use Rattle.std.proofs.lemmas.List.{length-take, length-drop, drop-drop}
use Rattle.pp_terms.specs.tree.Content.{chunk_count, IsChunkSize, IsContentSize}
use Rattle.pp_terms.specs.tree.Tree.{above}
use Rattle.pp_terms.specs.format.Descriptor.{Descriptor}
use Rattle.pp_terms.specs.disk.Store.{header, IsStoreOf}
use Rattle.pp_terms.specs.disk.Disk.{DiskState, History, IsKnown, Throughout, moment_of, written}
use Rattle.pp_terms.specs.command.Stream.{SourceState}
use Rattle.pp_terms.proofs.Knowing.{known_on}
use Rattle.pp_tree.proofs.Sizes.{chunk_size_range}
use Rattle.pp_store.specs.declared.importing.ImportFault.{ImportFault}
use Rattle.pp_store.specs.declared.importing.ImportFault.TheVariants.{NotEmpty, ContentSize, Source, Disk}
use Rattle.pp_store.specs.Keep.{KeepsDisk, kept}
use Rattle.pp_store.specs.Behind.{IsBehind, KeepsBehind}
use Rattle.pp_store.specs.Imported.{imported}
use Rattle.pp_store.specs.Growing.{IsContent, IsPartial, IsNext, IsWhole}
use Rattle.pp_scan.specs.Look.{synced}
use Rattle.pp_store.specs.Front.{DoesFront, Leaves}
use Rattle.pp_store.specs.Import.{most_bytes, TakesAtMost, IsUnbegun, IsDiskFault, HasAnswer, HasFault, LeavesWholeStores, DoesImport, IsLeft, unfinished, finished}
use Rattle.pp_store.proofs.Nexts.{counted_more, counted_all, counted_below, full_whole}
use Rattle.pp_store.proofs.Writings.{behind_more, behind_keeps}
use Rattle.pp_store.specs.Sound.{StaysSound}
use Rattle.pp_store.specs.Store.{cleared}
use Rattle.pp_store.proofs.Staying.{clearing_sound, importing_sound, finishing_sound}
use Rattle.pp_store.proofs.Sealing.{cleared-moment-of, clearing_right, walking_right, sealing_right, walking_none, walking_reads, unsynced_none, leaves-moment, stored, attachment_left}

-- what was read is the content's next chunks
pub piece_next : (chunk : ℕ) (content : List ℕ) (count n : ℕ) (buffer : List ℕ) → IsChunkSize chunk → length buffer ≡ 65536 → count * chunk ≤ length content
    → n ≡ min (length (drop (count * chunk) content)) (length buffer) → take n buffer ≡ take n (drop (count * chunk) content)
    → IsNext chunk content count (take n buffer)
piece_next chunk content count n buffer size long low counted same =
    let rest : length (drop (count * chunk) content) ≡ length content - count * chunk = length-drop (count * chunk) content in
    let all : length (take n buffer) ≡ n = length-take n buffer ∙ omega arith in
    record {
      given = same ∙ ap (λ (k : ℕ). take k (drop (count * chunk) content)) (sym all);
      inside = omega arith;
      whole = ⊎_elim
          (λ short. inr (omega arith))
          (λ full. let e : length (take n buffer) ≡ 65536 = omega arith in inl (ap (λ (k : ℕ). k % chunk) e ∙ full_whole chunk size))
          (cases_lt n 65536);
    }

-- a content of which nothing is stored yet
above-zero : (k : ℕ) → above k 0 ≡ 0
above-zero zero = refl
above-zero (suc k) = ap (λ (x : ℕ). x / 2) (above-zero k)

-- each byte of zeros
zero_there : (n k : ℕ) → get_or (replicate {A = ℕ} n 0) k 0 ≡ 0
zero_there zero k = refl
zero_there (suc n) zero = refl
zero_there (suc n) (suc k) = zero_there n k

pub partial_none : (chunk : ℕ) (content : List ℕ) (peaks : List (List ℕ)) (disk : DiskState) → IsContent chunk content
    → (IsKnown disk → disk.history.reads ≡ replicate 8 0) → IsPartial chunk content 0 peaks disk
partial_none chunk content peaks disk fits begins = record {
  fits = fits;
  within = omega arith;
  peak = λ k odd. absurd (let none = above-zero k in omega arith);
  stored = λ known. record {
    staged = record {
      zeros = λ k outside. ap (λ (bytes : List ℕ). get_or bytes k 0) (begins known) ∙ zero_there 8 k;
      size = let long : length disk.history.reads ≡ 8 = ap (λ (bytes : List ℕ). length bytes) (begins known) in omega (arith, long);
    };
    chunks = λ i lt. absurd (omega arith);
    pairs = λ k j lt. absurd (let none = above-zero (suc k) in omega arith);
  };
}

-- a full buffer is cut into chunks with no rest
full_count : (chunk : ℕ) → IsChunkSize chunk → chunk_count 65536 chunk * chunk ≡ 65536
full_count chunk size =
    let range = chunk_size_range chunk size in
    let whole = full_whole chunk size in
    let some : 0 < chunk = omega arith in
    let q = 65536 / chunk in
    let is : q * chunk ≡ 65536 = omega arith in
    let low : q ≤ chunk_count 65536 chunk = ⊎_elim (λ none. omega arith) (λ more.
    let less : (q - 1) * chunk < 65536 = (let down : q - 1 + 1 ≡ q = omega arith in let e : (q - 1 + 1) * chunk ≡ q * chunk = ap (λ (x : ℕ). x * chunk) down in omega arith) in
    let in_it = counted_below 65536 chunk (q - 1) some less in omega arith) (cases_lt q 1) in
    let all = counted_all 65536 chunk q some (omega (arith, is)) low in
    ap (λ (x : ℕ). x * chunk) (sym all) ∙ is

-- the rounds of the loop, so many of full buffers
pub record IsRound (chunk counter size count : ℕ) : Type 0 where
  pub size_is : size ≡ 65536 * counter
  pub count_is : count * chunk ≡ size

pub round_first : (chunk count : ℕ) → count ≡ 0 → IsRound chunk 0 0 count
round_first chunk count none = record { size_is = omega arith; count_is = ap (λ (x : ℕ). x * chunk) none ∙ omega arith }

pub round_more : (chunk counter size count n count' : ℕ) → IsChunkSize chunk → IsRound chunk counter size count → 65536 ≤ n → n ≤ 65536
    → count' ≡ count + chunk_count n chunk → IsRound chunk (counter + 1) (size + n) count'
round_more chunk counter size count n count' chunk_size is full few more =
    let e : n ≡ 65536 = omega arith in
    let times : chunk_count n chunk * chunk ≡ 65536 = ap (λ (x : ℕ). chunk_count x chunk * chunk) e ∙ full_count chunk chunk_size in
    record {
      size_is = omega (arith, is.size_is);
      count_is = ap (λ (x : ℕ). x * chunk) more ∙ omega (arith, is.count_is);
    }

pub round_low : (chunk counter size count : ℕ) → IsRound chunk counter size count → counter < 16 * chunk → size + 65536 ≤ most_bytes chunk
round_low chunk counter size count is lt = omega (arith, is.size_is)

pub round_last : (chunk counter size count : ℕ) → IsRound chunk counter size count → counter ≤ 16 * chunk → 16 * chunk ≤ counter → size ≡ most_bytes chunk
round_last chunk counter size count is le ge = omega (arith, is.size_is)

-- how many chunks were stored
pub round_counted : (chunk counter size count n count' : ℕ) → IsChunkSize chunk → IsRound chunk counter size count → count' ≡ count + chunk_count n chunk
    → count' ≡ chunk_count (size + n) chunk
round_counted chunk counter size count n count' chunk_size is more =
    let range = chunk_size_range chunk chunk_size in
    more ∙ counted_more chunk count n (omega arith) ∙ ap (λ (x : ℕ). chunk_count (x + n) chunk) is.count_is

pub round_all : (chunk counter size count : ℕ) → IsChunkSize chunk → IsRound chunk counter size count → count ≡ chunk_count size chunk
round_all chunk counter size count chunk_size is =
    let none : chunk_count 0 chunk ≡ 0 = (let range = chunk_size_range chunk chunk_size in sym (counted_all 0 chunk 0 (omega arith) (omega arith) (omega arith))) in
    let e : count ≡ count + chunk_count 0 chunk = omega arith in
    round_counted chunk counter size count 0 count chunk_size is e ∙ ap (λ (x : ℕ). chunk_count x chunk) (let z : size + 0 ≡ size = omega arith in z)

-- so many bytes were read of what the source told
abbrev pub HasRead : SourceState → SourceState → ℕ → Type 0
HasRead old new size = (content : List ℕ) → old.left ≡ Some content → (size ≤ length content) × (new.left ≡ Some (drop size content))

pub read_none : (source : SourceState) → HasRead source source 0
read_none source content told = (omega arith, told)

pub read_more : (old mid new : SourceState) (size n : ℕ) → HasRead old mid size
    → ((left : List ℕ) → mid.left ≡ Some left → (n ≡ min (length left) 65536) × (new.left ≡ Some (drop n left))) → HasRead old new (size + n)
read_more old mid new size n before reads content told =
    let so_far = before content told in
    let more = reads (drop size content) so_far.1 in
    (omega (arith, so_far.0, more.0, length-drop size content), more.1 ∙ ap Some (drop-drop n size content))

pub read_end : (chunk : ℕ) (old mid new : SourceState) (size n : ℕ) → HasRead old mid size → size + 65536 ≤ most_bytes chunk → n < 65536
    → ((left : List ℕ) → mid.left ≡ Some left → (n ≡ min (length left) 65536) × (new.left ≡ Some (drop n left)))
    → (content : List ℕ) → old.left ≡ Some content → (size + n ≡ min (length content) (most_bytes chunk)) × (new.left ≡ Some (drop (size + n) content))
read_end chunk old mid new size n before low short reads content told =
    let all = read_more old mid new size n before reads content told in
    let so_far = before content told in
    let more = reads (drop size content) so_far.1 in
    (omega (arith, so_far.0, more.0, length-drop size content), all.1)

pub takes_read : (old new : SourceState) (size most : ℕ) → size ≤ most → HasRead old new size → TakesAtMost most old new
takes_read old new size most le reads content told = (size, le, (reads content told).1)

pub takes_more : (old mid new : SourceState) (size more most : ℕ) → size + more ≤ most → HasRead old mid size → TakesAtMost more mid new → TakesAtMost most old new
takes_more old mid new size more most le reads takes content told =
    let so_far = reads content told in
    let (n, few, left) = takes (drop size content) so_far.1 in
    (size + n, omega arith, left ∙ ap Some (drop-drop n size content))

-- what was read, where that is the whole content or the greatest part
pub reads_some : (chunk : ℕ) (old new : SourceState) (size : ℕ)
    → ((content : List ℕ) → old.left ≡ Some content → (size ≡ min (length content) (most_bytes chunk)) × (new.left ≡ Some (drop size content))) → HasRead old new size
reads_some chunk old new size reads content told = let all = reads content told in (omega (arith, all.0), all.1)

-- a fault after other calls
pub fault_later : (f : ImportFault) (source mid source' : SourceState) (disk between disk' : DiskState) → source.faults ≤ mid.faults → KeepsBehind disk between
    → HasFault f mid source' between disk' → HasFault f source source' disk disk'
fault_later (NotEmpty len) source mid source' disk between disk' le keeps fault = fault
fault_later (ContentSize count) source mid source' disk between disk' le keeps fault = fault
fault_later Source source mid source' disk between disk' le keeps fault = λ below. let r : mid.faults < source'.faults = fault below in omega arith
fault_later Disk source mid source' disk between disk' le keeps fault = record {
  risen = λ below. let r : between.faults < disk'.faults = fault.risen below in omega (arith, keeps.faults);
  hard = λ below. let r : between.hard < disk'.hard = fault.hard below in omega (arith, keeps.hard);
}

pub takes_at_most : (old new : SourceState) (few most : ℕ) → few ≤ most → TakesAtMost few old new → TakesAtMost most old new
takes_at_most old new few most le takes content told = let (n, low, left) = takes content told in (n, omega arith, left)

-- a front that was kept, and what was done before and after it
pub front_keeps : {E : Type 0} (bytes : List ℕ) (old new : DiskState) (result : Result (Unit {0}) E) → DoesFront bytes old result new → KeepsDisk old new
front_keeps bytes old new result does = record {
  tells = does.tells;
  honest = does.honest;
  later = does.later;
  attachment = λ known. attachment_left bytes old.history old.history new.history (record { start = refl; first = refl; found = refl; names = refl }) (does.leaves known);
  faults = does.cause.later;
  hard = does.hard_cause.later;
}

pub disk_more : (old mid new : DiskState) → KeepsDisk old mid → KeepsDisk mid new → KeepsDisk old new
disk_more old mid new one two = record {
  tells = two.tells ∙ one.tells;
  honest = two.honest ∙ one.honest;
  later = omega (arith, one.later, two.later);
  attachment = λ known. let a = one.attachment known in let b = two.attachment (known_on old mid one.tells one.honest known) in
      record { start = b.start ∙ a.start; first = b.first ∙ a.first; found = b.found ∙ a.found; names = b.names ∙ a.names };
  faults = omega (arith, one.faults, two.faults);
  hard = omega (arith, one.hard, two.hard);
}

-- what a cleared file reads
pub cleared_reads : {E : Type 0} (disk front : DiskState) (u : Unit {0}) → (IsKnown disk → disk.history.reads ≡ []) → DoesFront {E = E} (replicate 8 0) disk (Ok u) front
    → IsKnown front → front.history.reads ≡ replicate 8 0
cleared_reads disk front u empty does known_front =
    let known = known_on front disk (sym does.tells) (sym does.honest) known_front in
    ap (λ (h : History). h.reads) (does.done known) ∙ ap (λ (r : List ℕ). written r 0 (replicate 8 0)) (empty known)

-- the file wasn't cleared
pub clearing_fault : {E : Type 0} (chunk : ℕ) (source : SourceState) (disk new : DiskState) (fault : E) → (IsKnown disk → disk.history.reads ≡ [])
    → DoesFront (replicate 8 0) disk (Err fault) new → DoesImport chunk source source disk new (Err Disk)
clearing_fault chunk source disk new fault empty does = record {
  answer = record { risen = does.cause.risen refl; hard = does.hard_cause.risen refl };
  whole = λ known content told. clearing_right chunk content disk.history (empty known) new.history (does.leaves known);
  sound = λ known content told fits. clearing_sound chunk content fits disk.history (empty known) new.history (does.leaves known);
  no_store = λ known. unsynced_none disk.history new.history (empty known) (does.leaves known);
  takes = λ content told. (0, omega arith, told);
  later = omega arith;
  keeps = front_keeps (replicate 8 0) disk new (Err fault) does;
}

-- The file was cleared, and pieces were written behind that.
module _ {E : Type 0} (chunk : ℕ) (source source' : SourceState) (disk mid disk' : DiskState) (u : Unit {0}) (empty : IsKnown disk → disk.history.reads ≡ [])
    (clears : DoesFront {E = E} (replicate 8 0) disk (Ok u) mid) (keeps : KeepsBehind mid disk')
    (takes : TakesAtMost (most_bytes chunk + 1) source source') (later : source.faults ≤ source'.faults) where
  behind : IsKnown disk → IsBehind (cleared disk.history) disk'.history
  behind known = subst (λ (h : History). IsBehind h disk'.history) (clears.done known) (keeps.behind (known_on disk mid clears.tells clears.honest known))

  unbegun_left : IsUnbegun disk disk'
  unbegun_left = record {
    no_store = λ known. walking_reads disk.history disk'.history (empty known) (behind known);
    images = λ known m after le. walking_none disk.history disk'.history (empty known) (behind known) m after;
  }

  unbegun_import : (f : ImportFault) → HasAnswer chunk source source' disk disk' (Err f) → DoesImport chunk source source' disk disk' (Err f)
  unbegun_import f answer = record {
    answer = answer;
    whole = λ known content told m after le. walking_right chunk content disk.history (empty known) disk'.history (behind known) m after;
    sound = λ known content told fits. importing_sound chunk content fits disk.history (empty known) disk'.history (behind known);
    no_store = λ known same. walking_reads disk.history disk'.history (empty known) (behind known);
    takes = takes;
    later = later;
    keeps = disk_more disk mid disk' (front_keeps (replicate 8 0) disk mid (Ok u) clears) (behind_keeps mid disk' keeps);
  }

  pub import_fault : (f : ImportFault) → HasFault f source source' mid disk' → DoesImport chunk source source' disk disk' (Err f)
  import_fault f fault = unbegun_import f (answer f fault)
    where
      answer : (g : ImportFault) → HasFault g source source' mid disk' → HasAnswer chunk source source' disk disk' (Err g)
      answer (NotEmpty len) h = absurd h
      answer (ContentSize count) h = absurd h
      answer Source h = record { empty = empty; risen = h; left = unbegun_left }
      answer Disk h = record {
        risen = λ below. let r : mid.faults < disk'.faults = h.risen below in omega (arith, clears.cause.later);
        hard = λ below. let r : mid.hard < disk'.hard = h.hard below in omega (arith, clears.hard_cause.later);
      }

  pub import_none : (count : ℕ) → (count ≡ 0) ⊎ (count ≡ most_bytes chunk + 1)
      → ((content : List ℕ) → source.left ≡ Some content → count ≡ min (length content) (most_bytes chunk + 1))
      → DoesImport chunk source source' disk disk' (Err (ContentSize count))
  import_none count either counted = unbegun_import (ContentSize count) (record { empty = empty; either = either; counted = counted; left = unbegun_left })

-- a content of no byte, and one that goes on behind the greatest
pub counted_none : (chunk : ℕ) (source mid : SourceState) (size : ℕ) → IsChunkSize chunk → size ≡ 0
    → ((content : List ℕ) → source.left ≡ Some content → (size ≡ min (length content) (most_bytes chunk)) × (mid.left ≡ Some (drop size content)))
    → (content : List ℕ) → source.left ≡ Some content → 0 ≡ min (length content) (most_bytes chunk + 1)
counted_none chunk source mid size chunk_size none reads content told =
    let range = chunk_size_range chunk chunk_size in
    let all = reads content told in omega (arith, all.0)

pub counted_over : (chunk : ℕ) (source mid : SourceState) (size : ℕ) (over : Bool) → over ≡ true
    → ((content : List ℕ) → source.left ≡ Some content → (size ≡ min (length content) (most_bytes chunk)) × (mid.left ≡ Some (drop size content)))
    → ((left : List ℕ) → mid.left ≡ Some left → IsTrue over ↔ ((size ≡ most_bytes chunk) × (0 < length left)))
    → (content : List ℕ) → source.left ≡ Some content → size + 1 ≡ min (length content) (most_bytes chunk + 1)
counted_over chunk source mid size over is reads test content told =
    let all = reads content told in
    let more = (test (drop size content) all.1).0 is in
    omega (arith, all.0, more.0, more.1, length-drop size content)

-- all was read
pub read_whole : (chunk : ℕ) (source mid : SourceState) (size : ℕ) (over : Bool) → over ≡ false
    → ((content : List ℕ) → source.left ≡ Some content → (size ≡ min (length content) (most_bytes chunk)) × (mid.left ≡ Some (drop size content)))
    → ((left : List ℕ) → mid.left ≡ Some left → IsTrue over ↔ ((size ≡ most_bytes chunk) × (0 < length left)))
    → (content : List ℕ) → source.left ≡ Some content → length content ≡ size
read_whole chunk source mid size over is reads test content told =
    let all = reads content told in
    let none : (size ≡ most_bytes chunk) × (0 < length (drop size content)) → ⊥ = (λ both. false≢true (sym is ∙ (test (drop size content) all.1).1 both)) in
    ⊎_elim
    (λ full. ⊎_elim (λ some. absurd (none (full, some))) (λ last. omega (arith, all.0, length-drop size content)) (cases_lt 0 (length (drop size content))))
    (λ short. let ne : size ≡ most_bytes chunk → ⊥ = short in omega (arith, all.0))
    (cases_eq size (most_bytes chunk))

-- The chunks are stored.
module _ {E : Type 0} (chunk : ℕ) (source source' : SourceState) (disk front mid new : DiskState) (u : Unit {0}) (size count : ℕ) (peaks : List (List ℕ)) (chunk_size : IsChunkSize chunk)
    (some : size ≡ 0 → ⊥) (most : size ≤ most_bytes chunk)
    (empty : IsKnown disk → disk.history.reads ≡ []) (clears : DoesFront {E = E} (replicate 8 0) disk (Ok u) front) (keeps : KeepsBehind front mid)
    (all : (content : List ℕ) → source.left ≡ Some content → length content ≡ size)
    (put : (content : List ℕ) → source.left ≡ Some content → IsContent chunk content → IsPartial chunk content count peaks mid) where
  known_front : IsKnown disk → IsKnown front
  known_front = known_on disk front clears.tells clears.honest

  known_mid : IsKnown disk → IsKnown mid
  known_mid known = known_on front mid keeps.tells keeps.honest (known_front known)

  behind_mid : IsKnown disk → IsBehind (cleared disk.history) mid.history
  behind_mid known = subst (λ (h : History). IsBehind h mid.history) (clears.done known) (keeps.behind (known_front known))

  fits : (content : List ℕ) → source.left ≡ Some content → IsContentSize chunk (length content)
  fits content told = let e = all content told in record { some = omega arith; within = omega arith }

  partial : (content : List ℕ) → source.left ≡ Some content → IsPartial chunk content count peaks mid
  partial content told = put content told (record { chunk_size = chunk_size; content_size = fits content told })

  done_answer : (result : Result Descriptor ImportFault)
      → ((content : List ℕ) → length content ≡ size → IsPartial chunk content count peaks mid → IfOk result (λ d. d ≡ imported content chunk))
      → ((content : List ℕ) → length content ≡ size → IsPartial chunk content count peaks mid → IsKnown mid
      → OnOk result (Throughout new.history (moment_of new.history) (IsStoreOf (imported content chunk) content)))
      → IfErr result (λ fault. (fault ≡ Disk) × IsDiskFault mid new) → HasAnswer chunk source source' disk new result
  done_answer (Ok d) described stored' fault = record {
    empty = empty;
    described = λ content told. (fits content told, described content (all content told) (partial content told));
    stored = λ known content told. stored' content (all content told) (partial content told) (known_mid known);
  }
  done_answer (Err f) described stored' fault =
      let risen : IsDiskFault disk new = record {
        risen = λ below. let r : mid.faults < new.faults = fault.1.risen below in omega (arith, keeps.faults, clears.cause.later);
        hard = λ below. let r : mid.hard < new.hard = fault.1.hard below in omega (arith, keeps.hard, clears.hard_cause.later);
      } in
      subst (λ (g : ImportFault). HasAnswer chunk source source' disk new (Err g)) (sym fault.0) risen

  left_whole : IsKnown disk → (h : History) → IsLeft chunk size count peaks mid h → (content : List ℕ) → source.left ≡ Some content → LeavesWholeStores chunk content disk.history h
  left_whole known _ (unfinished h behind) content told m after le =
      walking_right chunk content disk.history (empty known) h (behind_more (cleared disk.history) mid.history h (behind_mid known) behind) m after
  left_whole known _ (finished d walked h behind whole leaves) content told m after le =
      let whole' = whole content (all content told) (partial content told) in
      sealing_right chunk content disk.history (empty known) walked (behind_more (cleared disk.history) mid.history walked (behind_mid known) behind) whole'.1 h
      (subst (λ (x : Descriptor). Leaves (header x) walked h) whole'.0 leaves) m after

  left_sound : IsKnown disk → (h : History) → IsLeft chunk size count peaks mid h → (content : List ℕ) → source.left ≡ Some content → IsContent chunk content
      → StaysSound (imported content chunk) disk.history h
  left_sound known _ (unfinished h behind) content told is =
      importing_sound chunk content is disk.history (empty known) h (behind_more (cleared disk.history) mid.history h (behind_mid known) behind)
  left_sound known _ (finished d walked h behind whole leaves) content told is =
      let whole' = whole content (all content told) (partial content told) in
      finishing_sound chunk content is disk.history (empty known) walked (behind_more (cleared disk.history) mid.history walked (behind_mid known) behind) whole'.1 h
      (subst (λ (x : Descriptor). Leaves (header x) walked h) whole'.0 leaves)

  left_later : IsKnown disk → (h : History) → IsLeft chunk size count peaks mid h → moment_of disk.history < moment_of h
  left_later known _ (unfinished h behind) =
      let same : moment_of h ≡ moment_of (cleared disk.history) = ap (λ past. length past) (behind.past ∙ (behind_mid known).past) in
      omega (arith, same, cleared-moment-of disk.history)
  left_later known _ (finished d walked h behind whole leaves) =
      let same : moment_of walked ≡ moment_of (cleared disk.history) = ap (λ past. length past) (behind.past ∙ (behind_mid known).past) in
      omega (arith, same, cleared-moment-of disk.history, leaves-moment (header d) walked h leaves)

  pub import_done : (result : Result Descriptor ImportFault)
      → ((content : List ℕ) → length content ≡ size → IsPartial chunk content count peaks mid → IfOk result (λ d. d ≡ imported content chunk))
      → ((content : List ℕ) → length content ≡ size → IsPartial chunk content count peaks mid → IsKnown mid
      → OnOk result (Throughout new.history (moment_of new.history) (IsStoreOf (imported content chunk) content)))
      → (IsKnown mid → IsLeft chunk size count peaks mid new.history)
      → IfErr result (λ fault. (fault ≡ Disk) × IsDiskFault mid new) → KeepsDisk mid new
      → TakesAtMost (most_bytes chunk + 1) source source' → source.faults ≤ source'.faults
      → DoesImport chunk source source' disk new result
  import_done result described stored' left fault kept takes later = record {
    answer = done_answer result described stored' fault;
    whole = λ known content told. left_whole known new.history (left (known_mid known)) content told;
    sound = λ known content told fits. left_sound known new.history (left (known_mid known)) content told fits;
    no_store = λ known same. let after = left_later known new.history (left (known_mid known)) in absurd (omega (arith, after, same));
    takes = takes;
    later = later;
    keeps = disk_more disk mid new (disk_more disk front mid (front_keeps (replicate 8 0) disk front (Ok u) clears) (behind_keeps front mid keeps)) kept;
  }

-- The end, once the pairs are written and the file has its length.
module _ {E : Type 0} (chunk size count : ℕ) (peaks : List (List ℕ)) (d : Descriptor) (bytes : List ℕ) (old mid new : DiskState) (result : Result (Unit {0}) E)
    (walk : KeepsBehind old mid) (is_header : bytes ≡ header d) (seals : DoesFront bytes mid result new) where
  known_walked : IsKnown old → IsKnown mid
  known_walked known = known_on old mid walk.tells walk.honest known

  pub sealed_left : ((content : List ℕ) → length content ≡ size → IsPartial chunk content count peaks old → d ≡ imported content chunk)
      → ((content : List ℕ) → length content ≡ size → IsPartial chunk content count peaks old → IsKnown mid → IsWhole chunk content mid.history.reads)
      → IsKnown old → IsLeft chunk size count peaks old new.history
  sealed_left described whole known =
      finished d mid.history new.history (walk.behind known)
      (λ content long part. (described content long part, whole content long part (known_walked known)))
      (subst (λ (b : List ℕ). Leaves b mid.history new.history) is_header (seals.leaves (known_walked known)))

  pub sealed_keeps : KeepsDisk old new
  sealed_keeps = disk_more old mid new (behind_keeps old mid walk) (front_keeps bytes mid new result seals)

pub sealed_store : {E : Type 0} (chunk : ℕ) (content : List ℕ) (d : Descriptor) (bytes : List ℕ) (old mid new : DiskState) (u : Unit {0}) → KeepsBehind old mid
    → bytes ≡ header d → DoesFront {E = E} bytes mid (Ok u) new → d ≡ imported content chunk → (IsKnown mid → IsWhole chunk content mid.history.reads) → IsKnown old
    → Throughout new.history (moment_of new.history) (IsStoreOf (imported content chunk) content)
sealed_store chunk content d bytes old mid new u walk is_header seals is whole known =
    let known' = known_on old mid walk.tells walk.honest known in
    stored chunk content mid.history new.history (whole known')
    (subst (λ (b : List ℕ). new.history ≡ kept (synced mid.history) 0 b) (is_header ∙ ap header is) (seals.done known'))

pub pair_fault : (old mid new : DiskState) → KeepsBehind old mid → IsDiskFault mid new → IsDiskFault old new
pair_fault old mid new keeps fault = record {
  risen = λ below. let r : mid.faults < new.faults = fault.risen below in omega (arith, keeps.faults);
  hard = λ below. let r : mid.hard < new.hard = fault.hard below in omega (arith, keeps.hard);
}
