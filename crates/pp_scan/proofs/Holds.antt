-- The chunks that a file holds, by its book.
use Rattle.std.proofs.Common.{◌≡◌, ⊎_elim, ℕ, suc, ◌-◌, ◌/◌, ◌<◌, ◌==◌, nat_eq, nat_le, Bool, true, false, cond, Option, Some, None, List, [], length, refl, sym, ◌∙◌, ap, arith}
use Rattle.std.specs.Prelude.{◌&&◌, is_some}
use Rattle.std.specs.Cmp.Lexicographic.{pointwise}
use Rattle.std.proofs.lemmas.Bool.{cases_lt, and_right}
use Rattle.std.proofs.lemmas.Bool.Decides.{nat_tests}
use Rattle.sha2.specs.Sha256.{sha256}
use Rattle.pp_terms.specs.tree.Content.{chunk_length}
use Rattle.pp_terms.specs.tree.Book.{LookUp, has_peaks}
use Rattle.pp_terms.specs.format.Descriptor.{Descriptor, chunks_of, height_of}
use Rattle.pp_terms.specs.disk.Image.{slice, known, known_below, matches, holds, is_open, is_found}
use Rattle.pp_terms.specs.disk.Store.{chunk_place, pair_place, HasHeader}
use Rattle.pp_terms.specs.disk.Sound.{IsSound}
use Rattle.pp_terms.proofs.Founds.{found_parts}
use Rattle.pp_tree.specs.Book.{HasRootAlone}
use Rattle.pp_scan.specs.Layers.{HasKnown, HasOnlyKnown}
use Rattle.pp_scan.specs.Holding.{is_there}
use Rattle.pp_scan.proofs.Children.{child_short}

-- the bytes that were read have the digest that the book has
pub there_read : (d : Descriptor) (reads : List ℕ) (book : LookUp) (i place size : ℕ) (bytes digest : List ℕ) (b : Bool)
    → place ≡ chunk_place d.chunk i → size ≡ chunk_length d.size d.chunk i → bytes ≡ slice reads place size → length bytes ≡ size
    → book 0 i ≡ Some digest → b ≡ pointwise nat_eq digest (sha256 bytes) → b ≡ is_there d reads book i
there_read d reads book i place size bytes digest b place_is size_is bytes_is long entry test =
    let want = chunk_length d.size d.chunk i in
    let at : bytes ≡ slice reads (chunk_place d.chunk i) want = bytes_is ∙ (λ j. slice reads (place_is j) (size_is j)) in
    let long' : length (slice reads (chunk_place d.chunk i) want) ≡ want = ap (λ (x : List ℕ). length x) (sym at) ∙ long ∙ size_is in
    let whole : (length (slice reads (chunk_place d.chunk i) want) == want) ≡ true = grind (arith, nat_tests) in
    let same : matches (book 0 i) (sha256 (slice reads (chunk_place d.chunk i) want)) ≡ pointwise nat_eq digest (sha256 bytes) =
    ap (λ (o : Option (List ℕ)). matches o (sha256 (slice reads (chunk_place d.chunk i) want))) entry ∙ ap (λ (x : List ℕ). pointwise nat_eq digest (sha256 x)) (sym at) in
    test ∙ sym same ∙ sym (ap (λ (t : Bool). t && matches (book 0 i) (sha256 (slice reads (chunk_place d.chunk i) want))) whole)

-- where all nodes are known, a chunk that is there is held if all peaks are known
pub held_there : (d : Descriptor) (reads : List ℕ) (book : LookUp) (i : ℕ) → HasKnown d reads book → has_peaks book (chunks_of d) ≡ true
    → is_there d reads book i ≡ holds d reads i
held_there d reads book i known_is peaks =
    let same : book ≡ known d reads = λ t k j. known_is k j t in
    let peaks' : has_peaks (known d reads) (chunks_of d) ≡ true = ap (λ (b : LookUp). has_peaks b (chunks_of d)) (sym same) ∙ peaks in
    let bytes = slice reads (chunk_place d.chunk i) (chunk_length d.size d.chunk i) in
    ap (λ (b : LookUp). is_there d reads b i) same
    ∙ sym (ap (λ (t : Bool). t && (length bytes == chunk_length d.size d.chunk i) && matches (known d reads 0 i) (sha256 bytes)) peaks')

-- in a sound file a chunk that was found is there
pub found_there : (d : Descriptor) (reads : List ℕ) (book : LookUp) (i : ℕ) → HasKnown d reads book → has_peaks book (chunks_of d) ≡ true
    → HasHeader d reads → IsSound d reads → i < chunks_of d → is_found d reads i ≡ true → is_there d reads book i ≡ true
found_there d reads book i known_is peaks begins sound within found =
    held_there d reads book i known_is peaks ∙ sound.held begins i within (found_parts d reads i found).0

-- What is left of a set of open gates, where it tells those of all chunks whose leaf is known.
pub found_is : (d : Descriptor) (reads : List ℕ) (book : LookUp) (i : ℕ) (b : Bool) → HasKnown d reads book
    → (is_some (book 0 i) ≡ true → b ≡ is_open d reads i)
    → (b && has_peaks book (chunks_of d) && is_some (book 0 i)) ≡ is_found d reads i
found_is d reads book i b known_is gate = by (is_some (book 0 i)) refl
    ∙ ap (λ (e : LookUp). is_open d reads i && has_peaks e (chunks_of d) && is_some (e 0 i)) (λ t k j. known_is k j t)
  where
    by : (leaf : Bool) → is_some (book 0 i) ≡ leaf
        → (b && has_peaks book (chunks_of d) && is_some (book 0 i)) ≡ (is_open d reads i && has_peaks book (chunks_of d) && is_some (book 0 i))
    by true at = ap (λ (v : Bool). v && has_peaks book (chunks_of d) && is_some (book 0 i)) (gate at)
    by false at =
        ap (λ (v : Bool). b && has_peaks book (chunks_of d) && v) at ∙ and_right (b && has_peaks book (chunks_of d)) false refl
        ∙ sym (ap (λ (v : Bool). is_open d reads i && has_peaks book (chunks_of d) && v) at ∙ and_right (is_open d reads i && has_peaks book (chunks_of d)) false refl)

-- without all peaks nothing is held
pub none_held : (d : Descriptor) (reads : List ℕ) (book : LookUp) (i : ℕ) → HasKnown d reads book → has_peaks book (chunks_of d) ≡ false
    → holds d reads i ≡ false
none_held d reads book i known_is peaks =
    let same : book ≡ known d reads = λ t k j. known_is k j t in
    let peaks' : has_peaks (known d reads) (chunks_of d) ≡ false = ap (λ (b : LookUp). has_peaks b (chunks_of d)) (sym same) ∙ peaks in
    let bytes = slice reads (chunk_place d.chunk i) (chunk_length d.size d.chunk i) in
    ap (λ (t : Bool). t && (length bytes == chunk_length d.size d.chunk i) && matches (known d reads 0 i) (sha256 bytes)) peaks'

-- What hashing finds, whether or not all peaks are known.
pub held_is : (d : Descriptor) (reads : List ℕ) (book : LookUp) (i : ℕ) → HasKnown d reads book
    → (has_peaks book (chunks_of d) && is_there d reads book i) ≡ holds d reads i
held_is d reads book i known_is = by (has_peaks book (chunks_of d)) refl
  where
    by : (peaks : Bool) → has_peaks book (chunks_of d) ≡ peaks → (has_peaks book (chunks_of d) && is_there d reads book i) ≡ holds d reads i
    by true at = ap (λ (v : Bool). v && is_there d reads book i) at ∙ held_there d reads book i known_is at
    by false at = ap (λ (v : Bool). v && is_there d reads book i) at ∙ sym (none_held d reads book i known_is at)

-- an empty file
pub empty_none : (d : Descriptor) (i : ℕ) → is_found d [] i ≡ false
empty_none d i = refl

empty_below : (d : Descriptor) (m j : ℕ) → known_below d [] (suc m) j ≡ None
empty_below d m j = child_short [] (pair_place d.chunk (height_of d - suc m) (j / 2)) j (known_below d [] m (j / 2)) (omega arith)

pub empty_known : (d : Descriptor) (book : LookUp) → HasRootAlone d book → HasKnown d [] book
empty_known d book alone k j = ⊎_elim
    (λ above. let test : nat_le k (height_of d) ≡ false = grind (arith, nat_tests) in
    alone.others k j (λ same. omega (arith, same.0)) ∙ sym (ap (λ (b : Bool). cond {A = Option (List ℕ)} b (known_below d [] (height_of d - k) j) None) test))
    (λ below. let test : nat_le k (height_of d) ≡ true = grind (arith, nat_tests) in
    ⊎_elim
    (λ inner. let e : height_of d - k ≡ suc (height_of d - k - 1) = omega arith in
    alone.others k j (λ same. omega (arith, same.0)) ∙ sym (ap (λ (b : Bool). cond {A = Option (List ℕ)} b (known_below d [] (height_of d - k) j) None) test ∙ ap (λ (m : ℕ). known_below d [] m j) e ∙ empty_below d (height_of d - k - 1) j))
    (λ top. let e : height_of d - k ≡ 0 = omega arith in let at : k ≡ height_of d = omega arith in
    ⊎_elim
    (λ other. let differ : (j == 0) ≡ false = grind (arith, nat_tests) in
    alone.others k j (λ same. omega (arith, same.1)) ∙ sym (ap (λ (b : Bool). cond {A = Option (List ℕ)} b (known_below d [] (height_of d - k) j) None) test ∙ ap (λ (m : ℕ). known_below d [] m j) e ∙ ap (λ (b : Bool). cond {A = Option (List ℕ)} b (Some d.root) None) differ))
    (λ first. let zero_is : j ≡ 0 = omega arith in let same : (j == 0) ≡ true = grind (arith, nat_tests) in
    ap (λ (n : ℕ). book n j) at ∙ ap (λ (n : ℕ). book (height_of d) n) zero_is ∙ alone.root_is
    ∙ sym (ap (λ (b : Bool). cond {A = Option (List ℕ)} b (known_below d [] (height_of d - k) j) None) test ∙ ap (λ (m : ℕ). known_below d [] m j) e ∙ ap (λ (b : Bool). cond {A = Option (List ℕ)} b (Some d.root) None) same))
    (cases_lt 0 j))
    (cases_lt k (height_of d)))
    (cases_lt (height_of d) k)

-- the root alone is known of any file
pub root_known : (d : Descriptor) (reads : List ℕ) (book : LookUp) → HasRootAlone d book → HasOnlyKnown d reads book
root_known d reads book alone k j digest at = ⊎_elim
    (λ other. absurd (let none = alone.others k j (λ same. omega (arith, same.0)) in cc))
    (λ top. let e : height_of d - k ≡ 0 = omega arith in
    ⊎_elim
    (λ past. ⊎_elim
    (λ above. absurd (let none = alone.others k j (λ same. omega (arith, same.0)) in cc))
    (λ here. absurd (let none = alone.others k j (λ same. omega (arith, same.1)) in cc))
    (cases_lt (height_of d) k))
    (λ first. ⊎_elim
    (λ above. absurd (let none = alone.others k j (λ same. omega (arith, same.0)) in cc))
    (λ below.
    let at_top : k ≡ height_of d = omega arith in
    let zero_is : j ≡ 0 = omega arith in
    let test : nat_le k (height_of d) ≡ true = grind (arith, nat_tests) in
    let same : (j == 0) ≡ true = grind (arith, nat_tests) in
    ap (λ (b : Bool). cond {A = Option (List ℕ)} b (known_below d reads (height_of d - k) j) None) test ∙ ap (λ (m : ℕ). known_below d reads m j) e ∙ ap (λ (b : Bool). cond {A = Option (List ℕ)} b (Some d.root) None) same
    ∙ sym alone.root_is ∙ ap (λ (n : ℕ). book (height_of d) n) (sym zero_is) ∙ ap (λ (n : ℕ). book n j) (sym at_top) ∙ at)
    (cases_lt (height_of d) k))
    (cases_lt 0 j))
    (cases_lt k (height_of d))
