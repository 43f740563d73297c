-- A content's whole store, read from the root down, holds all its chunks.
use Rattle.std.proofs.Common.{◌≡◌, ⊎_elim, ℕ, zero, suc, ◌+◌, ◌-◌, ◌*◌, ◌/◌, ◌%◌, ◌^◌, ◌<◌, ◌≤◌, ◌==◌, ◌||◌, nat_eq, nat_le, Bool, true, false, cond, Option, Some, None, List, length, get_or, take, drop, refl, sym, ◌∙◌, ap, arith}
use Rattle.std.specs.Prelude.{◌&&◌, is_some}
use Rattle.std.specs.Cmp.Lexicographic.{pointwise, other_text}
use Rattle.std.proofs.Math.Nat.{mul-le-mul_left}
use Rattle.std.proofs.Math.Pow.{pow_mono}
use Rattle.std.proofs.lemmas.Nat.{pow_pos}
use Rattle.std.proofs.lemmas.Bool.{cases_lt, cases_eq, cases_Bool}
use Rattle.std.proofs.lemmas.Bool.Decides.{nat_tests}
use Rattle.std.proofs.lemmas.Grind.{same_number_lists}
use Rattle.std.proofs.lemmas.List.{places, length-take, length-drop, take_at, drop_at}
use Rattle.sha2.specs.Sha256.{sha256}
use Rattle.sha2.proofs.Facts256.{length-sha256}
use Rattle.pp_terms.specs.tree.Content.{chunk_of, chunk_length}
use Rattle.pp_terms.specs.tree.Tree.{pair, leaf_of, above}
use Rattle.pp_terms.specs.format.Descriptor.{Descriptor, chunks_of, height_of}
use Rattle.pp_terms.specs.disk.Store.{header, chunk_place, pair_place, gate_place, open_gate, Has, IsStoreOf, the_header, a_chunk, a_pair, a_gate}
use Rattle.pp_terms.specs.disk.Image.{slice, half, child, known, known_below, matches, holds, is_open, StandsIn}
use Rattle.pp_terms.specs.tree.Book.{has_peaks_below}
use Rattle.pp_terms.proofs.Heights.{height_is}
use Rattle.pp_terms.proofs.Nodes.{length-node}
use Rattle.pp_terms.proofs.Peaks.{doubled, above_is}
use Rattle.pp_tree.proofs.Clashes.{node_is, leaf_is}
use Rattle.pp_scan.proofs.Children.{child_known}
use Rattle.pp_store.specs.Imported.{imported}
use Rattle.pp_store.specs.Growing.{IsContent, chunks_in, digest_of}
use Rattle.pp_store.proofs.Pieces.{pair-64, count_range}

-- bytes that stand at a place are the image's bytes there
pub has_slice : (place : ℕ) (bytes image : List ℕ) → Has place bytes image → slice image place (length bytes) ≡ bytes
has_slice place bytes image has =
    let size : length (slice image place (length bytes)) ≡ length bytes = length-take (length bytes) (drop place image) ∙ omega (arith, length-drop place image, has.inside) in
    same_number_lists (slice image place (length bytes)) bytes size (λ k lt. at k (omega arith) ∙ has.same k (omega arith))
  where
    at : (k : ℕ) → k < length bytes → get_or (take (length bytes) (drop place image)) k 0 ≡ get_or image (place + k) 0
    at k lt = grind (arith, places)

-- a gate that stands open in an image
pub open_gate_there : (d : Descriptor) (image : List ℕ) (i : ℕ) → Has (gate_place d.chunk i) open_gate image → is_open d image i ≡ true
open_gate_there d image i has =
    let at : gate_place d.chunk i + 0 ≡ gate_place d.chunk i = omega arith in
    ap (λ (b : ℕ). b == 0x4f) (ap (λ (p : ℕ). get_or image p 0) (sym at) ∙ has.same 0 (omega arith))

pub text_itself : (xs ys : List ℕ) → xs ≡ ys → pointwise nat_eq xs ys ≡ true
text_itself xs ys e = ⊎_elim (λ t. t) (λ f. absurd (other_text xs ys (sym f) e)) (cases_Bool (pointwise nat_eq xs ys))

module _ (chunk : ℕ) (content image : List ℕ) (fits : IsContent chunk content) (whole : IsStoreOf (imported content chunk) content image) where
  abbrev d : Descriptor
  d = imported content chunk

  abbrev n : ℕ
  n = chunks_in chunk content

  covers_all : n ≤ 2 ^ height_of d
  covers_all = let range = count_range chunk content fits in (height_is n range.0 range.1).covers

  digest_long : (k j : ℕ) → length (digest_of chunk content k j) ≡ 32
  digest_long k j = length-node (leaf_of content chunk) n k j (λ i. length-sha256 (chunk_of content chunk i))

  -- a node that covers a chunk is known with its digest
  covering : (m l j : ℕ) → l + m ≡ height_of d → j * 2 ^ l < n → known_below d image m j ≡ Some (digest_of chunk content l j)
  covering zero l j top under =
      let at : l ≡ height_of d = omega arith in
      let at' : j * 2 ^ l ≡ j * 2 ^ height_of d = ap (λ (x : ℕ). j * 2 ^ x) at in
      let some : 0 < 2 ^ height_of d = pow_pos (height_of d) in
      let first : j ≡ 0 = ⊎_elim (λ more. absurd (let le = mul-le-mul_left (2 ^ height_of d) more in omega (arith, covers_all))) (λ none. omega arith) (cases_lt 0 j) in
      let test : (j == 0) ≡ true = grind (arith, nat_tests) in
      ap (λ (b : Bool). cond {A = Option (List ℕ)} b (Some d.root) None) test
      ∙ ap (λ (x : ℕ). Some (digest_of chunk content x 0)) (sym at) ∙ ap (λ (x : ℕ). Some (digest_of chunk content l x)) (sym first)
  covering (suc m) l j layer under =
      let down : j / 2 * 2 ≤ j = omega arith in
      let less = mul-le-mul_left (2 ^ l) down in
      let same : j / 2 * 2 ^ suc l ≡ j / 2 * (2 ^ l * 2) = ap (λ (p : ℕ). j / 2 * p) (doubled l) in
      let over : j / 2 * 2 ^ suc l < n = omega (arith, less) in
      let inner : l < height_of d = omega arith in
      let at : height_of d - suc m ≡ l = omega arith in
      let both : List ℕ = pair (leaf_of content chunk) n l (j / 2) in
      let left : List ℕ = digest_of chunk content l (2 * (j / 2)) in
      let right : List ℕ = digest_of chunk content l (2 * (j / 2) + 1) in
      let long : length both ≡ 64 = pair-64 chunk content fits l (j / 2) in
      let read : slice image (pair_place chunk (height_of d - suc m) (j / 2)) 64 ≡ both =
      ap (λ (x : ℕ). slice image (pair_place chunk x (j / 2)) 64) at ∙ ap (λ (x : ℕ). slice image (pair_place chunk l (j / 2)) x) (sym long)
      ∙ has_slice (pair_place chunk l (j / 2)) both image (whole.pieces _ _ (a_pair l (j / 2) inner over)) in
      let parent : known_below d image m (j / 2) ≡ Some (digest_of chunk content (suc l) (j / 2)) = covering m (suc l) (j / 2) (omega arith) over in
      let test : pointwise nat_eq (sha256 both) (digest_of chunk content (suc l) (j / 2)) ≡ true =
      text_itself (sha256 both) (digest_of chunk content (suc l) (j / 2)) (sym (node_is (leaf_of content chunk) n l (j / 2) over)) in
      let child_is : child both j (Some (digest_of chunk content (suc l) (j / 2))) ≡ Some (half j both) = child_known both (digest_of chunk content (suc l) (j / 2)) j long test in
      ap (λ (o : Option (List ℕ)). child (slice image (pair_place chunk (height_of d - suc m) (j / 2)) 64) j o) parent
      ∙ ap (λ (b : List ℕ). child b j (Some (digest_of chunk content (suc l) (j / 2)))) read ∙ child_is
      ∙ ap (λ (x : List ℕ). Some x) (⊎_elim
      (λ even. let t : (j % 2 == 0) ≡ true = grind (arith, nat_tests) in let e : 2 * (j / 2) ≡ j = omega arith in
      ap (λ (b : Bool). cond b (take 32 both) (drop 32 both)) t ∙ take_at left right 32 (digest_long l (2 * (j / 2))) ∙ ap (λ (x : ℕ). digest_of chunk content l x) e)
      (λ odd. let t : (j % 2 == 0) ≡ false = grind (arith, nat_tests) in let e : 2 * (j / 2) + 1 ≡ j = omega arith in
      ap (λ (b : Bool). cond b (take 32 both) (drop 32 both)) t ∙ drop_at left right 32 (digest_long l (2 * (j / 2))) ∙ ap (λ (x : ℕ). digest_of chunk content l x) e)
      (cases_eq (j % 2) 0))

  known_covering : (k j : ℕ) → k ≤ height_of d → j * 2 ^ k < n → known d image k j ≡ Some (digest_of chunk content k j)
  known_covering k j low under =
      let test : nat_le k (height_of d) ≡ true = grind (arith, nat_tests) in
      ap (λ (b : Bool). cond {A = Option (List ℕ)} b (known_below d image (height_of d - k) j) None) test ∙ covering (height_of d - k) k j (omega arith) under

  -- every peak is known
  all_peaks : (k : ℕ) → has_peaks_below (known d image) n k ≡ true
  all_peaks zero = refl
  all_peaks (suc k) =
      let one : (above k n % 2 == 0 || is_some (known d image k (above k n - 1))) ≡ true = ⊎_elim
      (λ even. let t : (above k n % 2 == 0) ≡ true = grind (arith, nat_tests) in ap (λ (b : Bool). b || is_some (known d image k (above k n - 1))) t)
      (λ odd.
      let t : (above k n % 2 == 0) ≡ false = grind (arith, nat_tests) in
      let some : 0 < 2 ^ k = pow_pos k in
      let at : above k n ≡ n / 2 ^ k = above_is k n in
      let down : above k n - 1 + 1 ≡ above k n = omega arith in
      let le : 2 ^ k * (n / 2 ^ k) ≤ n = omega arith in
      let e : (above k n - 1 + 1) * 2 ^ k ≡ 2 ^ k * (n / 2 ^ k) = ap (λ (x : ℕ). x * 2 ^ k) (down ∙ at) ∙ omega arith in
      let under : (above k n - 1) * 2 ^ k < n = omega arith in
      let most : 2 ^ k ≤ n = omega arith in
      let low : k ≤ height_of d = ⊎_elim (λ high. absurd (let up : 2 ^ suc (height_of d) ≤ 2 ^ k = pow_mono high in omega (arith, covers_all, doubled (height_of d), pow_pos (height_of d)))) (λ l. l) (cases_lt (height_of d) k) in
      ap (λ (b : Bool). b || is_some (known d image k (above k n - 1))) t ∙ ap (λ (o : Option (List ℕ)). is_some o) (known_covering k (above k n - 1) low under))
      (cases_eq (above k n % 2) 0) in
      ap (λ (b : Bool). b && has_peaks_below (known d image) n k) one ∙ all_peaks k

  pub stands : (i : ℕ) → i < chunks_of d → StandsIn d image i
  stands i within =
      let bytes : List ℕ = chunk_of content chunk i in
      let size : length bytes ≡ chunk_length d.size d.chunk i = length-take chunk (drop (i * chunk) content) ∙ omega (arith, length-drop (i * chunk) content) in
      let read : slice image (chunk_place chunk i) (chunk_length d.size d.chunk i) ≡ bytes =
      ap (λ (x : ℕ). slice image (chunk_place chunk i) x) (sym size) ∙ has_slice (chunk_place chunk i) bytes image (whole.pieces _ _ (a_chunk i within)) in
      let count : (length (slice image (chunk_place chunk i) (chunk_length d.size d.chunk i)) == chunk_length d.size d.chunk i) ≡ true =
      (let e : length (slice image (chunk_place chunk i) (chunk_length d.size d.chunk i)) ≡ chunk_length d.size d.chunk i = ap (λ (x : List ℕ). length x) read ∙ size in grind (arith, nat_tests)) in
      let under : i * 2 ^ 0 < n = omega arith in
      let leaf : known d image 0 i ≡ Some (sha256 bytes) = known_covering 0 i (omega arith) under ∙ ap (λ (x : List ℕ). Some x) (leaf_is (leaf_of content chunk) n i within) in
      let digest : matches (known d image 0 i) (sha256 (slice image (chunk_place chunk i) (chunk_length d.size d.chunk i))) ≡ true =
      ap (λ (o : Option (List ℕ)). matches o (sha256 (slice image (chunk_place chunk i) (chunk_length d.size d.chunk i)))) leaf
      ∙ text_itself (sha256 bytes) (sha256 (slice image (chunk_place chunk i) (chunk_length d.size d.chunk i))) (ap (λ (x : List ℕ). sha256 x) (sym read)) in
      let held : holds d image i ≡ true =
      (λ t. all_peaks 21 t && count t && digest t) in
      record {
        begins = whole.pieces 0 (header d) the_header;
        within = within;
        opened = open_gate_there d image i (whole.pieces _ _ (a_gate i within));
        held = sym (sym held);
      }
