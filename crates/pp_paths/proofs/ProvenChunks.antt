-- Claims that prove a chunk settle the peaks, and then the chunk fits.
use Rattle.std.proofs.Common.{◌≡◌, ◌⊎◌, ℕ, zero, suc, ◌+◌, ◌-◌, ◌*◌, ◌/◌, ◌%◌, ◌^◌, ◌≤◌, ◌<◌, ◌==◌, ◌&&◌, true, false, cond, Option, Some, None, List, [], refl, sym, ◌∙◌, ap, subst, inl, inr, arith, nat_lt}
use Rattle.std.specs.Prelude.{option_and_then, IfSome, unwrap_or}
use Rattle.std.specs.Option.{option_or}
use Rattle.std.proofs.lemmas.Bool.{cases_eq, cases_lt}
use Rattle.std.proofs.lemmas.Bool.Decides.{nat_tests}
use Rattle.std.proofs.lemmas.Nat.{pow_pos, pow-add}
use Rattle.std.proofs.Math.Nat.{div-eq_of_lt, mul-le-mul_left}
use Rattle.sha2.specs.Sha256.{sha256}
use Rattle.pp_terms.specs.tree.Tree as tree
use Rattle.pp_terms.specs.tree.Tree.{above, height}
use Rattle.pp_terms.specs.tree.Book.{LookUp, IsRooted}
use Rattle.pp_terms.specs.format.Descriptor.{Descriptor, chunks_of, height_of, IsDescriptor}
use Rattle.pp_terms.specs.tree.Proves.{joined, climbed, filled, first_absent, last_layer, peak_offset, Proves}
use Rattle.pp_terms.specs.tree.Bins.{sibling}
use Rattle.pp_terms.proofs.Heights.{height_is}
use Rattle.pp_tree.specs.declared.node.Node.{Node}
use Rattle.pp_terms.proofs.Peaks.{above_is}
use Rattle.pp_tree.proofs.Halving.{above_half}
use Rattle.pp_tree.proofs.Sizes.{chunk_count_range, chunk_size_range}
use Rattle.pp_paths.specs.declared.climbing.Climb.{Climb}
use Rattle.pp_paths.specs.declared.climbing.Climb.TheVariants.{Reached}
use Rattle.pp_paths.specs.declared.settling.Settled.TheVariants.{Known, Wrong}
use Rattle.pp_paths.specs.declared.judging.Verdict.TheVariants.{Fits}
use Rattle.pp_paths.specs.Judge.{judged}
use Rattle.pp_paths.specs.Climb.{node_at, or_else, climb, path, AddsPath}
use Rattle.pp_paths.specs.Settle.{last_digest, climb_of_peaks, path_of_peaks, missing_or, settled, settled_of, known_or}
use Rattle.pp_paths.proofs.Followed.{Follows, HasNoOther}
use Rattle.pp_paths.proofs.Climbs.{climb_ends, climb_on}
use Rattle.pp_paths.proofs.Growth.{option_cases, sibling_absent, odd_sibling, path_first, path_here, path_rest, or_none}
use Rattle.pp_paths.proofs.PeakNodes.{IsLast, last_is, layer_within, at_most_one, peak_known, peaks_known, peaks_there}
use Rattle.pp_paths.proofs.Verdicts.{same_as_itself, as_fits}
use Rattle.pp_paths.proofs.SettledPeaks.{settled_known}

-- halving in two parts
pub above_twice : (a b c m : ℕ) → m ≡ a + b → above m c ≡ above a (above b c)
above_twice zero b c m e = ap (λ (n : ℕ). above n c) (omega arith)
above_twice (suc a) b c zero e = absurd (omega arith)
above_twice (suc a) b c (suc m) e = ap (λ (n : ℕ). n / 2) (above_twice a b c m (omega arith))

-- A climb that reaches its own digest.
abbrev pub Reaches : Climb → Type 0
Reaches end = (at : Node) × (digest : List ℕ) × (end ≡ Reached at digest digest)

ends_same : (book others : LookUp) (n k j : ℕ) (digest kept : List ℕ) → book k j ≡ Some kept
    → IfSome (book k j) (λ x. x ≡ digest) → Reaches (climb book others n k j digest)
ends_same book others n k j digest kept at agree =
    let same : kept ≡ digest = subst (λ o. IfSome o (λ x. x ≡ digest)) at agree in
    (node_at k j, digest, climb_ends book others n k j digest kept at ∙ ap (λ x. Reached (node_at k j) digest x) same)

-- where a step of a climb is known
pub climbed_on : (known : LookUp) (n k j : ℕ) (digest end : List ℕ) → climbed known (suc n) k j digest ≡ Some end
    → (other : List ℕ) × (known k (sibling j) ≡ Some other)
    × (climbed known n (suc k) (j / 2) (sha256 (joined j digest other)) ≡ Some end)
climbed_on known n k j digest end is = elim (option_cases (known k (sibling j))) [
  | inl none ↦
      let e : climbed known (suc n) k j digest ≡ None = rw none refl in
      cc
  | inr (other, at) ↦
      let e : climbed known (suc n) k j digest ≡ climbed known n (suc k) (j / 2) (sha256 (joined j digest other)) = rw at refl in
      (other, at, sym e ∙ is)
]

-- a climb in a rooted book that follows it, to a node that the book has
follows_reaches : (d : Descriptor) (book known : LookUp) (n m w k j top o : ℕ) (digest end kept : List ℕ) → IsRooted d book
    → w ≡ n + m → k + w ≡ height_of d → climbed known n k j digest ≡ Some end → Follows book known n k j digest
    → top ≡ k + n → o ≡ above n j → book top o ≡ Some kept → Reaches (climb book known w k j digest)
follows_reaches d book known zero m w k j top o digest end kept rooted w_is high is follows top_is o_is at =
    let layer : top ≡ k = omega arith in
    let here : book k j ≡ Some kept = ap (λ i. book k i) (sym o_is) ∙ ap (λ l. book l o) (sym layer) ∙ at in
    ends_same book known w k j digest kept here follows
follows_reaches d book known (suc n) m zero k j top o digest end kept rooted w_is high is follows top_is o_is at = absurd (omega arith)
follows_reaches d book known (suc n) m (suc w) k j top o digest end kept rooted w_is high is follows top_is o_is at =
    elim (option_cases (book k j)) [
      | inr (x, here) ↦ ends_same book known (suc w) k j digest x here follows.0
      | inl none ↦
          let (other, beside, rest) = climbed_on known n k j digest end is in
          let absent = sibling_absent d book k w j rooted high none in
          let either : or_else book known k (sibling j) ≡ Some other = rw absent beside in
          let (node, found, reaches) = follows_reaches d book known n m w (suc k) (j / 2) top o (sha256 (joined j digest other)) end kept
          rooted (omega arith) (omega arith) rest (follows.1 other beside) (omega arith) (o_is ∙ sym (above_half n j)) at in
          (node, found, climb_on book known w k j digest other none either ∙ reaches)
    ]

-- the offset of the last peak, halved up to the root
last_halved : (n k h : ℕ) → n ≤ 2 ^ h → 0 < above k n → k ≤ h → above (h - k) (peak_offset k n) ≡ 0
last_halved n k h covers some low =
    let parts : 2 ^ h ≡ 2 ^ (h - k) * 2 ^ k = split (h - k) k h (omega arith) in
    let down : n / 2 ^ k * 2 ^ k ≤ n = omega arith in
    let count = above_is k n in
    let less : peak_offset k n < 2 ^ (h - k) = elim (cases_lt (peak_offset k n) (2 ^ (h - k))) [
      | inl lt ↦ lt
      | inr ge ↦
          let over : 2 ^ (h - k) + 1 ≤ n / 2 ^ k = omega arith in
          let times = mul-le-mul_left (2 ^ k) over in
          let one : 0 < 2 ^ k = pow_pos k in
          absurd (omega arith)
    ] in
    above_is (h - k) (peak_offset k n) ∙ div-eq_of_lt less
  where
    split : (a b c : ℕ) → c ≡ a + b → 2 ^ c ≡ 2 ^ a * 2 ^ b
    split a b c e = ap (λ (m : ℕ). 2 ^ m) e ∙ pow-add 2 a b

-- What a descriptor's chunk count and a proof say of peaks.
pub record Counted (d : Descriptor) : Type 0 where
  pub some : 0 < chunks_of d
  pub most : chunks_of d ≤ 2 ^ 20
  pub last : IsLast (chunks_of d) (last_layer (chunks_of d))
  pub within : last_layer (chunks_of d) ≤ height_of d
  pub halved : above (height_of d - last_layer (chunks_of d)) (peak_offset (last_layer (chunks_of d)) (chunks_of d)) ≡ 0

pub counted : (d : Descriptor) → IsDescriptor d → Counted d
counted d is =
    let range = chunk_size_range d.chunk is.chunk_size in
    let count = chunk_count_range d.size d.chunk (omega arith) is.content_size in
    let last = last_is (chunks_of d) count.0 (omega (arith, count.1)) in
    let odd = last.odd in
    let tall = height_is (chunks_of d) count.0 count.1 in
    let low = layer_within (chunks_of d) (last_layer (chunks_of d)) (height_of d) tall.covers (omega arith) in
    record {
      some = count.0;
      most = count.1;
      last = last;
      within = low;
      halved = last_halved (chunks_of d) (last_layer (chunks_of d)) (height_of d) tall.covers (omega arith) low;
    }

-- the last peak is known
pub last_there : (d : Descriptor) (known : LookUp) → Counted d → first_absent known (chunks_of d) ≡ None
    → (x : List ℕ) × (known (last_layer (chunks_of d)) (peak_offset (last_layer (chunks_of d)) (chunks_of d)) ≡ Some x)
last_there d known count all =
    let tall = height_is (chunks_of d) count.some count.most in
    let low : height_of d ≤ 20 = elim (cases_lt 20 (height_of d)) [
      | inl gt ↦ (let big : 2 ^ 20 < chunks_of d = tall.least 20 gt in let most = count.most in absurd (omega arith))
      | inr le ↦ le
    ] in
    peak_known known (chunks_of d) (last_layer (chunks_of d)) all (let within = count.within in omega arith) count.last.odd

either_known : (book known : LookUp) (n : ℕ) → first_absent known n ≡ None → first_absent (or_else book known) n ≡ None
either_known book known n all = peaks_known (or_else book known) n (λ k low odd.
    let (x, at) = peak_known known n k all low odd in
    elim (option_cases (book k (peak_offset k n))) [
      | inl none ↦ (x, ap (λ o. option_or o (known k (peak_offset k n))) none ∙ at)
      | inr (y, here) ↦ (y, ap (λ o. option_or o (known k (peak_offset k n))) here)
    ])

tree_cases : (o : Option tree.Node) → (o ≡ None) ⊎ ((x : tree.Node) × (o ≡ Some x))
tree_cases None = inl refl
tree_cases (Some x) = inr (x, refl)

pub followed_is_settled : (d : Descriptor) (book claims : LookUp) (i : ℕ) (bytes : List ℕ) (proof : Proves d claims i bytes)
    → IsDescriptor d → IsRooted d book → HasNoOther d book claims i bytes proof → settled (chunks_of d) book claims ≡ Known
followed_is_settled d book claims i bytes proof is rooted follows =
    elim (tree_cases (first_absent book (chunks_of d))) [
      | inl all ↦ sym (settled_known (chunks_of d) book claims all)
      | inr (at, absent) ↦
          let n = chunks_of d in
          let last = last_layer n in
          let off = peak_offset last n in
          let count = counted d is in
          let (x, there) = last_there d claims count proof.peaks_known in
          let none : book last off ≡ None = elim (option_cases (book last off)) [
            | inl e ↦ e
            | inr (y, here) ↦
                let all = peaks_there d book last y rooted count.some count.most count.last here in
                cc
          ] in
          let digest : last_digest n book claims ≡ x =
          ap (λ o. unwrap_or (option_or o (claims last off)) []) none ∙ ap (λ o. unwrap_or o []) there in
          let rise : climbed (filled n claims) (height_of d - last) last off x ≡ Some d.root =
          sym (ap (λ o. option_and_then (climbed (filled n claims) (height_of d - last) last off) o) there) ∙ proof.to_root in
          let low = count.within in
          let (node, found, reaches) = follows_reaches d book (filled n claims) (height_of d - last) 0 (height_of d - last) last off
          (height_of d) 0 x d.root d.root rooted (omega arith) (omega arith) rise (follows.to_root x there) (omega arith)
          (sym count.halved) rooted.root_is in
          let end : climb_of_peaks n book claims ≡ Reached node found found =
          ap (λ y. climb book (filled n claims) (height_of d - last) last off y) digest ∙ reaches in
          ap (λ o. known_or o (missing_or (first_absent (or_else book claims) n) (settled_of (climb_of_peaks n book claims)))) absent
          ∙ ap (λ o. missing_or o (settled_of (climb_of_peaks n book claims))) (either_known book claims n proof.peaks_known)
          ∙ ap (λ c. settled_of c) end
          ∙ ap (λ b. cond b Known (Wrong found found)) (same_as_itself found)
    ]

-- a path's entry beside its way is none
path_off : (others : LookUp) (n k j : ℕ) (digest : List ℕ) (l m : ℕ) → (k ≤ l → m / 2 ≡ above (l - k) j / 2 → ⊥)
    → path others n k j digest l m ≡ None
path_off others zero k j digest l m off = refl
path_off others (suc n) k j digest l m off =
    let apart : (l ≡ k) × (m / 2 ≡ j / 2) → ⊥ = λ both.
    let zero_is : l - k ≡ 0 = omega (arith, both.0) in
    off (omega (arith, both.0)) (both.1 ∙ ap (λ i. above i j / 2) (sym zero_is)) in
    elim (option_cases (others k (sibling j))) [
      | inl none ↦
          let test : (l == k && m / 2 == j / 2) ≡ false = grind (arith, nat_tests) in
          rw (test, none) refl
      | inr (other, at) ↦
          path_rest others n k j digest other l m apart at
          ∙ path_off others n (suc k) (j / 2) (sha256 (joined j digest other)) l m (λ past half.
          let more : suc (l - suc k) ≡ l - k = omega arith in
          off (omega arith) (half ∙ ap (λ i. i / 2) (above_half (l - suc k) j ∙ ap (λ i. above i j) more)))
    ]

-- a path's entry above its first pair is the sibling of one of its nodes
path_later : (others : LookUp) (n s w k j : ℕ) (digest end : List ℕ) (l m : ℕ) → w ≡ s + suc n
    → climbed others w k j digest ≡ Some end → l ≡ k + s → m / 2 ≡ above s j / 2 → (m ≡ above s j → ⊥)
    → path others w k j digest l m ≡ others l (sibling (above s j))
path_later others n s zero k j digest end l m w_is is layer half apart = absurd (omega arith)
path_later others n zero (suc w) k j digest end l m w_is is layer half apart =
    let here : l ≡ k = omega arith in
    let test : (m == j) ≡ false = grind (arith, nat_tests) in
    ap (λ i. path others (suc w) k j digest i m) here ∙ path_first others w k j digest m half
    ∙ ap (λ b. cond b (Some digest) (others k (sibling j))) test ∙ ap (λ i. others i (sibling j)) (sym here)
path_later others n (suc s) (suc w) k j digest end l m w_is is layer half apart =
    let (other, beside, rest) = climbed_on others w k j digest end is in
    let higher : (l ≡ k) × (m / 2 ≡ j / 2) → ⊥ = λ both. absurd (omega (arith, both.0)) in
    let up = above_half s j in
    path_rest others w k j digest other l m higher beside
    ∙ path_later others n s w (suc k) (j / 2) (sha256 (joined j digest other)) end l m (omega arith) rest (omega arith)
    (half ∙ ap (λ i. i / 2) (sym up)) (λ e. apart (e ∙ up))
    ∙ ap (λ i. others l (sibling i)) up

-- the digest at the end of a climb that the book follows
follows_end : (book known : LookUp) (n k j top o : ℕ) (digest end kept : List ℕ) → Follows book known n k j digest
    → climbed known n k j digest ≡ Some end → top ≡ k + n → o ≡ above n j → book top o ≡ Some kept → kept ≡ end
follows_end book known zero k j top o digest end kept follows is top_is o_is at =
    let layer : top ≡ k = omega arith in
    let here : book k j ≡ Some kept = ap (λ i. book k i) (sym o_is) ∙ ap (λ l. book l o) (sym layer) ∙ at in
    let same : kept ≡ digest = subst (λ p. IfSome p (λ x. x ≡ digest)) here follows in
    let e : digest ≡ end = cc in same ∙ e
follows_end book known (suc n) k j top o digest end kept follows is top_is o_is at =
    let (other, beside, rest) = climbed_on known n k j digest end is in
    follows_end book known n (suc k) (j / 2) top o (sha256 (joined j digest other)) end kept (follows.1 other beside) rest
    (omega arith) (o_is ∙ sym (above_half n j)) at

-- another book follows too, with the same nodes on the way and the climb's digest at its end
follows_moves : (book new known : LookUp) (i n k j top : ℕ) (digest end : List ℕ) → top ≡ k + n → j ≡ above k i
    → climbed known n k j digest ≡ Some end → ((l : ℕ) → l < top → new l (above l i) ≡ book l (above l i))
    → new top (above top i) ≡ Some end → Follows book known n k j digest → Follows new known n k j digest
follows_moves book new known i zero k j top digest end top_is j_is is stays at follows =
    let layer : top ≡ k = omega arith in
    let here : new k j ≡ Some end =
    ap (λ o. new k o) j_is ∙ ap (λ (l : ℕ). new l (above l i)) (sym layer) ∙ at in
    let e : end ≡ digest = cc in
    subst (λ o. IfSome o (λ x. x ≡ digest)) (sym here) e
follows_moves book new known i (suc n) k j top digest end top_is j_is is stays at follows =
    let here : new k j ≡ book k j =
    ap (λ o. new k o) j_is ∙ stays k (omega arith) ∙ ap (λ o. book k o) (sym j_is) in (
      subst (λ o. IfSome o (λ x. x ≡ digest)) (sym here) follows.0,
      λ other beside.
          let (other', beside', rest) = climbed_on known n k j digest end is in
          let same : other' ≡ other = cc in
          let rest' : climbed known n (suc k) (j / 2) (sha256 (joined j digest other)) ≡ Some end =
          subst (λ x. climbed known n (suc k) (j / 2) (sha256 (joined j digest x)) ≡ Some end) same rest in
          follows_moves book new known i n (suc k) (j / 2) top (sha256 (joined j digest other)) end (omega arith)
          (ap (λ (m : ℕ). m / 2) j_is) rest' stays at (follows.1 other beside),
    )

-- from the last peak on, halving leads past the full nodes
pub past_full : (n k s : ℕ) → above k n % 2 ≡ 1 → 0 < s → above s (peak_offset k n) ≡ above (s + k) n
past_full n k zero odd some = absurd (omega arith)
past_full n k (suc s) odd some =
    let half : peak_offset k n / 2 ≡ above (suc k) n = omega arith in
    sym (above_half s (peak_offset k n)) ∙ ap (λ i. above s i) half ∙ sym (above_twice s (suc k) n (suc s + k) (omega arith))

-- nodes under the peak above a chunk aren't on the way from the last peak
under_peak : (n last top i l : ℕ) → above last n % 2 ≡ 1 → above top n % 2 ≡ 1 → above top i ≡ peak_offset top n → l < top
    → last ≤ l → above l i / 2 ≡ above (l - last) (peak_offset last n) / 2 → ⊥
under_peak n last top i l odd odd' below low past half =
    let steps = past_full n last (suc (l - last)) odd (omega arith) in
    let layer : suc (l - last) + last ≡ suc l = omega arith in
    let same : above (suc l) i ≡ above (suc l) n = half ∙ steps ∙ ap (λ (m : ℕ). above m n) layer in
    let a = top - suc l in
    let split : top ≡ a + suc l = omega arith in
    let e : above top i ≡ above top n =
    above_twice a (suc l) i top split ∙ ap (λ m. above a m) same ∙ sym (above_twice a (suc l) n top split) in
    absurd (omega arith)

-- a rooted book that lacks a peak lacks the last one
lacks_the_last : (d : Descriptor) (book : LookUp) (k : ℕ) → IsRooted d book → Counted d → k < 21 → above k (chunks_of d) % 2 ≡ 1
    → book k (peak_offset k (chunks_of d)) ≡ None
    → book (last_layer (chunks_of d)) (peak_offset (last_layer (chunks_of d)) (chunks_of d)) ≡ None
lacks_the_last d book k rooted count low odd none =
    elim (option_cases (book (last_layer (chunks_of d)) (peak_offset (last_layer (chunks_of d)) (chunks_of d)))) [
      | inl e ↦ e
      | inr (x, at) ↦
          let all = peaks_there d book (last_layer (chunks_of d)) x rooted count.some count.most count.last at in
          let (y, there) = peak_known book (chunks_of d) k all low odd in
          cc
    ]

-- a layer's peak covers a chunk
pub covered : (m l : ℕ) → 0 < above l m → peak_offset l m * 2 ^ l < m
covered m l some =
    let e = above_is l m in
    let one : 0 < 2 ^ l = pow_pos l in
    let down : m / 2 ^ l * 2 ^ l ≤ m = omega arith in
    let split : above l m ≡ peak_offset l m + 1 = omega arith in
    let whole : above l m * 2 ^ l ≤ m = subst (λ q. q * 2 ^ l ≤ m) (sym e) down in
    let more : above l m * 2 ^ l ≡ peak_offset l m * 2 ^ l + 2 ^ l = ap (λ q. q * 2 ^ l) split ∙ grind arith in
    omega arith

-- What the book with the settled peaks has of them, where the book before lacked one.
module _ (d : Descriptor) (book peaked claims : LookUp) (rooted : IsRooted d book) (count : Counted d)
    (all : first_absent claims (chunks_of d) ≡ None)
    (rise : (x : List ℕ) → claims (last_layer (chunks_of d)) (peak_offset (last_layer (chunks_of d)) (chunks_of d)) ≡ Some x
    → climbed (filled (chunks_of d) claims) (height_of d - last_layer (chunks_of d)) (last_layer (chunks_of d))
    (peak_offset (last_layer (chunks_of d)) (chunks_of d)) x ≡ Some d.root)
    (added : AddsPath (path_of_peaks (chunks_of d) book claims) book peaked) where
  -- below the root a path from the last peak has its digest
  last_added : (x : List ℕ) → claims (last_layer (chunks_of d)) (peak_offset (last_layer (chunks_of d)) (chunks_of d)) ≡ Some x
      → book (last_layer (chunks_of d)) (peak_offset (last_layer (chunks_of d)) (chunks_of d)) ≡ None
      → peaked (last_layer (chunks_of d)) (peak_offset (last_layer (chunks_of d)) (chunks_of d)) ≡ Some x
  last_added x there none =
      let n = chunks_of d in
      let last = last_layer n in
      let off = peak_offset last n in
      let within = count.within in
      let digest : last_digest n book claims ≡ x =
      ap (λ o. unwrap_or (option_or o (claims last off)) []) none ∙ ap (λ o. unwrap_or o []) there in
      elim (cases_eq last (height_of d)) [
        | inl top ↦
            let first : off ≡ 0 = sym (ap (λ i. above i off) (let e : height_of d - last ≡ 0 = omega arith in e)) ∙ count.halved in
            let root : book last off ≡ Some d.root = ap (λ j. book last j) first ∙ ap (λ k. book k 0) top ∙ rooted.root_is in
            cc
        | inr under ↦
            let more : height_of d - last ≡ suc (height_of d - last - 1) = omega arith in
            added last off ∙ ap (λ o. option_or o (path_of_peaks n book claims last off)) none
            ∙ ap (λ m. path (filled n claims) m last off (last_digest n book claims) last off) more
            ∙ path_here (filled n claims) (height_of d - last - 1) last off (last_digest n book claims)
            ∙ ap (λ y. Some y) digest
      ]

  -- each peak has the claimed digest
  peak_added : (k : ℕ) (x : List ℕ) → k < 21 → above k (chunks_of d) % 2 ≡ 1 → claims k (peak_offset k (chunks_of d)) ≡ Some x
      → book k (peak_offset k (chunks_of d)) ≡ None → peaked k (peak_offset k (chunks_of d)) ≡ Some x
  peak_added k x low odd there none =
      let n = chunks_of d in
      let last = last_layer n in
      let off = peak_offset last n in
      let no_last = lacks_the_last d book k rooted count low odd none in
      let tall = height_is n count.some count.most in
      let below = layer_within n k (height_of d) tall.covers (omega arith) in
      elim (cases_eq k last) [
        | inl e ↦
            let there' : claims last off ≡ Some x = ap (λ l. claims l (peak_offset l n)) (sym e) ∙ there in
            ap (λ l. peaked l (peak_offset l n)) e ∙ last_added x there' no_last
        | inr other ↦ elim (cases_lt k last) [
          | inl lt ↦ (let even = count.last.lower k lt in absurd (omega arith))
          | inr ge ↦ elim (cases_eq k (height_of d)) [
            | inl top ↦
                let one = at_most_one n k (omega (arith, tall.covers, ap (λ (i : ℕ). 2 ^ i) top)) in
                let first : peak_offset k n ≡ 0 = omega arith in
                let root : book k (peak_offset k n) ≡ Some d.root = ap (λ j. book k j) first ∙ ap (λ l. book l 0) top ∙ rooted.root_is in
                cc
            | inr under ↦
                let (y, last_there') = last_there d claims count all in
                let digest : last_digest n book claims ≡ y =
                ap (λ o. unwrap_or (option_or o (claims last off)) []) no_last ∙ ap (λ o. unwrap_or o []) last_there' in
                let s = k - last in
                let layer : k ≡ last + s = omega arith in
                let layer' : s + last ≡ k = omega arith in
                let left : height_of d - last ≡ s + suc (height_of d - k - 1) = omega arith in
                let step : above s off ≡ above k n = past_full n last s count.last.odd (omega arith) ∙ ap (λ (i : ℕ). above i n) layer' in
                let half : peak_offset k n / 2 ≡ above s off / 2 = (let e : peak_offset k n / 2 ≡ above k n / 2 = omega arith in e ∙ ap (λ i. i / 2) (sym step)) in
                let apart : peak_offset k n ≡ above s off → ⊥ = λ e. (let e' = e ∙ step in absurd (omega arith)) in
                let odd_one : above k n % 2 ≡ 0 → ⊥ = λ e. absurd (omega arith) in
                let beside : sibling (above s off) ≡ peak_offset k n = ap (λ i. sibling i) step ∙ odd_sibling (above k n) odd_one in
                let covers : nat_lt (peak_offset k n * 2 ^ k) n ≡ true = (let c = covered n k (omega arith) in grind (arith, nat_tests)) in
                added k (peak_offset k n) ∙ ap (λ o. option_or o (path_of_peaks n book claims k (peak_offset k n))) none
                ∙ ap (λ z. path (filled n claims) (height_of d - last) last off z k (peak_offset k n)) digest
                ∙ path_later (filled n claims) (height_of d - k - 1) s (height_of d - last) last off y d.root k (peak_offset k n) left
                (rise y last_there') layer half apart
                ∙ ap (λ j. filled n claims k j) beside
                ∙ ap (λ b. cond b (claims k (peak_offset k n)) (Some tree.empty_hash)) covers
                ∙ there
          ]
        ]
      ]

pub followed_fits : (d : Descriptor) (book peaked claims : LookUp) (i : ℕ) (bytes : List ℕ) (proof : Proves d claims i bytes)
    → IsDescriptor d → IsRooted d book → HasNoOther d book claims i bytes proof
    → AddsPath (path_of_peaks (chunks_of d) book claims) book peaked → IsRooted d peaked
    → judged d peaked claims i bytes ≡ Fits
followed_fits d book peaked claims i bytes proof is rooted follows added rooted' =
    as_fits d peaked claims i bytes (record {
      whole = proof.whole;
      peaks_known = all_peaks;
      at = reached.0;
      digest = reached.1;
      reaches = reached.2;
    })
  where
    count : Counted d
    count = counted d is

    rise : (x : List ℕ) → claims (last_layer (chunks_of d)) (peak_offset (last_layer (chunks_of d)) (chunks_of d)) ≡ Some x
        → climbed (filled (chunks_of d) claims) (height_of d - last_layer (chunks_of d)) (last_layer (chunks_of d))
        (peak_offset (last_layer (chunks_of d)) (chunks_of d)) x ≡ Some d.root
    rise x there =
        sym (ap (λ o. option_and_then (climbed (filled (chunks_of d) claims) (height_of d - last_layer (chunks_of d)) (last_layer (chunks_of d))
        (peak_offset (last_layer (chunks_of d)) (chunks_of d))) o) there) ∙ proof.to_root

    keeps : (k j : ℕ) (x : List ℕ) → book k j ≡ Some x → peaked k j ≡ Some x
    keeps k j x at = added k j ∙ ap (λ o. option_or o (path_of_peaks (chunks_of d) book claims k j)) at

    within : proof.top ≤ height_of d
    within =
        let odd = proof.has_peak in
        layer_within (chunks_of d) proof.top (height_of d) (height_is (chunks_of d) count.some count.most).covers (omega arith)

    low : proof.top < 21
    low =
        let tall = height_is (chunks_of d) count.some count.most in
        elim (cases_lt 20 (height_of d)) [
          | inl gt ↦ (let big : 2 ^ 20 < chunks_of d = tall.least 20 gt in let most = count.most in absurd (omega arith))
          | inr le ↦ omega (arith, within)
        ]

    top_known : (x : List ℕ) × (claims proof.top (peak_offset proof.top (chunks_of d)) ≡ Some x)
    top_known = peak_known claims (chunks_of d) proof.top proof.peaks_known low proof.has_peak

    all_peaks : first_absent peaked (chunks_of d) ≡ None
    all_peaks = peaks_known peaked (chunks_of d) (λ k below odd.
        elim (option_cases (book k (peak_offset k (chunks_of d)))) [
          | inr (y, at) ↦ (y, keeps k (peak_offset k (chunks_of d)) y at)
          | inl none ↦
              let (x, there) = peak_known claims (chunks_of d) k proof.peaks_known below odd in
              (x, peak_added d book peaked claims rooted count proof.peaks_known rise added k x below odd there none)
        ])

    climbs : climbed claims proof.top 0 i (sha256 bytes) ≡ Some top_known.0
    climbs = proof.to_peak ∙ top_known.1

    at_top : peaked proof.top (peak_offset proof.top (chunks_of d)) ≡ Some top_known.0
    at_top = elim (option_cases (book proof.top (peak_offset proof.top (chunks_of d)))) [
      | inl none ↦
          peak_added d book peaked claims rooted count proof.peaks_known rise added proof.top top_known.0 low proof.has_peak top_known.1 none
      | inr (kept, at) ↦
          let same = follows_end book claims proof.top 0 i proof.top (peak_offset proof.top (chunks_of d)) (sha256 bytes) top_known.0 kept
          follows.to_peak climbs (omega arith) (sym proof.below_it) at in
          keeps proof.top (peak_offset proof.top (chunks_of d)) kept at ∙ ap (λ x. Some x) same
    ]

    stays : (l : ℕ) → l < proof.top → peaked l (above l i) ≡ book l (above l i)
    stays l lt =
        added l (above l i)
        ∙ ap (λ o. option_or (book l (above l i)) o)
        (path_off (filled (chunks_of d) claims) (height_of d - last_layer (chunks_of d)) (last_layer (chunks_of d))
        (peak_offset (last_layer (chunks_of d)) (chunks_of d)) (last_digest (chunks_of d) book claims) l (above l i)
        (under_peak (chunks_of d) (last_layer (chunks_of d)) proof.top i l count.last.odd proof.has_peak proof.below_it lt))
        ∙ or_none (book l (above l i))

    reached : Reaches (climb peaked claims (height_of d) 0 i (sha256 bytes))
    reached =
        let end : peaked proof.top (above proof.top i) ≡ Some top_known.0 = ap (λ j. peaked proof.top j) proof.below_it ∙ at_top in
        let on = follows_moves book peaked claims i proof.top 0 i proof.top (sha256 bytes) top_known.0 (omega arith) refl climbs stays end follows.to_peak in
        let high = within in
        follows_reaches d peaked claims proof.top (height_of d - proof.top) (height_of d) 0 i proof.top
        (peak_offset proof.top (chunks_of d)) (sha256 bytes) top_known.0 top_known.0 rooted' (omega arith) (omega arith) climbs on
        (omega arith) (sym proof.below_it) at_top
