-- Claims that prove a chunk agree with a rooted book, or two texts have one digest.
use Rattle.std.proofs.Common.{◌≡◌, ◌⊎◌, ℕ, zero, suc, ◌+◌, ◌-◌, ◌*◌, ◌/◌, ◌%◌, ◌^◌, ◌≤◌, ◌<◌, ◌==◌, true, false, cond, Option, Some, None, List, ◌++◌, length, refl, sym, ◌∙◌, ap, subst, inl, inr, arith, nat_lt}
use Rattle.std.specs.Prelude.{option_and_then, IfSome}
use Rattle.std.proofs.lemmas.Bool.{cases_eq, cases_lt, cases_Bool}
use Rattle.std.proofs.lemmas.Bool.Decides.{nat_tests}
use Rattle.std.proofs.lemmas.List.{length-replicate}
use Rattle.sha2.specs.Sha256.{sha256}
use Rattle.sha2.proofs.Facts256.{length-sha256}
use Rattle.pp_terms.specs.tree.Tree.{above, empty_hash}
use Rattle.pp_terms.specs.tree.Book.{LookUp, AreDigests, IsJoined, IsRooted}
use Rattle.pp_terms.specs.format.Descriptor.{Descriptor, chunks_of, height_of, IsDescriptor}
use Rattle.pp_terms.specs.tree.Proves.{joined, climbed, filled, last_layer, peak_offset, Proves}
use Rattle.pp_terms.specs.tree.Bins.{sibling}
use Rattle.pp_paths.specs.Law.{ClimbClashes, ProofClashes}
use Rattle.pp_paths.proofs.Followed.{Follows, IsFollowed}
use Rattle.pp_paths.proofs.Growth.{option_cases, even_sibling, odd_sibling, sibling_absent}
use Rattle.pp_tree.proofs.Halving.{above_half}
use Rattle.pp_paths.proofs.ProvenChunks.{Counted, counted, climbed_on, past_full, last_there, covered}
use Rattle.pp_paths.proofs.PeakNodes.{layer_within, peak_known}
use Rattle.pp_terms.proofs.Heights.{height_is}
use Rattle.pp_terms.proofs.Nodes.{hung}
use Rattle.pp_terms.proofs.Facts.{front_same, back_same, bytes_cases}

-- The book follows the climb, the siblings included.
abbrev FollowsAll : LookUp → LookUp → ℕ → ℕ → ℕ → List ℕ → Type 0
FollowsAll book known zero k j digest = IfSome (book k j) (λ kept. kept ≡ digest)
FollowsAll book known (suc n) k j digest =
    IfSome (book k j) (λ kept. kept ≡ digest)
    × ((other : List ℕ) → known k (sibling j) ≡ Some other
    → IfSome (book k (sibling j)) (λ kept. kept ≡ other) × FollowsAll book known n (suc k) (j / 2) (sha256 (joined j digest other)))

all_here : (book known : LookUp) (n k j : ℕ) (digest kept : List ℕ) → FollowsAll book known n k j digest → book k j ≡ Some kept → kept ≡ digest
all_here book known zero k j digest kept follows at = subst (λ o. IfSome o (λ x. x ≡ digest)) at follows
all_here book known (suc n) k j digest kept follows at = subst (λ o. IfSome o (λ x. x ≡ digest)) at follows.0

all_follows : (book known : LookUp) (n k j : ℕ) (digest : List ℕ) → FollowsAll book known n k j digest → Follows book known n k j digest
all_follows book known zero k j digest follows = follows
all_follows book known (suc n) k j digest follows = (
  follows.0,
  λ other beside. all_follows book known n (suc k) (j / 2) (sha256 (joined j digest other)) (follows.1 other beside).1,
)

-- equal pairs have equal halves
halves_same : (book : LookUp) (k j : ℕ) (digest other a b : List ℕ) → IsJoined book k (j / 2) a b → length digest ≡ 32 → length other ≡ 32
    → length a ≡ 32 → joined j digest other ≡ a ++ b
    → (book k j ≡ Some digest) × (book k (sibling j) ≡ Some other)
halves_same book k j digest other a b is long long' long_a e = elim (cases_eq (j % 2) 0) [
  | inl even ↦
      let test : (j % 2 == 0) ≡ true = grind (arith, nat_tests) in
      let e' : digest ++ other ≡ a ++ b = sym (ap (λ t. cond t (digest ++ other) (other ++ digest)) test) ∙ e in
      let left = front_same digest other a b (long ∙ sym long_a) e' in
      let right = back_same digest other a b (long ∙ sym long_a) e' in
      let here : j ≡ 2 * (j / 2) = omega arith in
      let next : j + 1 ≡ 2 * (j / 2) + 1 = omega arith in (
        ap (λ i. book k i) here ∙ is.left_is ∙ ap (λ x. Some x) (sym left),
        ap (λ i. book k i) (even_sibling j even ∙ next) ∙ is.right_is ∙ ap (λ x. Some x) (sym right),
      )
  | inr odd ↦
      let test : (j % 2 == 0) ≡ false = grind (arith, nat_tests) in
      let e' : other ++ digest ≡ a ++ b = sym (ap (λ t. cond t (digest ++ other) (other ++ digest)) test) ∙ e in
      let left = front_same other digest a b (long' ∙ sym long_a) e' in
      let right = back_same other digest a b (long' ∙ sym long_a) e' in
      let here : j ≡ 2 * (j / 2) + 1 = omega arith in
      let before : j - 1 ≡ 2 * (j / 2) = omega arith in (
        ap (λ i. book k i) here ∙ is.right_is ∙ ap (λ x. Some x) (sym right),
        ap (λ i. book k i) (odd_sibling j odd ∙ before) ∙ is.left_is ∙ ap (λ x. Some x) (sym left),
      )
]

if_some : (o : Option (List ℕ)) (digest : List ℕ) → o ≡ Some digest → IfSome o (λ x. x ≡ digest)
if_some o digest e = subst (λ p. IfSome p (λ x. x ≡ digest)) (sym e) refl

if_none : (o : Option (List ℕ)) (digest : List ℕ) → o ≡ None → IfSome o (λ x. x ≡ digest)
if_none o digest e = subst (λ p. IfSome p (λ x. x ≡ digest)) (sym e) tt

-- A climb whose end the book follows is followed all the way, or clashes.
follows_or_clashes : (d : Descriptor) (book known : LookUp) (n m k j top o : ℕ) (digest end : List ℕ) → IsRooted d book → AreDigests known
    → length digest ≡ 32 → k + (n + m) ≡ height_of d → climbed known n k j digest ≡ Some end → top ≡ k + n → o ≡ above n j
    → IfSome (book top o) (λ kept. kept ≡ end)
    → FollowsAll book known n k j digest ⊎ ClimbClashes book known n k j digest
follows_or_clashes d book known zero m k j top o digest end rooted digests long high is top_is o_is ends =
    let layer : top ≡ k = omega arith in
    let e : digest ≡ end = cc in
    inl (subst (λ x. IfSome (book k j) (λ kept. kept ≡ x)) (sym e)
    (subst (λ i. IfSome (book k i) (λ kept. kept ≡ end)) o_is (subst (λ (l : ℕ). IfSome (book l o) (λ kept. kept ≡ end)) layer ends)))
follows_or_clashes d book known (suc n) m k j top o digest end rooted digests long high is top_is o_is ends =
    let (other, beside, rest) = climbed_on known n k j digest end is in
    let next = sha256 (joined j digest other) in
    elim (follows_or_clashes d book known n m (suc k) (j / 2) top o next end rooted digests (length-sha256 (joined j digest other))
    (omega arith) rest (omega arith) (o_is ∙ sym (above_half n j)) ends) [
      | inr clash ↦ inr (other, beside, inr clash)
      | inl follows ↦
          let going = λ (other' : List ℕ) (beside' : known k (sibling j) ≡ Some other').
          (let same : other ≡ other' = cc in subst (λ x. FollowsAll book known n (suc k) (j / 2) (sha256 (joined j digest x))) same follows) in
          elim (option_cases (book k j)) [
            | inl none ↦
                let absent = sibling_absent d book k (n + m) j rooted (omega arith) none in
                inl (if_none (book k j) digest none, λ other' beside'. (if_none (book k (sibling j)) other' absent, going other' beside'))
            | inr (x, here) ↦
                let (a, b, pair) = hung d book k (n + m) j x rooted (omega arith) here in
                let one : sha256 (a ++ b) ≡ next = all_here book known n (suc k) (j / 2) next (sha256 (a ++ b)) follows pair.joined in
                elim (bytes_cases (joined j digest other) (a ++ b)) [
                  | inr differ ↦ inr (other, beside, inl (a, b, pair, differ, sym one))
                  | inl equal ↦
                      let (mine, others) = halves_same book k j digest other a b pair long (digests k (sibling j) other beside)
                      (rooted.digests k (2 * (j / 2)) a pair.left_is) equal in
                      inl (
                        if_some (book k j) digest mine,
                        λ other' beside'.
                            (let same : other ≡ other' = cc in
                            (if_some (book k (sibling j)) other' (others ∙ ap (λ y. Some y) same), going other' beside')),
                      )
                ]
          ]
    ]

-- what is followed beside the way
follows_beside : (book known : LookUp) (n s w k j : ℕ) (digest end : List ℕ) (l : ℕ) (y : List ℕ) → w ≡ s + suc n
    → climbed known w k j digest ≡ Some end → FollowsAll book known w k j digest → l ≡ k + s
    → known l (sibling (above s j)) ≡ Some y → IfSome (book l (sibling (above s j))) (λ kept. kept ≡ y)
follows_beside book known n s zero k j digest end l y w_is is follows layer beside = absurd (omega arith)
follows_beside book known n zero (suc w) k j digest end l y w_is is follows layer beside =
    let here : l ≡ k = omega arith in
    let beside' : known k (sibling j) ≡ Some y = ap (λ (i : ℕ). known i (sibling j)) (sym here) ∙ beside in
    subst (λ (i : ℕ). IfSome (book i (sibling j)) (λ kept. kept ≡ y)) (sym here) (follows.1 y beside').0
follows_beside book known n (suc s) (suc w) k j digest end l y w_is is follows layer beside =
    let (other, known_is, rest) = climbed_on known w k j digest end is in
    let up = above_half s j in
    let beside' : known l (sibling (above s (j / 2))) ≡ Some y = ap (λ i. known l (sibling i)) up ∙ beside in
    subst (λ i. IfSome (book l (sibling i)) (λ kept. kept ≡ y)) up
    (follows_beside book known n s w (suc k) (j / 2) (sha256 (joined j digest other)) end l y (omega arith) rest (follows.1 other known_is).1
    (omega arith) beside')

-- the first digest that is followed
all_head : (book known : LookUp) (n k j : ℕ) (digest : List ℕ) → FollowsAll book known n k j digest → IfSome (book k j) (λ kept. kept ≡ digest)
all_head book known zero k j digest follows = follows
all_head book known (suc n) k j digest follows = follows.0

filled_digests : (n : ℕ) (claims : LookUp) → AreDigests claims → AreDigests (filled n claims)
unfolding empty_hash
filled_digests n claims digests k j digest at = elim (cases_Bool (nat_lt (j * 2 ^ k) n)) [
  | inl t ↦ digests k j digest (sym (ap (λ b. cond b (claims k j) (Some empty_hash)) t) ∙ at)
  | inr f ↦
      let zeros : Some empty_hash ≡ Some digest = sym (ap (λ b. cond b (claims k j) (Some empty_hash)) f) ∙ at in
      let e : empty_hash ≡ digest = cc in
      ap (λ xs. length xs) (sym e) ∙ length-replicate {A = ℕ} 32 0
]

-- the peaks that are siblings on the way to the root are followed too
peak_followed : (d : Descriptor) (book claims : LookUp) (top : ℕ) (x r : List ℕ) → Counted d → top ≤ height_of d
    → above top (chunks_of d) % 2 ≡ 1
    → claims (last_layer (chunks_of d)) (peak_offset (last_layer (chunks_of d)) (chunks_of d)) ≡ Some x
    → claims top (peak_offset top (chunks_of d)) ≡ Some r
    → climbed (filled (chunks_of d) claims) (height_of d - last_layer (chunks_of d)) (last_layer (chunks_of d))
    (peak_offset (last_layer (chunks_of d)) (chunks_of d)) x ≡ Some d.root
    → FollowsAll book (filled (chunks_of d) claims) (height_of d - last_layer (chunks_of d)) (last_layer (chunks_of d))
    (peak_offset (last_layer (chunks_of d)) (chunks_of d)) x
    → IfSome (book top (peak_offset top (chunks_of d))) (λ kept. kept ≡ r)
peak_followed d book claims top x r count below odd last_is peak_is rise follows =
    let n = chunks_of d in
    let last = last_layer n in
    let off = peak_offset last n in
    let within = count.within in
    elim (cases_eq top last) [
      | inl e ↦
          let same : claims top (peak_offset top n) ≡ Some x = ap (λ l. claims l (peak_offset l n)) e ∙ last_is in
          let x_is : x ≡ r = cc in
          subst (λ (l : ℕ). IfSome (book l (peak_offset l n)) (λ kept. kept ≡ r)) (sym e)
          (subst (λ y. IfSome (book last off) (λ kept. kept ≡ y)) x_is
          (all_head book (filled n claims) (height_of d - last) last off x follows))
      | inr other ↦ elim (cases_lt top last) [
        | inl lt ↦ (let even = count.last.lower top lt in absurd (omega arith))
        | inr ge ↦ elim (cases_eq top (height_of d)) [
          | inl high ↦
              let steps = past_full n last (height_of d - last) count.last.odd (omega arith) in
              let layer : height_of d - last + last ≡ top = omega arith in
              let none : above top n ≡ 0 = ap (λ (i : ℕ). above i n) (sym layer) ∙ sym steps ∙ count.halved in
              absurd (omega arith)
          | inr under ↦
              let s = top - last in
              let layer : s + last ≡ top = omega arith in
              let step : above s off ≡ above top n = past_full n last s count.last.odd (omega arith) ∙ ap (λ (i : ℕ). above i n) layer in
              let odd_one : above top n % 2 ≡ 0 → ⊥ = λ e. absurd (omega arith) in
              let beside : sibling (above s off) ≡ peak_offset top n = ap (λ i. sibling i) step ∙ odd_sibling (above top n) odd_one in
              let covers : nat_lt (peak_offset top n * 2 ^ top) n ≡ true = (let c = covered n top (omega arith) in grind (arith, nat_tests)) in
              let known : filled n claims top (sibling (above s off)) ≡ Some r =
              ap (λ j. filled n claims top j) beside
              ∙ ap (λ b. cond b (claims top (peak_offset top n)) (Some empty_hash)) covers ∙ peak_is in
              subst (λ j. IfSome (book top j) (λ kept. kept ≡ r)) beside
              (follows_beside book (filled n claims) (height_of d - top - 1) s (height_of d - last) last off x d.root top r (omega arith)
              rise follows (omega arith) known)
        ]
      ]
    ]

pub followed_or_clash : (d : Descriptor) (book claims : LookUp) (i : ℕ) (bytes : List ℕ) (proof : Proves d claims i bytes)
    → IsDescriptor d → IsRooted d book → IsFollowed d book claims i bytes proof ⊎ ProofClashes d book claims i bytes proof
followed_or_clash d book claims i bytes proof is rooted =
    let digests = proof.digests in
    let n = chunks_of d in
    let last = last_layer n in
    let off = peak_offset last n in
    let count = counted d is in
    let tall = height_is n count.some count.most in
    let within = count.within in
    let odd = proof.has_peak in
    let below = layer_within n proof.top (height_of d) tall.covers (omega arith) in
    let low : height_of d ≤ 20 = elim (cases_lt 20 (height_of d)) [
      | inl gt ↦ (let big : 2 ^ 20 < n = tall.least 20 gt in let most = count.most in absurd (omega arith))
      | inr le ↦ le
    ] in
    let (x, there) = last_there d claims count proof.peaks_known in
    let (r, peak) = peak_known claims n proof.top proof.peaks_known (omega arith) odd in
    let rise : climbed (filled n claims) (height_of d - last) last off x ≡ Some d.root =
    sym (ap (λ o. option_and_then (climbed (filled n claims) (height_of d - last) last off) o) there) ∙ proof.to_root in
    elim (follows_or_clashes d book (filled n claims) (height_of d - last) 0 last off (height_of d) 0 x d.root rooted
    (filled_digests n claims digests) (digests last off x there) (omega arith) rise (omega arith) (sym count.halved)
    (if_some (book (height_of d) 0) d.root rooted.root_is)) [
      | inr clash ↦ inr (inr (x, there, clash))
      | inl up ↦
          elim (follows_or_clashes d book claims proof.top (height_of d - proof.top) 0 i proof.top (peak_offset proof.top n) (sha256 bytes) r
          rooted digests (length-sha256 bytes) (omega arith) (proof.to_peak ∙ peak) (omega arith) (sym proof.below_it)
          (peak_followed d book claims proof.top x r count below odd there peak rise up)) [
            | inr clash ↦ inr (inl clash)
            | inl follows ↦ inl (record {
              climbs = record {
                to_peak = all_follows book claims proof.top 0 i (sha256 bytes) follows;
                to_root = λ digest at.
                    let e : x ≡ digest = cc in
                    subst (λ y. Follows book (filled n claims) (height_of d - last) last off y) e
                    (all_follows book (filled n claims) (height_of d - last) last off x up);
              };
              peaks = λ k y under odd' at. peak_followed d book claims k x y count under odd' there at rise up;
            })
          ]
    ]
