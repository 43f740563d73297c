-- The digests that the climbs of a proof meet: a book that contradicts none of them follows the climbs, and the other way round.
use Rattle.std.proofs.Common.{◌≡◌, ℕ, zero, suc, ◌+◌, ◌-◌, ◌*◌, ◌/◌, ◌%◌, ◌^◌, ◌≤◌, ◌<◌, ◌==◌, ◌&&◌, true, false, nat_le, Option, Some, None, List, refl, sym, ◌∙◌, ap, subst, inl, inr, arith}
use Rattle.std.specs.Prelude.{option_and_then, IfSome, if◌then◌else◌}
use Rattle.std.proofs.lemmas.Bool.{cases_eq, cases_lt, cases_Bool, and_parts, and_from, eqb-true, eq-eqb}
use Rattle.std.proofs.lemmas.Bool.Decides.{nat_tests}
use Rattle.std.proofs.lemmas.Nat.{pow_pos}
use Rattle.std.proofs.Math.Nat.{mul-le-mul_left}
use Rattle.sha2.specs.Sha256.{sha256}
use Rattle.pp_terms.specs.tree.Tree.{Node, above, is_full, is_peak}
use Rattle.pp_terms.specs.tree.Book.{LookUp}
use Rattle.pp_terms.specs.tree.Bins.{sibling}
use Rattle.pp_terms.specs.tree.Proves.{joined, climbed, filled, last_layer, peak_offset, Proves}
use Rattle.pp_terms.specs.tree.Claims.{met, met_below, met_at_peaks, met_above, or_else, Contradicts}
use Rattle.pp_terms.specs.format.Descriptor.{Descriptor, chunks_of, height_of}
use Rattle.pp_terms.proofs.Heights.{height_is}
use Rattle.pp_terms.proofs.Peaks.{peak_in, peak_found, above_is}
use Rattle.pp_paths.specs.Law.{ProvenIsSettled, ProvenFits, ProvenOrClash}
use Rattle.pp_paths.proofs.PeakNodes.{layer_within, peak_known}
use Rattle.pp_paths.proofs.Followed.{Follows, HasNoOther, IsFollowed}
use Rattle.pp_tree.proofs.Halving.{above_half}
use Rattle.pp_paths.proofs.ProvenChunks.{Counted, counted, climbed_on, above_twice, past_full, last_there, followed_is_settled, followed_fits}
use Rattle.pp_paths.proofs.ProvenClashes.{followed_or_clash}
use Rattle.pp_terms.proofs.Facts.{bytes_cases}

abbrev at_node : ℕ → ℕ → Node
at_node k j = record { layer = k; offset = j }

climbed_by : (known : LookUp) (m k j : ℕ) (digest other : List ℕ) → known k (sibling j) ≡ Some other
    → climbed known (suc m) k j digest ≡ climbed known m (suc k) (j / 2) (sha256 (joined j digest other))
climbed_by known m k j digest other beside = rw beside refl

-- a climb that gets further has a digest at each node of its way
climbed_part : (known : LookUp) (m n k j : ℕ) (digest end : List ℕ) → m ≤ n → climbed known n k j digest ≡ Some end
    → (x : List ℕ) × (climbed known m k j digest ≡ Some x)
climbed_part known zero n k j digest end le is = (digest, refl)
climbed_part known (suc m) zero k j digest end le is = absurd (omega arith)
climbed_part known (suc m) (suc n) k j digest end le is =
    let (other, beside, rest) = climbed_on known n k j digest end is in
    let (x, here) = climbed_part known m n (suc k) (j / 2) (sha256 (joined j digest other)) end (omega arith) rest in
    (x, climbed_by known m k j digest other beside ∙ here)

follows_head : (book known : LookUp) (n k j : ℕ) (digest : List ℕ) → Follows book known n k j digest
    → IfSome (book k j) (λ kept. kept ≡ digest)
follows_head book known zero k j digest follows = follows
follows_head book known (suc n) k j digest follows = follows.0

-- what the book has on the way of a climb that it follows
followed_at : (book known : LookUp) (m n k j l o : ℕ) (digest x kept : List ℕ) → m ≤ n → Follows book known n k j digest
    → climbed known m k j digest ≡ Some x → l ≡ k + m → o ≡ above m j → book l o ≡ Some kept → kept ≡ x
followed_at book known zero n k j l o digest x kept le follows is layer offset at =
    let same_layer : l ≡ k = omega arith in
    let here : book k j ≡ Some kept = ap (λ i. book k i) (sym offset) ∙ ap (λ i. book i o) (sym same_layer) ∙ at in
    let same : kept ≡ digest = subst (λ p. IfSome p (λ y. y ≡ digest)) here (follows_head book known n k j digest follows) in
    let e : digest ≡ x = cc in same ∙ e
followed_at book known (suc m) zero k j l o digest x kept le follows is layer offset at = absurd (omega arith)
followed_at book known (suc m) (suc n) k j l o digest x kept le follows is layer offset at =
    let (other, beside, rest) = climbed_on known m k j digest x is in
    followed_at book known m n (suc k) (j / 2) l o (sha256 (joined j digest other)) x kept (omega arith) (follows.1 other beside) rest
    (omega arith) (offset ∙ sym (above_half m j)) at

if_kept : (o : Option (List ℕ)) (digest : List ℕ) → ((kept : List ℕ) → o ≡ Some kept → kept ≡ digest) → IfSome o (λ kept. kept ≡ digest)
if_kept None digest each = tt
if_kept (Some kept) digest each = each kept refl

-- a book that has the climb's digest at each node of the way, or none, follows it
follows_from : (book known : LookUp) (n k j : ℕ) (digest : List ℕ)
    → ((m l o : ℕ) (x kept : List ℕ) → m ≤ n → l ≡ k + m → o ≡ above m j → climbed known m k j digest ≡ Some x
    → book l o ≡ Some kept → kept ≡ x)
    → Follows book known n k j digest
follows_from book known zero k j digest each =
    if_kept (book k j) digest (λ kept at. each 0 k j digest kept (omega arith) (omega arith) refl refl at)
follows_from book known (suc n) k j digest each = (
  if_kept (book k j) digest (λ kept at. each 0 k j digest kept (omega arith) (omega arith) refl refl at),
  λ other beside. follows_from book known n (suc k) (j / 2) (sha256 (joined j digest other)) (λ m l o x kept le layer offset is at.
      each (suc m) l o x kept (omega arith) (omega arith) (offset ∙ above_half m j) (climbed_by known m k j digest other beside ∙ is) at),
)

-- halving keeps the order
less_above : (m a b : ℕ) → above m a < above m b → a < b
less_above zero a b lt = lt
less_above (suc m) a b lt = less_above m a b (omega arith)

full_count : (n k j : ℕ) → j < above k n → is_full n (at_node k j) ≡ true
full_count n k j lt =
    let e = above_is k n in
    let down : n / 2 ^ k * 2 ^ k ≤ n = (let one : 0 < 2 ^ k = pow_pos k in omega arith) in
    let over : j + 1 ≤ n / 2 ^ k = omega arith in
    let times = mul-le-mul_left (2 ^ k) over in
    let under : (j + 1) * 2 ^ k ≤ n = omega arith in
    grind (arith, nat_tests)

-- the node behind the last full one of a layer isn't full
not_full : (n k : ℕ) → is_full n (at_node k (above k n)) ≡ false
not_full n k =
    let e = above_is k n in
    let one : 0 < 2 ^ k = pow_pos k in
    let less : n < n / 2 ^ k * 2 ^ k + 2 ^ k = omega arith in
    let whole : (above k n + 1) * 2 ^ k ≡ n / 2 ^ k * 2 ^ k + 2 ^ k = ap (λ q. (q + 1) * 2 ^ k) e ∙ grind arith in
    let over : n < (above k n + 1) * 2 ^ k = omega arith in
    grind (arith, nat_tests)

-- the nodes on the way from a chunk up to its peak are full
full_below : (n i top k : ℕ) → above top n % 2 ≡ 1 → above top i ≡ peak_offset top n → k ≤ top → is_full n (at_node k (above k i)) ≡ true
full_below n i top k odd below le =
    let a = top - k in
    let split : top ≡ a + k = omega arith in
    let mine = above_twice a k i top split in
    let all = above_twice a k n top split in
    full_count n k (above k i) (less_above a (above k i) (above k n) (omega arith))

-- and above the peak lie the nodes behind the last full ones
past_top : (n i top k : ℕ) → above top n % 2 ≡ 1 → above top i ≡ peak_offset top n → top < k → above k i ≡ above k n
past_top n i top k odd below lt =
    let a = k - suc top in
    let split : k ≡ a + suc top = omega arith in
    let same : above (suc top) i ≡ above (suc top) n = omega arith in
    above_twice a (suc top) i k split ∙ ap (λ m. above a m) same ∙ sym (above_twice a (suc top) n k split)

equal_unless : (xs ys : List ℕ) → ((xs ≡ ys → ⊥) → ⊥) → xs ≡ ys
equal_unless xs ys never = elim (bytes_cases xs ys) [ inl same ↦ same | inr differ ↦ absurd (never differ) ]

first_of_two : (o other : Option (List ℕ)) (x : List ℕ) → o ≡ Some x → or_else o other ≡ Some x
first_of_two o other x e = ap (λ p. or_else p other) e

-- What is met, case by case.
module _ (d : Descriptor) (claims : LookUp) (i : ℕ) (bytes : List ℕ) where
  full_met : (k j : ℕ) → is_full (chunks_of d) (at_node k j) ≡ true
      → met d claims i bytes k j ≡ or_else (met_below claims i bytes k j) (met_at_peaks (chunks_of d) claims k j)
  full_met k j full = rw full refl

  below_met : (k j : ℕ) (x : List ℕ) → is_full (chunks_of d) (at_node k j) ≡ true → above k i ≡ j
      → climbed claims k 0 i (sha256 bytes) ≡ Some x → met d claims i bytes k j ≡ Some x
  below_met k j x full here is =
      let test : (above k i == j) ≡ true = eq-eqb (above k i) j here in
      let below : met_below claims i bytes k j ≡ Some x = rw test is in
      full_met k j full ∙ first_of_two (met_below claims i bytes k j) (met_at_peaks (chunks_of d) claims k j) x below

  peak_met : (k j : ℕ) → is_full (chunks_of d) (at_node k j) ≡ true → (above k i == j) ≡ false
      → is_peak (chunks_of d) (at_node k j) ≡ true → met d claims i bytes k j ≡ claims k j
  peak_met k j full apart peak =
      let below : met_below claims i bytes k j ≡ None = rw apart refl in
      full_met k j full ∙ ap (λ o. or_else o (met_at_peaks (chunks_of d) claims k j)) below ∙ ap (λ b. if b then claims k j else None) peak

  none_met : (k j : ℕ) → is_full (chunks_of d) (at_node k j) ≡ true → (above k i == j) ≡ false
      → is_peak (chunks_of d) (at_node k j) ≡ false → met d claims i bytes k j ≡ None
  none_met k j full apart peak =
      let below : met_below claims i bytes k j ≡ None = rw apart refl in
      full_met k j full ∙ ap (λ o. or_else o (met_at_peaks (chunks_of d) claims k j)) below ∙ ap (λ b. if b then claims k j else None) peak

  above_met : (k j : ℕ) → is_full (chunks_of d) (at_node k j) ≡ false → nat_le k (height_of d) ≡ true
      → met d claims i bytes k j ≡ met_above (chunks_of d) claims k j
  above_met k j part low = rw (part, low) refl

  high_met : (k j : ℕ) → is_full (chunks_of d) (at_node k j) ≡ false → nat_le k (height_of d) ≡ false
      → met d claims i bytes k j ≡ None
  high_met k j part high = rw (part, high) refl

-- the digest above the last peak, or none
above_is_met : (n k j : ℕ) (claims : LookUp) (y : List ℕ) → claims (last_layer n) (peak_offset (last_layer n) n) ≡ Some y
    → (nat_le (last_layer n) k && above (k - last_layer n) (peak_offset (last_layer n) n) == j) ≡ true
    → met_above n claims k j ≡ climbed (filled n claims) (k - last_layer n) (last_layer n) (peak_offset (last_layer n) n) y
above_is_met n k j claims y there test = rw (test, there) refl

above_not_met : (n k j : ℕ) (claims : LookUp)
    → (nat_le (last_layer n) k && above (k - last_layer n) (peak_offset (last_layer n) n) == j) ≡ false
    → met_above n claims k j ≡ None
above_not_met n k j claims test = rw test refl

-- the last layer with a peak lies below the others
last_lowest : (d : Descriptor) (k : ℕ) → Counted d → above k (chunks_of d) % 2 ≡ 1 → last_layer (chunks_of d) ≤ k
last_lowest d k count odd = elim (cases_lt k (last_layer (chunks_of d))) [
  | inl lt ↦ (let even = count.last.lower k lt in absurd (omega arith))
  | inr ge ↦ ge
]

low_height : (d : Descriptor) → Counted d → height_of d ≤ 20
low_height d count = elim (cases_lt 20 (height_of d)) [
  | inl gt ↦
      let tall = height_is (chunks_of d) count.some count.most in
      let big : 2 ^ 20 < chunks_of d = tall.least 20 gt in
      let most = count.most in
      absurd (omega arith)
  | inr le ↦ le
]

module _ (d : Descriptor) (book claims : LookUp) (i : ℕ) (bytes : List ℕ) (proof : Proves d claims i bytes) (count : Counted d) where
  top_low : proof.top ≤ height_of d
  top_low =
      let odd = proof.has_peak in
      layer_within (chunks_of d) proof.top (height_of d) (height_is (chunks_of d) count.some count.most).covers (omega arith)

  -- the digest of the peak above the chunk
  top_known : (x : List ℕ) × (claims proof.top (peak_offset proof.top (chunks_of d)) ≡ Some x)
  top_known =
      let low = low_height d count in
      let below = top_low in
      peak_known claims (chunks_of d) proof.top proof.peaks_known (omega arith) proof.has_peak

  rise : (x : List ℕ) → claims (last_layer (chunks_of d)) (peak_offset (last_layer (chunks_of d)) (chunks_of d)) ≡ Some x
      → climbed (filled (chunks_of d) claims) (height_of d - last_layer (chunks_of d)) (last_layer (chunks_of d))
      (peak_offset (last_layer (chunks_of d)) (chunks_of d)) x ≡ Some d.root
  rise x there =
      sym (ap (λ o. option_and_then (climbed (filled (chunks_of d) claims) (height_of d - last_layer (chunks_of d)) (last_layer (chunks_of d))
      (peak_offset (last_layer (chunks_of d)) (chunks_of d))) o) there) ∙ proof.to_root

  last_full : is_full (chunks_of d) (at_node (last_layer (chunks_of d)) (peak_offset (last_layer (chunks_of d)) (chunks_of d))) ≡ true
  last_full =
      let odd = count.last.odd in
      full_count (chunks_of d) (last_layer (chunks_of d)) (peak_offset (last_layer (chunks_of d)) (chunks_of d)) (omega arith)

  -- the last peak is met with the digest that is claimed
  last_met : (x : List ℕ) → claims (last_layer (chunks_of d)) (peak_offset (last_layer (chunks_of d)) (chunks_of d)) ≡ Some x
      → met d claims i bytes (last_layer (chunks_of d)) (peak_offset (last_layer (chunks_of d)) (chunks_of d)) ≡ Some x
  last_met x there =
      let n = chunks_of d in
      let last = last_layer n in
      let off = peak_offset last n in
      let odd = count.last.odd in
      let odd' = proof.has_peak in
      let lowest = last_lowest d proof.top count odd' in
      elim (cases_Bool (above last i == off)) [
        | inr apart ↦
            let low = low_height d count in
            let within = count.within in
            peak_met d claims i bytes last off last_full apart (peak_in 21 n last (omega arith) odd) ∙ there
        | inl here ↦
            let below : above last i ≡ off = eqb-true (above last i) off here in
            elim (cases_eq last proof.top) [
              | inl e ↦ below_met d claims i bytes last off x last_full below
                  (ap (λ l. climbed claims l 0 i (sha256 bytes)) e ∙ proof.to_peak ∙ ap (λ l. claims l (peak_offset l n)) (sym e) ∙ there)
              | inr ne ↦
                  let past = past_top n i last proof.top odd below (omega arith) in
                  let under = proof.below_it in
                  absurd (omega arith)
            ]
      ]

  -- a node above the last peak is met with the digest of the climb
  spine_met : (m : ℕ) (digest x : List ℕ) → claims (last_layer (chunks_of d)) (peak_offset (last_layer (chunks_of d)) (chunks_of d)) ≡ Some digest
      → 0 < m → last_layer (chunks_of d) + m ≤ height_of d
      → climbed (filled (chunks_of d) claims) m (last_layer (chunks_of d)) (peak_offset (last_layer (chunks_of d)) (chunks_of d)) digest ≡ Some x
      → met d claims i bytes (last_layer (chunks_of d) + m) (above m (peak_offset (last_layer (chunks_of d)) (chunks_of d))) ≡ Some x
  spine_met m digest x there some within is =
      let n = chunks_of d in
      let last = last_layer n in
      let off = peak_offset last n in
      let k = last + m in
      let steps : above m off ≡ above k n =
      past_full n last m count.last.odd some ∙ ap (λ (l : ℕ). above l n) (let e : m + last ≡ k = omega arith in e) in
      let part : is_full n (at_node k (above m off)) ≡ false = ap (λ j. is_full n (at_node k j)) steps ∙ not_full n k in
      let low : nat_le k (height_of d) ≡ true = grind (arith, nat_tests) in
      let left : k - last ≡ m = omega arith in
      let first : nat_le last k ≡ true = grind (arith, nat_tests) in
      let test : (nat_le last k && above (k - last) off == above m off) ≡ true =
      and_from (nat_le last k) (above (k - last) off == above m off) first
      (eq-eqb (above (k - last) off) (above m off) (ap (λ l. above l off) left)) in
      above_met d claims i bytes k (above m off) part low ∙ above_is_met n k (above m off) claims digest there test
      ∙ ap (λ l. climbed (filled n claims) l last off digest) left ∙ is

  met_stays : (Contradicts book (met d claims i bytes) → ⊥) → (k j l o : ℕ) (x kept : List ℕ) → l ≡ k → o ≡ j
      → met d claims i bytes k j ≡ Some x → book l o ≡ Some kept → kept ≡ x
  met_stays none k j l o x kept layer offset is at = equal_unless kept x (λ differ. none (record {
    layer = k;
    offset = j;
    digest = x;
    kept = kept;
    is_met = is;
    here = ap (λ m. book m j) (sym layer) ∙ ap (λ m. book l m) (sym offset) ∙ at;
    other = differ;
  }))

  root_step : (Contradicts book (met d claims i bytes) → ⊥) → (digest : List ℕ)
      → claims (last_layer (chunks_of d)) (peak_offset (last_layer (chunks_of d)) (chunks_of d)) ≡ Some digest
      → (m l o : ℕ) (x kept : List ℕ) → m ≤ height_of d - last_layer (chunks_of d) → l ≡ last_layer (chunks_of d) + m
      → o ≡ above m (peak_offset (last_layer (chunks_of d)) (chunks_of d))
      → climbed (filled (chunks_of d) claims) m (last_layer (chunks_of d)) (peak_offset (last_layer (chunks_of d)) (chunks_of d)) digest ≡ Some x
      → book l o ≡ Some kept → kept ≡ x
  root_step none digest there zero l o x kept le layer offset is at =
      let e : digest ≡ x = cc in
      met_stays none (last_layer (chunks_of d)) (peak_offset (last_layer (chunks_of d)) (chunks_of d)) l o x kept (omega arith) offset
      (last_met digest there ∙ ap (λ y. Some y) e) at
  root_step none digest there (suc m) l o x kept le layer offset is at =
      let within = count.within in
      met_stays none (last_layer (chunks_of d) + suc m) (above (suc m) (peak_offset (last_layer (chunks_of d)) (chunks_of d))) l o x kept
      layer offset (spine_met (suc m) digest x there (omega arith) (omega arith) is) at

  -- a book that contradicts nothing has no other digest
  pub no_other : (Contradicts book (met d claims i bytes) → ⊥) → HasNoOther d book claims i bytes proof
  no_other none = record {
    to_peak = follows_from book claims proof.top 0 i (sha256 bytes) (λ m l o x kept le layer offset is at.
        met_stays none m (above m i) l o x kept (omega arith) offset
        (below_met d claims i bytes m (above m i) x (full_below (chunks_of d) i proof.top m proof.has_peak proof.below_it le) refl is) at);
    to_root = λ digest there. follows_from book (filled (chunks_of d) claims) (height_of d - last_layer (chunks_of d)) (last_layer (chunks_of d))
        (peak_offset (last_layer (chunks_of d)) (chunks_of d)) digest (root_step none digest there);
  }

  -- what is met of a full node, the book has or nothing
  full_same : IsFollowed d book claims i bytes proof → (k j : ℕ) (digest kept : List ℕ) → is_full (chunks_of d) (at_node k j) ≡ true
      → met d claims i bytes k j ≡ Some digest → book k j ≡ Some kept → kept ≡ digest
  full_same follows k j digest kept full is at =
      let n = chunks_of d in
      elim (cases_Bool (above k i == j)) [
        | inl here ↦
            let below : above k i ≡ j = eqb-true (above k i) j here in
            elim (cases_lt proof.top k) [
              | inl high ↦
                  let past = past_top n i proof.top k proof.has_peak proof.below_it high in
                  let part : is_full n (at_node k j) ≡ false = ap (λ m. is_full n (at_node k m)) (sym below ∙ past) ∙ not_full n k in
                  absurd cc
              | inr low ↦
                  let (r, peak) = top_known in
                  let (x, so_far) = climbed_part claims k proof.top 0 i (sha256 bytes) r low (proof.to_peak ∙ peak) in
                  let same : Some x ≡ Some digest = sym (below_met d claims i bytes k j x full below so_far) ∙ is in
                  let e : x ≡ digest = cc in
                  followed_at book claims k proof.top 0 i k j (sha256 bytes) x kept low follows.climbs.to_peak so_far (omega arith) (sym below) at
                  ∙ e
            ]
        | inr apart ↦ elim (cases_Bool (is_peak n (at_node k j))) [
          | inl peak ↦
              let found = peak_found n (at_node k j) peak in
              let last : peak_offset k n ≡ j = omega (arith, found.2) in
              let odd : above k n % 2 ≡ 1 = omega (arith, found.1, found.2) in
              let within = layer_within n k (height_of d) (height_is n count.some count.most).covers (omega arith) in
              let claim : claims k (peak_offset k n) ≡ Some digest =
              ap (λ m. claims k m) last ∙ sym (peak_met d claims i bytes k j full apart peak) ∙ is in
              subst (λ p. IfSome p (λ y. y ≡ digest)) (ap (λ m. book k m) last ∙ at) (follows.peaks k digest within odd claim)
          | inr no_peak ↦
              let nothing = none_met d claims i bytes k j full apart no_peak in
              absurd cc
        ]
      ]

  -- and of a node that isn't full
  part_same : IsFollowed d book claims i bytes proof → (k j : ℕ) (digest kept : List ℕ) → is_full (chunks_of d) (at_node k j) ≡ false
      → met d claims i bytes k j ≡ Some digest → book k j ≡ Some kept → kept ≡ digest
  part_same follows k j digest kept part is at =
      let n = chunks_of d in
      let last = last_layer n in
      let off = peak_offset last n in
      elim (cases_Bool (nat_le k (height_of d))) [
        | inr high ↦ (let nothing = high_met d claims i bytes k j part high in absurd cc)
        | inl low ↦
            let here = above_met d claims i bytes k j part low in
            elim (cases_Bool (nat_le last k && above (k - last) off == j)) [
              | inr apart ↦ (let nothing = here ∙ above_not_met n k j claims apart in absurd cc)
              | inl test ↦
                  let (x, there) = last_there d claims count proof.peaks_known in
                  let parts = and_parts (nat_le last k) (above (k - last) off == j) test in
                  let up : k ≤ height_of d = grind (arith, nat_tests) in
                  let past : last ≤ k = (let first = parts.0 in grind (arith, nat_tests)) in
                  let climbs : climbed (filled n claims) (k - last) last off x ≡ Some digest =
                  sym (here ∙ above_is_met n k j claims x there test) ∙ is in
                  followed_at book (filled n claims) (k - last) (height_of d - last) last off k j x digest kept (omega arith)
                  (follows.climbs.to_root x there) climbs (omega arith) (sym (eqb-true (above (k - last) off) j parts.1)) at
            ]
      ]

  -- a book that has no other digest contradicts nothing
  pub no_contradiction : IsFollowed d book claims i bytes proof → Contradicts book (met d claims i bytes) → ⊥
  no_contradiction follows against = elim (cases_Bool (is_full (chunks_of d) (at_node against.layer against.offset))) [
    | inl full ↦ against.other (full_same follows against.layer against.offset against.digest against.kept full against.is_met against.here)
    | inr part ↦ against.other (part_same follows against.layer against.offset against.digest against.kept part against.is_met against.here)
  ]

pub proven_is_settled : ProvenIsSettled
proven_is_settled d book claims i bytes proof is rooted none =
    followed_is_settled d book claims i bytes proof is rooted (no_other d book claims i bytes proof (counted d is) none)

pub proven_fits : ProvenFits
proven_fits d book peaked claims i bytes proof is rooted none added rooted' =
    followed_fits d book peaked claims i bytes proof is rooted (no_other d book claims i bytes proof (counted d is) none) added rooted'

pub proven_or_clash : ProvenOrClash
proven_or_clash d book claims i bytes proof is rooted = elim (followed_or_clash d book claims i bytes proof is rooted) [
  | inl follows ↦ inl (no_contradiction d book claims i bytes proof (counted d is) follows)
  | inr clash ↦ inr clash
]
