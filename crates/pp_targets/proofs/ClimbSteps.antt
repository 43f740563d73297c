-- Climbs step by step.
use Rattle.std.proofs.Common.{◌≡◌, ℕ, zero, suc, ◌+◌, ◌*◌, ◌/◌, ◌%◌, ◌^◌, ◌<◌, ◌≤◌, ◌==◌, nat_lt, true, false, Some, List, ◌++◌, length, refl, sym, ◌∙◌, ap, inl, inr, arith}
use Rattle.std.proofs.lemmas.Bool.{cases_eq, cases_Bool}
use Rattle.std.proofs.lemmas.Bool.Decides.{nat_tests}
use Rattle.std.proofs.lemmas.List.{length-replicate}
use Rattle.sha2.specs.Sha256.{sha256}
use Rattle.sha2.proofs.Facts256.{length-sha256}
use Rattle.pp_terms.specs.tree.Tree.{above, empty_hash}
use Rattle.pp_terms.specs.tree.Book.{LookUp, AreDigests, IsJoined}
use Rattle.pp_terms.specs.tree.Bins.{sibling}
use Rattle.pp_terms.specs.tree.Proves.{joined, climbed, filled}
use Rattle.pp_tree.proofs.Halving.{above_half}
use Rattle.pp_tree.proofs.Rootedness.{some_same}
use Rattle.pp_paths.proofs.Growth.{even_sibling, odd_sibling}
use Rattle.pp_paths.proofs.ProvenChunks.{climbed_on}

-- One step of a climb from node (k, j), m layers above it, in layer l: its digest there, the sibling's, and that of both.
pub record IsStep (known : LookUp) (k j : ℕ) (digest : List ℕ) (m l : ℕ) : Type 0 where
  pub here : List ℕ
  pub other : List ℕ
  pub up : List ℕ
  pub here_is : climbed known m k j digest ≡ Some here
  pub beside : known l (sibling (above m j)) ≡ Some other
  pub up_is : climbed known (suc m) k j digest ≡ Some up
  pub joins : up ≡ sha256 (joined (above m j) here other)

pub climbed_by : (known : LookUp) (m k j : ℕ) (digest other : List ℕ) → known k (sibling j) ≡ Some other
    → climbed known (suc m) k j digest ≡ climbed known m (suc k) (j / 2) (sha256 (joined j digest other))
climbed_by known m k j digest other beside = rw beside refl

pub step_of : (known : LookUp) (n m k j l : ℕ) (digest end : List ℕ) → m < n → l ≡ k + m → climbed known n k j digest ≡ Some end
    → IsStep known k j digest m l
step_of known zero m k j l digest end lt l_is is = absurd (omega arith)
step_of known (suc n) zero k j l digest end lt l_is is =
    let (other, beside, rest) = climbed_on known n k j digest end is in
    let low : l ≡ k = omega arith in
    record {
      here = digest;
      other = other;
      up = sha256 (joined j digest other);
      here_is = refl;
      beside = ap (λ (i : ℕ). known i (sibling j)) low ∙ beside;
      up_is = climbed_by known 0 k j digest other beside;
      joins = refl;
    }
step_of known (suc n) (suc m) k j l digest end lt l_is is =
    let (other, beside, rest) = climbed_on known n k j digest end is in
    let step = step_of known n m (suc k) (j / 2) l (sha256 (joined j digest other)) end (omega arith) (omega arith) rest in
    let half = above_half m j in
    record {
      here = step.here;
      other = step.other;
      up = step.up;
      here_is = climbed_by known m k j digest other beside ∙ step.here_is;
      beside = ap (λ (o : ℕ). known l (sibling o)) (sym half) ∙ step.beside;
      up_is = climbed_by known (suc m) k j digest other beside ∙ step.up_is;
      joins = step.joins ∙ ap (λ (o : ℕ). sha256 (joined o step.here step.other)) half;
    }

pub length-climbed : (known : LookUp) (n k j : ℕ) (digest end : List ℕ) → length digest ≡ 32 → climbed known n k j digest ≡ Some end
    → length end ≡ 32
length-climbed known zero k j digest end long is =
    let same : digest ≡ end = cc in ap (λ xs. length xs) (sym same) ∙ long
length-climbed known (suc n) k j digest end long is =
    let (other, beside, rest) = climbed_on known n k j digest end is in
    length-climbed known n (suc k) (j / 2) (sha256 (joined j digest other)) end (length-sha256 (joined j digest other)) rest

pub length-empty : length empty_hash ≡ 32
unfolding empty_hash
length-empty = length-replicate {A = ℕ} 32 0

pub filled_known : (n : ℕ) (known : LookUp) (k j : ℕ) → j * 2 ^ k < n → filled n known k j ≡ known k j
filled_known n known k j lt = let test : nat_lt (j * 2 ^ k) n ≡ true = grind (arith, nat_tests) in rw test refl

pub filled_past : (n : ℕ) (known : LookUp) (k j : ℕ) → n ≤ j * 2 ^ k → filled n known k j ≡ Some empty_hash
filled_past n known k j le = let test : nat_lt (j * 2 ^ k) n ≡ false = grind (arith, nat_tests) in rw test refl

pub length-filled : (n : ℕ) (known : LookUp) (k j : ℕ) (x : List ℕ) → AreDigests known → filled n known k j ≡ Some x → length x ≡ 32
length-filled n known k j x digests is = elim (cases_Bool (nat_lt (j * 2 ^ k) n)) [
  | inl t ↦
      let e : filled n known k j ≡ known k j = rw t refl in
      digests k j x (sym e ∙ is)
  | inr f ↦
      let e : filled n known k j ≡ Some empty_hash = rw f refl in
      ap (λ xs. length xs) (some_same x empty_hash (filled n known k j) is e) ∙ length-empty
]

-- which of two children has which digest
pub pair_of : (book : LookUp) (k o : ℕ) (here other up : List ℕ) → book k o ≡ Some here → book k (sibling o) ≡ Some other
    → book (suc k) (o / 2) ≡ Some up → up ≡ sha256 (joined o here other) → length here ≡ 32 → length other ≡ 32
    → (left : List ℕ) × (right : List ℕ) × IsJoined book k (o / 2) left right × (length left ≡ 32) × (length right ≡ 32)
pair_of book k o here other up here_is other_is up_is joins here_long other_long = elim (cases_eq (o % 2) 0) [
  | inl even ↦
      let test : (o % 2 == 0) ≡ true = grind (arith, nat_tests) in
      let left : 2 * (o / 2) ≡ o = omega arith in
      let beside = even_sibling o even in
      let right : 2 * (o / 2) + 1 ≡ sibling o = rw beside (omega arith) in
      let both : joined o here other ≡ here ++ other = rw test refl in (
        here,
        other,
        record {
          left_is = ap (λ (j : ℕ). book k j) left ∙ here_is;
          right_is = ap (λ (j : ℕ). book k j) right ∙ other_is;
          joined = up_is ∙ ap (λ xs. Some xs) (joins ∙ ap (λ xs. sha256 xs) both);
        },
        here_long,
        other_long,
      )
  | inr odd ↦
      let test : (o % 2 == 0) ≡ false = grind (arith, nat_tests) in
      let beside = odd_sibling o odd in
      let left : 2 * (o / 2) ≡ sibling o = rw beside (omega arith) in
      let right : 2 * (o / 2) + 1 ≡ o = omega arith in
      let both : joined o here other ≡ other ++ here = rw test refl in (
        other,
        here,
        record {
          left_is = ap (λ (j : ℕ). book k j) left ∙ other_is;
          right_is = ap (λ (j : ℕ). book k j) right ∙ here_is;
          joined = up_is ∙ ap (λ xs. Some xs) (joins ∙ ap (λ xs. sha256 xs) both);
        },
        other_long,
        here_long,
      )
]
