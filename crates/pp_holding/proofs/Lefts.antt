-- How many chunks are neither committed nor pending.
use Rattle.std.proofs.Common.{◌≡◌, ℕ, suc, ◌+◌, ◌-◌, ◌<◌, ◌≤◌, Bool, true, false, cond, List, [], ◌∷◌, length, get_or, refl, sym, ◌∙◌, ap, arith}
use Rattle.std.specs.Prelude.{◌||◌, ◌&&◌, ◌==◌, nat_le, count_by}
use Rattle.std.specs.List.{list_all, range_with_len}
use Rattle.std.proofs.lemmas.Bool.Decides.{nat_tests}
use Rattle.std.proofs.lemmas.List.Sums.{sum_by-cons}
use Rattle.pp_terms.specs.format.Descriptor.{chunks_of}
use Rattle.pp_store.specs.Store.{StoreState}
use Rattle.pp_promises.specs.Batches.{is_in, is_all_in, is_late, longest_wait}
use Rattle.pp_holding.specs.declared.queue.Waiting.{Waiting}
use Rattle.pp_holding.specs.Queue.{is_any_late}
use Rattle.pp_holding.specs.Holding.{batch_from, HasWaiting}
use Rattle.pp_holding.proofs.Waitings.{is_in-batch}

count : List Bool → ℕ
count xs = count_by (λ (b : Bool). b) xs

count-cons : (b : Bool) (xs : List Bool) → count (b ∷ xs) ≡ cond b 1 0 + count xs
unfolding count
count-cons b xs = sum_by-cons (λ (b : Bool). cond b 1 0) b xs

some : (n : ℕ) → (suc n == 0) ≡ false
some n = grind (arith, nat_tests)

-- So many are in neither set; there are none where a test of each passes that tells whether it is in one.
record HasNeither (xs ys : List Bool) (test : ℕ → Bool) (from : ℕ) : Type 0 where
  left : ℕ
  sum : left + count xs + count ys ≡ length xs
  all : (left == 0) ≡ list_all test (range_with_len from (length xs))

neither : (xs ys : List Bool) (test : ℕ → Bool) (from : ℕ) → length ys ≡ length xs → ((i : ℕ) → get_or ys i false ≡ true → get_or xs i false ≡ false)
    → ((i : ℕ) → i < length xs → test (from + i) ≡ (get_or xs i false || get_or ys i false)) → HasNeither xs ys test from
unfolding count
neither [] [] test from same apart tells = record { left = 0; sum = omega arith; all = refl }
neither [] (y ∷ ys) test from same apart tells = absurd (omega arith)
neither (x ∷ xs) [] test from same apart tells = absurd (omega arith)
neither (x ∷ xs) (y ∷ ys) test from same apart tells =
    pick x y refl refl (tells 0 (omega arith))
    (neither xs ys test (from + 1) (omega arith) (λ i at. apart (suc i) at) (λ i lt. ap test (omega arith) ∙ tells (suc i) (omega arith)))
  where
    pick : (a b : Bool) → x ≡ a → y ≡ b → test (from + 0) ≡ (x || y) → HasNeither xs ys test (from + 1) → HasNeither (x ∷ xs) (y ∷ ys) test from
    pick true true is_x is_y here rest = let no = apart 0 is_y in absurd cc
    pick true false is_x is_y here rest = record {
      left = rest.left;
      sum =
          let one = count-cons x xs in
          let two = count-cons y ys in
          let in_x : cond {A = ℕ} x 1 0 ≡ 1 = ap (λ (b : Bool). cond {A = ℕ} b 1 0) is_x in
          let in_y : cond {A = ℕ} y 1 0 ≡ 0 = ap (λ (b : Bool). cond {A = ℕ} b 1 0) is_y in
          omega (arith, one, two, in_x, in_y, rest.sum);
      all = rest.all ∙ ap (λ (b : Bool). b && list_all test (range_with_len (from + 1) (length xs)))
          (sym (ap test (omega arith) ∙ here ∙ ap (λ (b : Bool). b || y) is_x));
    }
    pick false true is_x is_y here rest = record {
      left = rest.left;
      sum =
          let one = count-cons x xs in
          let two = count-cons y ys in
          let in_x : cond {A = ℕ} x 1 0 ≡ 0 = ap (λ (b : Bool). cond {A = ℕ} b 1 0) is_x in
          let in_y : cond {A = ℕ} y 1 0 ≡ 1 = ap (λ (b : Bool). cond {A = ℕ} b 1 0) is_y in
          omega (arith, one, two, in_x, in_y, rest.sum);
      all = rest.all ∙ ap (λ (b : Bool). b && list_all test (range_with_len (from + 1) (length xs)))
          (sym (ap test (omega arith) ∙ here ∙ (λ t. is_x t || is_y t)));
    }
    pick false false is_x is_y here rest = record {
      left = suc rest.left;
      sum =
          let one = count-cons x xs in
          let two = count-cons y ys in
          let in_x : cond {A = ℕ} x 1 0 ≡ 0 = ap (λ (b : Bool). cond {A = ℕ} b 1 0) is_x in
          let in_y : cond {A = ℕ} y 1 0 ≡ 0 = ap (λ (b : Bool). cond {A = ℕ} b 1 0) is_y in
          omega (arith, one, two, in_x, in_y, rest.sum);
      all = some rest.left ∙ ap (λ (b : Bool). b && list_all test (range_with_len (from + 1) (length xs)))
          (sym (ap test (omega arith) ∙ here ∙ (λ t. is_x t || is_y t)));
    }

pub record Lefts (s : StoreState) (waiting : List Waiting) (left : ℕ) : Type 0 where
  pub sum : left + count_by (λ (b : Bool). b) s.committed + length waiting ≡ chunks_of s.descriptor
  pub all : (left == 0) ≡ is_all_in (batch_from s waiting)

pub left_is : (s : StoreState) (waiting : List Waiting) → HasWaiting s waiting → (left : ℕ) × Lefts s waiting left
unfolding count
left_is s waiting has =
    let it = neither s.committed s.pending (is_in (batch_from s waiting)) 0 (has.pending_size ∙ sym has.committed_size) has.apart
    (λ i lt. ap (is_in (batch_from s waiting)) (omega arith) ∙ is_in-batch s waiting i has) in
    let size = has.committed_size in
    let many = has.as_many in
    let sum = it.sum in
    (it.left, record { sum = omega (arith, sum, size, many); all = it.all })

pub late_is : (s : StoreState) (now : ℕ) (waiting : List Waiting) → is_any_late now waiting ≡ is_late now (batch_from s waiting)
late_is s now [] = refl
late_is s now (w ∷ waiting) = ap (λ (b : Bool). nat_le (w.put_at + longest_wait) now || b) (late_is s now waiting)

-- as it is computed
pub left_value : (s : StoreState) (waiting : List Waiting) (chunks committed pending : ℕ) → HasWaiting s waiting → chunks ≡ chunks_of s.descriptor
    → committed ≡ count_by (λ (b : Bool). b) s.committed → pending ≡ count_by (λ (b : Bool). b) s.pending
    → (pending ≤ chunks - committed) × Lefts s waiting (chunks - committed - pending)
left_value s waiting chunks committed pending has all one two =
    let (left, is) = left_is s waiting has in
    let sum = is.sum in
    let many = has.as_many in
    let same : chunks - committed - pending ≡ left = omega (arith, sum, many, all, one, two) in
    (omega (arith, sum, many, all, one, two), record { sum = omega (arith, same, sum); all = ap (λ (n : ℕ). n == 0) same ∙ is.all })

pub due_late : (quiet all late result : Bool) → quiet ≡ false → all ≡ false → result ≡ late → result ≡ (quiet || all || late)
due_late quiet all late result one two same = same ∙ sym (λ t. one t || two t || late)
