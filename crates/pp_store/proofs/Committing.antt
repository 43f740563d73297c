-- The pending chunks are committed, one after the other.
use Rattle.std.proofs.Common.{◌≡◌, inl, inr, ⊎_elim, ℕ, zero, suc, ◌+◌, ◌*◌, ◌<◌, ◌≤◌, Bool, true, false, cond, List, [], ◌∷◌, ◌++◌, length, get_or, replicate, refl, sym, ◌∙◌, ap, subst, arith, get_or-set_other, get_or-set_same}
use Rattle.std.specs.Prelude.{◌||◌, count_by}
use Rattle.std.proofs.Math.ListN.{set, length-set}
use Rattle.std.proofs.lemmas.List.Sums.{sum_by-cons}
use Rattle.std.proofs.lemmas.Bool.{cases_lt, cases_eq, false≢true}
use Rattle.std.proofs.lemmas.List.{length-append, length-replicate}
use Rattle.std.proofs.Math.Bool.{or-false, or-true}
use Rattle.pp_terms.specs.tree.Book.{LookUp, IsRooted, has_peaks}
use Rattle.pp_terms.specs.format.Descriptor.{Descriptor, chunks_of, IsDescriptor}
use Rattle.pp_terms.specs.disk.Store.{gate_place, pair_place, AreApart, HasHeader}
use Rattle.pp_terms.specs.disk.Image.{StandsIn}
use Rattle.pp_terms.specs.disk.Disk.{History, IsImage, IsTorn, IsOver}
use Rattle.pp_terms.proofs.Images.{has_over}
use Rattle.pp_terms.proofs.Facts.{none_in}
use Rattle.pp_scan.specs.Look.{synced}
use Rattle.pp_scan.specs.Holding.{is_there}
use Rattle.pp_scan.proofs.Finding.{some_bytes}
use Rattle.pp_store.specs.Pairs.{PairStands, PairsStand}
use Rattle.pp_store.specs.Gates.{gates_opened, made_durable}
use Rattle.pp_store.specs.Store.{StoreState, IsSized, in_either, is_held, AllStand, AgreesWith, HoldsAll, KnowsHeld, HasCommitted}
use Rattle.pp_store.proofs.Opening.{only_image}
use Rattle.pp_store.proofs.Puttings.{either_case}
use Rattle.pp_store.proofs.Surviving.{there_over}
use Rattle.pp_store.proofs.PairWrites.{gate_clear, gate_pair_clear}
use Rattle.pp_store.proofs.GateWrites.{over_torn, stands_opened}

-- Below this chunk none is pending any more; what was in either set still is.
pub record IsCommitting (old_committed old_pending committed pending : List Bool) (from : ℕ) : Type 0 where
  pub committed_size : length committed ≡ length old_committed
  pub pending_size : length pending ≡ length old_pending
  pub within : from ≤ length old_pending
  pub none : (i : ℕ) → i < from → get_or pending i false ≡ false
  pub each : (i : ℕ) → in_either committed pending i ≡ in_either old_committed old_pending i

pub commit_start : (committed pending : List Bool) → IsCommitting committed pending committed pending 0
commit_start committed pending = record {
  committed_size = refl;
  pending_size = refl;
  within = omega arith;
  none = λ i lt. absurd (omega arith);
  each = λ i. refl;
}

pub commit_step : (old_committed old_pending committed pending committed' pending' : List Bool) (from i : ℕ)
    → length old_pending ≡ length old_committed → IsCommitting old_committed old_pending committed pending from
    → from ≤ i → i < length pending → get_or pending i false ≡ true → ((k : ℕ) → from ≤ k → k < i → get_or pending k false ≡ false)
    → committed' ≡ set committed i true → pending' ≡ set pending i false → IsCommitting old_committed old_pending committed' pending' (i + 1)
commit_step old_committed old_pending committed pending committed' pending' from i sizes is after inside here between committed_is pending_is = record {
  committed_size = ap length committed_is ∙ length-set committed i true ∙ is.committed_size;
  pending_size = ap length pending_is ∙ length-set pending i false ∙ is.pending_size;
  within = omega (arith, is.pending_size);
  none = λ k lt. ap (λ (ps : List Bool). get_or ps k false) pending_is ∙ ⊎_elim
      (λ same. ap (λ (m : ℕ). get_or (set pending i false) m false) same ∙ get_or-set_same pending i false false inside)
      (λ other. get_or-set_other pending i k false false other ∙ ⊎_elim
      (λ low. is.none k low)
      (λ high. between k high (omega arith))
      (cases_lt k from))
      (cases_eq k i);
  each = λ k. ⊎_elim
      (λ same.
      let inside' : i < length committed = omega (arith, is.pending_size, is.committed_size) in
      let new : in_either committed' pending' k ≡ true = (λ t. get_or (committed_is t) (same t) false || get_or (pending_is t) (same t) false)
      ∙ ap (λ (b : Bool). b || get_or (set pending i false) i false) (get_or-set_same committed i true false inside') in
      let old : in_either committed pending k ≡ true = ap (λ (m : ℕ). in_either committed pending m) same
      ∙ ap (λ (b : Bool). get_or committed i false || b) here ∙ or-true (get_or committed i false) in
      new ∙ sym old ∙ is.each k)
      (λ other. (λ t. get_or (committed_is t) k false || get_or (pending_is t) k false)
      ∙ (λ t. get_or-set_other committed i k true false other t || get_or-set_other pending i k false false other t) ∙ is.each k)
      (cases_eq k i);
}

all_false : (pending : List Bool) → ((i : ℕ) → get_or pending i false ≡ false) → pending ≡ replicate (length pending) false
all_false [] none = refl
all_false (b ∷ bs) none = λ t. none 0 t ∷ all_false bs (λ i. none (suc i)) t

none_left : (old_committed old_pending committed pending : List Bool) (from : ℕ) → IsCommitting old_committed old_pending committed pending from
    → ((k : ℕ) → from ≤ k → get_or pending k false ≡ false) → (i : ℕ) → get_or pending i false ≡ false
none_left old_committed old_pending committed pending from is rest i = ⊎_elim (λ low. is.none i low) (λ high. rest i high) (cases_lt i from)

pub commit_end : (old_committed old_pending committed pending : List Bool) (from : ℕ) → length old_pending ≡ length old_committed
    → IsCommitting old_committed old_pending committed pending from → ((k : ℕ) → from ≤ k → get_or pending k false ≡ false)
    → (pending ≡ replicate (length old_committed) false) × ((i : ℕ) → get_or committed i false ≡ in_either old_committed old_pending i)
commit_end old_committed old_pending committed pending from sizes is rest =
    let none = none_left old_committed old_pending committed pending from is rest in (
      all_false pending none ∙ ap (λ (n : ℕ). replicate n false) (is.pending_size ∙ sizes),
      λ i. sym (ap (λ (b : Bool). get_or committed i false || b) (none i) ∙ or-false (get_or committed i false)) ∙ is.each i,
    )

-- a set of none
none_in_set : (xs : List Bool) → count_by (λ b. b) xs ≡ 0 → (i : ℕ) → get_or xs i false ≡ false
none_in_set [] none i = refl
none_in_set (true ∷ bs) none i = absurd (let e = sum_by-cons (λ (b : Bool). cond {A = ℕ} b 1 0) true bs in omega (arith, e, none))
none_in_set (false ∷ bs) none zero = refl
none_in_set (false ∷ bs) none (suc i) = none_in_set bs (let e = sum_by-cons (λ (b : Bool). cond {A = ℕ} b 1 0) false bs in omega (arith, e, none)) i

-- ---- the store

module _ (s : StoreState) (sized : IsSized s.descriptor s.committed s.pending s.pairs) where
  pub commit_none : count_by (λ b. b) s.pending ≡ 0 → HasCommitted s s
  commit_none none =
      let all = none_in_set s.pending none in
      let empty : s.pending ≡ replicate (chunks_of s.descriptor) false = all_false s.pending all ∙ ap (λ (n : ℕ). replicate n false) sized.pending_size in
      record {
        others = λ t. record s { pending = empty t };
        size = refl;
        each = λ i. sym (ap (λ (b : Bool). get_or s.committed i false || b) (all i) ∙ or-false (get_or s.committed i false));
      }

-- what reads give is the one image afterwards, and each chunk that was held stands in it
module _ (s s' : StoreState) (done : HasCommitted s s') where
  pub held_after : (i : ℕ) → is_held s' i ≡ is_held s i
  held_after i =
      let gone : get_or s'.pending i false ≡ false = ap (λ (t : StoreState). get_or t.pending i false) done.others ∙ none_in (chunks_of s.descriptor) i in
      ap (λ (b : Bool). get_or s'.committed i false || b) gone ∙ or-false (get_or s'.committed i false) ∙ done.each i

  pub agrees_committed : (book : LookUp) (reads : List ℕ) → AgreesWith s book reads → AgreesWith s' book reads
  agrees_committed book reads agrees = record {
    begins = subst (λ (t : StoreState). HasHeader t.descriptor reads) (sym done.others) agrees.begins;
    chunks = λ i held. subst (λ (t : StoreState). is_there t.descriptor reads book i ≡ true) (sym done.others) (agrees.chunks i (sym (held_after i) ∙ held));
    pairs_stand = subst (λ (t : StoreState). PairsStand t.descriptor book t.pairs reads) (sym done.others) agrees.pairs_stand;
  }

  pub knows_committed : (book : LookUp) → KnowsHeld s book → KnowsHeld s' book
  knows_committed book knows = record {
    leaf = λ i held. knows.leaf i (sym (held_after i) ∙ held);
    peaks = λ i held. subst (λ (t : StoreState). has_peaks book (chunks_of t.descriptor) ≡ true) (sym done.others) (knows.peaks i (sym (held_after i) ∙ held));
  }

  -- each chunk that was held stands in the one image
  pub stands_committed : (old new : History) → IsDescriptor s.descriptor → new ≡ made_durable s.descriptor s.pending old → IsImage old.epoch old.reads → HoldsAll s old.reads
      → AllStand s.descriptor s.committed old → AllStand s.descriptor s'.committed new
  stands_committed old new valid is whole holds all i at image since =
      let held : is_held s i ≡ true = sym (done.each i) ∙ at in
      let image_is : image ≡ (gates_opened s.descriptor s.pending (synced old)).reads = only_image new (gates_opened s.descriptor s.pending (synced old)) image is since in
      subst (λ (x : List ℕ). StandsIn s.descriptor x i) (sym image_is)
      (stands_opened s.descriptor s.pending (synced old) i valid (holds i held) (⊎_elim
      (λ one. inr (all i one old.reads (inl whole)).opened)
      (λ two. inl two)
      (either_case (get_or s.committed i false) (get_or s.pending i false) held)))

-- what agrees goes on agreeing while gates are opened
pub agrees_gates : (s : StoreState) (book : LookUp) → IsDescriptor s.descriptor → IsRooted s.descriptor book
    → ((l : ℕ) → is_held s l ≡ true → l < chunks_of s.descriptor) → (i : ℕ) (before after : List ℕ) → IsTorn (gate_place s.descriptor.chunk i) 1 before after
    → AgreesWith s book before → AgreesWith s book after
agrees_gates s book valid rooted sized i before after torn agrees = record {
  begins = λ k lt. torn.outside k (λ w. omega (arith, w.0)) ∙ agrees.begins k lt;
  chunks = λ l held. there_over s.descriptor book l (gate_place s.descriptor.chunk i) 1 before after (some_bytes s.descriptor l valid (sized l held)) (gate_clear s.descriptor l i).chunk over (agrees.chunks l held);
  pairs_stand = λ k j inner stored. pair k j (agrees.pairs_stand k j inner stored);
}
  where
    over : IsOver (gate_place s.descriptor.chunk i) 1 before after
    over = over_torn (gate_place s.descriptor.chunk i) 1 before after torn

    pair : (k j : ℕ) → PairStands s.descriptor book before k j → PairStands s.descriptor book after k j
    pair k j stands =
        let long : length (stands.left ++ stands.right) ≡ 64 = length-append stands.left stands.right
        ∙ omega (arith, rooted.digests k (2 * j) stands.left stands.joined.left_is, rooted.digests k (2 * j + 1) stands.right stands.joined.right_is) in
        let apart : AreApart (pair_place s.descriptor.chunk k j) 64 (gate_place s.descriptor.chunk i) 1 = ⊎_elim (λ l. inr l) (λ r. inl r) (gate_pair_clear s.descriptor.chunk i k j) in
        record {
          left = stands.left;
          right = stands.right;
          joined = stands.joined;
          there = has_over (gate_place s.descriptor.chunk i) 1 (pair_place s.descriptor.chunk k j) (stands.left ++ stands.right) before after
              (subst (λ (n : ℕ). AreApart (pair_place s.descriptor.chunk k j) n (gate_place s.descriptor.chunk i) 1) (sym long) apart) over stands.there;
        }

-- the fields, seen as a store
pub committed_is : (d : Descriptor) (committed pending pairs committed' pending' : List Bool) (live : Bool) → IsSized d committed pending pairs
    → length committed' ≡ length committed → pending' ≡ replicate (length committed) false
    → ((i : ℕ) → get_or committed' i false ≡ in_either committed pending i)
    → HasCommitted (record { descriptor = d; committed = committed; pending = pending; pairs = pairs; live = live })
    (record { descriptor = d; committed = committed'; pending = pending'; pairs = pairs; live = live })
committed_is d committed pending pairs committed' pending' live sized size none each = record {
  others = λ t. record { descriptor = d; committed = committed'; pending = (none ∙ ap (λ (n : ℕ). replicate n false) sized.committed_size) t; pairs = pairs; live = live };
  size = size;
  each = each;
}

pub sized_committed : (d : Descriptor) (committed pending pairs committed' pending' : List Bool) → IsSized d committed pending pairs
    → length committed' ≡ length committed → pending' ≡ replicate (length committed) false
    → ((i : ℕ) → get_or committed' i false ≡ in_either committed pending i) → IsSized d committed' pending' pairs
sized_committed d committed pending pairs committed' pending' sized size none each =
    let out : (i : ℕ) → get_or pending' i false ≡ false = λ i. ap (λ (ps : List Bool). get_or ps i false) none ∙ none_in (length committed) i in
    record {
      committed_size = size ∙ sized.committed_size;
      pending_size = ap (λ (ps : List Bool). length ps) none ∙ length-replicate (length committed) false ∙ sized.committed_size;
      pairs_size = sized.pairs_size;
      supported = λ i held. sized.supported i (sym (ap (λ (b : Bool). get_or committed' i false || b) (out i) ∙ or-false (get_or committed' i false) ∙ each i) ∙ held);
      apart = λ i two. absurd (false≢true (sym (out i) ∙ two));
    }

pub agrees_dead : (s : StoreState) (d : Descriptor) (committed pending pairs : List Bool) (live live' : Bool) (book : LookUp) (reads : List ℕ)
    → record { descriptor = d; committed = committed; pending = pending; pairs = pairs; live = live } ≡ s → AgreesWith s book reads
    → AgreesWith (record { descriptor = d; committed = committed; pending = pending; pairs = pairs; live = live' }) book reads
agrees_dead s d committed pending pairs live live' book reads view agrees =
    (let it = subst (λ (t : StoreState). AgreesWith t book reads) (sym view) agrees in record { begins = it.begins; chunks = it.chunks; pairs_stand = it.pairs_stand })

pub knows_live : (s : StoreState) (d : Descriptor) (committed pending pairs : List Bool) (live live' : Bool) (book : LookUp)
    → record { descriptor = d; committed = committed; pending = pending; pairs = pairs; live = live } ≡ s → KnowsHeld s book
    → KnowsHeld (record { descriptor = d; committed = committed; pending = pending; pairs = pairs; live = live' }) book
knows_live s d committed pending pairs live live' book view knows =
    let it = subst (λ (t : StoreState). KnowsHeld t book) (sym view) knows in record { leaf = it.leaf; peaks = it.peaks }
