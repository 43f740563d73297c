-- Pairs that are written one after the other, and nothing else.
use Rattle.std.proofs.Common.{◌≡◌, ⊎_elim, ℕ, zero, suc, ◌+◌, ◌*◌, ◌/◌, ◌%◌, ◌^◌, ◌<◌, ◌≤◌, nat_lt, Bool, true, false, cond, List, [], ◌∷◌, ◌++◌, get_or, Ok, refl, sym, ◌∙◌, ap, subst, arith}
use Rattle.std.specs.Prelude.{map, unwrap_or}
use Rattle.std.proofs.Math.ListN.{set}
use Rattle.std.proofs.lemmas.Bool.{cases_Bool, false≢true}
use Rattle.std.proofs.lemmas.Bool.Decides.{nat_tests}
use Rattle.std.proofs.lemmas.List.{map-append}
use Rattle.pp_terms.specs.tree.Tree.{above}
use Rattle.pp_terms.specs.tree.Book.{LookUp, IsJoined}
use Rattle.pp_terms.specs.format.Descriptor.{Descriptor, chunks_of, IsDescriptor}
use Rattle.pp_terms.specs.disk.Store.{chunk_place, pair_slot, pair_place}
use Rattle.pp_terms.specs.disk.Disk.{DiskState, History, IsKnown, Write, DoesWrite, after_write}
use Rattle.pp_terms.proofs.Knowing.{known_on}
use Rattle.pp_store.specs.Behind.{KeepsBehind}
use Rattle.pp_store.specs.Pairs.{has_pair}
use Rattle.pp_store.specs.Writes.{after_writes, Pair, pair_at, way_pairs, unfilled_pair, unfilled_pairs, with_pair, with_pairs, unstored, pair_write, chunk_write, Wrote}
use Rattle.pp_store.proofs.Marking.{shifted_down, covers_is}

after_more : (h : History) (ws vs : List Write) → after_writes h (ws ++ vs) ≡ after_writes (after_writes h ws) vs
after_more h [] vs = refl
after_more h (w ∷ ws) vs = after_more (after_write h w.place w.bytes) ws vs

-- a pair that is stored is stored still
set_again : (pairs : List Bool) (i : ℕ) → get_or pairs i false ≡ true → set pairs i true ≡ pairs
set_again [] i at = absurd (false≢true at)
set_again (b ∷ bs) zero at = λ t. sym at t ∷ bs
set_again (b ∷ bs) (suc i) at = λ t. b ∷ set_again bs i at t

with_more : (pairs : List Bool) (ps qs : List Pair) → with_pairs pairs (ps ++ qs) ≡ with_pairs (with_pairs pairs ps) qs
with_more pairs [] qs = refl
with_more pairs (p ∷ ps) qs = with_more (with_pair pairs p) ps qs

unstored_more : (pairs : List Bool) (ps qs : List Pair) → unstored pairs (ps ++ qs) ≡ unstored pairs ps ++ unstored (with_pairs pairs ps) qs
unstored_more pairs [] qs = refl
unstored_more pairs (p ∷ ps) qs = ⊎_elim
    (λ there.
    let same : with_pair pairs p ≡ pairs = set_again pairs (pair_slot p.layer p.offset) there in
    ap (λ (b : Bool). cond b (unstored pairs (ps ++ qs)) (p ∷ unstored (with_pair pairs p) (ps ++ qs))) there
    ∙ unstored_more pairs ps qs
    ∙ ap (λ (r : List Bool). unstored pairs ps ++ unstored (with_pairs r ps) qs) (sym same)
    ∙ sym (ap (λ (b : Bool). cond b (unstored pairs ps) (p ∷ unstored (with_pair pairs p) ps) ++ unstored (with_pairs (with_pair pairs p) ps) qs) there))
    (λ absent.
    ap (λ (b : Bool). cond b (unstored pairs (ps ++ qs)) (p ∷ unstored (with_pair pairs p) (ps ++ qs))) absent
    ∙ ap (λ (rs : List Pair). p ∷ rs) (unstored_more (with_pair pairs p) ps qs)
    ∙ sym (ap (λ (b : Bool). cond b (unstored pairs ps) (p ∷ unstored (with_pair pairs p) ps) ++ unstored (with_pairs (with_pair pairs p) ps) qs) absent))
    (cases_Bool (has_pair pairs p.layer p.offset))

pub wrote_none : (d : Descriptor) (book : LookUp) (pairs : List Bool) (disk : DiskState) → Wrote d book [] pairs pairs disk disk
wrote_none d book pairs disk = record { pairs_are = refl; history_is = λ known. refl }

pub wrote_more : (d : Descriptor) (book : LookUp) (ps qs : List Pair) (one two three : List Bool) (old mid new : DiskState) → KeepsBehind old mid
    → Wrote d book ps one two old mid → Wrote d book qs two three mid new → Wrote d book (ps ++ qs) one three old new
wrote_more d book ps qs one two three old mid new keeps first second = record {
  pairs_are = second.pairs_are ∙ ap (λ (r : List Bool). with_pairs r qs) first.pairs_are ∙ sym (with_more one ps qs);
  history_is = λ known.
      let known_mid = known_on old mid keeps.tells keeps.honest known in
      second.history_is known_mid
      ∙ ap (λ (h : History). after_writes h (map (pair_write d book) (unstored two qs))) (first.history_is known)
      ∙ ap (λ (r : List Bool). after_writes (after_writes old.history (map (pair_write d book) (unstored one ps))) (map (pair_write d book) (unstored r qs))) first.pairs_are
      ∙ sym (after_more old.history (map (pair_write d book) (unstored one ps)) (map (pair_write d book) (unstored (with_pairs one ps) qs)))
      ∙ ap (λ (ws : List Write). after_writes old.history ws)
      (sym (map-append (pair_write d book) (unstored one ps) (unstored (with_pairs one ps) qs)) ∙ ap (λ (rs : List Pair). map (pair_write d book) rs) (sym (unstored_more one ps qs)));
}

-- one pair, which is stored
pub wrote_stored : (d : Descriptor) (book : LookUp) (k j : ℕ) (pairs : List Bool) (disk : DiskState) → has_pair pairs k j ≡ true
    → Wrote d book (pair_at k j ∷ []) pairs pairs disk disk
wrote_stored d book k j pairs disk there = record {
  pairs_are = sym (set_again pairs (pair_slot k j) there);
  history_is = λ known. ap (λ (b : Bool). after_writes disk.history (map (pair_write d book) (cond b [] (pair_at k j ∷ [])))) (sym there);
}

-- or is written
pub wrote_pair : {E : Type 0} (d : Descriptor) (book : LookUp) (k j place : ℕ) (left right : List ℕ) (pairs pairs' : List Bool) (old new : DiskState) (u : Unit {0})
    → has_pair pairs k j ≡ false → IsJoined book k j left right → place ≡ pair_place d.chunk k j → pairs' ≡ set pairs (pair_slot k j) true
    → DoesWrite {E = E} old place (left ++ right) (Ok u) new → Wrote d book (pair_at k j ∷ []) pairs pairs' old new
wrote_pair d book k j place left right pairs pairs' old new u absent joined place_is pairs_is does = record {
  pairs_are = pairs_is;
  history_is = λ known.
      does.done known
      ∙ ap (λ (p : ℕ). after_write old.history p (left ++ right)) place_is
      ∙ (λ t. after_write old.history (pair_place d.chunk k j)
      (unwrap_or (sym joined.left_is t) [] ++ unwrap_or (sym joined.right_is t) []))
      ∙ ap (λ (b : Bool). after_writes old.history (map (pair_write d book) (cond b [] (pair_at k j ∷ [])))) (sym absent);
}

-- a chunk, and then its pairs
pub wrote_chunk : {E : Type 0} (d : Descriptor) (book : LookUp) (i place : ℕ) (bytes : List ℕ) (ps : List Pair) (pairs pairs' : List Bool) (old mid new : DiskState) (u : Unit {0})
    → place ≡ chunk_place d.chunk i → DoesWrite {E = E} old place bytes (Ok u) mid → Wrote d book ps pairs pairs' mid new → IsKnown old
    → new.history ≡ after_writes old.history (chunk_write d i bytes ∷ map (pair_write d book) (unstored pairs ps))
wrote_chunk d book i place bytes ps pairs pairs' old mid new u place_is does second known =
    second.history_is (known_on old mid does.call.tells does.call.honest known)
    ∙ ap (λ (h : History). after_writes h (map (pair_write d book) (unstored pairs ps)))
    (does.done known ∙ ap (λ (p : ℕ). after_write old.history p bytes) place_is)

-- ---- layer by layer

pub way_wrote : (d : Descriptor) (book : LookUp) (i layer : ℕ) (one two three : List Bool) (old mid new : DiskState) → KeepsBehind old mid
    → Wrote d book (way_pairs i layer) one two old mid → Wrote d book (pair_at layer (i / 2 ^ (layer + 1)) ∷ []) two three mid new
    → Wrote d book (way_pairs i (layer + 1)) one three old new
way_wrote d book i layer one two three old mid new keeps first second =
    let more : layer + 1 ≡ suc layer = omega arith in
    subst (λ (n : ℕ). Wrote d book (way_pairs i n) one three old new) (sym more)
    (wrote_more d book (way_pairs i layer) (pair_at layer (above (suc layer) i) ∷ []) one two three old mid new keeps first
    (subst (λ (j : ℕ). Wrote d book (pair_at layer j ∷ []) two three mid new) (shifted_down i layer) second))

pub unfilled_wrote : (d : Descriptor) (book : LookUp) (layer : ℕ) (one two three : List Bool) (old mid new : DiskState) → KeepsBehind old mid
    → Wrote d book (unfilled_pairs (chunks_of d) layer) one two old mid → Wrote d book (unfilled_pair (chunks_of d) layer) two three mid new
    → Wrote d book (unfilled_pairs (chunks_of d) (layer + 1)) one three old new
unfilled_wrote d book layer one two three old mid new keeps first second =
    let more : layer + 1 ≡ suc layer = omega arith in
    subst (λ (n : ℕ). Wrote d book (unfilled_pairs (chunks_of d) n) one three old new) (sym more)
    (wrote_more d book (unfilled_pairs (chunks_of d) layer) (unfilled_pair (chunks_of d) layer) one two three old mid new keeps first second)

-- the node behind the full ones, as the code tests it
pub unfilled_there : (d : Descriptor) (book : LookUp) (k n : ℕ) (pairs pairs' : List Bool) (old new : DiskState) → IsDescriptor d → n ≡ chunks_of d
    → n / 2 ^ (k + 1) * 2 ^ (k + 1) % 4294967296 < n → Wrote d book (pair_at k (n / 2 ^ (k + 1)) ∷ []) pairs pairs' old new
    → Wrote d book (unfilled_pair (chunks_of d) k) pairs pairs' old new
unfilled_there d book k n pairs pairs' old new valid n_is lt wrote =
    let e = covers_is d k n valid n_is in
    let test : nat_lt (above (suc k) (chunks_of d) * 2 ^ suc k) (chunks_of d) ≡ true = (let covers : above (suc k) (chunks_of d) * 2 ^ suc k < chunks_of d = omega (arith, e) in grind (arith, nat_tests)) in
    subst (λ (ps : List Pair). Wrote d book ps pairs pairs' old new)
    (sym (ap (λ (b : Bool). cond b (pair_at k (above (suc k) (chunks_of d)) ∷ []) []) test))
    (subst (λ (j : ℕ). Wrote d book (pair_at k j ∷ []) pairs pairs' old new) (shifted_down n k ∙ ap (λ (m : ℕ). above (suc k) m) n_is) wrote)

pub unfilled_absent : (d : Descriptor) (book : LookUp) (k n : ℕ) (pairs : List Bool) (disk : DiskState) → IsDescriptor d → n ≡ chunks_of d
    → n ≤ n / 2 ^ (k + 1) * 2 ^ (k + 1) % 4294967296 → Wrote d book (unfilled_pair (chunks_of d) k) pairs pairs disk disk
unfilled_absent d book k n pairs disk valid n_is ge =
    let e = covers_is d k n valid n_is in
    let test : nat_lt (above (suc k) (chunks_of d) * 2 ^ suc k) (chunks_of d) ≡ false = (let past : chunks_of d ≤ above (suc k) (chunks_of d) * 2 ^ suc k = omega (arith, e) in grind (arith, nat_tests)) in
    subst (λ (ps : List Pair). Wrote d book ps pairs pairs disk disk)
    (sym (ap (λ (b : Bool). cond b (pair_at k (above (suc k) (chunks_of d)) ∷ []) []) test))
    (wrote_none d book pairs disk)
