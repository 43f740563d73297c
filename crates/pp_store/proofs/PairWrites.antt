-- Pairs and chunks that are written, one after the other: what they leave, and which chunks go on standing.
use Rattle.std.proofs.Common.{◌≡◌, inl, inr, ⊎_elim, ℕ, suc, ◌+◌, ◌*◌, ◌<◌, ◌≤◌, ◌==◌, Bool, true, false, Option, Some, List, ◌++◌, length, get_or, Result, Ok, Err, refl, sym, ◌∙◌, ap, subst, arith, get_or-set_other}
use Rattle.std.specs.Prelude.{◌&&◌, OnOk}
use Rattle.sha2.specs.Sha256.{sha256}
use Rattle.std.proofs.Math.ListN.{set, length-set}
use Rattle.std.proofs.lemmas.Bool.{cases_eq, false≢true}
use Rattle.std.proofs.lemmas.Bool.Decides.{nat_tests}
use Rattle.std.proofs.lemmas.List.{length-append}
use Rattle.pp_terms.specs.tree.Content.{chunk_length}
use Rattle.pp_terms.specs.tree.Tree.{above}
use Rattle.pp_terms.specs.tree.Book.{LookUp, IsJoined, IsRooted, IsBacked}
use Rattle.pp_terms.specs.format.Descriptor.{Descriptor, chunks_of, IsDescriptor}
use Rattle.pp_terms.specs.disk.Store.{chunk_place, pair_slot, pair_place, gate_place, AreApart, Has}
use Rattle.pp_terms.specs.disk.Image.{slice, matches, StandsIn}
use Rattle.pp_terms.specs.disk.Disk.{DiskState, History, IsKnown, DoesWrite, written}
use Rattle.pp_terms.proofs.Images.{has_over}
use Rattle.pp_terms.proofs.Knowing.{known_on}
use Rattle.pp_scan.specs.Holding.{is_there}
use Rattle.pp_scan.proofs.Finding.{some_bytes}
use Rattle.pp_store.specs.Pairs.{has_pair, HasItsPairs, PairStands, PairsStand, KeepsPairs, WritesPairs, WritesChunk, PutsPairs, PutsChunk}
use Rattle.pp_store.proofs.Rereading.{has_slice, text_itself}
use Rattle.pp_store.proofs.Writings.{keeps_same, keeps_more, does_done, write_puts}
use Rattle.pp_store.specs.Behind.{DoesBehind}
use Rattle.pp_store.proofs.Pieces.{IsInSlot, slots_apart, same_slot, has_written}
use Rattle.pp_store.specs.Sound.{IsGated}
use Rattle.pp_store.proofs.Gated.{gated_over}
use Rattle.pp_store.proofs.Surviving.{some_chunks, IsOverOrSame, write_over, throughout_over, reads_over, past_over, there_over, IsClear, stands_over}

-- ---- ranges

chunk_in_slot : (d : Descriptor) (i : ℕ) → IsInSlot d.chunk (chunk_place d.chunk i) (chunk_length d.size d.chunk i) i
chunk_in_slot d i = record { from = omega arith; to = omega arith }

pair_in_slot : (chunk k j : ℕ) → IsInSlot chunk (pair_place chunk k j) 64 (pair_slot k j)
pair_in_slot chunk k j = record { from = omega arith; to = omega arith }

pub chunk_pair_clear : (d : Descriptor) (i k j : ℕ) → AreApart (chunk_place d.chunk i) (chunk_length d.size d.chunk i) (pair_place d.chunk k j) 64
chunk_pair_clear d i k j = ⊎_elim
    (λ e. inl (let same : chunk_place d.chunk i ≡ chunk_place d.chunk (pair_slot k j) = ap (λ (s : ℕ). chunk_place d.chunk s) e in omega arith))
    (λ ne. slots_apart d.chunk _ _ _ _ i (pair_slot k j) ne (chunk_in_slot d i) (pair_in_slot d.chunk k j))
    (cases_eq i (pair_slot k j))

turned : (a s b t : ℕ) → AreApart a s b t → AreApart b t a s
turned a s b t apart = ⊎_elim (λ l. inr l) (λ r. inl r) apart

gate_in_slot : (chunk i : ℕ) → IsInSlot chunk (gate_place chunk i) 1 i
gate_in_slot chunk i = record { from = omega arith; to = omega arith }

-- a gate, and a pair or a chunk
pub gate_pair_clear : (chunk i k j : ℕ) → AreApart (gate_place chunk i) 1 (pair_place chunk k j) 64
gate_pair_clear chunk i k j = ⊎_elim
    (λ e. inr (let same : chunk_place chunk i ≡ chunk_place chunk (pair_slot k j) = ap (λ (s : ℕ). chunk_place chunk s) e in omega arith))
    (λ ne. slots_apart chunk _ _ _ _ i (pair_slot k j) ne (gate_in_slot chunk i) (pair_in_slot chunk k j))
    (cases_eq i (pair_slot k j))

pub gate_chunk_clear : (d : Descriptor) (i at : ℕ) → AreApart (gate_place d.chunk i) 1 (chunk_place d.chunk at) (chunk_length d.size d.chunk at)
gate_chunk_clear d i at = ⊎_elim
    (λ e. inr (let same : chunk_place d.chunk i ≡ chunk_place d.chunk at = ap (λ (s : ℕ). chunk_place d.chunk s) e in omega arith))
    (λ ne. slots_apart d.chunk _ _ _ _ i at ne (gate_in_slot d.chunk i) (chunk_in_slot d at))
    (cases_eq i at)

pub gates_clear : (chunk i j : ℕ) → (i ≡ j → ⊥) → AreApart (gate_place chunk i) 1 (gate_place chunk j) 1
gates_clear chunk i j ne = slots_apart chunk _ _ _ _ i j ne (gate_in_slot chunk i) (gate_in_slot chunk j)

-- a gate's range lies apart from all that any chunk needs but its own gate
pub gate_clear : (d : Descriptor) (i at : ℕ) → IsClear d i (gate_place d.chunk at) 1
gate_clear d i at = record {
  behind = omega arith;
  chunk = turned _ _ _ _ (gate_chunk_clear d at i);
  way = λ l inner. turned _ _ _ _ (gate_pair_clear d.chunk at l (above (suc l) i));
  unfilled = λ l is. turned _ _ _ _ (gate_pair_clear d.chunk at l (above (suc l) (chunks_of d)));
}

-- a pair that is stored, and one that isn't
pairs_clear : (chunk k j l i : ℕ) (pairs : List Bool) → has_pair pairs k j ≡ true → has_pair pairs l i ≡ false
    → AreApart (pair_place chunk k j) 64 (pair_place chunk l i) 64
pairs_clear chunk k j l i pairs one two =
    slots_apart chunk _ _ _ _ (pair_slot k j) (pair_slot l i)
    (λ e. false≢true (sym two ∙ ap (λ (s : ℕ). get_or pairs s false) (sym e) ∙ one)) (pair_in_slot chunk k j) (pair_in_slot chunk l i)

pub pair_clear : (d : Descriptor) (pairs : List Bool) (i k j : ℕ) → HasItsPairs d pairs i → has_pair pairs k j ≡ false → IsClear d i (pair_place d.chunk k j) 64
pair_clear d pairs i k j has absent = record {
  behind = omega arith;
  chunk = chunk_pair_clear d i k j;
  way = λ l inner. pairs_clear d.chunk l (above (suc l) i) k j pairs (has.way l inner) absent;
  unfilled = λ l is. pairs_clear d.chunk l (above (suc l) (chunks_of d)) k j pairs (has.unfilled l is) absent;
}

pub chunk_clear : (d : Descriptor) (i at size : ℕ) → (i ≡ at → ⊥) → size ≡ chunk_length d.size d.chunk at → IsClear d i (chunk_place d.chunk at) size
chunk_clear d i at size ne size_is = subst (λ (n : ℕ). IsClear d i (chunk_place d.chunk at) n) (sym size_is) (record {
  behind = omega arith;
  chunk = slots_apart d.chunk _ _ _ _ i at ne (chunk_in_slot d i) (chunk_in_slot d at);
  way = λ l inner. turned _ _ _ _ (chunk_pair_clear d at l (above (suc l) i));
  unfilled = λ l is. turned _ _ _ _ (chunk_pair_clear d at l (above (suc l) (chunks_of d)));
})

-- ---- one piece

-- a pair that stands elsewhere
pair_kept : (d : Descriptor) (book : LookUp) (k j place : ℕ) (bytes : List ℕ) (old new : History) → IsRooted d book
    → AreApart (pair_place d.chunk k j) 64 place (length bytes) → IsOverOrSame place bytes old new
    → PairStands d book old.reads k j → PairStands d book new.reads k j
pair_kept d book k j place bytes old new rooted apart over stands =
    let long : length (stands.left ++ stands.right) ≡ 64 = length-append stands.left stands.right
    ∙ omega (arith, rooted.digests k (2 * j) stands.left stands.joined.left_is, rooted.digests k (2 * j + 1) stands.right stands.joined.right_is) in
    let apart' = subst (λ (n : ℕ). AreApart (pair_place d.chunk k j) n place (length bytes)) (sym long) apart in
    record {
      left = stands.left;
      right = stands.right;
      joined = stands.joined;
      there = reads_over old new place bytes (Has (pair_place d.chunk k j) (stands.left ++ stands.right))
          (λ under image is has. has_over place (length bytes) (pair_place d.chunk k j) (stands.left ++ stands.right) under image apart' is has) over stands.there;
    }

-- the pair of a node, written or refused
module _ (d : Descriptor) (book : LookUp) (pairs : List Bool) (k j place : ℕ) (bytes : List ℕ) (old new : History)
    (valid : IsDescriptor d) (rooted : IsRooted d book) (place_is : place ≡ pair_place d.chunk k j) (size_is : length bytes ≡ 64)
    (absent : has_pair pairs k j ≡ false) (over : IsOverOrSame place bytes old new) where
  clear : (i : ℕ) → HasItsPairs d pairs i → IsClear d i place (length bytes)
  clear i has = subst (λ (p : ℕ). IsClear d i p (length bytes)) (sym place_is)
      (subst (λ (n : ℕ). IsClear d i (pair_place d.chunk k j) n) (sym size_is) (pair_clear d pairs i k j has absent))

  chunk_kept : (i : ℕ) → 0 < chunk_length d.size d.chunk i → is_there d old.reads book i ≡ true → is_there d new.reads book i ≡ true
  chunk_kept i some = reads_over old new place bytes (λ reads. is_there d reads book i ≡ true)
      (λ under image is there. there_over d book i place (length bytes) under image some
      (subst (λ (p : ℕ). AreApart (chunk_place d.chunk i) (chunk_length d.size d.chunk i) p (length bytes)) (sym place_is)
      (subst (λ (n : ℕ). AreApart (chunk_place d.chunk i) (chunk_length d.size d.chunk i) (pair_place d.chunk k j) n) (sym size_is) (chunk_pair_clear d i k j))) is there) over

  stored_kept : (l i : ℕ) → has_pair pairs l i ≡ true → PairStands d book old.reads l i → PairStands d book new.reads l i
  stored_kept l i stored = pair_kept d book l i place bytes old new rooted
      (subst (λ (p : ℕ). AreApart (pair_place d.chunk l i) 64 p (length bytes)) (sym place_is)
      (subst (λ (n : ℕ). AreApart (pair_place d.chunk l i) 64 (pair_place d.chunk k j) n) (sym size_is) (pairs_clear d.chunk l i k j pairs stored absent))) over

  pub pair_written : (pairs' : List Bool) → (PairsStand d book pairs old.reads → PairsStand d book pairs' new.reads) → WritesPairs d book pairs pairs' old new
  pair_written pairs' stand = record {
    past = past_over old new place bytes over;
    chunks_kept = chunk_kept;
    pairs_stand = stand;
    goes_on = λ i has moment within. throughout_over old new place moment bytes (λ image. StandsIn d image i)
        (λ under image is. stands_over d i place (length bytes) under image valid (clear i has)
        (subst (λ (p : ℕ). AreApart (gate_place d.chunk i) 1 p (length bytes)) (sym place_is)
        (subst (λ (n : ℕ). AreApart (gate_place d.chunk i) 1 (pair_place d.chunk k j) n) (sym size_is) (gate_pair_clear d.chunk i k j))) is) over;
    gated = λ member has moment within. throughout_over old new place moment bytes (IsGated d member)
        (λ under image is gated. gated_over d member place (length bytes) under image valid (omega (arith, place_is)) is gated (some_chunks d valid).0
        (λ i. subst (λ (p : ℕ). AreApart (gate_place d.chunk i) 1 p (length bytes)) (sym place_is)
        (subst (λ (n : ℕ). AreApart (gate_place d.chunk i) 1 (pair_place d.chunk k j) n) (sym size_is) (gate_pair_clear d.chunk i k j)))
        (λ i at. clear i (has i at))) over;
  }

  -- a refused one
  pub pair_refused : WritesPairs d book pairs pairs old new
  pair_refused = pair_written pairs (λ stand l i inner stored. stored_kept l i stored (stand l i inner stored))

  -- and one that was done
  pub pair_done : (pairs' : List Bool) (left right : List ℕ) → IsJoined book k j left right → bytes ≡ left ++ right → pairs' ≡ set pairs (pair_slot k j) true
      → new.reads ≡ written old.reads place bytes → WritesPairs d book pairs pairs' old new
  pair_done pairs' left right joined bytes_is pairs_is reads_is = pair_written pairs' (λ stand l i inner stored. ⊎_elim
      (λ same.
      let node = same_slot l k i j same in
      subst (λ (m : ℕ). PairStands d book new.reads m i) (sym node.0) (subst (λ (m : ℕ). PairStands d book new.reads k m) (sym node.1) (record {
        left = left;
        right = right;
        joined = joined;
        there = subst (λ (r : List ℕ). Has (pair_place d.chunk k j) (left ++ right) r) (sym reads_is)
            (subst (λ (b : List ℕ). Has (pair_place d.chunk k j) b (written old.reads place bytes)) bytes_is
            (subst (λ (p : ℕ). Has p bytes (written old.reads place bytes)) place_is (has_written old.reads place bytes)));
      })))
      (λ other.
      let before : has_pair pairs l i ≡ true = sym (get_or-set_other pairs (pair_slot k j) (pair_slot l i) true false other)
      ∙ ap (λ (ps : List Bool). get_or ps (pair_slot l i) false) (sym pairs_is) ∙ stored in
      stored_kept l i before (stand l i inner before))
      (cases_eq (pair_slot l i) (pair_slot k j)))

-- no write
pub pairs_same : (d : Descriptor) (book : LookUp) (pairs pairs' : List Bool) (old new : History) → pairs' ≡ pairs → new ≡ old → WritesPairs d book pairs pairs' old new
pairs_same d book pairs pairs' old new pairs_is same =
    subst (λ (h : History). WritesPairs d book pairs pairs' old h) (sym same) (subst (λ (ps : List Bool). WritesPairs d book pairs ps old old) (sym pairs_is) (record {
      past = refl;
      chunks_kept = λ i some there. there;
      pairs_stand = λ stand. stand;
      goes_on = λ i has moment within all. all;
      gated = λ member has moment within all. all;
    }))

pub has_on : (d : Descriptor) (pairs pairs' : List Bool) (i : ℕ) → KeepsPairs pairs pairs' → HasItsPairs d pairs i → HasItsPairs d pairs' i
has_on d pairs pairs' i keeps has = record {
  way = λ k inner. keeps _ (has.way k inner);
  unfilled = λ k is. keeps _ (has.unfilled k is);
}

-- two steps
pub pairs_more : (d : Descriptor) (book : LookUp) (one two three : List Bool) (old mid new : History) → KeepsPairs one two
    → WritesPairs d book one two old mid → WritesPairs d book two three mid new → WritesPairs d book one three old new
pairs_more d book one two three old mid new keeps first second = record {
  past = second.past ∙ first.past;
  chunks_kept = λ i some there. second.chunks_kept i some (first.chunks_kept i some there);
  pairs_stand = λ stand. second.pairs_stand (first.pairs_stand stand);
  goes_on = λ i has moment within all.
      second.goes_on i (has_on d one two i keeps has) moment (let same = ap length first.past in omega arith) (first.goes_on i has moment within all);
  gated = λ member has moment within all.
      second.gated member (λ i at. has_on d one two i keeps (has i at)) moment (let same = ap length first.past in omega arith) (first.gated member has moment within all);
}

-- ---- a chunk, and then its pairs

pub chunk_over : (d : Descriptor) (book : LookUp) (pairs : List Bool) (at place : ℕ) (bytes : List ℕ) (old new : History) → IsDescriptor d → IsRooted d book
    → place ≡ chunk_place d.chunk at → length bytes ≡ chunk_length d.size d.chunk at → IsOverOrSame place bytes old new → WritesChunk d book at pairs pairs old new
chunk_over d book pairs at place bytes old new valid rooted place_is size_is over = record {
  past = past_over old new place bytes over;
  chunks_kept = λ i ne some. reads_over old new place bytes (λ reads. is_there d reads book i ≡ true)
      (λ under image is there. there_over d book i place (length bytes) under image some (clear i ne).chunk is there) over;
  pairs_stand = λ stand l i inner stored. pair_kept d book l i place bytes old new rooted
      (subst (λ (p : ℕ). AreApart (pair_place d.chunk l i) 64 p (length bytes)) (sym place_is)
      (subst (λ (n : ℕ). AreApart (pair_place d.chunk l i) 64 (chunk_place d.chunk at) n) (sym size_is) (turned _ _ _ _ (chunk_pair_clear d at l i)))) over (stand l i inner stored);
  goes_on = λ i ne has moment within. throughout_over old new place moment bytes (λ image. StandsIn d image i)
      (λ under image is. stands_over d i place (length bytes) under image valid (clear i ne)
      (subst (λ (p : ℕ). AreApart (gate_place d.chunk i) 1 p (length bytes)) (sym place_is)
      (subst (λ (n : ℕ). AreApart (gate_place d.chunk i) 1 (chunk_place d.chunk at) n) (sym size_is) (gate_chunk_clear d i at))) is) over;
  gated = λ member out has moment within. throughout_over old new place moment bytes (IsGated d member)
      (λ under image is gated. gated_over d member place (length bytes) under image valid (omega (arith, place_is)) is gated (some_chunks d valid).0
      (λ i. subst (λ (p : ℕ). AreApart (gate_place d.chunk i) 1 p (length bytes)) (sym place_is)
      (subst (λ (n : ℕ). AreApart (gate_place d.chunk i) 1 (chunk_place d.chunk at) n) (sym size_is) (gate_chunk_clear d i at)))
      (λ i there. clear i (λ e. false≢true (sym out ∙ ap member (sym e) ∙ there)))) over;
}
  where
    clear : (i : ℕ) → (i ≡ at → ⊥) → IsClear d i place (length bytes)
    clear i ne = subst (λ (p : ℕ). IsClear d i p (length bytes)) (sym place_is) (chunk_clear d i at (length bytes) ne size_is)

pub chunk_more : (d : Descriptor) (book : LookUp) (at : ℕ) (one two : List Bool) (old mid new : History)
    → WritesChunk d book at one one old mid → WritesPairs d book one two mid new → WritesChunk d book at one two old new
chunk_more d book at one two old mid new first second = record {
  past = second.past ∙ first.past;
  chunks_kept = λ i ne some there. second.chunks_kept i some (first.chunks_kept i ne some there);
  pairs_stand = λ stand. second.pairs_stand (first.pairs_stand stand);
  goes_on = λ i ne has moment within all.
      second.goes_on i has moment (let same = ap length first.past in omega arith) (first.goes_on i ne has moment within all);
  gated = λ member out has moment within all.
      second.gated member has moment (let same = ap length first.past in omega arith) (first.gated member out has moment within all);
}

-- ---- over any disk

pub puts_same : (d : Descriptor) (book : LookUp) (pairs : List Bool) (disk : DiskState) → PutsPairs d book pairs pairs disk disk
puts_same d book pairs disk = record {
  keeps = keeps_same disk;
  size = refl;
  stays = λ slot at. at;
  writes = λ known. pairs_same d book pairs pairs disk.history disk.history refl refl;
}

pub puts_more : (d : Descriptor) (book : LookUp) (one two three : List Bool) (old mid new : DiskState)
    → PutsPairs d book one two old mid → PutsPairs d book two three mid new → PutsPairs d book one three old new
puts_more d book one two three old mid new first second = record {
  keeps = keeps_more old mid new first.keeps second.keeps;
  size = second.size ∙ first.size;
  stays = λ slot at. second.stays slot (first.stays slot at);
  writes = λ known. pairs_more d book one two three old.history mid.history new.history first.stays (first.writes known)
      (second.writes (known_on old mid first.keeps.tells first.keeps.honest known));
}

-- the write of a pair
pub put_refused : {E : Type 0} (d : Descriptor) (book : LookUp) (pairs : List Bool) (k j place : ℕ) (bytes : List ℕ) (old new : DiskState) (fault : E)
    → IsDescriptor d → IsRooted d book → place ≡ pair_place d.chunk k j → length bytes ≡ 64 → has_pair pairs k j ≡ false
    → DoesWrite old place bytes (Err fault) new → PutsPairs d book pairs pairs old new
put_refused {E = E} d book pairs k j place bytes old new fault valid rooted place_is size_is absent does = record {
  keeps = (write_puts old new place bytes (Err fault) (omega (arith, place_is)) does).does.keeps;
  size = refl;
  stays = λ slot at. at;
  writes = λ known. pair_refused d book pairs k j place bytes old.history new.history valid rooted place_is size_is absent
      (write_over old new place bytes (Err fault) does known);
}

pub put_done : {E : Type 0} (d : Descriptor) (book : LookUp) (pairs pairs' : List Bool) (k j place : ℕ) (left right : List ℕ) (old new : DiskState) (u : Unit {0})
    → IsDescriptor d → IsRooted d book → place ≡ pair_place d.chunk k j → length (left ++ right) ≡ 64 → has_pair pairs k j ≡ false
    → IsJoined book k j left right → pairs' ≡ set pairs (pair_slot k j) true
    → DoesWrite {E = E} old place (left ++ right) (Ok u) new → PutsPairs d book pairs pairs' old new
put_done d book pairs pairs' k j place left right old new u valid rooted place_is size_is absent joined pairs_is does = record {
  keeps = (write_puts old new place (left ++ right) (Ok u) (omega (arith, place_is)) does).does.keeps;
  size = ap (λ (ps : List Bool). length ps) pairs_is ∙ length-set pairs (pair_slot k j) true;
  stays = λ slot at. ap (λ (ps : List Bool). get_or ps slot false) pairs_is ∙ ⊎_elim
      (λ same. absurd (false≢true (sym absent ∙ ap (λ (s : ℕ). get_or pairs s false) (sym same) ∙ at)))
      (λ other. get_or-set_other pairs (pair_slot k j) slot true false other ∙ at)
      (cases_eq slot (pair_slot k j));
  writes = λ known. pair_done d book pairs k j place (left ++ right) old.history new.history valid rooted place_is size_is absent
      (write_over old new place (left ++ right) (Ok u) does known) pairs' left right joined refl pairs_is (ap (λ (h : History). h.reads) (does.done known));
}

-- what its caller answers
pub pair_does : {T E F : Type 0} (old new : DiskState) (place : ℕ) (bytes : List ℕ) (u : Unit {0}) → 64 ≤ place → DoesWrite {E = E} old place bytes (Ok u) new
    → {x : T} → DoesBehind {E = F} old (Ok x) new
pair_does old new place bytes u far does {x = x} = does_done old new x (write_puts old new place bytes (Ok u) far does).does.keeps

pub pair_fails : {E : Type 0} (old new : DiskState) (place : ℕ) (bytes : List ℕ) (fault : E) → 64 ≤ place → DoesWrite old place bytes (Err fault) new
    → DoesBehind {T = Unit {0}} old (Err fault) new
pair_fails old new place bytes fault far does = (write_puts old new place bytes (Err fault) far does).does

pub on_ok_any : {T E P : Type 0} (r : Result T E) → P → OnOk r P
on_ok_any (Ok x) p = p
on_ok_any (Err e) p = tt

-- the two digests that the code finds
pub same_joined : (book : LookUp) (k j : ℕ) (a b : List ℕ) → ((left : List ℕ) × (right : List ℕ) × IsJoined book k j left right)
    → Some a ≡ book k (2 * j) → Some b ≡ book k (2 * j + 1) → IsJoined book k j a b
same_joined book k j a b (left, right, joined) a_is b_is =
    let left_is = joined.left_is in
    let right_is = joined.right_is in
    let one : left ≡ a = cc in
    let two : right ≡ b = cc in
    subst (λ (y : List ℕ). IsJoined book k j a y) two (subst (λ (x : List ℕ). IsJoined book k j x right) one joined)

-- ---- a chunk, over any disk

pub chunk_refused : {E : Type 0} (d : Descriptor) (book : LookUp) (pairs : List Bool) (at place : ℕ) (bytes : List ℕ) (old new : DiskState) (fault : E)
    → IsDescriptor d → IsRooted d book → place ≡ chunk_place d.chunk at → length bytes ≡ chunk_length d.size d.chunk at
    → DoesWrite old place bytes (Err fault) new → PutsChunk d book at pairs pairs old new
chunk_refused d book pairs at place bytes old new fault valid rooted place_is size_is does = record {
  keeps = (write_puts old new place bytes (Err fault) (omega (arith, place_is)) does).does.keeps;
  size = refl;
  stays = λ slot is. is;
  writes = λ known. chunk_over d book pairs at place bytes old.history new.history valid rooted place_is size_is (write_over old new place bytes (Err fault) does known);
}

pub chunk_done : {E : Type 0} (d : Descriptor) (book : LookUp) (one two : List Bool) (at place : ℕ) (bytes : List ℕ) (old mid new : DiskState) (u : Unit {0})
    → IsDescriptor d → IsRooted d book → place ≡ chunk_place d.chunk at → length bytes ≡ chunk_length d.size d.chunk at
    → DoesWrite {E = E} old place bytes (Ok u) mid → PutsPairs d book one two mid new → PutsChunk d book at one two old new
chunk_done d book one two at place bytes old mid new u valid rooted place_is size_is does second =
    let keeps = (write_puts old mid place bytes (Ok u) (omega (arith, place_is)) does).does.keeps in
    record {
      keeps = keeps_more old mid new keeps second.keeps;
      size = second.size;
      stays = second.stays;
      writes = λ known. chunk_more d book at one two old.history mid.history new.history
          (chunk_over d book one at place bytes old.history mid.history valid rooted place_is size_is (write_over old mid place bytes (Ok u) does known))
          (second.writes (known_on old mid keeps.tells keeps.honest known));
    }

-- and it is there
pub chunk_there : {E : Type 0} (d : Descriptor) (book : LookUp) (one two : List Bool) (at place : ℕ) (bytes : List ℕ) (old mid new : DiskState) (u : Unit {0})
    → IsDescriptor d → IsBacked d book at bytes → place ≡ chunk_place d.chunk at
    → DoesWrite {E = E} old place bytes (Ok u) mid → PutsPairs d book one two mid new → IsKnown old → is_there d new.history.reads book at ≡ true
chunk_there d book one two at place bytes old mid new u valid backed place_is does second known =
    let known_mid = known_on old mid does.call.tells does.call.honest known in
    let want = chunk_length d.size d.chunk at in
    let has : Has (chunk_place d.chunk at) bytes mid.history.reads =
    subst (λ (r : List ℕ). Has (chunk_place d.chunk at) bytes r) (sym (ap (λ (h : History). h.reads) (does.done known)))
    (subst (λ (p : ℕ). Has p bytes (written old.history.reads place bytes)) place_is (has_written old.history.reads place bytes)) in
    let read : slice mid.history.reads (chunk_place d.chunk at) want ≡ bytes =
    ap (λ (n : ℕ). slice mid.history.reads (chunk_place d.chunk at) n) (sym backed.whole) ∙ has_slice (chunk_place d.chunk at) bytes mid.history.reads has in
    let count : (length (slice mid.history.reads (chunk_place d.chunk at) want) == want) ≡ true =
    (let e : length (slice mid.history.reads (chunk_place d.chunk at) want) ≡ want = ap (λ (x : List ℕ). length x) read ∙ backed.whole in grind (arith, nat_tests)) in
    let digest : matches (book 0 at) (sha256 (slice mid.history.reads (chunk_place d.chunk at) want)) ≡ true =
    ap (λ (o : Option (List ℕ)). matches o (sha256 (slice mid.history.reads (chunk_place d.chunk at) want))) backed.leaf
    ∙ text_itself (sha256 bytes) (sha256 (slice mid.history.reads (chunk_place d.chunk at) want)) (ap (λ (x : List ℕ). sha256 x) (sym read)) in
    (second.writes known_mid).chunks_kept at (some_bytes d at valid backed.within) (λ t. count t && digest t)
