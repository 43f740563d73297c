-- A chunk is put: what becomes of the store, and that it agrees with the file.
use Rattle.std.proofs.Common.{◌≡◌, ◌⊎◌, inl, inr, ⊎_elim, ℕ, ◌-◌, ◌<◌, Bool, true, false, Option, Some, None, List, get_or, Result, Ok, Err, refl, sym, ◌∙◌, ap, subst, arith, get_or-set_other}
use Rattle.std.specs.Prelude.{◌||◌, ◌&&◌, OnErr, IfOk, IsOk, is_some}
use Rattle.std.proofs.Math.ListN.{set, length-set}
use Rattle.std.proofs.lemmas.Bool.{cases_eq, false≢true, and_parts, or_parts}
use Rattle.sha2.specs.Sha256.{sha256}
use Rattle.pp_terms.specs.Count.{HasCause}
use Rattle.pp_terms.specs.tree.Content.{chunk_length}
use Rattle.pp_terms.specs.tree.Book.{LookUp, IsRooted, IsBacked, has_peaks}
use Rattle.pp_terms.specs.format.Descriptor.{Descriptor, chunks_of, IsDescriptor}
use Rattle.pp_terms.specs.disk.Store.{chunk_place, HasHeader}
use Rattle.pp_terms.specs.disk.Image.{slice, matches}
use Rattle.pp_terms.specs.disk.Disk.{DiskState, IsKnown}
use Rattle.pp_terms.specs.tree.Tree.{above}
use Rattle.pp_terms.specs.tree.Proves.{first_absent}
use Rattle.pp_terms.proofs.Facts.{member_below, value_of}
use Rattle.pp_paths.specs.Judge.{KeepsEntries}
use Rattle.pp_paths.proofs.PeakNodes.{peak_known}
use Rattle.pp_scan.specs.Holding.{is_there}
use Rattle.pp_scan.proofs.Finding.{some_bytes}
use Rattle.pp_store.specs.declared.admitting.Put.{Put}
use Rattle.pp_store.specs.declared.admitting.Put.TheVariants.{Stored, Held, Missing, Wrong, Length}
use Rattle.pp_store.specs.Answer.{admitted, learned, put_answer, put_learned}
use Rattle.pp_store.specs.Pairs.{HasItsPairs, PairsStand, GoesOnSince, PutsChunk}
use Rattle.pp_store.specs.Store.{StoreState, IsSized, in_either, is_committed, is_held, AgreesWith, HoldsAll, KnowsHeld, after_put}
use Rattle.pp_store.specs.Sound.{StaysGated}
use Rattle.pp_store.proofs.KnownPairs.{holds_there}
use Rattle.pp_store.proofs.PairWrites.{has_on}
use Rattle.pp_store.proofs.Surviving.{peak_in, peaks_in}

-- ---- the sets

pub either_case : (a b : Bool) → (a || b) ≡ true → (a ≡ true) ⊎ (b ≡ true)
either_case a b e = elim a as (λ v. (v || b) ≡ true → (v ≡ true) ⊎ (b ≡ true)) [ true ↦ λ h. inl refl | false ↦ λ h. inr h ] e

pub either_left : (a b : Bool) → a ≡ true → (a || b) ≡ true
either_left a b e = ap (λ (v : Bool). v || b) e

other_set : (committed pending : List Bool) (i l : ℕ) → (l ≡ i → ⊥) → in_either committed (set pending i true) l ≡ in_either committed pending l
other_set committed pending i l ne = ap (λ (b : Bool). get_or committed l false || b) (get_or-set_other pending i l true false ne)

-- the other chunk isn't this one, which isn't held
pub held_other : (committed pending : List Bool) (i l : ℕ) → in_either committed pending i ≡ false → in_either committed pending l ≡ true → l ≡ i → ⊥
held_other committed pending i l absent held e = false≢true (sym absent ∙ ap (λ (m : ℕ). in_either committed pending m) (sym e) ∙ held)

pub held_within : (d : Descriptor) (committed pending pairs : List Bool) (l : ℕ) → IsSized d committed pending pairs → in_either committed pending l ≡ true → l < chunks_of d
held_within d committed pending pairs l sized held = ⊎_elim
    (λ one. omega (arith, member_below committed l one, sized.committed_size))
    (λ two. omega (arith, member_below pending l two, sized.pending_size))
    (either_case (get_or committed l false) (get_or pending l false) held)

module _ (d : Descriptor) (committed pending pairs pairs' : List Bool) (book : LookUp) (i : ℕ) (old new : DiskState)
    (sized : IsSized d committed pending pairs) (puts : PutsChunk d book i pairs pairs' old new) where
  pub sized_refused : IsSized d committed pending pairs'
  sized_refused = record {
    committed_size = sized.committed_size;
    pending_size = sized.pending_size;
    pairs_size = puts.size ∙ sized.pairs_size;
    supported = λ l held. has_on d pairs pairs' l puts.stays (sized.supported l held);
    apart = sized.apart;
  }

  pub sized_done : in_either committed pending i ≡ false → HasItsPairs d pairs' i → IsSized d committed (set pending i true) pairs'
  sized_done absent has = record {
    committed_size = sized.committed_size;
    pending_size = length-set pending i true ∙ sized.pending_size;
    pairs_size = puts.size ∙ sized.pairs_size;
    supported = λ l held. ⊎_elim
        (λ same. subst (λ (m : ℕ). HasItsPairs d pairs' m) (sym same) has)
        (λ other. has_on d pairs pairs' l puts.stays (sized.supported l (sym (other_set committed pending i l other) ∙ held)))
        (cases_eq l i);
    apart = λ l two. ⊎_elim
        (λ same. ap (λ (m : ℕ). get_or committed m false) same ∙ (or_parts (get_or committed i false) (get_or pending i false) absent).0)
        (λ other. sized.apart l (sym (get_or-set_other pending i l true false other) ∙ two))
        (cases_eq l i);
  }

  module _ (s : StoreState) (live : Bool) (view : record { descriptor = d; committed = committed; pending = pending; pairs = pairs; live = live } ≡ s)
      (absent : is_held s i ≡ false) (known : IsKnown old) where
    absent' : in_either committed pending i ≡ false
    absent' = ap (λ (t : StoreState). is_held t i) view ∙ absent

    pub put_goes_on : (l : ℕ) → get_or s.committed l false ≡ true → GoesOnSince s.descriptor l old.history new.history
    put_goes_on l at =
        let at' : get_or committed l false ≡ true = ap (λ (t : StoreState). get_or t.committed l false) view ∙ at in
        let held : in_either committed pending l ≡ true = either_left (get_or committed l false) (get_or pending l false) at' in
        subst (λ (t : StoreState). GoesOnSince t.descriptor l old.history new.history) view
        ((puts.writes known).goes_on l (held_other committed pending i l absent' held) (sized.supported l held))

    pub put_gated : StaysGated s.descriptor (is_committed s) (is_committed s) old.history new.history
    put_gated = subst (λ (t : StoreState). StaysGated t.descriptor (is_committed t) (is_committed t) old.history new.history) view
        ((puts.writes known).gated (λ l. get_or committed l false) ((or_parts (get_or committed i false) (get_or pending i false) absent').0)
        (λ l at. sized.supported l (either_left (get_or committed l false) (get_or pending l false) at)))

    kept : IsDescriptor d → (l : ℕ) → in_either committed pending l ≡ true → AgreesWith s book old.history.reads → is_there d new.history.reads book l ≡ true
    kept valid l held agrees =
        let within = held_within d committed pending pairs l sized held in
        (puts.writes known).chunks_kept l (held_other committed pending i l absent' held) (some_bytes d l valid within)
        (ap (λ (t : StoreState). is_there t.descriptor old.history.reads book l) view ∙ agrees.chunks l (sym (ap (λ (t : StoreState). is_held t l) view) ∙ held))

    begun : AgreesWith s book old.history.reads → HasHeader d new.history.reads
    begun agrees k lt = (puts.keeps.behind known).header k lt
        ∙ subst (λ (t : StoreState). HasHeader t.descriptor old.history.reads) (sym view) agrees.begins k lt

    stand : AgreesWith s book old.history.reads → PairsStand d book pairs' new.history.reads
    stand agrees = (puts.writes known).pairs_stand (subst (λ (t : StoreState). PairsStand t.descriptor book t.pairs old.history.reads) (sym view) agrees.pairs_stand)

    pub agrees_refused : (live' : Bool) → IsDescriptor d → AgreesWith s book old.history.reads
        → AgreesWith (record { descriptor = d; committed = committed; pending = pending; pairs = pairs'; live = live' }) book new.history.reads
    agrees_refused live' valid agrees = record {
      begins = begun agrees;
      chunks = λ l held. kept valid l held agrees;
      pairs_stand = stand agrees;
    }

    pub agrees_done : (live' : Bool) → IsDescriptor d → is_there d new.history.reads book i ≡ true → AgreesWith s book old.history.reads
        → AgreesWith (record { descriptor = d; committed = committed; pending = set pending i true; pairs = pairs'; live = live' }) book new.history.reads
    agrees_done live' valid there agrees = record {
      begins = begun agrees;
      chunks = λ l held. ⊎_elim
          (λ same. ap (λ (m : ℕ). is_there d new.history.reads book m) same ∙ there)
          (λ other. kept valid l (sym (other_set committed pending i l other) ∙ held) agrees)
          (cases_eq l i);
      pairs_stand = stand agrees;
    }

-- ---- the answer

module _ (s : StoreState) (d : Descriptor) (d_is : d ≡ s.descriptor) (book claims : LookUp) (i : ℕ) (bytes : List ℕ) (held : Bool) (absent : false ≡ held) where
  pub answer_is : (put : Put) → put ≡ admitted d book claims i bytes → put_answer held s.descriptor book claims i bytes ≡ put
  answer_is put is = ap (λ (b : Bool). put_answer b s.descriptor book claims i bytes) (sym absent) ∙ ap (λ (e : Descriptor). admitted e book claims i bytes) (sym d_is) ∙ sym is

  pub learned_is : (new : LookUp) → ((k j : ℕ) → new k j ≡ learned d book claims i bytes k j) → (k j : ℕ) → new k j ≡ put_learned held s.descriptor book claims i bytes k j
  learned_is new is k j = is k j ∙ ap (λ (e : Descriptor). learned e book claims i bytes k j) d_is
      ∙ ap (λ (b : Bool). put_learned b s.descriptor book claims i bytes k j) absent

pub after_other : (put : Put) (i : ℕ) (s : StoreState) → (put ≡ Stored → ⊥) → s ≡ after_put put i s
after_other Stored i s ne = absurd (ne refl)
after_other Held i s ne = refl
after_other (Missing at) i s ne = refl
after_other (Wrong at found kept) i s ne = refl
after_other (Length found want) i s ne = refl

pub on_err_any : {T E P : Type 0} (r : Result T E) → P → OnErr r P
on_err_any (Ok x) p = tt
on_err_any (Err e) p = p

pub ok_stored : {E X : Type 0} (r : Result Put E) → IfOk r (λ put. put ≡ Stored) → (r ≡ Ok Stored → ⊥) → IsOk r → X
ok_stored (Ok put) is differ ok = absurd (differ (ap Ok is))
ok_stored (Err e) is differ ok = absurd (false≢true ok)

pub no_cause : {T E : Type 0} (n : ℕ) (x : T) → HasCause {E = E} n n (Ok x)
no_cause n x = record { later = omega arith; risen = λ err. absurd cc }

-- ---- a book that grew

there_grown : (d : Descriptor) (old new : LookUp) (reads : List ℕ) (l : ℕ) → KeepsEntries old new → is_there d reads old l ≡ true → is_there d reads new l ≡ true
there_grown d old new reads l keeps there = from (old 0 l) refl
  where
    bytes : List ℕ
    bytes = slice reads (chunk_place d.chunk l) (chunk_length d.size d.chunk l)

    from : (o : Option (List ℕ)) → old 0 l ≡ o → is_there d reads new l ≡ true
    from None none =
        let both = and_parts _ (matches (old 0 l) (sha256 bytes)) there in
        absurd (false≢true (ap (λ (o : Option (List ℕ)). matches o (sha256 bytes)) (sym none) ∙ both.1))
    from (Some x) at =
        let same : new 0 l ≡ old 0 l = keeps 0 l x at ∙ sym at in
        let both = and_parts _ (matches (old 0 l) (sha256 bytes)) there in
        (λ t. both.0 t && matches (same t) (sha256 bytes)) ∙ both.1

pub agrees_grown : (s : StoreState) (old new : LookUp) (reads : List ℕ) → KeepsEntries old new → AgreesWith s old reads → AgreesWith s new reads
agrees_grown s old new reads keeps agrees = record {
  begins = agrees.begins;
  chunks = λ l held. there_grown s.descriptor old new reads l keeps (agrees.chunks l held);
  pairs_stand = λ k j inner stored. let it = agrees.pairs_stand k j inner stored in record {
    left = it.left;
    right = it.right;
    joined = record { left_is = keeps _ _ _ it.joined.left_is; right_is = keeps _ _ _ it.joined.right_is; joined = keeps _ _ _ it.joined.joined };
    there = it.there;
  };
}

-- ---- chunks that stand

pub holds_all : (s : StoreState) (book : LookUp) (reads : List ℕ) → IsDescriptor s.descriptor → IsRooted s.descriptor book
    → ((l : ℕ) → is_held s l ≡ true → l < chunks_of s.descriptor) → ((l : ℕ) → is_held s l ≡ true → HasItsPairs s.descriptor s.pairs l)
    → AgreesWith s book reads → HoldsAll s reads
holds_all s book reads valid rooted sized supported agrees l held =
    holds_there s.descriptor book s.pairs reads l valid rooted (sized l held) agrees.begins agrees.pairs_stand (supported l held) (agrees.chunks l held)

-- ---- what the book knows of held chunks

peaks_grown : (old new : LookUp) (n : ℕ) → KeepsEntries old new → has_peaks old n ≡ true → has_peaks new n ≡ true
peaks_grown old new n keeps all = peaks_in new n 21 (λ k low odd.
    let (x, at) = value_of (old k (above k n - 1)) (peak_in old n 21 k all low odd) in
    ap (λ (o : Option (List ℕ)). is_some o) (keeps k (above k n - 1) x at))

peaks_all : (book : LookUp) (n : ℕ) → first_absent book n ≡ None → has_peaks book n ≡ true
peaks_all book n all = peaks_in book n 21 (λ k low odd.
    let (x, at) = peak_known book n k all low odd in ap (λ (o : Option (List ℕ)). is_some o) at)

pub knows_grown : (s : StoreState) (old new : LookUp) → KeepsEntries old new → KnowsHeld s old → KnowsHeld s new
knows_grown s old new keeps knows = record {
  leaf = λ i held. let (x, at) = value_of (old 0 i) (knows.leaf i held) in ap (λ (o : Option (List ℕ)). is_some o) (keeps 0 i x at);
  peaks = λ i held. peaks_grown old new (chunks_of s.descriptor) keeps (knows.peaks i held);
}

pub knows_done : (s : StoreState) (d : Descriptor) (committed pending pairs pairs' : List Bool) (live live' : Bool) (book : LookUp) (i : ℕ) (bytes : List ℕ)
    → record { descriptor = d; committed = committed; pending = pending; pairs = pairs; live = live } ≡ s → IsBacked d book i bytes
    → first_absent book (chunks_of d) ≡ None → KnowsHeld s book
    → KnowsHeld (record { descriptor = d; committed = committed; pending = set pending i true; pairs = pairs'; live = live' }) book
knows_done s d committed pending pairs pairs' live live' book i bytes view backed all knows = record {
  leaf = λ l held. ⊎_elim
      (λ same. ap (λ (m : ℕ). is_some (book 0 m)) same ∙ ap (λ (o : Option (List ℕ)). is_some o) backed.leaf)
      (λ other. knows.leaf l (sym (ap (λ (t : StoreState). is_held t l) view) ∙ sym (other_set committed pending i l other) ∙ held))
      (cases_eq l i);
  peaks = λ l held. peaks_all book (chunks_of d) all;
}

pub knows_dead : (s : StoreState) (d : Descriptor) (committed pending pairs pairs' : List Bool) (live live' : Bool) (book : LookUp)
    → record { descriptor = d; committed = committed; pending = pending; pairs = pairs; live = live } ≡ s → KnowsHeld s book
    → KnowsHeld (record { descriptor = d; committed = committed; pending = pending; pairs = pairs'; live = live' }) book
knows_dead s d committed pending pairs pairs' live live' book view knows =
    let it = subst (λ (t : StoreState). KnowsHeld t book) (sym view) knows in record { leaf = it.leaf; peaks = it.peaks }
