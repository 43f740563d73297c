-- What waits is what is pending, while chunks are put and committed.
use Rattle.std.proofs.Common.{◌≡◌, ⊎_elim, ℕ, suc, ◌<◌, eqb, Bool, true, false, cond, List, [], ◌∷◌, length, map, replicate, get_or, refl, sym, ◌∙◌, ap, arith}
use Rattle.std.specs.Prelude.{◌||◌, count_by}
use Rattle.std.proofs.Math.ListN.{set}
use Rattle.std.proofs.lemmas.Bool.{cases_eq, false≢true, or_parts, or_left, eq-eqb}
use Rattle.std.proofs.lemmas.Bool.Decides.{nat_tests}
use Rattle.std.proofs.lemmas.List.{length-set, length-replicate, get_or-set_same, get_or-set_other, ext_get_or}
use Rattle.std.proofs.lemmas.List.Sums.{sum_by-set}
use Rattle.std.proofs.lemmas.List.FromFn.{length-map-range_with_len, get_or-map-range_with_len}
use Rattle.pp_terms.specs.format.Descriptor.{Descriptor, chunks_of}
use Rattle.pp_terms.proofs.Facts.{none_in}
use Rattle.pp_tree.proofs.HeldCounts.{none_counted}
use Rattle.pp_promises.specs.Batches.{is_pending, is_in, committed_with, after_commit}
use Rattle.pp_store.specs.declared.admitting.Put.TheVariants.{Stored}
use Rattle.pp_store.specs.Store.{StoreState, is_held, HasCommitted, after_put}
use Rattle.pp_holding.specs.declared.queue.Waiting.{Waiting}
use Rattle.pp_holding.specs.Queue.{pending_of}
use Rattle.pp_holding.specs.Holding.{batch_from, is_queued, HasWaiting}

is_pending-map : (committed : List Bool) (waiting : List Waiting) (i : ℕ)
    → is_pending (record { committed = committed; pending = map pending_of waiting }) i ≡ is_queued waiting i
is_pending-map committed [] i = refl
is_pending-map committed (w ∷ waiting) i = ap (λ (b : Bool). eqb w.ticket.chunk i || b) (is_pending-map committed waiting i)

pub is_in-batch : (s : StoreState) (waiting : List Waiting) (i : ℕ) → HasWaiting s waiting → is_in (batch_from s waiting) i ≡ is_held s i
is_in-batch s waiting i has = ap (λ (b : Bool). get_or s.committed i false || b) (is_pending-map s.committed waiting i ∙ has.each i)

count-set : (xs : List Bool) (i : ℕ) → i < length xs → get_or xs i false ≡ false → count_by (λ (b : Bool). b) (set xs i true) ≡ suc (count_by (λ (b : Bool). b) xs)
count-set xs i within absent =
    let one = sum_by-set (λ (b : Bool). cond b 1 0) xs i true false within in
    let old : cond {A = ℕ} (get_or xs i false) 1 0 ≡ 0 = ap (λ (b : Bool). cond {A = ℕ} b 1 0) absent in
    omega (arith, one, old)

-- one more
pub waiting_put : (s : StoreState) (waiting : List Waiting) (w : Waiting) → HasWaiting s waiting → is_held s w.ticket.chunk ≡ false
    → w.ticket.chunk < chunks_of s.descriptor → HasWaiting (after_put Stored w.ticket.chunk s) (w ∷ waiting)
waiting_put s waiting w has absent within = record {
  committed_size = has.committed_size;
  pending_size = length-set s.pending w.ticket.chunk true ∙ has.pending_size;
  apart = λ l at. ⊎_elim
      (λ same. ap (λ (m : ℕ). get_or s.committed m false) same ∙ parts.0)
      (λ other. has.apart l (sym (get_or-set_other s.pending w.ticket.chunk l true false other) ∙ at))
      (cases_eq l w.ticket.chunk);
  each = λ l. ⊎_elim
      (λ same.
      or_left (eqb w.ticket.chunk l) (is_queued waiting l) (eq-eqb w.ticket.chunk l (sym same))
      ∙ sym (ap (λ (m : ℕ). get_or (set s.pending w.ticket.chunk true) m false) same ∙ get_or-set_same s.pending w.ticket.chunk true false low))
      (λ other.
      ap (λ (b : Bool). b || is_queued waiting l) (apart_eqb l other) ∙ has.each l
      ∙ sym (get_or-set_other s.pending w.ticket.chunk l true false other))
      (cases_eq l w.ticket.chunk);
  as_many = ap suc has.as_many ∙ sym (count-set s.pending w.ticket.chunk low parts.1);
}
  where
    parts : (get_or s.committed w.ticket.chunk false ≡ false) × (get_or s.pending w.ticket.chunk false ≡ false)
    parts = or_parts (get_or s.committed w.ticket.chunk false) (get_or s.pending w.ticket.chunk false) absent

    low : w.ticket.chunk < length s.pending
    low = omega (arith, within, has.pending_size)

    apart_eqb : (l : ℕ) → (l ≡ w.ticket.chunk → ⊥) → eqb w.ticket.chunk l ≡ false
    apart_eqb l other = grind (arith, nat_tests)

-- the same sets
pub waiting_same : (s s' : StoreState) (waiting : List Waiting) → s'.descriptor ≡ s.descriptor → s'.committed ≡ s.committed → s'.pending ≡ s.pending
    → HasWaiting s waiting → HasWaiting s' waiting
waiting_same s s' waiting descriptor committed pending has = record {
  committed_size = ap (λ (xs : List Bool). length xs) committed ∙ has.committed_size ∙ ap (λ (d : Descriptor). chunks_of d) (sym descriptor);
  pending_size = ap (λ (xs : List Bool). length xs) pending ∙ has.pending_size ∙ ap (λ (d : Descriptor). chunks_of d) (sym descriptor);
  apart = λ i at. ap (λ (xs : List Bool). get_or xs i false) committed ∙ has.apart i (sym (ap (λ (xs : List Bool). get_or xs i false) pending) ∙ at);
  each = λ i. has.each i ∙ sym (ap (λ (xs : List Bool). get_or xs i false) pending);
  as_many = has.as_many ∙ ap (λ (xs : List Bool). count_by (λ (b : Bool). b) xs) (sym pending);
}

-- all of it was committed
module _ (s s' : StoreState) (waiting : List Waiting) (has : HasWaiting s waiting) (done : HasCommitted s s') where
  descriptor : s'.descriptor ≡ s.descriptor
  descriptor = ap (λ (x : StoreState). x.descriptor) done.others

  emptied : s'.pending ≡ replicate (chunks_of s.descriptor) false
  emptied = ap (λ (x : StoreState). x.pending) done.others

  none : (i : ℕ) → get_or s'.pending i false ≡ false
  none i = ap (λ (xs : List Bool). get_or xs i false) emptied ∙ none_in (chunks_of s.descriptor) i

  pub waiting_committed : HasWaiting s' []
  waiting_committed = record {
    committed_size = done.size ∙ has.committed_size ∙ ap (λ (d : Descriptor). chunks_of d) (sym descriptor);
    pending_size = ap (λ (xs : List Bool). length xs) emptied ∙ length-replicate (chunks_of s.descriptor) false ∙ ap (λ (d : Descriptor). chunks_of d) (sym descriptor);
    apart = λ i at. absurd (false≢true (sym (none i) ∙ at));
    each = λ i. sym (none i);
    as_many = sym (ap (λ (xs : List Bool). count_by (λ (b : Bool). b) xs) emptied ∙ none_counted (chunks_of s.descriptor));
  }

  committed_is : s'.committed ≡ committed_with (batch_from s waiting)
  committed_is = ext_get_or false s'.committed (committed_with (batch_from s waiting))
      (done.size ∙ sym (length-map-range_with_len (is_in (batch_from s waiting)) 0 (length s.committed)))
      (λ i lt.
      done.each i ∙ sym (is_in-batch s waiting i has)
      ∙ sym (get_or-map-range_with_len (is_in (batch_from s waiting)) 0 (length s.committed) i i false (omega (arith, lt, done.size)) (omega arith)))

  pub batch_committed : batch_from s' [] ≡ after_commit (batch_from s waiting)
  batch_committed = λ t. record { committed = committed_is t; pending = [] }

pub none_pending : (s : StoreState) (waiting : List Waiting) → HasWaiting s waiting → waiting ≡ [] → count_by (λ (b : Bool). b) s.pending ≡ 0
none_pending s waiting has none = sym has.as_many ∙ ap (λ (ws : List Waiting). length ws) none
