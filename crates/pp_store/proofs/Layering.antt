-- The steps of a growing tree, in the code's terms.
use Rattle.std.proofs.Common.{◌≡◌, ℕ, suc, ◌+◌, ◌-◌, ◌*◌, ◌/◌, ◌%◌, ◌^◌, ◌<◌, ◌≤◌, List, [], ◌++◌, length, get_or, drop, replicate, Result, Ok, Err, IfOk, OnOk, ◌∙◌, ap, subst, arith}
use Rattle.std.proofs.lemmas.List.{take_at, drop_at, append-nil}
use borrow.Rule.Slice.PartMut.{put_mid}
use Rattle.sha2.specs.Sha256.{sha256}
use Rattle.pp_terms.specs.tree.Content.{chunk_of}
use Rattle.pp_terms.specs.tree.Tree.{empty_hash}
use Rattle.pp_terms.specs.disk.Store.{chunk_place, gate_place, open_gate}
use Rattle.pp_terms.specs.disk.Disk.{DiskState, IsKnown, DoesWrite, written}
use Rattle.pp_terms.proofs.Knowing.{known_on}
use Rattle.pp_store.specs.Behind.{DoesBehind, DoesPut}
use Rattle.pp_store.specs.Growing.{with_chunk, IsPartial, IsCarry, IsCarrying, IsTail, IsTailing, chunks_in}
use Rattle.pp_store.proofs.Writings.{write_puts, does_later, does_fault}
use Rattle.pp_store.proofs.Carrying.{carry_start, carry_step, carry_slot}
use Rattle.pp_store.proofs.Tails.{tail_odd, tail_even, tail_slot}

-- the two digests written over zeros
pub joined_placed : (a b left right : List ℕ) → a ≡ left → b ≡ right → length left ≡ 32 → put_mid 32 32 (a ++ replicate 32 0) b ≡ left ++ right
joined_placed a b left right a_is b_is size =
    ap (λ (x : List ℕ). put_mid 32 32 (x ++ replicate 32 0) b) a_is ∙ ap (λ (y : List ℕ). put_mid 32 32 (left ++ replicate 32 0) y) b_is
    ∙ ap (λ (x : List ℕ). x ++ (right ++ drop 32 (drop 32 (left ++ replicate 32 0)))) (take_at left (replicate 32 0) 32 size)
    ∙ ap (λ (x : List ℕ). left ++ (right ++ drop 32 x)) (drop_at left (replicate 32 0) 32 size)
    ∙ ap (λ (x : List ℕ). left ++ x) (append-nil right)

-- a write that was done, with the answer that its caller gives
pub puts_there : {T E : Type 0} (old new : DiskState) (place place' : ℕ) (bytes bytes' : List ℕ) (u : Unit {0}) (x : T) → place ≡ place' → bytes ≡ bytes' → 64 ≤ place'
    → DoesWrite {E = E} old place bytes (Ok u) new → DoesPut {E = E} old place' bytes' (Ok x) new
puts_there {E = E} old new place place' bytes bytes' u x same same' far does =
    let puts = write_puts {E = E} old new place' bytes' (Ok u) far (subst (λ (b : List ℕ). DoesWrite {E = E} old place' b (Ok u) new) same' (subst (λ (p : ℕ). DoesWrite {E = E} old p bytes (Ok u) new) same does)) in
    record {
      does = record {
        keeps = puts.does.keeps;
        cause = record { later = puts.does.cause.later; risen = λ err. absurd cc };
        hard_cause = record { later = puts.does.hard_cause.later; risen = λ err. absurd cc };
      };
      put = puts.put;
    }

-- one that was refused
pub put_fails : {T E : Type 0} (old new : DiskState) (place : ℕ) (bytes : List ℕ) (fault : E) → 64 ≤ place → DoesWrite old place bytes (Err fault) new
    → DoesPut {T = T} old place bytes (Err fault) new
put_fails old new place bytes fault far does =
    let puts = write_puts old new place bytes (Err fault) far does in
    record { does = does_fault old new fault fault puts.does; put = λ known. tt }

-- the place of the slot that the code computes
last_place : (chunk count k offset step x : ℕ) → IsTail count k offset step
    → chunk_place chunk ((offset / 2 * 2 + 1) * step - 1) + x ≡ chunk_place chunk (offset / 2 * 2 ^ suc k + 2 ^ k - 1) + x
last_place chunk count k offset step x at = ap (λ (s : ℕ). chunk_place chunk s + x) (tail_slot count k offset step at)

module _ {E : Type 0} (chunk count k offset step : ℕ) (peaks : List (List ℕ)) (old new : DiskState) where
  pub last_odd : (left right : List ℕ) (result : Result (List ℕ) E) → IsTail count k offset step → step < count → offset % 2 ≡ 1 → left ≡ get_or peaks k []
      → DoesPut old (chunk_place chunk ((offset / 2 * 2 + 1) * step - 1) + chunk) (left ++ right) result new
      → IfOk result (λ above. above ≡ sha256 (left ++ right))
      → (content : List ℕ) → IsTailing chunk content count k offset peaks right old
      → IfOk result (λ above. IsTailing chunk content count (k + 1) (offset / 2) peaks above new)
  last_odd left right (Ok above) at short odd left_is puts digest content before =
      tail_odd chunk content count old new above k offset step _ peaks left right above puts (last_place chunk count k offset step chunk at) at short odd left_is digest before
  last_odd left right (Err fault) at short odd left_is puts digest content before = tt

  pub last_even : (left right : List ℕ) (result : Result (List ℕ) E) → IsTail count k offset step → step < count → (offset % 2 ≡ 1 → ⊥) → offset * step < count → right ≡ empty_hash
      → DoesPut old (chunk_place chunk ((offset / 2 * 2 + 1) * step - 1) + chunk) (left ++ right) result new
      → IfOk result (λ above. above ≡ sha256 (left ++ right))
      → (content : List ℕ) → IsTailing chunk content count k offset peaks left old
      → IfOk result (λ above. IsTailing chunk content count (k + 1) (offset / 2) peaks above new)
  last_even left right (Ok above) at short even covers right_is puts digest content before =
      tail_even chunk content count old new above k offset step _ peaks left right above puts (last_place chunk count k offset step chunk at) at short even covers right_is digest before
  last_even left right (Err fault) at short even covers right_is puts digest content before = tt

  -- a pair that a carry wrote
  pub carry_put : (left right above : List ℕ) → IsCarry count k offset step → offset % 2 ≡ 1 → left ≡ get_or peaks k []
      → DoesPut {E = E} old (chunk_place chunk (count - step) + chunk) (left ++ right) (Ok above) new → above ≡ sha256 (left ++ right)
      → (content : List ℕ) → IsCarrying chunk content count k offset peaks right old
      → IsCarrying chunk content count (k + 1) (offset / 2) peaks above new
  carry_put left right above at odd left_is puts digest content before =
      carry_step chunk content count old new above k offset step _ peaks left right above puts
      (ap (λ (s : ℕ). chunk_place chunk s + chunk) (carry_slot count k offset step at odd).1) at odd left_is digest before

-- the chunk that was written with its gate, and the pairs that it fills
pub chunk_put : {E F : Type 0} (chunk count : ℕ) (peaks peaks' : List (List ℕ)) (bytes digest : List ℕ) (count' : ℕ) (old mid new : DiskState) (u : Unit {0}) (result : Result (Unit {0}) F)
    → DoesBehind {E = E} old (Ok u) mid → (IsKnown old → mid.history.reads ≡ with_chunk chunk count bytes old.history.reads)
    → ((content : List ℕ) → IsCarrying chunk content count 0 count peaks digest mid → OnOk result (IsPartial chunk content count' peaks' new))
    → (content : List ℕ) → bytes ≡ chunk_of content chunk count → digest ≡ sha256 bytes → count < chunks_in chunk content → IsPartial chunk content count peaks old
    → OnOk result (IsPartial chunk content count' peaks' new)
chunk_put chunk count peaks peaks' bytes digest count' old mid new u result does put carry content bytes_is digest_is within part =
    carry content (carry_start chunk content count old mid peaks bytes digest does.keeps put bytes_is digest_is within part)

-- a chunk, and then its gate
pub bytes_put : {E : Type 0} (chunk slot place gate : ℕ) (bytes gate_bytes : List ℕ) (old mid new : DiskState) (u : Unit {0}) (result : Result (Unit {0}) E)
    → place ≡ chunk_place chunk slot → gate ≡ gate_place chunk slot → gate_bytes ≡ open_gate
    → DoesWrite {E = E} old place bytes (Ok u) mid → DoesWrite mid gate gate_bytes result new
    → DoesBehind old result new × (IsKnown old → OnOk result (new.history.reads ≡ with_chunk chunk slot bytes old.history.reads))
bytes_put {E = E} chunk slot place gate bytes gate_bytes old mid new u result place_is gate_is bytes_is one two =
    let first = write_puts {E = E} old mid place bytes (Ok u) (omega (arith, place_is)) one in
    let second = write_puts mid new gate gate_bytes result (omega (arith, gate_is)) two in (
      does_later old mid new result first.does.keeps second.does,
      λ known. on_ok result (λ back. reads_of known back) (second.put (known_on old mid first.does.keeps.tells first.does.keeps.honest known)),
    )
  where
    on_ok : {A B : Type 0} (r : Result (Unit {0}) E) → (A → B) → OnOk r A → OnOk r B
    on_ok (Ok v) f a = f a
    on_ok (Err fault) f a = tt

    reads_of : IsKnown old → new.history.reads ≡ written mid.history.reads gate gate_bytes → new.history.reads ≡ with_chunk chunk slot bytes old.history.reads
    reads_of known e =
        let first = write_puts {E = E} old mid place bytes (Ok u) (omega (arith, place_is)) one in
        e ∙ (λ t. written (first.put known t) (gate_is t) (bytes_is t)) ∙ ap (λ (p : ℕ). written (written old.history.reads p bytes) (gate_place chunk slot) open_gate) place_is
