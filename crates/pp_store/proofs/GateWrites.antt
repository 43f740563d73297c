-- Gates that are opened one after the other: what they leave, and which chunks go on standing.
use Rattle.std.proofs.Common.{◌≡◌, ◌⊎◌, inl, inr, ⊎_elim, ℕ, zero, suc, ◌+◌, ◌<◌, ◌≤◌, ◌==◌, Bool, true, false, cond, List, [], ◌∷◌, ◌++◌, length, get_or, take, drop, refl, sym, ◌∙◌, ap, subst, arith}
use Rattle.std.proofs.lemmas.Bool.{cases_eq, false≢true, false_from_ne_true}
use Rattle.std.proofs.lemmas.List.{take_all}
use Rattle.pp_terms.specs.format.Descriptor.{Descriptor, chunks_of, IsDescriptor}
use Rattle.pp_terms.specs.disk.Store.{gate_place, open_gate}
use Rattle.pp_terms.specs.disk.Image.{holds, is_open, StandsIn}
use Rattle.pp_terms.specs.disk.Disk.{History, Write, IsImage, WasImage, IsTorn, IsOver, IsRefusedWrite, Throughout, moment_of, written, pends, after_write}
use Rattle.pp_terms.proofs.Images.{length-written, written_inside, written_outside, sole_image, since_now, over_image, moment-settled, throughout_write, throughout_settled}
use Rattle.pp_scan.specs.Look.{synced}
use Rattle.pp_store.specs.Sound.{IsGated}
use Rattle.pp_store.specs.Store.{HoldsIn}
use Rattle.pp_store.specs.Writes.{after_writes}
use Rattle.pp_store.specs.Gates.{gate_write, gate_writes_from, gate_writes, gates_opened, made_durable, IsRefusedCommit}
use Rattle.pp_store.specs.Pairs.{GoesOnSince}
use Rattle.pp_store.proofs.Gated.{gated_more, begins_over, open_under, held_over}
use Rattle.pp_store.proofs.PairWrites.{gates_clear, gate_clear}
use Rattle.pp_store.proofs.Surviving.{some_chunks, open_over, stands_over, holds_over}

after_more : (ws vs : List Write) (h : History) → after_writes h (ws ++ vs) ≡ after_writes (after_writes h ws) vs
after_more [] vs h = refl
after_more (w ∷ ws) vs h = after_more ws vs (after_write h w.place w.bytes)

-- ---- the loop: the gates of the chunks below one are open

none_from : (d : Descriptor) (n : ℕ) (bs : List Bool) → ((k : ℕ) → get_or bs k false ≡ false) → gate_writes_from d n bs ≡ []
none_from d n [] none = refl
none_from d n (b ∷ bs) none =
    ap (λ (x : Bool). cond x (gate_write d n ∷ gate_writes_from d (suc n) bs) (gate_writes_from d (suc n) bs)) (none 0) ∙ none_from d (suc n) bs (λ k. none (suc k))

-- the next one
writes_step : (d : Descriptor) (n : ℕ) (bs : List Bool) (from i : ℕ) → from ≤ i → i < length bs → get_or bs i false ≡ true
    → ((k : ℕ) → from ≤ k → k < i → get_or bs k false ≡ false)
    → gate_writes_from d n (take (suc i) bs) ≡ gate_writes_from d n (take from bs) ++ gate_write d (n + i) ∷ []
writes_step d n [] from i le inside here between = absurd (omega arith)
writes_step d n (b ∷ bs) zero zero le inside here between =
    ap (λ (x : Bool). cond x (gate_write d n ∷ []) []) here ∙ ap (λ (m : ℕ). gate_write d m ∷ []) (let e : n ≡ n + 0 = omega arith in e)
writes_step d n (b ∷ bs) zero (suc i) le inside here between =
    ap (λ (x : Bool). cond x (gate_write d n ∷ gate_writes_from d (suc n) (take (suc i) bs)) (gate_writes_from d (suc n) (take (suc i) bs))) (between 0 (omega arith) (omega arith))
    ∙ writes_step d (suc n) bs zero i (omega arith) (omega arith) here (λ k low lt. between (suc k) (omega arith) (omega arith))
    ∙ ap (λ (m : ℕ). gate_write d m ∷ []) (let e : suc n + i ≡ n + suc i = omega arith in e)
writes_step d n (b ∷ bs) (suc from) zero le inside here between = absurd (omega arith)
writes_step d n (b ∷ bs) (suc from) (suc i) le inside here between =
    let rest = writes_step d (suc n) bs from i (omega arith) (omega arith) here (λ k low lt. between (suc k) (omega arith) (omega arith))
    ∙ ap (λ (m : ℕ). gate_writes_from d (suc n) (take from bs) ++ gate_write d m ∷ []) (let e : suc n + i ≡ n + suc i = omega arith in e) in
    elim b as (λ x. cond x (gate_write d n ∷ gate_writes_from d (suc n) (take (suc i) bs)) (gate_writes_from d (suc n) (take (suc i) bs))
    ≡ cond x (gate_write d n ∷ gate_writes_from d (suc n) (take from bs)) (gate_writes_from d (suc n) (take from bs)) ++ gate_write d (n + suc i) ∷ [])
    [ true ↦ ap (λ (ws : List Write). gate_write d n ∷ ws) rest | false ↦ rest ]

from_zero : (i : ℕ) → 0 + i ≡ i
from_zero i = omega arith

pub gates_step : (d : Descriptor) (set : List Bool) (from i next : ℕ) (h : History) → next ≡ i + 1 → from ≤ i → i < length set → get_or set i false ≡ true
    → ((k : ℕ) → from ≤ k → k < i → get_or set k false ≡ false)
    → gates_opened d (take next set) h ≡ after_write (gates_opened d (take from set) h) (gate_place d.chunk i) open_gate
gates_step d set from i next h next_is le inside here between =
    let e : next ≡ suc i = omega (arith, next_is) in
    ap (λ (m : ℕ). gates_opened d (take m set) h) e ∙ ap (λ (ws : List Write). after_writes h ws) (writes_step d 0 set from i le inside here between)
    ∙ ap (λ (m : ℕ). after_writes h (gate_writes d (take from set) ++ gate_write d m ∷ [])) (from_zero i)
    ∙ after_more (gate_writes d (take from set)) (gate_write d i ∷ []) h

-- no gate was opened between
between_from : (d : Descriptor) (n : ℕ) (bs : List Bool) (from i : ℕ) → from ≤ i → ((k : ℕ) → from ≤ k → k < i → get_or bs k false ≡ false)
    → gate_writes_from d n (take i bs) ≡ gate_writes_from d n (take from bs)
between_from d n [] zero zero le between = refl
between_from d n [] zero (suc i) le between = refl
between_from d n [] (suc from) zero le between = absurd (omega arith)
between_from d n [] (suc from) (suc i) le between = refl
between_from d n (b ∷ bs) zero zero le between = refl
between_from d n (b ∷ bs) zero (suc i) le between =
    ap (λ (x : Bool). cond x (gate_write d n ∷ gate_writes_from d (suc n) (take i bs)) (gate_writes_from d (suc n) (take i bs))) (between 0 (omega arith) (omega arith))
    ∙ between_from d (suc n) bs zero i (omega arith) (λ k low lt. between (suc k) (omega arith) (omega arith))
between_from d n (b ∷ bs) (suc from) zero le between = absurd (omega arith)
between_from d n (b ∷ bs) (suc from) (suc i) le between =
    ap (λ (ws : List Write). cond b (gate_write d n ∷ ws) ws) (between_from d (suc n) bs from i (omega arith) (λ k low lt. between (suc k) (omega arith) (omega arith)))

pub gates_between : (d : Descriptor) (set : List Bool) (from i : ℕ) (h : History) → from ≤ i → ((k : ℕ) → from ≤ k → k < i → get_or set k false ≡ false)
    → gates_opened d (take i set) h ≡ gates_opened d (take from set) h
gates_between d set from i h le between = ap (λ (ws : List Write). after_writes h ws) (between_from d 0 set from i le between)

pub gates_end : (d : Descriptor) (set : List Bool) (from : ℕ) (h : History) → from ≤ length set → ((k : ℕ) → from ≤ k → get_or set k false ≡ false)
    → gates_opened d set h ≡ gates_opened d (take from set) h
gates_end d set from h le none =
    ap (λ (s : List Bool). gates_opened d s h) (sym (take_all (length set) set (omega arith))) ∙ gates_between d set from (length set) h le (λ k low lt. none k low)

-- ---- what is read

torn_written : (old : List ℕ) (place : ℕ) (bytes : List ℕ) → IsTorn place (length bytes) old (written old place bytes)
torn_written old place bytes = record {
  no_shorter = omega (arith, length-written old place bytes);
  no_longer = omega (arith, length-written old place bytes);
  outside = λ k outside. written_outside old place bytes k outside;
}

pub over_torn : (place size : ℕ) (old new : List ℕ) → IsTorn place size old new → IsOver place size old new
over_torn place size old new torn = record { no_shorter = torn.no_shorter; outside = λ k lt outside. torn.outside k outside }

-- what survives another byte in any gate
pub gates_keep : (d : Descriptor) (P : List ℕ → Type 0) → ((i : ℕ) (old new : List ℕ) → IsTorn (gate_place d.chunk i) 1 old new → P old → P new)
    → (n : ℕ) (bs : List Bool) (h : History) → P h.reads → P (after_writes h (gate_writes_from d n bs)).reads
gates_keep d P survives n [] h here = here
gates_keep d P survives n (true ∷ bs) h here =
    gates_keep d P survives (suc n) bs (after_write h (gate_place d.chunk n) open_gate)
    (survives n h.reads (written h.reads (gate_place d.chunk n) open_gate) (torn_written h.reads (gate_place d.chunk n) open_gate) here)
gates_keep d P survives n (false ∷ bs) h here = gates_keep d P survives (suc n) bs h here

gate_written : (d : Descriptor) (reads : List ℕ) (i : ℕ) → is_open d (written reads (gate_place d.chunk i) open_gate) i ≡ true
gate_written d reads i =
    let at : gate_place d.chunk i + 0 ≡ gate_place d.chunk i = omega arith in
    ap (λ (b : ℕ). b == 0x4f) (ap (λ (p : ℕ). get_or (written reads (gate_place d.chunk i) open_gate) p 0) (sym at)
    ∙ written_inside reads (gate_place d.chunk i) open_gate 0 (omega arith))

open_kept : (d : Descriptor) (n : ℕ) (bs : List Bool) (h : History) (i : ℕ) → is_open d h.reads i ≡ true → is_open d (after_writes h (gate_writes_from d n bs)).reads i ≡ true
open_kept d n [] h i here = here
open_kept d n (true ∷ bs) h i here = open_kept d (suc n) bs (after_write h (gate_place d.chunk n) open_gate) i (⊎_elim
    (λ same. subst (λ (m : ℕ). is_open d (written h.reads (gate_place d.chunk m) open_gate) i ≡ true) same (gate_written d h.reads i))
    (λ other. open_over d i (gate_place d.chunk n) 1 h.reads (written h.reads (gate_place d.chunk n) open_gate) (gates_clear d.chunk i n other)
    (over_torn _ _ _ _ (torn_written h.reads (gate_place d.chunk n) open_gate)) here)
    (cases_eq i n))
open_kept d n (false ∷ bs) h i here = open_kept d (suc n) bs h i here

pub open_made : (d : Descriptor) (n : ℕ) (bs : List Bool) (h : History) (k : ℕ) → get_or bs k false ≡ true → is_open d (after_writes h (gate_writes_from d n bs)).reads (n + k) ≡ true
open_made d n [] h k here = absurd (false≢true here)
open_made d n (true ∷ bs) h zero here =
    let at : n + 0 ≡ n = omega arith in
    open_kept d (suc n) bs (after_write h (gate_place d.chunk n) open_gate) (n + 0)
    (subst (λ (m : ℕ). is_open d (written h.reads (gate_place d.chunk n) open_gate) m ≡ true) (sym at) (gate_written d h.reads n))
open_made d n (true ∷ bs) h (suc k) here =
    subst (λ (m : ℕ). is_open d (after_writes (after_write h (gate_place d.chunk n) open_gate) (gate_writes_from d (suc n) bs)).reads m ≡ true)
    (let e : suc n + k ≡ n + suc k = omega arith in e) (open_made d (suc n) bs (after_write h (gate_place d.chunk n) open_gate) k here)
open_made d n (false ∷ bs) h zero here = absurd (false≢true here)
open_made d n (false ∷ bs) h (suc k) here =
    subst (λ (m : ℕ). is_open d (after_writes h (gate_writes_from d (suc n) bs)).reads m ≡ true) (let e : suc n + k ≡ n + suc k = omega arith in e) (open_made d (suc n) bs h k here)

-- a gate that none of these opens keeps its byte
pub gates_closed : (d : Descriptor) (n : ℕ) (bs : List Bool) (h : History) (i : ℕ) → ((k : ℕ) → get_or bs k false ≡ true → i ≡ n + k → ⊥)
    → get_or (after_writes h (gate_writes_from d n bs)).reads (gate_place d.chunk i) 0 ≡ get_or h.reads (gate_place d.chunk i) 0
gates_closed d n [] h i others = refl
gates_closed d n (true ∷ bs) h i others =
    let ne : i ≡ n → ⊥ = λ e. others 0 refl (let z : n ≡ n + 0 = omega arith in e ∙ z) in
    gates_closed d (suc n) bs (after_write h (gate_place d.chunk n) open_gate) i
    (λ k here e. others (suc k) here (let z : suc n + k ≡ n + suc k = omega arith in e ∙ z))
    ∙ written_outside h.reads (gate_place d.chunk n) open_gate (gate_place d.chunk i)
    (λ w. ⊎_elim (λ before. omega (arith, w.0)) (λ after. omega (arith, w.1)) (gates_clear d.chunk i n ne))
gates_closed d n (false ∷ bs) h i others =
    gates_closed d (suc n) bs h i (λ k here e. others (suc k) here (let z : suc n + k ≡ n + suc k = omega arith in e ∙ z))

-- gates inside a file leave its length
pub gates_size : (d : Descriptor) (n : ℕ) (bs : List Bool) (h : History) (size : ℕ) → ((k : ℕ) → get_or bs k false ≡ true → gate_place d.chunk (n + k) < size)
    → length h.reads ≡ size → length (after_writes h (gate_writes_from d n bs)).reads ≡ size
gates_size d n [] h size inside long = long
gates_size d n (true ∷ bs) h size inside long =
    let here : gate_place d.chunk (n + 0) < size = inside 0 refl in
    let same : gate_place d.chunk (n + 0) ≡ gate_place d.chunk n = ap (λ (m : ℕ). gate_place d.chunk m) (let z : n + 0 ≡ n = omega arith in z) in
    gates_size d (suc n) bs (after_write h (gate_place d.chunk n) open_gate) size
    (λ k lt. subst (λ (m : ℕ). gate_place d.chunk m < size) (let z : n + suc k ≡ suc n + k = omega arith in z) (inside (suc k) lt))
    (length-written h.reads (gate_place d.chunk n) open_gate ∙ omega (arith, here, same, long))
gates_size d n (false ∷ bs) h size inside long =
    gates_size d (suc n) bs h size
    (λ k lt. subst (λ (m : ℕ). gate_place d.chunk m < size) (let z : n + suc k ≡ suc n + k = omega arith in z) (inside (suc k) lt)) long

-- A chunk that is held stands once its gate is open, before or by these writes.
pub stands_opened : (d : Descriptor) (set : List Bool) (h : History) (i : ℕ) → IsDescriptor d → HoldsIn d h.reads i
    → (get_or set i false ≡ true) ⊎ (is_open d h.reads i ≡ true) → StandsIn d (gates_opened d set h).reads i
stands_opened d set h i valid holds opens =
    let held = gates_keep d (λ reads. HoldsIn d reads i) (λ k old new torn. holds_over d i (gate_place d.chunk k) 1 old new valid (gate_clear d i k) (over_torn (gate_place d.chunk k) 1 old new torn)) 0 set h holds in
    let opened : is_open d (gates_opened d set h).reads i ≡ true = ⊎_elim (λ one. subst (λ (m : ℕ). is_open d (gates_opened d set h).reads m ≡ true) (from_zero i) (open_made d 0 set h i one)) (λ two. open_kept d 0 set h i two) opens in
    record { begins = held.begins; within = held.within; opened = sym (sym opened); held = held.held }

-- ---- what goes on standing

gates_go_on : (d : Descriptor) (n : ℕ) (bs : List Bool) (h : History) (moment l : ℕ) → IsDescriptor d → ((k : ℕ) → get_or bs k false ≡ true → l ≡ n + k → ⊥)
    → Throughout h moment (λ image. StandsIn d image l) → Throughout (after_writes h (gate_writes_from d n bs)) moment (λ image. StandsIn d image l)
gates_go_on d n [] h moment l valid others all = all
gates_go_on d n (true ∷ bs) h moment l valid others all =
    let ne : l ≡ n → ⊥ = λ e. others 0 refl (let z : n ≡ n + 0 = omega arith in e ∙ z) in
    gates_go_on d (suc n) bs (after_write h (gate_place d.chunk n) open_gate) moment l valid (λ k here e. others (suc k) here (let z : suc n + k ≡ n + suc k = omega arith in e ∙ z))
    (throughout_write h moment (gate_place d.chunk n) open_gate (λ image. StandsIn d image l)
    (λ under image over. stands_over d l (gate_place d.chunk n) 1 under image valid (gate_clear d l n) (gates_clear d.chunk l n ne) over) all)
gates_go_on d n (false ∷ bs) h moment l valid others all =
    gates_go_on d (suc n) bs h moment l valid (λ k here e. others (suc k) here (let z : suc n + k ≡ n + suc k = omega arith in e ∙ z)) all

pub opened_go_on : (d : Descriptor) (set : List Bool) (h : History) (moment l : ℕ) → IsDescriptor d → get_or set l false ≡ false
    → Throughout h moment (λ image. StandsIn d image l) → Throughout (gates_opened d set h) moment (λ image. StandsIn d image l)
opened_go_on d set h moment l valid out = gates_go_on d 0 set h moment l valid (λ k here e. false≢true (sym out ∙ ap (λ (m : ℕ). get_or set m false) (e ∙ from_zero k) ∙ here))

get_or_take : (i : ℕ) (bs : List Bool) (k : ℕ) → get_or (take i bs) k false ≡ true → get_or bs k false ≡ true
get_or_take zero bs k here = absurd (false≢true here)
get_or_take (suc i) [] k here = here
get_or_take (suc i) (b ∷ bs) zero here = here
get_or_take (suc i) (b ∷ bs) (suc k) here = get_or_take i bs k here

taken_out : (i : ℕ) (bs : List Bool) (l : ℕ) → get_or bs l false ≡ false → get_or (take i bs) l false ≡ false
taken_out i bs l out = false_from_ne_true (get_or (take i bs) l false) (λ here. false≢true (sym out ∙ get_or_take i bs l here))

past_from : (d : Descriptor) (n : ℕ) (bs : List Bool) (h : History) → (after_writes h (gate_writes_from d n bs)).past ≡ h.past
past_from d n [] h = refl
past_from d n (true ∷ bs) h = past_from d (suc n) bs (after_write h (gate_place d.chunk n) open_gate)
past_from d n (false ∷ bs) h = past_from d (suc n) bs h

pub past_opened : (d : Descriptor) (set : List Bool) (h : History) → (gates_opened d set h).past ≡ h.past
past_opened d set h = past_from d 0 set h

-- ---- a commit, done or refused

module _ (d : Descriptor) (set : List Bool) (old new : History) (valid : IsDescriptor d) where
  synced_go_on : (l moment : ℕ) → IsImage old.epoch old.reads → moment ≤ moment_of old → Throughout old moment (λ image. StandsIn d image l)
      → Throughout (synced old) moment (λ image. StandsIn d image l)
  synced_go_on l moment whole within all = throughout_settled old moment old.reads (λ image. StandsIn d image l) within all (all old.reads (inl whole))

  pub durable_goes_on : (l : ℕ) → get_or set l false ≡ false → IsImage old.epoch old.reads → new ≡ made_durable d set old → GoesOnSince d l old new
  durable_goes_on l out whole is moment within all =
      let stood = all old.reads (inl whole) in
      let opened = gates_opened d set (synced old) in
      let later : moment_of opened ≡ suc (moment_of old) = ap (λ past. length past) (past_opened d set (synced old)) ∙ moment-settled old old.reads in
      subst (λ (h : History). Throughout h moment (λ image. StandsIn d image l)) (sym is)
      (throughout_settled opened moment opened.reads (λ image. StandsIn d image l) (omega (arith, later))
      (opened_go_on d set (synced old) moment l valid out (synced_go_on l moment whole within all))
      (stands_opened d set (synced old) l valid (record { begins = stood.begins; within = stood.within; held = stood.held }) (inr (sym (sym stood.opened)))))

  gate_refused_go_on : (mid : History) (i l moment : ℕ) → (l ≡ i → ⊥) → IsRefusedWrite mid (gate_place d.chunk i) open_gate new
      → Throughout mid moment (λ image. StandsIn d image l) → Throughout new moment (λ image. StandsIn d image l)
  gate_refused_go_on mid i l moment ne (inl same) all = subst (λ (h : History). Throughout h moment (λ image. StandsIn d image l)) (sym same) all
  gate_refused_go_on mid i l moment ne (inr (torn, is, same)) all = subst (λ (h : History). Throughout h moment (λ image. StandsIn d image l)) (sym same)
      (throughout_write mid moment (gate_place d.chunk i) open_gate (λ image. StandsIn d image l)
      (λ under image over. stands_over d l (gate_place d.chunk i) 1 under image valid (gate_clear d l i) (gates_clear d.chunk l i ne) over) all)

  pub refused_goes_on : (l : ℕ) → get_or set l false ≡ false → IsImage old.epoch old.reads → IsRefusedCommit d set old new → GoesOnSince d l old new
  refused_goes_on l out whole (inl same) moment within all = subst (λ (h : History). Throughout h moment (λ image. StandsIn d image l)) (sym same) all
  refused_goes_on l out whole (inr (inl gate)) moment within all =
      gate_refused_go_on (gates_opened d (take gate.chunk set) (synced old)) gate.chunk l moment
      (λ e. false≢true (sym out ∙ ap (λ (m : ℕ). get_or set m false) e ∙ gate.among)) gate.refused
      (opened_go_on d (take gate.chunk set) (synced old) moment l valid (taken_out gate.chunk set l out) (synced_go_on l moment whole within all))
  refused_goes_on l out whole (inr (inr is)) moment within all = subst (λ (h : History). Throughout h moment (λ image. StandsIn d image l)) (sym is)
      (opened_go_on d set (synced old) moment l valid out (synced_go_on l moment whole within all))

  -- and what is read
  module _ (P : List ℕ → Type 0) (survives : (i : ℕ) (before after : List ℕ) → IsTorn (gate_place d.chunk i) 1 before after → P before → P after) where
    pub durable_keeps : new ≡ made_durable d set old → P old.reads → P new.reads
    durable_keeps is here = subst (λ (h : History). P h.reads) (sym is) (gates_keep d P survives 0 set (synced old) here)

    gate_refused_keeps : (mid : History) (i : ℕ) → IsRefusedWrite mid (gate_place d.chunk i) open_gate new → P mid.reads → P new.reads
    gate_refused_keeps mid i (inl same) here = subst (λ (h : History). P h.reads) (sym same) here
    gate_refused_keeps mid i (inr (torn, is, same)) here = subst (λ (h : History). P h.reads) (sym same) (survives i mid.reads torn is here)

    pub refused_keeps : IsRefusedCommit d set old new → P old.reads → P new.reads
    refused_keeps (inl same) here = subst (λ (h : History). P h.reads) (sym same) here
    refused_keeps (inr (inl gate)) here =
        gate_refused_keeps (gates_opened d (take gate.chunk set) (synced old)) gate.chunk gate.refused (gates_keep d P survives 0 (take gate.chunk set) (synced old) here)
    refused_keeps (inr (inr is)) here = subst (λ (h : History). P h.reads) (sym is) (gates_keep d P survives 0 set (synced old) here)

-- ---- gates that are opened where the chunks are held

-- The image is sound, only members have open gates, and it holds every member.
record IsReady (d : Descriptor) (member : ℕ → Bool) (image : List ℕ) : Type 0 where
  pub gated : IsGated d member image
  pub holding : (i : ℕ) → member i ≡ true → HoldsIn d image i

module _ (d : Descriptor) (member : ℕ → Bool) (valid : IsDescriptor d) where
  some : 0 < chunks_of d
  some = (some_chunks d valid).0

  -- another byte in a member's gate
  ready_over : (j : ℕ) (under image : List ℕ) → member j ≡ true → IsOver (gate_place d.chunk j) 1 under image → IsReady d member under → IsReady d member image
  ready_over j under image there over ready = record {
    gated = record {
      begins = begins_over d member (gate_place d.chunk j) 1 under image valid (omega arith) over ready.gated some;
      long = omega (arith, ready.gated.long, over.no_shorter);
      gates = λ i lt is. ⊎_elim
          (λ same. ap member same ∙ there)
          (λ other. ready.gated.gates i lt (open_under d member (gate_place d.chunk j) 1 under image valid (omega arith) over ready.gated i lt (gates_clear d.chunk i j other) is))
          (cases_eq i j);
      held = λ i lt is. ⊎_elim
          (λ same. held i lt (sym (sym (ready.holding i (ap member same ∙ there)).held)))
          (λ other. held i lt (ready.gated.held i lt (open_under d member (gate_place d.chunk j) 1 under image valid (omega arith) over ready.gated i lt (gates_clear d.chunk i j other) is)))
          (cases_eq i j);
    };
    holding = λ i at. holds_over d i (gate_place d.chunk j) 1 under image valid (gate_clear d i j) over (ready.holding i at);
  }
    where
      held : (i : ℕ) → i < chunks_of d → holds d under i ≡ true → holds d image i ≡ true
      held i lt = held_over d member (gate_place d.chunk j) 1 under image valid (omega arith) over ready.gated i lt (gate_clear d i j)

  gates_ready : (n : ℕ) (bs : List Bool) (h : History) (moment : ℕ) → ((k : ℕ) → get_or bs k false ≡ true → member (n + k) ≡ true)
      → Throughout h moment (IsReady d member) → Throughout (after_writes h (gate_writes_from d n bs)) moment (IsReady d member)
  gates_ready n [] h moment all ready = ready
  gates_ready n (true ∷ bs) h moment all ready =
      let here : member n ≡ true = ap member (let z : n ≡ n + 0 = omega arith in z) ∙ all 0 refl in
      gates_ready (suc n) bs (after_write h (gate_place d.chunk n) open_gate) moment (λ k at. ap member (let z : suc n + k ≡ n + suc k = omega arith in z) ∙ all (suc k) at)
      (throughout_write h moment (gate_place d.chunk n) open_gate (IsReady d member) (λ under image over. ready_over n under image here over) ready)
  gates_ready n (false ∷ bs) h moment all ready =
      gates_ready (suc n) bs h moment (λ k at. ap member (let z : suc n + k ≡ n + suc k = omega arith in z) ∙ all (suc k) at) ready

  reads_ready : (n : ℕ) (bs : List Bool) (h : History) → ((k : ℕ) → get_or bs k false ≡ true → member (n + k) ≡ true)
      → IsReady d member h.reads → IsReady d member (after_writes h (gate_writes_from d n bs)).reads
  reads_ready n [] h all ready = ready
  reads_ready n (true ∷ bs) h all ready =
      let here : member n ≡ true = ap member (let z : n ≡ n + 0 = omega arith in z) ∙ all 0 refl in
      reads_ready (suc n) bs (after_write h (gate_place d.chunk n) open_gate) (λ k at. ap member (let z : suc n + k ≡ n + suc k = omega arith in z) ∙ all (suc k) at)
      (ready_over n h.reads (written h.reads (gate_place d.chunk n) open_gate) here (over_torn _ _ _ _ (torn_written h.reads (gate_place d.chunk n) open_gate)) ready)
  reads_ready n (false ∷ bs) h all ready =
      reads_ready (suc n) bs h (λ k at. ap member (let z : suc n + k ≡ n + suc k = omega arith in z) ∙ all (suc k) at) ready

  -- a commit, done or refused
  module _ (before : ℕ → Bool) (set : List Bool) (old new : History) (whole : IsImage old.epoch old.reads) (wider : (i : ℕ) → before i ≡ true → member i ≡ true)
      (inner : (i : ℕ) → get_or set i false ≡ true → member i ≡ true) (holding : (i : ℕ) → member i ≡ true → HoldsIn d old.reads i)
      (moment : ℕ) (within : moment ≤ moment_of old) (all : Throughout old moment (IsGated d before)) where
    ready_read : IsReady d member old.reads
    ready_read = record { gated = gated_more d before member old.reads wider (all old.reads (inl whole)); holding = holding }

    all_synced : Throughout (synced old) moment (IsGated d member)
    all_synced = throughout_settled old moment old.reads (IsGated d member) within (λ image since. gated_more d before member image wider (all image since)) ready_read.gated

    ready_synced : Throughout (synced old) (moment_of (synced old)) (IsReady d member)
    ready_synced image since = subst (IsReady d member) (sym (sole_image old.reads image (since_now (synced old) image since))) ready_read

    from_zero_inner : (bs : List Bool) → ((i : ℕ) → get_or bs i false ≡ true → get_or set i false ≡ true) → (k : ℕ) → get_or bs k false ≡ true → member (0 + k) ≡ true
    from_zero_inner bs few k at = ap member (from_zero k) ∙ inner k (few k at)

    -- the gates of some of them are open
    ready_opened : (bs : List Bool) → ((i : ℕ) → get_or bs i false ≡ true → get_or set i false ≡ true) → Throughout (gates_opened d bs (synced old)) (moment_of (synced old)) (IsReady d member)
    ready_opened bs few = gates_ready 0 bs (synced old) (moment_of (synced old)) (from_zero_inner bs few) ready_synced

    -- what was before, and what a crash may leave now
    beside : (h : History) → h.past ≡ (synced old).past → ((image : List ℕ) → IsImage h.epoch image → IsGated d member image) → Throughout h moment (IsGated d member)
    beside h same now image (inl is) = now image is
    beside h same now image (inr was) = all_synced image (inr (subst (λ past. WasImage (drop moment past) image) same was))

    all_opened : (bs : List Bool) → ((i : ℕ) → get_or bs i false ≡ true → get_or set i false ≡ true) → Throughout (gates_opened d bs (synced old)) moment (IsGated d member)
    all_opened bs few = beside (gates_opened d bs (synced old)) (past_opened d bs (synced old)) (λ image is. (ready_opened bs few image (inl is)).gated)

    pub durable_gated : new ≡ made_durable d set old → Throughout new moment (IsGated d member)
    durable_gated is =
        let opened = gates_opened d set (synced old) in
        let later : moment_of opened ≡ suc (moment_of old) = ap (λ past. length past) (past_opened d set (synced old)) ∙ moment-settled old old.reads in
        subst (λ (h : History). Throughout h moment (IsGated d member)) (sym is)
        (throughout_settled opened moment opened.reads (IsGated d member) (omega (arith, later)) (all_opened set (λ i at. at))
        (reads_ready 0 set (synced old) (from_zero_inner set (λ i at. at)) ready_read).gated)

    pub refused_gated : IsRefusedCommit d set old new → Throughout new moment (IsGated d member)
    refused_gated (inl same) = subst (λ (h : History). Throughout h moment (IsGated d member)) (sym same) (λ image since. gated_more d before member image wider (all image since))
    refused_gated (inr (inl gate)) = by gate.refused
      where
        few : (i : ℕ) → get_or (take gate.chunk set) i false ≡ true → get_or set i false ≡ true
        few i at = get_or_take gate.chunk set i at

        mid : History
        mid = gates_opened d (take gate.chunk set) (synced old)

        by : IsRefusedWrite mid (gate_place d.chunk gate.chunk) open_gate new → Throughout new moment (IsGated d member)
        by (inl same) = subst (λ (h : History). Throughout h moment (IsGated d member)) (sym same) (all_opened (take gate.chunk set) few)
        by (inr (torn, is, same)) = subst (λ (h : History). Throughout h moment (IsGated d member)) (sym same)
            (beside (record mid { reads = torn; epoch = pends mid.epoch (gate_place d.chunk gate.chunk) open_gate }) (past_opened d (take gate.chunk set) (synced old))
            (λ image now.
            let from = over_image mid.epoch (gate_place d.chunk gate.chunk) open_gate image now in
            (ready_over gate.chunk from.0 image (inner gate.chunk gate.among) from.2 (ready_opened (take gate.chunk set) few from.0 (inl from.1))).gated))
    refused_gated (inr (inr is)) = subst (λ (h : History). Throughout h moment (IsGated d member)) (sym is) (all_opened set (λ i at. at))
