-- One call more of a link that is watched.
use Rattle.std.proofs.Common.{◌≡◌, ◌≢◌, ℕ, ◌+◌, true, false, List, [], ◌∷◌, inl, inr, refl, sym, ◌∙◌, ap, subst, arith}
use Rattle.std.specs.Prelude.{◌↔◌, Result, Ok, Err, IsTrue, IsErr, OnOk, OnErr}
use Rattle.std.proofs.lemmas.Bool.{false_from_ne_true}
use Rattle.pp_terms.specs.format.Traffic.{Record}
use Rattle.pp_outside.specs.Arrivals.{after_next}
use Rattle.pp_outside.specs.Faults.{one_more}
use Rattle.pp_outside.specs.MemoryLink.{state_of, arrivals_of, order_of, is_ordered, is_short, Spends, MayRunShort}
use Rattle.pp_outside.specs.Orders.{after_one}
use Rattle.pp_outside.specs.declared.call.Call.{Call}
use Rattle.pp_outside.specs.declared.call.Call.TheVariants.{Bind, Next, Send}
use Rattle.pp_outside.specs.declared.memory_link.MemoryLink.{MemoryLink}
use Rattle.pp_watch.specs.Used.{stands, gained}
use Rattle.pp_watch.specs.Sent.{LinkBefore, as_before, used_of, HasSent, IsSince}
use Rattle.pp_watch.proofs.Orders.{same_later, none_new, used_same, used_more, grew_in, none_used, gained_more}

pub begun : (before : LinkBefore) (link : MemoryLink) → before ≡ as_before link → IsSince before link
begun before link is = inr (subst (λ (b : LinkBefore). HasSent b link) (sym is) (
    let none : (call : Call) → used_of call (as_before link) link ≡ 0 = λ call. none_used (stands (order_of link call)) in
    let all : used_of Bind (as_before link) link + used_of Next (as_before link) link + used_of Send (as_before link) link ≡ 0 =
    omega (arith, none Bind, none Next, none Send) in
    record {
      ordered = λ call. same_later (order_of link call);
      faults = sym (ap (gained (state_of link).faults) all);
      idle = λ empty. refl;
    }))

-- how many calls were refused on order
abbrev refusals : LinkBefore → MemoryLink → ℕ
refusals before link = used_of Bind before link + used_of Next before link + used_of Send before link

module _ (before : LinkBefore) (old new : MemoryLink) (call : Call) (spent : order_of new call ≡ after_one (order_of old call)) (others : (other : Call) → other ≢ call → order_of new other ≡ order_of old other) where
  pub sent_ok : HasSent before old → is_ordered old call ≡ false → (state_of new).faults ≡ (state_of old).faults
      → (before.arrivals.coming ≡ [] → arrivals_of new ≡ before.arrivals) → HasSent before new
  sent_ok sent free faults idle =
      let same : (c : Call) → used_of c before new ≡ used_of c before old =
      λ c. used_same before.ordered (order_of old) (order_of new) call spent others free c in
      let all : refusals before new ≡ refusals before old = omega (arith, same Bind, same Next, same Send) in
      record {
        ordered = none_new before.ordered (order_of old) (order_of new) call spent others sent.ordered;
        faults = faults ∙ sent.faults ∙ sym (ap (gained before.faults) all);
        idle = idle;
      }

  pub sent_err : HasSent before old → is_ordered old call ≡ true → grew_in call Bind + grew_in call Next + grew_in call Send ≡ 1
      → (state_of new).faults ≡ one_more (state_of old).faults
      → (before.arrivals.coming ≡ [] → arrivals_of new ≡ before.arrivals) → HasSent before new
  sent_err sent stood one faults idle =
      let more : (c : Call) → used_of c before new ≡ used_of c before old + grew_in call c =
      λ c. used_more before.ordered (order_of old) (order_of new) call spent others sent.ordered stood c in
      let all : refusals before new ≡ refusals before old + 1 = omega (arith, more Bind, more Next, more Send, one) in
      record {
        ordered = none_new before.ordered (order_of old) (order_of new) call spent others sent.ordered;
        faults = faults ∙ ap one_more sent.faults ∙ gained_more before.faults (refusals before old) 1 ∙ sym (ap (gained before.faults) all);
        idle = idle;
      }

-- Of no events the next one leaves none, at the same moment.
idle_next : (coming : List Record) (last : ℕ) → coming ≡ [] → after_next (record { coming = coming; last = last }) ≡ record { coming = coming; last = last }
idle_next [] last none = refl
idle_next (r ∷ rs) last none = cc

module _ {T E : Type 0} (before : LinkBefore) (old new : MemoryLink) where
  -- a call that takes no event
  pub calls : (call : Call) (result : Result T E) → MayRunShort old call result new → Spends old call result new
      → grew_in call Bind + grew_in call Next + grew_in call Send ≡ 1
      → arrivals_of new ≡ arrivals_of old → IsSince before old → IsSince before new
  calls call result may spends one same (inl short) = inl (may.stays short)
  calls call (Ok x) may spends one same (inr sent) = inr (sent_ok before old new call spends.spent spends.others sent
      (false_from_ne_true _ (λ stood. let no = (may.ordered stood).0 in cc)) spends.faults (λ none. same ∙ sent.idle none))
  calls call (Err e) may spends one same (inr sent) = elim (may.cause refl) [
    | inr short ↦ inl short
    | inl stood ↦ inr (sent_err before old new call spends.spent spends.others sent stood one spends.faults (λ none. same ∙ sent.idle none))
  ]

module _ {E : Type 0} (before : LinkBefore) (old new : MemoryLink) where
  pub binds : (result : Result (Unit {0}) E) → IsErr result ↔ IsTrue (is_ordered old Bind) → is_short new ≡ is_short old
      → Spends old Bind result new → arrivals_of new ≡ arrivals_of old → IsSince before old → IsSince before new
  binds result exact stays spends same (inl short) = inl (stays ∙ short)
  binds (Ok x) exact stays spends same (inr sent) = inr (sent_ok before old new Bind spends.spent spends.others sent
      (false_from_ne_true _ (λ stood. let no = exact.1 stood in cc)) spends.faults (λ none. same ∙ sent.idle none))
  binds (Err e) exact stays spends same (inr sent) = inr (sent_err before old new Bind spends.spent spends.others sent
      (exact.0 refl) refl spends.faults (λ none. same ∙ sent.idle none))

idle_now : (before : LinkBefore) (old new : MemoryLink) → HasSent before old → arrivals_of new ≡ after_next (arrivals_of old)
    → before.arrivals.coming ≡ [] → arrivals_of new ≡ before.arrivals
idle_now before old new sent taken none = taken ∙ ap after_next (sent.idle none) ∙ idle_next before.arrivals.coming before.arrivals.last none

pub waits : {T E : Type 0} (before : LinkBefore) (old new : MemoryLink) (same : Type 0) (result : Result T E) → MayRunShort old Next result new
    → Spends old Next result new → OnOk result (arrivals_of new ≡ after_next (arrivals_of old))
    → OnErr result ((arrivals_of new ≡ arrivals_of old) × same) → IsSince before old → IsSince before new
waits before old new same result may spends taken refused (inl short) = inl (may.stays short)
waits before old new same (Ok x) may spends taken refused (inr sent) = inr (sent_ok before old new Next spends.spent spends.others sent
    (false_from_ne_true _ (λ stood. let no = (may.ordered stood).0 in cc)) spends.faults (idle_now before old new sent taken))
waits before old new same (Err e) may spends taken refused (inr sent) = elim (may.cause refl) [
  | inr short ↦ inl short
  | inl stood ↦ inr (sent_err before old new Next spends.spent spends.others sent stood refl spends.faults (λ none. refused.0 ∙ sent.idle none))
]
