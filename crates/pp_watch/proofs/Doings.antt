-- One call more of a disk that is watched.
use Rattle.std.proofs.Common.{◌≡◌, ◌≢◌, ℕ, ◌+◌, true, false, List, [], ◌∷◌, ◌++◌, inl, inr, refl, sym, ◌∙◌, ap, subst, arith}
use Rattle.std.specs.Prelude.{Result, Ok, Err}
use Rattle.std.specs.List.{AllByRecursion}
use Rattle.std.proofs.lemmas.List.{append-nil}
use Rattle.std.proofs.lemmas.Bool.{false_from_ne_true}
use Rattle.pp_terms.specs.disk.Disk.{History}
use Rattle.pp_terms.specs.disk.Calls.{Did, Wrote, Refused, Synced, Crashed, after_call, replay, attached}
use Rattle.pp_outside.proofs.Replays.{replay-push}
use Rattle.pp_outside.specs.Faults.{one_more}
use Rattle.pp_outside.specs.MemoryDisk.{state_of, order_of, is_ordered, Attaches, Measures, Reads, Writes, Syncs}
use Rattle.pp_outside.specs.Orders.{after_one}
use Rattle.pp_outside.specs.declared.call.Call.{Call}
use Rattle.pp_outside.specs.declared.call.Call.TheVariants.{Attach, Len, Read, Write, Sync}
use Rattle.pp_outside.specs.declared.memory_disk.MemoryDisk.{MemoryDisk}
use Rattle.pp_world.specs.DiskCalls.{IsCall, refused_writes}
use Rattle.pp_watch.specs.Used.{stands, gained}
use Rattle.pp_watch.specs.Done.{DiskBefore, as_before, used_of, hard_of, HasDone, IsSince}
use Rattle.pp_watch.proofs.Orders.{same_later, none_new, used_same, used_more, grew_in, none_used, gained_more}

-- ---- lists of calls

-- where a disk was attached, and what was done to it then
pub attached_call : (b h : History) (call : Did) → attached b (after_call h call) ≡ after_call (attached b h) call
attached_call b h (Wrote place bytes) = refl
attached_call b h (Refused place bytes) = refl
attached_call b h Synced = refl
attached_call b h (Crashed image) = refl

made_more : (b h : History) (calls : List Did) (call : Did) → attached b h ≡ attached b (replay b calls)
    → attached b (after_call h call) ≡ attached b (replay b (calls ++ call ∷ []))
made_more b h calls call made = attached_call b h call ∙ ap (λ (x : History). after_call x call) made
    ∙ sym (attached_call b (replay b calls) call) ∙ sym (ap (attached b) (replay-push b calls call))

refused_more : (calls more : List Did) → refused_writes (calls ++ more) ≡ refused_writes calls + refused_writes more
refused_more [] more = omega arith
refused_more (Wrote place bytes ∷ calls) more = refused_more calls more
refused_more (Refused place bytes ∷ calls) more = (let rest = refused_more calls more in omega (arith, rest))
refused_more (Synced ∷ calls) more = refused_more calls more
refused_more (Crashed image ∷ calls) more = refused_more calls more

calls_more : (calls more : List Did) → AllByRecursion IsCall calls → AllByRecursion IsCall more → AllByRecursion IsCall (calls ++ more)
calls_more [] more all rest = rest
calls_more (call ∷ calls) more all rest = (all.0, calls_more calls more all.1 rest)

-- ---- a disk

pub begun : (before : DiskBefore) (disk : MemoryDisk) → before ≡ as_before disk → IsSince before disk
begun before disk is = inr (subst (λ (b : DiskBefore). HasDone b disk) (sym is) (
    let none : (call : Call) → used_of call (as_before disk) disk ≡ 0 = λ call. none_used (stands (order_of disk call)) in
    let hard : hard_of (as_before disk) disk ≡ 0 = omega (arith, none Attach, none Len, none Write, none Sync) in
    let all : used_of Read (as_before disk) disk + hard_of (as_before disk) disk ≡ 0 = omega (arith, none Read, hard) in
    record {
      calls = [];
      made = refl;
      are_calls = tt;
      ordered = λ call. same_later (order_of disk call);
      writes = sym (none Write);
      faults = sym (ap (gained (state_of disk).faults) all);
      hard = sym (ap (gained (state_of disk).hard) hard);
    }))

module _ (before : DiskBefore) (old new : MemoryDisk) (call : Call) (spent : order_of new call ≡ after_one (order_of old call)) (others : (other : Call) → other ≢ call → order_of new other ≡ order_of old other) where
  -- a call that wasn't refused
  pub done_ok : HasDone before old → is_ordered old call ≡ false → (state_of new).faults ≡ (state_of old).faults
      → (state_of new).hard ≡ (state_of old).hard → (did : List Did) → refused_writes did ≡ 0 → AllByRecursion IsCall did
      → ((calls : List Did) → attached before.history (state_of old).history ≡ attached before.history (replay before.history calls)
      → attached before.history (state_of new).history ≡ attached before.history (replay before.history (calls ++ did)))
      → HasDone before new
  done_ok done free faults hard did none are made =
      let same : (c : Call) → used_of c before new ≡ used_of c before old =
      λ c. used_same before.ordered (order_of old) (order_of new) call spent others free c in
      let hards : hard_of before new ≡ hard_of before old = omega (arith, same Attach, same Len, same Write, same Sync) in
      let all : used_of Read before new + hard_of before new ≡ used_of Read before old + hard_of before old = omega (arith, same Read, hards) in
      let longer = refused_more done.calls did in
      record {
        calls = done.calls ++ did;
        made = made done.calls done.made;
        are_calls = calls_more done.calls did done.are_calls are;
        ordered = none_new before.ordered (order_of old) (order_of new) call spent others done.ordered;
        writes = omega (arith, longer, none, done.writes, same Write);
        faults = faults ∙ done.faults ∙ sym (ap (gained before.faults) all);
        hard = hard ∙ done.hard ∙ sym (ap (gained before.hard) hards);
      }

  -- one that was, on order
  pub done_err : HasDone before old → is_ordered old call ≡ true → (hards : ℕ)
      → grew_in call Attach + grew_in call Len + grew_in call Write + grew_in call Sync ≡ hards → grew_in call Read + hards ≡ 1
      → (state_of new).faults ≡ one_more (state_of old).faults → (state_of new).hard ≡ gained (state_of old).hard hards
      → (did : List Did) → refused_writes did ≡ grew_in call Write → AllByRecursion IsCall did
      → ((calls : List Did) → attached before.history (state_of old).history ≡ attached before.history (replay before.history calls)
      → attached before.history (state_of new).history ≡ attached before.history (replay before.history (calls ++ did)))
      → HasDone before new
  done_err done stood hards sum one faults hard did refused are made =
      let more : (c : Call) → used_of c before new ≡ used_of c before old + grew_in call c =
      λ c. used_more before.ordered (order_of old) (order_of new) call spent others done.ordered stood c in
      let hard_more : hard_of before new ≡ hard_of before old + hards = omega (arith, more Attach, more Len, more Write, more Sync, sum) in
      let all : used_of Read before new + hard_of before new ≡ used_of Read before old + hard_of before old + 1 =
      omega (arith, more Read, hard_more, one) in
      let longer = refused_more done.calls did in
      record {
        calls = done.calls ++ did;
        made = made done.calls done.made;
        are_calls = calls_more done.calls did done.are_calls are;
        ordered = none_new before.ordered (order_of old) (order_of new) call spent others done.ordered;
        writes = omega (arith, longer, refused, done.writes, more Write);
        faults = faults ∙ ap one_more done.faults ∙ gained_more before.faults (used_of Read before old + hard_of before old) 1
            ∙ sym (ap (gained before.faults) all);
        hard = hard ∙ ap (λ (n : ℕ). gained n hards) done.hard ∙ gained_more before.hard (hard_of before old) hards ∙ sym (ap (gained before.hard) hard_more);
      }

-- ---- each call

-- Nothing was done to what is on the disk.
same_disk : (before : DiskBefore) (old new : MemoryDisk) → (state_of new).history ≡ (state_of old).history → (calls : List Did)
    → attached before.history (state_of old).history ≡ attached before.history (replay before.history calls)
    → attached before.history (state_of new).history ≡ attached before.history (replay before.history (calls ++ []))
same_disk before old new same calls made =
    ap (attached before.history) same ∙ made ∙ sym (ap (λ (l : List Did). attached before.history (replay before.history l)) (append-nil calls))

-- One call was done.
one_call : (before : DiskBefore) (old new : MemoryDisk) (call : Did) → (state_of new).history ≡ after_call (state_of old).history call
    → (calls : List Did) → attached before.history (state_of old).history ≡ attached before.history (replay before.history calls)
    → attached before.history (state_of new).history ≡ attached before.history (replay before.history (calls ++ call ∷ []))
one_call before old new call is calls made =
    ap (attached before.history) is ∙ made_more before.history (state_of old).history calls call made

-- The disk was attached.
attached_disk : (before : DiskBefore) (old new : MemoryDisk) → (state_of new).history ≡ attached (state_of old).history (state_of old).history
    → (calls : List Did) → attached before.history (state_of old).history ≡ attached before.history (replay before.history calls)
    → attached before.history (state_of new).history ≡ attached before.history (replay before.history (calls ++ []))
attached_disk before old new is calls made =
    ap (attached before.history) is ∙ made ∙ sym (ap (λ (l : List Did). attached before.history (replay before.history l)) (append-nil calls))

pub attaches : {E : Type 0} (before : DiskBefore) (old new : MemoryDisk) (result : Result (Unit {0}) E) → Attaches old result new
    → IsSince before old → IsSince before new
attaches before old new result does (inl short) = inl (does.fails.short ∙ short)
attaches before old new (Ok _) does (inr done) = inr (done_ok before old new Attach does.fails.spends.spent does.fails.spends.others done
    (false_from_ne_true _ (λ stood. let no = does.fails.exact.1 stood in cc)) does.fails.spends.faults does.fails.spends.hard [] refl tt
    (attached_disk before old new does.history))
attaches before old new (Err e) does (inr done) = inr (done_err before old new Attach does.fails.spends.spent does.fails.spends.others done
    (does.fails.exact.0 refl) 1 refl refl does.fails.spends.faults does.fails.spends.hard [] refl tt (attached_disk before old new does.history))

pub measures : {E : Type 0} (before : DiskBefore) (old new : MemoryDisk) (result : Result ℕ E) → Measures old result new
    → IsSince before old → IsSince before new
measures before old new result does (inl short) = inl (does.fails.short ∙ short)
measures before old new (Ok n) does (inr done) = inr (done_ok before old new Len does.fails.spends.spent does.fails.spends.others done
    (false_from_ne_true _ (λ stood. let no = does.fails.exact.1 stood in cc)) does.fails.spends.faults does.fails.spends.hard [] refl tt
    (same_disk before old new does.history))
measures before old new (Err e) does (inr done) = inr (done_err before old new Len does.fails.spends.spent does.fails.spends.others done
    (does.fails.exact.0 refl) 1 refl refl does.fails.spends.faults does.fails.spends.hard [] refl tt (same_disk before old new does.history))

pub reads : {E : Type 0} (before : DiskBefore) (old new : MemoryDisk) (place : ℕ) (was into : List ℕ) (result : Result (Unit {0}) E)
    → Reads old place was result into new → IsSince before old → IsSince before new
reads before old new place was into result does (inl short) = inl (does.fails.short ∙ short)
reads before old new place was into (Ok _) does (inr done) = inr (done_ok before old new Read does.fails.spends.spent does.fails.spends.others done
    (false_from_ne_true _ (λ stood. let no = does.fails.exact.1 stood in cc)) does.fails.spends.faults does.fails.spends.hard [] refl tt
    (same_disk before old new does.history))
reads before old new place was into (Err e) does (inr done) = inr (done_err before old new Read does.fails.spends.spent does.fails.spends.others done
    (does.fails.exact.0 refl) 0 refl refl does.fails.spends.faults does.fails.spends.hard [] refl tt (same_disk before old new does.history))

pub writes : {E : Type 0} (before : DiskBefore) (old new : MemoryDisk) (place : ℕ) (bytes : List ℕ) (result : Result (Unit {0}) E)
    → Writes old place bytes result new → IsSince before old → IsSince before new
writes before old new place bytes result does (inl short) = inl (does.short.short short)
writes before old new place bytes (Ok _) does (inr done) = inr (done_ok before old new Write does.short.spends.spent does.short.spends.others done
    (false_from_ne_true _ (λ stood. let no = (does.ordered stood).0 in cc)) does.short.spends.faults does.short.spends.hard
    (Wrote place bytes ∷ []) refl (tt, tt) (one_call before old new (Wrote place bytes) does.done))
writes before old new place bytes (Err e) does (inr done) = elim (does.short.cause refl) [
  | inr short ↦ inl short.1
  | inl stood ↦ elim ((does.ordered stood).1) [
    | inr short ↦ inl short.1
    | inl pended ↦ inr (done_err before old new Write does.short.spends.spent does.short.spends.others done
        stood 1 refl refl does.short.spends.faults does.short.spends.hard
        (Refused place bytes ∷ []) refl (tt, tt) (one_call before old new (Refused place bytes) pended.0))
  ]
]

pub syncs : {E : Type 0} (before : DiskBefore) (old new : MemoryDisk) (result : Result (Unit {0}) E) → Syncs old result new
    → IsSince before old → IsSince before new
syncs before old new result does (inl short) = inl (does.short.short short)
syncs before old new (Ok _) does (inr done) = inr (done_ok before old new Sync does.short.spends.spent does.short.spends.others done
    (false_from_ne_true _ (λ stood. let no = (does.ordered stood).0 in cc)) does.short.spends.faults does.short.spends.hard
    (Synced ∷ []) refl (tt, tt) (one_call before old new Synced does.done))
syncs before old new (Err e) does (inr done) = elim (does.short.cause refl) [
  | inr short ↦ inl short.1
  | inl stood ↦ inr (done_err before old new Sync does.short.spends.spent does.short.spends.others done
      stood 1 refl refl does.short.spends.faults does.short.spends.hard [] refl tt (same_disk before old new does.refused))
]
