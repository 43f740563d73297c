-- Orders of calls, one of which is used up.
use Rattle.std.proofs.Common.{◌≡◌, ◌≢◌, ◌⊎◌, ℕ, ◌+◌, zero, suc, Bool, true, false, None, Some, inl, inr, refl, sym, ◌∙◌, ap, subst, arith}
use Rattle.std.specs.Prelude.{◌==◌, if◌then◌else◌, Option}
use Rattle.std.proofs.lemmas.Bool.{cases_eq, cond-true, cond-false, eq-eqb, ne_eqb}
use Rattle.pp_outside.specs.declared.call.Call.{Call}
use Rattle.pp_outside.specs.declared.call.Call.TheVariants.{Attach, Len, Read, Write, Sync, Bind, Next, Send}
use Rattle.pp_outside.specs.Faults.{one_more}
use Rattle.pp_outside.specs.Orders.{is_due, after_one}
use Rattle.pp_watch.specs.Used.{used, stands, order_if, IsLater, gained}

-- ---- calls by numbers

abbrev pub number_of : Call → ℕ
number_of Attach = 0
number_of Len = 1
number_of Read = 2
number_of Write = 3
number_of Sync = 4
number_of Bind = 5
number_of Next = 6
number_of Send = 7

abbrev numbered : ℕ → Call
numbered zero = Attach
numbered (suc zero) = Len
numbered (suc (suc zero)) = Read
numbered (suc (suc (suc zero))) = Write
numbered (suc (suc (suc (suc zero)))) = Sync
numbered (suc (suc (suc (suc (suc zero))))) = Bind
numbered (suc (suc (suc (suc (suc (suc zero)))))) = Next
numbered (suc (suc (suc (suc (suc (suc (suc n))))))) = Send

numbered_of : (c : Call) → numbered (number_of c) ≡ c
numbered_of Attach = refl
numbered_of Len = refl
numbered_of Read = refl
numbered_of Write = refl
numbered_of Sync = refl
numbered_of Bind = refl
numbered_of Next = refl
numbered_of Send = refl

-- Two calls are one or they aren't.
pub same_or_not : (a b : Call) → (a ≡ b) ⊎ (a ≢ b)
same_or_not a b = elim (cases_eq (number_of a) (number_of b)) [
  | inl same ↦ inl (sym (numbered_of a) ∙ ap numbered same ∙ numbered_of b)
  | inr differ ↦ inr (λ is. differ (ap number_of is))
]

abbrev one_where : ℕ → ℕ → ℕ
one_where n k = if n == k then 1 else 0

same_is_one : (n : ℕ) → one_where n n ≡ 1
same_is_one n = cond-true (n == n) 1 0 (eq-eqb n n refl)

other_is_none : (n k : ℕ) → (n ≡ k → ⊥) → one_where n k ≡ 0
other_is_none n k differ = cond-false (n == k) 1 0 (ne_eqb n k differ)

-- how many orders of a call are used up by a call
abbrev pub grew_in : Call → Call → ℕ
grew_in call c = one_where (number_of c) (number_of call)

-- ---- one order

-- An order is one that stood.
pub same_later : (o : Option ℕ) → IsLater o o
same_later None = tt
same_later (Some n) = omega arith

-- So it is behind one call more.
later_one : (before old : Option ℕ) → IsLater before old → IsLater before (after_one old)
later_one before None is = tt
later_one before (Some zero) is = tt
later_one None (Some (suc n)) is = absurd is
later_one (Some m) (Some (suc n)) is = omega (arith, is)

-- Where none stood none stands.
pub none_later : (before now : Option ℕ) → before ≡ None → IsLater before now → now ≡ None
none_later before None none is = refl
none_later before (Some n) none is = absurd (subst (λ (o : Option ℕ). IsLater o (Some n)) none is)

-- a call that isn't refused uses no order up
stands_same : (o : Option ℕ) → is_due o ≡ false → stands (after_one o) ≡ stands o
stands_same None free = refl
stands_same (Some zero) free = cc
stands_same (Some (suc n)) free = refl

-- one that is uses one up
used_up : (before old new : Option ℕ) → IsLater before old → is_due old ≡ true → new ≡ after_one old
    → used (stands before) (stands new) ≡ used (stands before) (stands old) + 1
used_up before None new is due spent = cc
used_up None (Some zero) new is due spent = absurd is
used_up (Some m) (Some zero) new is due spent = ap (λ (o : Option ℕ). used true (stands o)) spent
used_up before (Some (suc n)) new is due spent = cc

-- ---- an order that no call passes before

if_due : (b : Bool) → stands (order_if b) ≡ b
if_due true = refl
if_due false = refl

pub stands_if : (b : Bool) (o : Option ℕ) → o ≡ order_if b → stands o ≡ b
stands_if b o is = ap stands is ∙ if_due b

is_due_if : (b : Bool) → is_due (order_if b) ≡ b
is_due_if true = refl
is_due_if false = refl

-- The next call is refused where it stands.
pub due_if : (b : Bool) (o : Option ℕ) → o ≡ order_if b → is_due o ≡ b
due_if b o is = ap is_due is ∙ is_due_if b

-- The call of its kind uses it up.
after_if : (b : Bool) → after_one (order_if b) ≡ None
after_if true = refl
after_if false = refl

pub spent_if : (b : Bool) (old new : Option ℕ) → old ≡ order_if b → new ≡ after_one old → new ≡ None
spent_if b old new is spent = spent ∙ ap after_one is ∙ after_if b

later_due : (b : Bool) (now : Option ℕ) → IsLater (order_if b) now → now ≡ order_if (is_due now)
later_due b None is = refl
later_due b (Some zero) is = refl
later_due true (Some (suc n)) is = absurd (omega (arith, is))
later_due false (Some (suc n)) is = absurd is

-- None passes before one that stands later.
pub later_if : (b : Bool) (before now : Option ℕ) → before ≡ order_if b → IsLater before now → now ≡ order_if (is_due now)
later_if b before now was is = later_due b now (subst (λ (o : Option ℕ). IsLater o now) was is)

pub stands_due : (b : Bool) (before now : Option ℕ) → before ≡ order_if b → IsLater before now → stands now ≡ is_due now
stands_due b before now was is = stands_if (is_due now) now (later_if b before now was is)

due_of : (b : Bool) (now : Option ℕ) → IsLater (order_if b) now → is_due now ≡ true → b ≡ true
due_of true now is due = refl
due_of false None is due = cc
due_of false (Some n) is due = absurd is

-- One that stands later stood before.
pub due_before : (b : Bool) (before now : Option ℕ) → before ≡ order_if b → IsLater before now → is_due now ≡ true → b ≡ true
due_before b before now was is due = due_of b now (subst (λ (o : Option ℕ). IsLater o now) was is) due

-- ---- what stands, and what was used up

module _ (before old new : Call → Option ℕ) (call : Call) (spent : new call ≡ after_one (old call))
    (others : (other : Call) → other ≢ call → new other ≡ old other) where
  -- no order is new
  pub none_new : ((c : Call) → IsLater (before c) (old c)) → (c : Call) → IsLater (before c) (new c)
  none_new known c = elim (same_or_not c call) [
    | inl same ↦ subst (λ (x : Call). IsLater (before x) (new x)) (sym same)
        (subst (IsLater (before call)) (sym spent) (later_one (before call) (old call) (known call)))
    | inr differ ↦ subst (IsLater (before c)) (sym (others c differ)) (known c)
  ]

  -- Of a call that wasn't ordered to fail no order was used up.
  pub used_same : is_due (old call) ≡ false → (c : Call) → used (stands (before c)) (stands (new c)) ≡ used (stands (before c)) (stands (old c))
  used_same free c = elim (same_or_not c call) [
    | inl same ↦ ap (λ (x : Call). used (stands (before c)) (stands (new x))) same
        ∙ ap (used (stands (before c))) (ap stands spent ∙ stands_same (old call) free)
        ∙ ap (λ (x : Call). used (stands (before c)) (stands (old x))) (sym same)
    | inr differ ↦ ap (λ (o : Option ℕ). used (stands (before c)) (stands o)) (others c differ)
  ]

  -- of one that was, one more was
  pub used_more : ((c : Call) → IsLater (before c) (old c)) → is_due (old call) ≡ true → (c : Call)
      → used (stands (before c)) (stands (new c)) ≡ used (stands (before c)) (stands (old c)) + grew_in call c
  used_more known stood c = elim (same_or_not c call) [
    | inl same ↦ (let one : grew_in call c ≡ 1 = ap (grew_in call) same ∙ same_is_one (number_of call) in
        let up = used_up (before call) (old call) (new call) (known call) stood spent in
        let here = ap (λ (x : Call). used (stands (before x)) (stands (new x))) same in
        let there = ap (λ (x : Call). used (stands (before x)) (stands (old x))) same in
        omega (arith, one, up, here, there))
    | inr differ ↦ (let none : grew_in call c ≡ 0 = other_is_none (number_of c) (number_of call) (λ same. differ (sym (numbered_of c) ∙ ap numbered same ∙ numbered_of call)) in
        let here = ap (λ (o : Option ℕ). used (stands (before c)) (stands o)) (others c differ) in
        omega (arith, none, here))
  ]

-- ---- counts

-- An order that stands was not used up.
pub none_used : (b : Bool) → used b b ≡ 0
none_used true = refl
none_used false = refl

pub gained_more : (count n more : ℕ) → gained (gained count n) more ≡ gained count (n + more)
gained_more count n zero = (let none : n ≡ n + zero = omega arith in ap (gained count) none)
gained_more count n (suc more) = (let one : suc (n + more) ≡ n + suc more = omega arith in
    ap one_more (gained_more count n more) ∙ ap (gained count) one)
