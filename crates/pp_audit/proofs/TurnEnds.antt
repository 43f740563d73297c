-- A test that is exact decides a promise at the ends of turns; and where the last turn begins.
use Rattle.std.proofs.Common.{◌≡◌, ◌↔◌, ◌⊎◌, inl, inr, ⊎_elim, ℕ, zero, suc, ◌+◌, ◌≤◌, Bool, true, false, cond, List, [], ◌∷◌, refl, arith}
use Rattle.std.proofs.lemmas.Bool.{leb-true, le-leb}
use Rattle.pp_terms.specs.format.Traffic.{Record, Received, Quiet, Sent}
use Rattle.pp_terms.specs.format.Descriptor.{Descriptor}
use Rattle.pp_traffic.specs.Turns.{is_closing, in_turns, AtTurnEndsBut, AtEndsBut}
use Rattle.pp_audit.specs.Ends.{failing_before, fails_few}

-- one end more
one_end : (test : List Record → Bool) (P : List Record → Type 0) (n r : ℕ) (past : List Record) → ((test past ≡ true) ↔ P past)
    → ((k : ℕ) → (n ≤ k) ↔ AtTurnEndsBut k P past)
    → (n + cond (test past) 0 1 ≤ r) ↔ ((P past × AtTurnEndsBut r P past) ⊎ ((k : ℕ) × (r ≡ suc k) × AtTurnEndsBut k P past))
one_end test P n r past iff before = by (test past) refl
  where
    by : (b : Bool) → test past ≡ b → (n + cond b 0 1 ≤ r) ↔ ((P past × AtTurnEndsBut r P past) ⊎ ((k : ℕ) × (r ≡ suc k) × AtTurnEndsBut k P past))
    by true e = (
      λ le. inl (iff.0 e, (before r).0 (omega (arith, le))),
      λ ends. ⊎_elim
          (λ both. let le : n ≤ r = (before r).1 both.1 in omega (arith, le))
          (λ but. let le : n ≤ but.0 = (before but.0).1 but.2 in omega (arith, le, but.1))
          ends,
    )
    by false e = (
      λ le. less r le,
      λ ends. ⊎_elim
          (λ both. absurd (let t = iff.1 both.0 in cc))
          (λ but. let le : n ≤ but.0 = (before but.0).1 but.2 in omega (arith, le, but.1))
          ends,
    )
      where
        less : (r : ℕ) → n + 1 ≤ r → (P past × AtTurnEndsBut r P past) ⊎ ((k : ℕ) × (r ≡ suc k) × AtTurnEndsBut k P past)
        less zero le = absurd (omega (arith, le))
        less (suc k) le = inr (k, refl, (before k).0 (omega (arith, le)))

turns_decided : (test : List Record → Bool) (P Q : List Record → Type 0) (iff : (past : List Record) → Q past → (test past ≡ true) ↔ P past)
    → ((r : Record) (before : List Record) → Q (r ∷ before) → Q before) → (past : List Record) (r : ℕ) → Q past → (failing_before test past ≤ r) ↔ AtTurnEndsBut r P past
turns_decided test P Q iff tail [] r q = (λ le. tt, λ t. omega arith)
turns_decided test P Q iff tail (Received at sender bytes ∷ b) r q =
    let rest = tail (Received at sender bytes) b q in one_end test P (failing_before test b) r b (iff b rest) (λ k. turns_decided test P Q iff tail b k rest)
turns_decided test P Q iff tail (Quiet at ∷ b) r q =
    let rest = tail (Quiet at) b q in one_end test P (failing_before test b) r b (iff b rest) (λ k. turns_decided test P Q iff tail b k rest)
turns_decided test P Q iff tail (Sent moment receiver bytes ∷ b) r q =
    let before = turns_decided test P Q iff tail b r (tail (Sent moment receiver bytes) b q) in (
      λ le. before.0 (omega (arith, le)),
      λ ends. let le : failing_before test b ≤ r = before.1 ends in omega (arith, le),
    )

turns_have : (d : Descriptor) (Q : List Record → Type 0) → ((r : Record) (before : List Record) → Q (r ∷ before) → Q before) → (past : List Record) → Q past → Q (in_turns d past)
turns_have d Q tail [] q = q
turns_have d Q tail (r ∷ before) q = by (turns_have d Q tail before (tail r before q)) (is_closing d r)
  where
    by : Q (in_turns d before) → (b : Bool) → Q (cond b (in_turns d before) (r ∷ before))
    by rest true = rest
    by rest false = q

-- where the test is exact of lists that have a property, as all of their ends have
pub ends_decided_of : (d : Descriptor) (test : List Record → Bool) (P Q : List Record → Type 0) (iff : (past : List Record) → Q past → (test past ≡ true) ↔ P past)
    → ((r : Record) (before : List Record) → Q (r ∷ before) → Q before) → (r : ℕ) (past : List Record) → Q past
    → (fails_few r test (in_turns d past) ≡ true) ↔ AtEndsBut r d P past
ends_decided_of d test P Q iff tail r past q =
    let turns = in_turns d past in
    let have = turns_have d Q tail past q in
    let ends = one_end test P (failing_before test (in_turns d past)) r (in_turns d past) (iff (in_turns d past) have) (λ k. turns_decided test P Q iff tail (in_turns d past) k have) in (
      λ e. ends.0 (leb-true (failing_before test turns + cond (test turns) 0 1) r e),
      λ at. le-leb (failing_before test turns + cond (test turns) 0 1) r (ends.1 at),
    )

pub ends_decided : (d : Descriptor) (test : List Record → Bool) (P : List Record → Type 0) (iff : (past : List Record) → (test past ≡ true) ↔ P past) (r : ℕ) (past : List Record)
    → (fails_few r test (in_turns d past) ≡ true) ↔ AtEndsBut r d P past
ends_decided d test P iff r past = ends_decided_of d test P (λ past. Unit {0}) (λ past q. iff past) (λ r before q. tt) r past tt
