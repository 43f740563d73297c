-- Samples as signed numbers.
use Rattle.std.proofs.Common.{◌≡◌, ⊎_elim, ℕ, ◌+◌, ◌-◌, ◌%◌, ◌^◌, ◌<◌, ◌≤◌, ltb, leb, true, false, pos, negsuc, ◌+ℤ◌, ◌-ℤ◌, nat_abs, refl, ◌∙◌, ap, subst, arith}
use Rattle.std.proofs.lemmas.Int.{ints}
use Rattle.std.proofs.lemmas.Bool.{leb-true, le-leb, ltb-true, ltb-false, cases_Bool}
use Rattle.std.specs.Prelude.{◌↔◌}
use Rattle.pp_ledbat.specs.Laws.{apart, signed, SamplesAreSigned}

shifted : (first delay : ℕ) → (delay + (2 ^ 64 - first) + 2 ^ 40) % 2 ^ 64 ≡ (apart first delay + 2 ^ 40) % 2 ^ 64
shifted first delay = omega arith

apart_less : (first delay : ℕ) → apart first delay < 2 ^ 64
apart_less first delay = omega arith

-- a number of 64 bits as a signed one, by whether it is small
small : (x : ℕ) → ltb x (2 ^ 63) ≡ true → signed x ≡ pos x
small x e = rw e refl

below : (x : ℕ) → x < 2 ^ 64 → pos x -ℤ pos (2 ^ 64) ≡ negsuc (2 ^ 64 - 1 - x)
below x lt = omega (arith, ints)

large : (x : ℕ) → x < 2 ^ 64 → ltb x (2 ^ 63) ≡ false → signed x ≡ negsuc (2 ^ 64 - 1 - x)
large x lt e = (let is : signed x ≡ pos x -ℤ pos (2 ^ 64) = rw e refl in is) ∙ below x lt

-- what is kept of it
near_small : (x : ℕ) → x < 2 ^ 63 → (leb ((x + 2 ^ 40) % 2 ^ 64) (2 ^ 41) ≡ true) ↔ (x ≤ 2 ^ 40)
near_small x lt = (
  λ e. (let le = leb-true ((x + 2 ^ 40) % 2 ^ 64) (2 ^ 41) e in omega arith),
  λ le. le-leb ((x + 2 ^ 40) % 2 ^ 64) (2 ^ 41) (omega arith),
)

near_large : (x : ℕ) → x < 2 ^ 64 → 2 ^ 63 ≤ x → (leb ((x + 2 ^ 40) % 2 ^ 64) (2 ^ 41) ≡ true) ↔ (2 ^ 64 - 1 - x + 1 ≤ 2 ^ 40)
near_large x lt le = (
  λ e. (let near = leb-true ((x + 2 ^ 40) % 2 ^ 64) (2 ^ 41) e in omega arith),
  λ close. le-leb ((x + 2 ^ 40) % 2 ^ 64) (2 ^ 41) (omega arith),
)

abs_negsuc : (n : ℕ) → nat_abs (negsuc n) ≡ n + 1
abs_negsuc n = omega arith

near_signed : (x : ℕ) → x < 2 ^ 64 → (leb ((x + 2 ^ 40) % 2 ^ 64) (2 ^ 41) ≡ true) ↔ (nat_abs (signed x) ≤ 2 ^ 40)
near_signed x lt = ⊎_elim
    (λ is. rw (small x is) (near_small x (ltb-true x (2 ^ 63) is)))
    (λ isnt. rw (large x lt isnt, abs_negsuc (2 ^ 64 - 1 - x)) (near_large x lt (ltb-false x (2 ^ 63) isnt)))
    (cases_Bool (ltb x (2 ^ 63)))

kept_large : (x : ℕ) → x < 2 ^ 64 → 2 ^ 63 ≤ x → leb ((x + 2 ^ 40) % 2 ^ 64) (2 ^ 41) ≡ true → negsuc (2 ^ 64 - 1 - x) +ℤ pos (2 ^ 40) ≡ pos ((x + 2 ^ 40) % 2 ^ 64)
kept_large x lt le e =
    let near = leb-true ((x + 2 ^ 40) % 2 ^ 64) (2 ^ 41) e in
    let is : (x + 2 ^ 40) % 2 ^ 64 ≡ x + 2 ^ 40 - 2 ^ 64 = omega arith in
    rw is (omega (arith, ints))

kept_signed : (x : ℕ) → x < 2 ^ 64 → leb ((x + 2 ^ 40) % 2 ^ 64) (2 ^ 41) ≡ true → signed x +ℤ pos (2 ^ 40) ≡ pos ((x + 2 ^ 40) % 2 ^ 64)
kept_signed x lt near = ⊎_elim
    (λ is. rw (small x is) (let less = ltb-true x (2 ^ 63) is in ap (λ (n : ℕ). pos n) (let e : x + 2 ^ 40 ≡ (x + 2 ^ 40) % 2 ^ 64 = omega arith in e)))
    (λ isnt. rw (large x lt isnt) (kept_large x lt (ltb-false x (2 ^ 63) isnt) near))
    (cases_Bool (ltb x (2 ^ 63)))

pub samples_are_signed : SamplesAreSigned
samples_are_signed = record {
  near = λ first delay f d. rw (shifted first delay) (near_signed (apart first delay) (apart_less first delay));
  kept = λ first delay f d near.
      rw (shifted first delay) (kept_signed (apart first delay) (apart_less first delay)
      (subst (λ (n : ℕ). leb n (2 ^ 41) ≡ true) (shifted first delay) near));
}
