-- Sets of chunks, as those with closed gates are taken out.
use Rattle.std.proofs.Common.{◌≡◌, ◌≢◌, ℕ, ◌+◌, ◌<◌, ◌≤◌, Bool, true, false, List, length, get_or, refl, sym, ap, ◌∙◌, arith, below_more}
use Rattle.std.specs.Prelude.{◌&&◌}
use Rattle.std.proofs.Math.ListN.{set}
use Rattle.std.proofs.lemmas.List.{length-set, get_or-set_same, get_or-set_other}

-- The chunks below a number that don't pass the test were taken out.
pub record AreKeptBelow (test : ℕ → Bool) (old : List Bool) (n : ℕ) (now : List Bool) : Type 0 where
  pub size : length now ≡ length old
  pub done : (k : ℕ) → k < n → get_or now k false ≡ (test k && get_or old k false)
  pub rest : (k : ℕ) → n ≤ k → get_or now k false ≡ get_or old k false

pub kept_none : (test : ℕ → Bool) (old : List Bool) → AreKeptBelow test old 0 old
kept_none test old = record { size = refl; done = λ k lt. absurd (omega (arith, lt)); rest = λ k from. refl }

pub taken_more : (test : ℕ → Bool) (old now : List Bool) (n : ℕ) → n < length now → test n ≡ false
    → AreKeptBelow test old n now → AreKeptBelow test old (n + 1) (set now n false)
taken_more test old now n room fails kept = record {
  size = length-set now n false ∙ kept.size;
  done = below_more (λ k. get_or (set now n false) k false ≡ (test k && get_or old k false)) n
      (λ k lt. let ne : k ≢ n = omega arith in get_or-set_other now n k false false ne ∙ kept.done k lt)
      (get_or-set_same now n false false room ∙ sym (ap (λ (b : Bool). b && get_or old n false) fails));
  rest = λ k from. let ne : k ≢ n = omega arith in get_or-set_other now n k false false ne ∙ kept.rest k (omega arith);
}

pub left_more : (test : ℕ → Bool) (old now : List Bool) (n : ℕ) → test n ≡ true
    → AreKeptBelow test old n now → AreKeptBelow test old (n + 1) now
left_more test old now n passes kept = record {
  size = kept.size;
  done = below_more (λ k. get_or now k false ≡ (test k && get_or old k false)) n kept.done
      (kept.rest n (omega arith) ∙ sym (ap (λ (b : Bool). b && get_or old n false) passes));
  rest = λ k from. kept.rest k (omega arith);
}
