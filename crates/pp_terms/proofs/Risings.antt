-- A count that rises, and a list that gains, one step after the other.
use Rattle.std.proofs.Common.{◌≡◌, ℕ, ◌≤◌, List, [], ◌++◌, Option, Some, None, sym, ◌∙◌, ap, subst, arith, append_assoc}
use Rattle.pp_terms.specs.Count.{HasRisen}
use Rattle.pp_terms.specs.format.Traffic.{Record, GainsRecords}

pub risen_more : (a b c : ℕ) → b ≤ c → HasRisen a b → HasRisen a c
risen_more a b c le risen below = let lt = risen (omega (arith, le, below)) in omega (arith, lt, le)

pub risen_less : (a b c : ℕ) → a ≤ b → HasRisen b c → HasRisen a c
risen_less a b c le risen below = let lt = risen below in omega (arith, lt, le)

pub gains_nothing : (old new : Option (List Record)) → new ≡ old → GainsRecords old [] new
gains_nothing None new e = e
gains_nothing (Some xs) new e = e

pub gains_twice : (a b c : Option (List Record)) (x y : List Record) → GainsRecords a x b → GainsRecords b y c → GainsRecords a (y ++ x) c
gains_twice None b c x y p q = let q' : GainsRecords None y c = subst (λ (o : Option (List Record)). GainsRecords o y c) p q in q'
gains_twice (Some xs) b c x y p q =
    let q' : GainsRecords (Some (x ++ xs)) y c = subst (λ (o : Option (List Record)). GainsRecords o y c) p q in
    q' ∙ ap (λ (ys : List Record). Some ys) (sym (append_assoc y x xs))
