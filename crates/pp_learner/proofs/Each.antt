-- Steps one after the other.
use Rattle.std.proofs.Common.{◌≡◌, ℕ, zero, suc, ◌+◌, refl, subst, sym, add-one}
use Rattle.pp_learner.specs.Sending.{Scene, EachBelow}

pub each_none : (Step : ℕ → Scene → Scene → Type 0) (s : Scene) → EachBelow zero Step s s
unfolding EachBelow
each_none Step s = refl

each_suc : (n : ℕ) (Step : ℕ → Scene → Scene → Type 0) (old mid new : Scene) → EachBelow n Step old mid → Step n mid new → EachBelow (suc n) Step old new
unfolding EachBelow
each_suc n Step old mid new each step = (mid, each, step)

pub each_more : (n : ℕ) (Step : ℕ → Scene → Scene → Type 0) (old mid new : Scene) → EachBelow n Step old mid → Step n mid new → EachBelow (n + 1) Step old new
each_more n Step old mid new each step = subst (λ (k : ℕ). EachBelow k Step old new) (sym (add-one n)) (each_suc n Step old mid new each step)

pub each_all : (n k : ℕ) (Step : ℕ → Scene → Scene → Type 0) (old new : Scene) → n ≡ k → EachBelow n Step old new → EachBelow k Step old new
each_all n k Step old new same each = subst (λ (m : ℕ). EachBelow m Step old new) same each
