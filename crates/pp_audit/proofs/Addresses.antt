-- Addresses are told apart as they should be.
use Rattle.std.proofs.Common.{◌≡◌, true, sym, ap, subst}
use Rattle.std.specs.Cmp.{IsEquivalence}
use Rattle.pp_terms.proofs.Addressed.{same_is, same_self}
use Rattle.pp_terms.proofs.Facts.{same_bool}
use Rattle.pp_terms.specs.format.Traffic.{Address, same_address}

pub same_from : (a b : Address) → a ≡ b → same_address a b ≡ true
same_from a b e = subst (λ (x : Address). same_address a x ≡ true) e (same_self a)

pub same_equiv : IsEquivalence same_address
same_equiv = record {
  refl = same_self;
  symm = λ a b. same_bool (same_address a b) (same_address b a) (λ e. same_from b a (sym (same_is a b e))) (λ e. same_from a b (sym (same_is b a e)));
  congr = λ a b c e. ap (λ (x : Address). same_address x c) (same_is a b e);
}
