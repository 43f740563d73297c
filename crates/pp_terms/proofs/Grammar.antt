-- Messages that are read are those that are spelled.
use Rattle.std.proofs.Common.{◌≡◌, ℕ, zero, suc, ◌+◌, ◌≤◌, ◌⊎◌, Bool, true, false, cond, not, eqb, ltb, ◌&&◌, List, [], ◌∷◌, length, get_or, drop, Option, Some, None, Result, Ok, Err, refl, sym, ap, ◌∙◌, arith, inl, inr}
use Rattle.std.proofs.lemmas.List.{length-drop}
use Rattle.pp_terms.specs.format.Options.{Options, none, OptionFault, Short, Unknown, Twice, BadLength, is_known, is_given, with_option, option_of, value_length, fault_at, unless, read_from, read_options}
use Rattle.pp_terms.specs.format.Messages.{place_of}
use Rattle.pp_terms.proofs.Spellings.{no_fault}

-- ---- where the faults of options are

fault_here : (a b c d : Bool) (e f g h fault : OptionFault) (at : ℕ) → place_of e ≡ at → place_of f ≡ at → place_of g ≡ at → place_of h ≡ at
    → cond (not a) (Some e) (cond b (Some f) (cond c (Some g) (cond d (Some h) None))) ≡ Some fault → place_of fault ≡ at
fault_here false b c d e f g h fault at p q r s is = let same : e ≡ fault = cc in ap place_of (sym same) ∙ p
fault_here true true c d e f g h fault at p q r s is = let same : f ≡ fault = cc in ap place_of (sym same) ∙ q
fault_here true false true d e f g h fault at p q r s is = let same : g ≡ fault = cc in ap place_of (sym same) ∙ r
fault_here true false false true e f g h fault at p q r s is = let same : h ≡ fault = cc in ap place_of (sym same) ∙ s
fault_here true false false false e f g h fault at p q r s is = absurd cc

here : (seen : Options) (at code : ℕ) (rest : List ℕ) (fault : OptionFault) → fault_at seen at code rest ≡ Some fault → place_of fault ≡ at
unfolding fault_at
here seen at code rest fault e =
    fault_here (is_known code) (is_given seen code) (eqb code 8 && ltb 32 (get_or rest 0 0)) (ltb (length rest) (value_length code rest))
    (Unknown at code) (Twice at code) (BadLength at (get_or rest 0 0)) (Short at) fault at refl refl refl refl e

unless_err : {A : Type 0} (f : Option OptionFault) (r : Result A OptionFault) (fault : OptionFault) → unless f r ≡ Err fault
    → (f ≡ Some fault) ⊎ ((f ≡ None) × (r ≡ Err fault))
unless_err None r fault e = inr (refl, e)
unless_err (Some x) r fault e = inl cc

abbrev failed : {A : Type 0} → OptionFault → Result A OptionFault
failed f = Err f

failed_is : {A : Type 0} (x y : OptionFault) → failed {A = A} x ≡ failed y → x ≡ y
failed_is x y e = cc

chosen_err : (b : Bool) (x : Options × ℕ) (r : Result (Options × ℕ) OptionFault) (fault : OptionFault) → cond b (Ok x) r ≡ Err fault → r ≡ Err fault
chosen_err true x r fault e = absurd cc
chosen_err false x r fault e = e

from_within : (n : ℕ) (seen : Options) (at : ℕ) (bytes : List ℕ) (fault : OptionFault) → read_from n seen at bytes ≡ Err fault
    → place_of fault ≤ at + length bytes
unfolding read_from
from_within zero seen at bytes fault e =
    let same : place_of fault ≡ at = ap place_of (sym (failed_is {A = Options × ℕ} (Short at) fault e)) in omega arith
from_within (suc n) seen at [] fault e =
    let same : place_of fault ≡ at = ap place_of (sym (failed_is {A = Options × ℕ} (Short at) fault e)) in omega arith
from_within (suc n) seen at (code ∷ rest) fault e =
    let more = chosen_err (eqb code 255) (seen, at + 1) _ fault e in
    elim (unless_err (fault_at seen at code rest) _ fault more) [
      | inl p ↦ let same : place_of fault ≡ at = here seen at code rest fault p in omega arith
      | inr p ↦
          let whole : value_length code rest ≤ length rest = (no_fault seen at code rest p.0).whole in
          let next : place_of fault ≤ (at + (1 + value_length code rest)) + length (drop (value_length code rest) rest) =
          from_within n (with_option (option_of code rest) seen) (at + (1 + value_length code rest)) (drop (value_length code rest) rest) fault p.1 in
          omega (arith, length-drop (value_length code rest) rest, next, whole)
    ]

-- the fault's place is in the bytes, or behind them
pub fault_within : (bytes : List ℕ) (fault : OptionFault) → read_options bytes ≡ Err fault → place_of fault ≤ length bytes
unfolding read_options
fault_within bytes fault e = omega (arith, from_within (length bytes) none 0 bytes fault e)
