-- What of a span lies in a content.
use Rattle.std.proofs.Common.{◌≡◌, ℕ, ◌-◌, ◌<◌, ◌≤◌, min, nat_le, nat_lt, Bool, true, false, cond, ◌&&◌, Some, None, refl, arith}
use Rattle.std.proofs.lemmas.Bool.Decides.{nat_tests}
use Rattle.pp_terms.specs.tree.Range.{Span, within}
use Rattle.pp_traffic.specs.Claims.{cut_to}
use Rattle.pp_seat.specs.Lines.{inside}

-- the part of a span that lies in the content
pub record IsPart (chunks : ℕ) (span part : Span) : Type 0 where
  pub low : span.first < chunks
  pub order : span.first ≤ span.last
  pub first : part.first ≡ span.first
  pub last : part.last ≡ min span.last (chunks - 1)

pub part_of : (chunks : ℕ) (span part : Span) → inside chunks span ≡ Some part → IsPart chunks span part
part_of chunks span part is = by (nat_lt span.first chunks && nat_le span.first span.last) refl is
  where
    by : (b : Bool) → (nat_lt span.first chunks && nat_le span.first span.last) ≡ b → cond b (Some (cut_to chunks span)) None ≡ Some part → IsPart chunks span part
    by true e same =
        let part_is : cut_to chunks span ≡ part = cc in
        record { low = grind (arith, nat_tests); order = grind (arith, nat_tests); first = cc; last = cc }
    by false e same = absurd cc

pub ordered : (chunks : ℕ) (span part : Span) → IsPart chunks span part → part.first ≤ part.last
ordered chunks span part p =
    let low = p.low in let order = p.order in let first = p.first in let last = p.last in omega arith

pub part_within : (chunks : ℕ) (span part : Span) (i : ℕ) → IsPart chunks span part → i < chunks → within part i ≡ within span i
part_within chunks span part i p lt =
    let first = p.first in let last = p.last in
    same (part.first) (part.last) first last
  where
    same : (first last : ℕ) → first ≡ span.first → last ≡ min span.last (chunks - 1) → (nat_le first i && nat_le i last) ≡ (nat_le span.first i && nat_le i span.last)
    same first last p q = grind (arith, nat_tests)

pub part_content : (chunks : ℕ) (span part : Span) (i : ℕ) → IsPart chunks span part → within part i ≡ true → i < chunks
part_content chunks span part i p e =
    let low = p.low in let last = p.last in
    fits part.first part.last low last e
  where
    fits : (first last : ℕ) → span.first < chunks → last ≡ min span.last (chunks - 1) → (nat_le first i && nat_le i last) ≡ true → i < chunks
    fits first last low is here = grind (arith, nat_tests)

-- a span outside the content names none of its chunks
pub out_within : (chunks : ℕ) (span : Span) (i : ℕ) → inside chunks span ≡ None → i < chunks → within span i ≡ false
out_within chunks span i is lt = by (nat_lt span.first chunks && nat_le span.first span.last) refl is
  where
    by : (b : Bool) → (nat_lt span.first chunks && nat_le span.first span.last) ≡ b → cond b (Some (cut_to chunks span)) None ≡ None → within span i ≡ false
    by true e same = absurd cc
    by false e same = grind (arith, nat_tests)
