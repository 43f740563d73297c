use Rattle.std.proofs.Common.{◌≡◌, length, arith, ap, ◌∙◌}
use Rattle.std.proofs.lemmas.List.{length-replicate}
use Rattle.pp_plan.proofs.Over.{over_none, none_of}
use Rattle.pp_plan.proofs.tiers.Tiers.none.Goals as goal

pub invariant_of-result : goal.invariant_of-result
invariant_of-result c =
    let lowest : length c.in_ok-none.field-0 ≡ c.div_ceil-size.result = ap (λ xs. length xs) c.in_ok-none.ensures ∙ length-replicate c.div_ceil-size.result 0 in
    let second : length c.in_ok-none-2.field-0 ≡ c.div_ceil-over.result = ap (λ xs. length xs) c.in_ok-none-2.ensures ∙ length-replicate c.div_ceil-over.result 0 in
    let third : length c.in_ok-none-3.field-0 ≡ c.div_ceil.result = ap (λ xs. length xs) c.in_ok-none-3.ensures ∙ length-replicate c.div_ceil.result 0 in
    record {
      second_size = omega (arith, lowest, second, c.div_ceil-over.ensures);
      third_size = omega (arith, second, third, c.div_ceil.ensures);
      highest_size = omega (arith, third, c.div_ceil.ensures, c.div_ceil-over.ensures, c.div_ceil-size.ensures, c.requires.most);
      one = ap (λ xs. length xs) c.in_ok-none-4.ensures;
      second_is = over_none c.in_ok-none-2.field-0 c.in_ok-none.field-0 (none_of c.in_ok-none-2.field-0 c.div_ceil-over.result c.in_ok-none-2.ensures) (none_of c.in_ok-none.field-0 c.div_ceil-size.result c.in_ok-none.ensures);
      third_is = over_none c.in_ok-none-3.field-0 c.in_ok-none-2.field-0 (none_of c.in_ok-none-3.field-0 c.div_ceil.result c.in_ok-none-3.ensures) (none_of c.in_ok-none-2.field-0 c.div_ceil-over.result c.in_ok-none-2.ensures);
      highest_is = over_none c.in_ok-none-4.field-0 c.in_ok-none-3.field-0 (none_of c.in_ok-none-4.field-0 1 c.in_ok-none-4.ensures) (none_of c.in_ok-none-3.field-0 c.div_ceil.result c.in_ok-none-3.ensures);
    }
