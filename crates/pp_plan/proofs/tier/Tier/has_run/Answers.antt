use Rattle.std.proofs.Common.{◌≡◌, ℕ, ◌+◌, ◌*◌, ◌/◌, ◌%◌, ◌^◌, ◌≤◌, arith, ap, ◌∙◌, length, slice_index}
use Rattle.std.proofs.lemmas.Nat.{one_shl}
use Rattle.pp_tree.specs.Bits.{bit_of}
use Rattle.pp_plan.specs.Told.{some_among}
use Rattle.pp_plan.proofs.Words.{run_past, run_none, run_some, in_one_word}
use Rattle.pp_plan.proofs.tier.Tier.has_run.Goals as goal

pub returns-in_default : goal.returns-in_default
returns-in_default c =
    let width : ℕ = 1 * 2 ^ c.args.wide % 18446744073709551616 in
    let is : 1 * 2 ^ c.args.wide % 18446744073709551616 ≡ 2 ^ c.args.wide = one_shl c.args.wide 64 (omega (arith, c.requires)) in
    run_past c.args.self.now (c.args.offset * width) width
    (omega (arith, c.in_default.ensures.lookup.3, ap (λ xs. length xs) c.deref.ensures.value, ap (λ xs. length xs) c.self.view_is))
    ∙ ap (λ k. some_among (bit_of c.args.self.now) (c.args.offset * k) k) is

pub returns-in-Some-lowest_from : goal.returns-in-Some-lowest_from
returns-in-Some-lowest_from c =
    let width : ℕ = 1 * 2 ^ c.args.wide % 18446744073709551616 in
    let is : 1 * 2 ^ c.args.wide % 18446744073709551616 ≡ 2 ^ c.args.wide = one_shl c.args.wide 64 (omega (arith, c.requires)) in
    let read : c.in-Some.word.now ≡ slice_index c.args.self.now (c.args.offset * width / 64) =
    c.in-Some.ensures.lookup.3.1 0 ∙ ap (λ xs. slice_index xs (c.args.offset * width / 64)) (c.deref.ensures.value ∙ c.self.view_is) in
    let one : (c.args.offset * (1 * 2 ^ c.args.wide % 18446744073709551616)) % 64 + 1 * 2 ^ c.args.wide % 18446744073709551616 ≤ 64 =
    rw is (in_one_word c.args.wide c.args.offset c.requires) in
    run_some c.args.self.now c.in-Some.word.now (c.args.offset * width) width c.in-Some-lowest_from.place read one
    c.in-Some-lowest_from.ensures.first.0 c.in-Some-lowest_from.ensures.range c.in-Some-lowest_from.ensures.first.1 c.in-Some-lowest_from.ensures.first.2
    ∙ ap (λ k. some_among (bit_of c.args.self.now) (c.args.offset * k) k) is

pub returns-in-None : goal.returns-in-None
returns-in-None c =
    let width : ℕ = 1 * 2 ^ c.args.wide % 18446744073709551616 in
    let is : 1 * 2 ^ c.args.wide % 18446744073709551616 ≡ 2 ^ c.args.wide = one_shl c.args.wide 64 (omega (arith, c.requires)) in
    let read : c.in-Some.word.now ≡ slice_index c.args.self.now (c.args.offset * width / 64) =
    c.in-Some.ensures.lookup.3.1 0 ∙ ap (λ xs. slice_index xs (c.args.offset * width / 64)) (c.deref.ensures.value ∙ c.self.view_is) in
    let one : (c.args.offset * (1 * 2 ^ c.args.wide % 18446744073709551616)) % 64 + 1 * 2 ^ c.args.wide % 18446744073709551616 ≤ 64 =
    rw is (in_one_word c.args.wide c.args.offset c.requires) in
    run_none c.args.self.now c.in-Some.word.now (c.args.offset * width) width read one c.in-None.ensures.first
    ∙ ap (λ k. some_among (bit_of c.args.self.now) (c.args.offset * k) k) is
