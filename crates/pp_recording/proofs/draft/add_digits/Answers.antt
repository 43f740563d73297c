use Rattle.std.proofs.Common.{◌≡◌, vec_len, ℕ, List, ◌++◌, ◌-◌, ◌/◌, take, drop, length, codes, ap, sym, refl, ◌∙◌, arith}
use Rattle.std.proofs.lemmas.List.{append-nil}
use Rattle.pp_recording.proofs.ByteTests.{told_same, told_apart}
use Rattle.pp_recording.proofs.Digits.{no_digits, half_digits, decoded, all_put, part_size, made_longer}
use Rattle.pp_recording.proofs.draft.add_digits.Goals as goal

pub returns-then-eq : goal.returns-then-eq
returns-then-eq c more all is =
    sym (ap (λ (b : List ℕ). c.args.bytes.now.items ++ b) (no_digits c.args.digits.now more
    (told_same c.eq.result c.args.digits.now c.as_slice.result.now (codes "-") c.eq.ensures c.as_slice.ensures c.if-eq.true) is)
    ∙ append-nil c.args.bytes.now.items)

pub unwrap-requires : goal.unwrap-requires
unwrap-requires c =
    let place : c.len-start.result ≡ length c.args.bytes.now.items = omega (arith, c.len-start.ensures) in
    let long : vec_len c.args.bytes.now ≡ length c.args.bytes.now.items = omega arith in
    let other = told_apart c.eq.result c.args.digits.now c.as_slice.result.now (codes "-") c.eq.ensures c.as_slice.ensures c.if-eq.false in
    let told = rw (decoded c.args.digits.now c.requires.bytes
    (length (take (length c.as_mut_slice.result.now - c.len-start.result) (drop c.len-start.result c.as_mut_slice.result.now))) other c.requires.text c.requires.all
    (part_size c.args.bytes.now.items c.as_mut_slice.result.now c.resize.new.self.items c.len-start.result (length c.args.digits.now / 2) c.as_mut_slice.ensures.value (made_longer c.args.bytes.now.items c.resize.new.self.items c.len-start.result (length c.args.digits.now / 2) (vec_len c.args.bytes.now) c.in_ok-resize.ensures.items place long) place)) at c.decode_to_slice.ensures.value in
    rw told.0 refl

pub returns : goal.returns
returns c more all is =
    let place : c.len-start.result ≡ length c.args.bytes.now.items = omega (arith, c.len-start.ensures) in
    let long : vec_len c.args.bytes.now ≡ length c.args.bytes.now.items = omega arith in
    let other = told_apart c.eq.result c.args.digits.now c.as_slice.result.now (codes "-") c.eq.ensures c.as_slice.ensures c.if-eq.false in
    let told = rw (decoded c.args.digits.now more
    (length (take (length c.as_mut_slice.result.now - c.len-start.result) (drop c.len-start.result c.as_mut_slice.result.now))) other is all
    (part_size c.args.bytes.now.items c.as_mut_slice.result.now c.resize.new.self.items c.len-start.result (length c.args.digits.now / 2) c.as_mut_slice.ensures.value (made_longer c.args.bytes.now.items c.resize.new.self.items c.len-start.result (length c.args.digits.now / 2) (vec_len c.args.bytes.now) c.in_ok-resize.ensures.items place long) place)) at c.decode_to_slice.ensures.value in
    all_put c.args.bytes.now.items c.decode_to_slice.new.out c.as_mut_slice.result.now c.resize.new.self.items c.len-start.result (length c.args.digits.now / 2)
    c.resize.new.self.len c.as_mut_slice.ensures.value (made_longer c.args.bytes.now.items c.resize.new.self.items c.len-start.result (length c.args.digits.now / 2) (vec_len c.args.bytes.now) c.in_ok-resize.ensures.items place long) place
    (ap (λ (b : List ℕ). length b) told.1 ∙ sym (half_digits c.args.digits.now more other is))
    (sym c.as_mut_slice.ensures.len ∙ ap (λ (b : List ℕ). length b) c.as_mut_slice.ensures.value)
    ∙ ap (λ (b : List ℕ). c.args.bytes.now.items ++ b) told.1
