use Rattle.std.proofs.Common.{ℕ, ◌≤◌, length, refl, sym, subst, ◌+◌, arith}
use Rattle.pp_terms.specs.format.Options.{read_options}
use Rattle.pp_terms.proofs.Spellings.{no_fault}
use Rattle.pp_options.proofs.Going.{ends_here, fails_here, goes_on, is_short}
use Rattle.pp_options.proofs.reading.scan.Goals as goal

pub loop-at-init : goal.loop-at-init
unfolding read_options
loop-at-init c = record { within = omega arith; so_far = (length c.args.bytes.now, omega arith, refl) }

pub returns-then-code : goal.returns-then-code
returns-then-code c =
    let s = c.loop-at.invariant.so_far in ends_here s.0 _ _ _ _ c.loop-at-test.true s.1 c.if-code.true s.2

pub returns-in-Some : goal.returns-in-Some
returns-in-Some c =
    let s = c.loop-at.invariant.so_far in
    fails_here s.0 _ _ _ _ _ _ c.loop-at-test.true s.1 c.if-code.false c.split_at.ensures.back c.in-Some.ensures s.2

pub with_option-seen-requires : goal.with_option-seen-requires
with_option-seen-requires c =
    let h = no_fault _ c.loop-at.at _ _ (sym c.in-None.ensures) in record { known = h.known; whole = h.whole }

-- the option ends where the bytes do, or before
ends_within : (c : goal.After-value_length) → c.loop-at.at + (1 + c.value_length.result) ≤ length c.args.bytes.now
ends_within c =
    let h = no_fault _ c.loop-at.at _ _ (sym c.in-None.ensures) in
    let le : c.value_length.result ≤ length c.split_at.result.1.now =
    subst (λ (k : ℕ). k ≤ length c.split_at.result.1.now) (sym c.value_length.ensures) h.whole in
    omega (arith, le, c.split_at.ensures.back_len)

pub overflow_add-at-in-loop-at : goal.overflow_add-at-in-loop-at
overflow_add-at-in-loop-at c = omega (arith, ends_within c)

pub overflow_add-at-in-loop-at-2 : goal.overflow_add-at-in-loop-at-2
overflow_add-at-in-loop-at-2 c = omega (arith, ends_within c)

pub loop-at-preserved : goal.loop-at-preserved
loop-at-preserved c =
    let s = c.loop-at.invariant.so_far in
    let next = goes_on s.0 _ _ _ _ _ c.loop-at-test.true s.1 c.if-code.false c.split_at.ensures.back (sym c.in-None.ensures) s.2 in
    record { within = ends_within c; so_far = rw (c.value_length.ensures, c.with_option-seen.ensures) next }

pub returns : goal.returns
returns c = let s = c.loop-at.invariant.so_far in is_short s.0 _ _ _ _ c.loop-at-test.false s.2
