use Rattle.std.proofs.Common.{◌/◌, sym, ap, ◌∙◌, arith, length}
use Rattle.pp_tree.specs.Bits.{bit_of}
use Rattle.pp_avail.proofs.Rows.{full_before}
use Rattle.pp_avail.proofs.row.Row.next_lacking.Goals as goal

pub next_set-requires : goal.next_set-requires
next_set-requires c = omega (arith, c.self.invariant.small, c.self.invariant.size, c.self.invariant.lacks_size, ap (λ xs. length xs) c.deref.ensures.value)

pub returns-in_err-w : goal.returns-in_err-w
returns-in_err-w c = rw c.from_residual.ensures (λ i low high inside.
    full_before c.self.inside.count c.self.inside.words.items c.self.inside.any.items c.self.inside.lacks.items c.args.self.now i c.self.view_is c.self.invariant
    (ap (λ xs. bit_of xs (i / 64)) (sym c.deref.ensures.value) ∙ c.in_err-w.ensures (i / 64) low) inside)

pub returns-then-w-to : goal.returns-then-w-to
returns-then-w-to c = λ i low high inside.
    full_before c.self.inside.count c.self.inside.words.items c.self.inside.any.items c.self.inside.lacks.items c.args.self.now i c.self.view_is c.self.invariant
    (ap (λ xs. bit_of xs (i / 64)) (sym c.deref.ensures.value) ∙ c.in_ok-w.ensures.2 (i / 64) low (omega (arith, high, c.if-w-to.true))) inside

pub returns : goal.returns
returns c = (
  c.in_ok-w.ensures.0,
  omega (arith, c.if-w-to.false),
  (λ i low high inside.
      full_before c.self.inside.count c.self.inside.words.items c.self.inside.any.items c.self.inside.lacks.items c.args.self.now i c.self.view_is c.self.invariant
      (ap (λ xs. bit_of xs (i / 64)) (sym c.deref.ensures.value) ∙ c.in_ok-w.ensures.2 (i / 64) low high) inside),
)
