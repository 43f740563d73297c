use Rattle.std.proofs.Common.{ℕ, ◌==◌, w64, ap, sym, ◌∙◌}
use Rattle.std.proofs.lemmas.Nat.Bits.{bit_at_set_same, bit_at_set_other, bit_at_clear_same, bit_at_clear_other}
use Rattle.pp_tree.proofs.words.with_bit.Goals as goal

pub returns-then-value-clause-here : goal.returns-then-value-clause-here
returns-then-value-clause-here c = ap (λ (b : ℕ). b == 1) (bit_at_set_same w64 c.args.word c.args.place c.requires) ∙ sym c.if-value.true

pub returns-then-value-clause-others : goal.returns-then-value-clause-others
returns-then-value-clause-others c = λ k _ other. bit_at_set_other w64 c.args.word c.args.place c.requires k other

pub returns-else-value-clause-here : goal.returns-else-value-clause-here
returns-else-value-clause-here c = ap (λ (b : ℕ). b == 1) (bit_at_clear_same w64 c.args.word c.args.place c.requires) ∙ sym c.if-value.false

pub returns-else-value-clause-others : goal.returns-else-value-clause-others
returns-else-value-clause-others c = λ k lt other. bit_at_clear_other w64 c.args.word c.args.place c.requires k lt other
