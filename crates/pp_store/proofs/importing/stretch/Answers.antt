use Rattle.std.proofs.Common.{◌^◌, ◌-◌, ℕ, ap, sym, ◌∙◌, arith}
use Rattle.pp_terms.specs.format.Descriptor.{Descriptor, height_of, chunks_of}
use Rattle.pp_store.proofs.Stretching.{power_low, whole_full, stretched, stretched_whole}
use Rattle.pp_store.proofs.importing.stretch.Goals as goal

pub returns-then-chunks-height-clause-whole : goal.returns-then-chunks-height-clause-whole
returns-then-chunks-height-clause-whole g c chunk content is known built =
    whole_full chunk content _ built (ap chunks_of (sym is) ∙ sym c.chunks.ensures.chunks ∙ c.if-chunks-height.true ∙ power_low c.height.result c.height.ensures.range
    ∙ ap (λ (h : ℕ). 2 ^ h) c.height.ensures.height ∙ ap (λ (d : Descriptor). 2 ^ height_of d) is)

pub returns-clause-does : goal.returns-clause-does
returns-clause-does g c = stretched _ _ _ _ (omega (arith, c.file_size.ensures.least)) c.write_at.ensures

pub returns-clause-whole : goal.returns-clause-whole
returns-clause-whole g c chunk content is known built =
    stretched_whole c.args.descriptor.now chunk content _ _ _ _ (ap (λ (n : ℕ). n - 1) c.file_size.ensures.size) c.write_at.ensures
    (λ e. c.if-chunks-height.false (c.chunks.ensures.chunks ∙ ap chunks_of is ∙ e ∙ ap (λ (h : ℕ). 2 ^ h) (sym c.height.ensures.height) ∙ sym (power_low c.height.result c.height.ensures.range)))
    is known built
