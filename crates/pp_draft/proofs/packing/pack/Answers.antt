use Rattle.std.proofs.Common.{◌∙◌, arith}
use Rattle.pp_draft.proofs.Filling.{packs_filled}
use Rattle.pp_draft.proofs.packing.pack.Goals as goal

pub returns-clause-packs : goal.returns-clause-packs
returns-clause-packs c =
    packs_filled c.args.descriptor.now c.args.channel c.args.notes.now c.begin-begun.result c.fill.result.count c.fill.result.end c.begin-begun.new.out c.fill.new.out
    (omega (arith, c.chunk-chunk.ensures.chunk, c.chunk-chunk.ensures.range.0)) (omega arith) (λ i. omega (arith, c.type_inv.out i)) (c.fill.auto.out ∙ c.begin-begun.auto.out ∙ c.requires.room)
    c.requires.some c.begin-begun.ensures.ends (c.begin-begun.ensures.front c.args.descriptor.now) c.fill.ensures
