use Rattle.pp_terms.proofs.BinSpans.{leaves_of_odd}
use Rattle.pp_wire.specs.Views.{span_of}
use Rattle.pp_wire.proofs.spans.+leaves_of.Goals as goal

pub returns-clause-leaves : goal.returns-clause-leaves
returns-clause-leaves t c =
    λ bits low. leaves_of_odd bits c.args.bin (span_of c.leaves_of-half.result) c.if-bin-eq0.false low c.leaves_of-half.ensures.leaves
