use Rattle.std.proofs.Common.{List, drop, length, sym, ◌∙◌, ap, arith}
use Rattle.pp_terms.specs.format.Messages.{Message}
use Rattle.pp_recorded.proofs.Messages.{rest_end}
use Rattle.pp_recorded.proofs.records.second_place.Goals as goal

pub returns-in-None-clause-rest : goal.returns-in-None-clause-rest
returns-in-None-clause-rest c =
    rest_end c.args.descriptor.now c.args.bytes.now (length c.args.bytes.now) (omega arith)
    ∙ sym (ap (λ (ms : List Message). drop 1 ms) (c.first_place.ensures.all c.args.descriptor.now ∙ c.in-None.ensures))
