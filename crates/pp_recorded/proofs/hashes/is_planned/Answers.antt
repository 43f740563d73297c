use Rattle.std.proofs.Common.{List, Option, ◌∙◌, ap}
use Rattle.pp_terms.specs.tree.Range.{Span}
use Rattle.pp_recorded.specs.Plans.{is_end}
use Rattle.pp_recorded.proofs.HashSpans.{end_is}
use Rattle.pp_recorded.proofs.hashes.is_planned.Goals as goal

pub returns-in-Some : goal.returns-in-Some
returns-in-Some c =
    end_is c.args.descriptor.now c.args.bytes.now c.in-Some.more c.next_hash.result c.is_none.result c.next_hash.ensures c.is_none.ensures
    ∙ ap (λ (o : Option (List Span)). is_end o) c.in-Some.ensures.spans
