use Rattle.pp_node.proofs.Lines.{says}
use Rattle.pp_node.proofs.NamedFetches.{first_is_missing}
use Rattle.pp_node.proofs.named_fetching.report_nothing.Goals as goal

pub returns-in-Ok : goal.returns-in-Ok
returns-in-Ok g c = record {
  between = g.K.Sink.state c.put_nothing.new.sink;
  reported = c.in-Ok.ensures.said;
  said = says _ _ _ _ c.put_all.result first_is_missing c.put_all.ensures.gained c.put_all.ensures.cause;
}
