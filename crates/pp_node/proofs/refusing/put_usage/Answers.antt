use Rattle.pp_words.specs.Views.{usage_of}
use Rattle.pp_node.proofs.Lines.{usage_said}
use Rattle.pp_node.proofs.refusing.put_usage.Goals as goal

pub returns-clause-gained : goal.returns-clause-gained
returns-clause-gained g c =
    usage_said (usage_of c.args.usage) _ _ _ c.put_kind.result c.in_ok-put_counted.ensures.gained c.put_kind.ensures.gained
