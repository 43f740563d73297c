use Rattle.std.proofs.Common.{◌∙◌, sym}
use Rattle.std.proofs.lemmas.List.{get_or_past}
use Rattle.pp_terms.specs.tree.Tree.{empty_hash}
use Rattle.pp_tree.proofs.Layers.{zeros_empty}
use Rattle.pp_tree.proofs.content.digest_or_empty.Goals as goal

pub returns-else-i-layer : goal.returns-else-i-layer
returns-else-i-layer c =
    c.new.ensures.same ∙ zeros_empty ∙ sym (get_or_past c.args.layer.now c.args.i empty_hash c.if-i-layer.false)
