use Rattle.std.proofs.Common.{◌∙◌, ap, List}
use Rattle.std.specs.List.{list_any}
use Rattle.std.proofs.Common.{◌==◌}
use Rattle.pp_requests.specs.declared.asking.Asking.{Asking}
use Rattle.pp_requests.proofs.Entries.{any_asked}
use Rattle.pp_requests.proofs.asking.Asked.contains.Goals as goal

pub returns : goal.returns
returns c =
    c.holds.ensures ∙ ap (λ (xs : List Asking). list_any (λ x. x.chunk == c.args.i) xs) (c.deref.ensures.0 ∙ c.self.view_is)
    ∙ any_asked c.args.self.now c.args.i
