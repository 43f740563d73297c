use Rattle.std.proofs.Common.{None, sym, ◌∙◌, ap}
use Rattle.std.specs.Prelude.{is_some}
use Rattle.pp_requests.proofs.Chunks.{asked_some, changed_moment}
use Rattle.pp_requests.proofs.asking.Asked.withdraw.Goals as goal

pub returns-clause-was : goal.returns-clause-was
returns-clause-was c = c.is_some.ensures ∙ ap (λ o. is_some o) c.take_out.ensures.entry ∙ sym (asked_some c.args.self.now c.args.i)

pub returns-clause-taken : goal.returns-clause-taken
returns-clause-taken c = changed_moment c.args.i None c.args.self.now _ c.take_out.ensures.taken
