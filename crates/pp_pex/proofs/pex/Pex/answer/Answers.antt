use Rattle.std.proofs.Common.{◌∙◌, sym, ap, subst, List}
use Rattle.pp_outside.specs.declared.link.Address.{Address}
use Rattle.pp_pex.specs.declared.table.Contact.{Contact}
use Rattle.pp_pex.specs.Exchange.{IsOnce, answers}
use Rattle.pp_pex.proofs.Distinct.{answers_once}
use Rattle.pp_pex.proofs.pex.Pex.answer.Goals as goal

pub returns-clause-once : goal.returns-clause-once
returns-clause-once c =
    let told = c.answer.ensures ∙ ap (λ (xs : List Contact). answers xs c.args.except.now c.args.now) c.deref.ensures.0 in
    subst (λ (xs : List Address). IsOnce xs) (sym told) (answers_once c.self.inside.table.items c.args.except.now c.args.now c.self.invariant.0)
