use Rattle.std.proofs.Common.{◌∙◌, sym}
use Rattle.pp_promises.specs.Answered.{LetsIn}
use Rattle.pp_recorded.specs.Entries.{past}
use Rattle.pp_audit.specs.Clauses.{lets_in_last}
use Rattle.pp_audit.proofs.TurnEnds.{ends_decided}
use Rattle.pp_audit.proofs.answered.lets_in_but.Goals as goal

pub returns : goal.returns
returns c =
    let exact = ends_decided c.args.descriptor.now (lets_in_last c.args.descriptor.now) (LetsIn c.args.descriptor.now) (λ past. (λ e. e, λ e. e)) c.args.refusals (past c.args.entries.now) in
    (λ e. exact.0 (sym c.fails_few.ensures ∙ e), λ is. c.fails_few.ensures ∙ exact.1 is)
