use Rattle.std.proofs.Common.{not, ◌||◌, sym, ◌∙◌}
use Rattle.pp_traffic.specs.Meter.{lets_send}
use Rattle.pp_promises.specs.Served.{LeavesFew}
use Rattle.pp_recorded.specs.Entries.{past}
use Rattle.pp_audit.specs.Asks.{may_be_served}
use Rattle.pp_audit.specs.Channels.{each_plain}
use Rattle.pp_audit.specs.Debts.{leaves_few}
use Rattle.pp_audit.specs.declared.debts.Debt.TheVariants as debts
use Rattle.pp_audit.proofs.ServedTests.{serves_decided}
use Rattle.pp_audit.proofs.TurnEnds.{ends_decided}
use Rattle.pp_audit.proofs.served.serves_but.Goals as goal

pub returns : goal.returns
returns c = λ h is.
    let d = c.args.descriptor.now in
    let r = c.args.refusals in
    let stood = c.args.stood.now in
    let exact = ends_decided d (λ past. each_plain (λ life. not (may_be_served d past life) || leaves_few r debts.Owed stood d past life) d past)
    (LeavesFew r d (lets_send d.chunk) h) (λ past. serves_decided r d h stood is past) r (past c.args.entries.now) in
    (λ e. exact.0 (sym c.fails_few.ensures ∙ e), λ but. c.fails_few.ensures ∙ exact.1 but)
