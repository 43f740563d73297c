use Rattle.std.proofs.Common.{leb, not, ◌||◌, sym, ◌∙◌}
use Rattle.pp_traffic.specs.Asking.{is_heard}
use Rattle.pp_promises.specs.Announced.{fewest_new, new_count, TellsOfHeld}
use Rattle.pp_recorded.specs.Entries.{past}
use Rattle.pp_audit.specs.Channels.{each_plain}
use Rattle.pp_audit.specs.Debts.{leaves_few}
use Rattle.pp_audit.specs.declared.debts.Debt.TheVariants as debts
use Rattle.pp_audit.proofs.ServedTests.{tells_decided}
use Rattle.pp_audit.proofs.TurnEnds.{ends_decided}
use Rattle.pp_audit.proofs.announced.tells_all.Goals as goal

pub returns : goal.returns
returns c = λ h is.
    let d = c.args.descriptor.now in
    let stood = c.args.stood.now in
    let exact = ends_decided d
    (λ past. each_plain (λ life. not (is_heard d life past) || (leaves_few 0 debts.Untold stood d past life || leb fewest_new (new_count d life past))) d past)
    (TellsOfHeld d h) (λ past. tells_decided d h stood is past) 0 (past c.args.entries.now) in
    (λ e. exact.0 (sym c.fails_few.ensures ∙ e), λ all. c.fails_few.ensures ∙ exact.1 all)
