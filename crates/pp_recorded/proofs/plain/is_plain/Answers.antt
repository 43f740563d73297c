use Rattle.std.proofs.Common.{sym, ◌∙◌}
use Rattle.pp_recorded.specs.Entries.{past, life_of}
use Rattle.pp_recorded.proofs.PlainParts.{plain_is_tested}
use Rattle.pp_recorded.proofs.plain.is_plain.Goals as goal

pub returns-clause-exact : goal.returns-clause-exact
returns-clause-exact c =
    let exact = plain_is_tested c.args.descriptor.now (life_of c.args.life) (past c.args.entries.now) (past c.args.entries.now) in
    (λ e. exact.0 (sym c.is_plain_by.ensures ∙ e), λ is. c.is_plain_by.ensures ∙ exact.1 is)
