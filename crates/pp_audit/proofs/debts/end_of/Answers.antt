use Rattle.std.proofs.Common.{◌≡◌, ℕ, false, sym, ◌∙◌, ap, arith}
use Rattle.std.specs.Prelude.{slice_index_or}
use Rattle.std.proofs.lemmas.List.{get_or_past}
use Rattle.pp_recorded.specs.Entries.{past}
use Rattle.pp_audit.proofs.AlikeNumbers.{alike_same}
use Rattle.pp_audit.proofs.debts.end_of.Goals as goal

pub returns-then-at-stood-clause-alike : goal.returns-then-at-stood-clause-alike
returns-then-at-stood-clause-alike c = λ j le under.
    alike_same c.args.descriptor.now c.args.at j (past c.args.entries.now) (omega (arith, le, under))

pub returns-then-at-stood-clause-stood : goal.returns-then-at-stood-clause-stood
returns-then-at-stood-clause-stood c = λ j le under.
    ap (λ (n : ℕ). slice_index_or c.args.stood.now n false) (let e : c.args.at ≡ j = omega (arith, le, under) in e)

pub returns-else-at-stood-clause-stood : goal.returns-else-at-stood-clause-stood
returns-else-at-stood-clause-stood c = λ j le under.
    get_or_past c.args.stood.now c.args.at false c.if-at-stood.false
    ∙ sym (get_or_past c.args.stood.now j false (omega (arith, le, c.if-at-stood.false)))
