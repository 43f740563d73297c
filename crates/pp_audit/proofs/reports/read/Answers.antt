use Rattle.std.proofs.Common.{sym, subst, Option, List, ℕ}
use Rattle.std.specs.Borrow.{Bor}
use Rattle.std.proofs.lemmas.Bool.Decides.{Decides-eqb}
use Rattle.std.proofs.lemmas.Slice.Eq.{strip_prefix_is}
use Rattle.pp_audit.specs.Reports.{left_of, Reads}
use Rattle.pp_audit.proofs.ReportTexts.{reads_some, reads_none}
use Rattle.pp_audit.proofs.reports.read.Goals as goal

pub returns-in-Some : goal.returns-in-Some
returns-in-Some c =
    subst (λ (left : Option (Bor (List ℕ))). Reads c.args.piece.now (left_of left) (left_of c.strip_prefix.result)) (sym c.in-Some.is)
    (reads_some c.args.piece.now c.in-Some.text.now c.strip_prefix.result
    (strip_prefix_is Decides-eqb c.in-Some.text.now c.args.piece.now c.strip_prefix.result c.strip_prefix.ensures.cases))

pub returns-in-None : goal.returns-in-None
returns-in-None c = rw c.in-None.is (reads_none c.args.piece.now)
