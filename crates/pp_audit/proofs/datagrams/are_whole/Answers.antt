use Rattle.std.proofs.Common.{◌∙◌, sym, ap, List}
use Rattle.std.specs.List.{list_all}
use Rattle.pp_terms.specs.format.Traffic.{Record}
use Rattle.pp_recorded.specs.Entries.{past}
use Rattle.pp_recorded.specs.Faults.{is_whole}
use Rattle.pp_recorded.proofs.Pasts.{first_all}
use Rattle.pp_recorded.proofs.FaultSteps.{whole_decided}
use Rattle.pp_audit.proofs.datagrams.are_whole.Goals as goal

pub returns : goal.returns
returns c =
    let d = c.args.descriptor.now in
    let same = c.loop-entry.invariant ∙ ap (λ (rs : List Record). list_all (is_whole d) rs) (first_all c.args.entries.now c.loop-entry.entry-index c.loop-entry-test.false) in
    let exact = whole_decided d (past c.args.entries.now) in
    (λ e. exact.0 (sym same ∙ e), λ all. same ∙ exact.1 all)
