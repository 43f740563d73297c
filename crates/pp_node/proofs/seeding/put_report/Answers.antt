use Rattle.std.proofs.Common.{◌∙◌, ap, subst, OnOk}
use Rattle.pp_terms.specs.command.Stream.{Gains}
use Rattle.pp_terms.specs.command.Tally.{Tally, tally_text}
use Rattle.pp_counts.specs.Counts.{tally_of}
use Rattle.pp_counts.specs.declared.counts.Counts.{Counts}
use Rattle.pp_node.specs.Tallies.{total_of}
use Rattle.pp_node.proofs.Seeds.{report_said}
use Rattle.pp_node.proofs.seeding.put_report.Goals as goal

pub returns-in-Some-clause-said : goal.returns-in-Some-clause-said
returns-in-Some-clause-said g c = rw c.in-Some.is
    (report_said _ _ _ _ _ c.put_counts.result (rw c.committed.ensures at c.in_ok-put_held.ensures.said)
    (subst (λ (t : Tally). OnOk c.put_counts.result (Gains (g.K.Sink.state c.put_held.new.sink).taken (tally_text t) (g.K.Sink.state c.put_counts.new.sink).taken))
    (c.total.ensures ∙ ap (λ (k : Counts). total_of (tally_of c.in-Some.counts.now) (tally_of k)) c.counts.ensures) c.put_counts.ensures.gained))

pub returns-in-None-clause-said : goal.returns-in-None-clause-said
returns-in-None-clause-said g c = rw c.in-None.is
    (report_said _ _ _ _ _ c.put_counts-in-None.result (rw c.committed.ensures at c.in_ok-put_held.ensures.said) (rw c.counts-in-None.ensures at c.put_counts-in-None.ensures.gained))
