use Rattle.std.proofs.Common.{◌≡◌, ◌+◌, length, take, refl, ◌∙◌, ap, codes}
use Rattle.std.specs.Prelude.{min}
use Rattle.pp_terms.specs.command.Report.{source_fault_line}
use Rattle.pp_recording.specs.Recording.{most_text}
use Rattle.pp_node.proofs.Audits.{audits_read, taken_text}
use Rattle.pp_node.proofs.Lines.{says, source_fault_is}
use Rattle.pp_node.proofs.auditing.audit_from.Goals as goal

pub returns-in-Ok-clause-ends : goal.returns-in-Ok-clause-ends
returns-in-Ok-clause-ends g c =
    let size : length c.take.new.buffer ≡ most_text + 1 = c.take.auto.buffer ∙ c.requires in
    audits_read (take c.in-Ok.count c.take.new.buffer) c.audit_text.result (g.S.Source.state c.args.source.now) (g.S.Source.state c.take.new.source)
    (g.K.Sink.state c.args.sink.now) (g.K.Sink.state c.audit_text.new.sink) (λ content left.
    let filled = c.in-Ok.ensures.filled content left in
    taken_text content c.in-Ok.count (take c.in-Ok.count c.take.new.buffer) (filled.0 ∙ ap (min (length content)) size) filled.1) c.audit_text.ensures

pub returns-in-Err-clause-ends : goal.returns-in-Err-clause-ends
returns-in-Err-clause-ends g c = (
  c.in-Err.ensures.cause.risen refl,
  says source_fault_line (codes "source fault\n") (g.K.Sink.state c.args.sink.now) (g.K.Sink.state c.put_all.new.sink) c.put_all.result source_fault_is
      c.put_all.ensures.gained c.put_all.ensures.cause,
)
