use Rattle.std.proofs.Common.{ℕ, codes, decimal, ◌++◌, ◌∙◌, ap}
use Rattle.pp_node.specs.Auditing.{recording_fault_line}
use Rattle.pp_node.proofs.Audits.{line_is}
use Rattle.pp_node.proofs.Lines.{says}
use Rattle.pp_node.proofs.auditing.say_line.Goals as goal

pub returns : goal.returns
returns g c =
    says (recording_fault_line c.args.line) (codes "recording: line " ++ decimal c.from.result ++ codes "\n") (g.K.Sink.state c.args.sink.now)
    (g.K.Sink.state c.put_counted.new.sink) c.put_counted.result (line_is c.from.result ∙ ap (λ (n : ℕ). recording_fault_line n) c.from.ensures)
    c.put_counted.ensures.gained c.put_counted.ensures.cause
