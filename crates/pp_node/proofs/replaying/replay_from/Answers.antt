use Rattle.std.proofs.Common.{◌≡◌, ◌+◌, length, refl, sym, ◌∙◌, ap, arith, codes}
use Rattle.std.specs.Prelude.{min, take}
use Rattle.pp_terms.specs.command.Report.{source_fault_line}
use Rattle.pp_world.specs.Schedule.{most_text}
use Rattle.pp_world.specs.ScheduleRead.{read_schedule}
use Rattle.pp_node.proofs.Lines.{says, source_fault_is}
use Rattle.pp_node.proofs.Replays.{ends_read, read_as}
use Rattle.pp_node.proofs.replaying.replay_from.Goals as goal

pub returns-in-Ok-clause-ends : goal.returns-in-Ok-clause-ends
returns-in-Ok-clause-ends g c =
    let size : length c.take.new.buffer ≡ most_text + 1 = c.take.auto.buffer ∙ c.requires in
    ends_read (take c.in-Ok.count c.take.new.buffer) c.play_text.result (g.S.Source.state c.args.source.now) (g.S.Source.state c.take.new.source)
    (g.K.Sink.state c.args.sink.now) (g.K.Sink.state c.play_text.new.sink) (λ content left.
    let filled = c.in-Ok.ensures.filled content left in
    read_as content c.in-Ok.count (filled.0 ∙ ap (min (length content)) size) ∙ ap read_schedule (sym filled.1)) c.play_text.ensures

pub returns-in-Ok-clause-takes : goal.returns-in-Ok-clause-takes
returns-in-Ok-clause-takes g c content left =
    let size : length c.take.new.buffer ≡ most_text + 1 = c.take.auto.buffer ∙ c.requires in
    let taken = c.in-Ok.ensures.taken content left in
    let few = taken.1 in (taken.0, omega (arith, few, size), taken.2)

pub returns-in-Err-clause-ends : goal.returns-in-Err-clause-ends
returns-in-Err-clause-ends g c = (
  c.in-Err.ensures.cause.risen refl,
  says source_fault_line (codes "source fault\n") (g.K.Sink.state c.args.sink.now) (g.K.Sink.state c.put_all.new.sink) c.put_all.result source_fault_is
      c.put_all.ensures.gained c.put_all.ensures.cause,
)

pub returns-in-Err-clause-takes : goal.returns-in-Err-clause-takes
returns-in-Err-clause-takes g c content left =
    let size : length c.take.new.buffer ≡ most_text + 1 = c.take.auto.buffer ∙ c.requires in
    let taken = c.in-Err.ensures.taken content left in
    let few = taken.1 in (taken.0, omega (arith, few, size), taken.2)
