use Rattle.pp_node.proofs.Recordings.{life_taped}
use Rattle.pp_node.proofs.recording.record_text.Goals as goal

pub returns-in-Ok : goal.returns-in-Ok
returns-in-Ok g c =
    life_taped c.args.text.now c.args.peer c.args.life c.in-Ok.outcome c.in-Ok.ensures c.put_life.result (g.K.Sink.state c.args.sink.now)
    (g.K.Sink.state c.put_life.new.sink) c.put_life.ensures
