use Rattle.std.proofs.Common.{sym, subst, arith, Result, Err}
use Rattle.std.proofs.lemmas.Result.{err_from_is_err_and}
use Rattle.pp_turns.specs.Turning.{post}
use Rattle.pp_playback.specs.Turns.{stand, PlaysTo, PlaysOut}
use Rattle.pp_playback.specs.declared.playing.PlayStop.{PlayStop}
use Rattle.pp_playback.proofs.playing.play_turns.Goals as goal

pub returns : goal.returns
returns g c = λ b is.
    let s = c.in_ok-begin.ensures.begins (g.L.Link.seen c.args.link.now) b is in
    (s.0, s.1, c.take_all.ensures s.0 b s.2)

pub returns-in_err-begin : goal.returns-in_err-begin
returns-in_err-begin g c =
    let p = err_from_is_err_and c.from_residual.result c.from_residual.ensures.1 in
    subst (λ (r : Result (Unit {0}) PlayStop). PlaysOut c.args.turns
    (stand (post c.args.show.now.peer (g.D.Disk.state c.args.disk.now) (g.L.Link.seen c.args.link.now)) c.args.show.now.player (g.K.Sink.state c.args.sink.now))
    (stand (post c.begin.new.peer (g.D.Disk.state c.begin.new.disk) (g.L.Link.seen c.args.link.now)) c.begin.new.player (g.K.Sink.state c.begin.new.sink)) r) (sym p.1)
    (λ b is. let s = c.in_err-begin.ensures.begins (g.L.Link.seen c.args.link.now) b is in (
      s.0,
      s.1,
      record {
        taken = 0;
        within = omega arith;
        plays = subst (λ (x : PlayStop). PlaysTo b 0 s.0 (stand (post c.begin.new.peer (g.D.Disk.state c.begin.new.disk) (g.L.Link.seen c.args.link.now)) c.begin.new.player (g.K.Sink.state c.begin.new.sink))
            (Err x)) (sym p.2) s.2;
      },
    ))
