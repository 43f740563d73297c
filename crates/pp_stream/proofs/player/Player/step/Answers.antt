use Rattle.std.proofs.Common.{◌≤◌, subst, refl}
use Rattle.std.proofs.lemmas.Result.{err_from_is_err_and}
use Rattle.pp_terms.specs.format.Descriptor.{IsDescriptor}
use Rattle.pp_stream.specs.Player.{Feed, feed}
use Rattle.pp_stream.proofs.Steps.{puts_none, rest_same, taken_more, taken_off, taken_stopped}
use Rattle.pp_stream.proofs.player.Player.step.Goals as goal

pub loop-self-init : goal.loop-self-init
loop-self-init g c = record {
  put = puts_none c.args.peer.now.parts.holding (feed c.args.self.now (g.D.Disk.state c.args.disk.now) (g.K.Sink.state c.args.sink.now))
      (feed c.args.self.now (g.D.Disk.state c.args.disk.now) (g.K.Sink.state c.args.sink.now)) (subst (λ n. c.args.self.now.base ≤ n) c.requires c.base.ensures.within) refl refl;
  rest = rest_same (feed c.args.self.now (g.D.Disk.state c.args.disk.now) (g.K.Sink.state c.args.sink.now)) c.base.ensures.within;
}

pub returns-in_err-put_next : goal.returns-in_err-put_next
returns-in_err-put_next g c =
    let p = err_from_is_err_and c.from_residual.result c.from_residual.ensures.1 in
    let old : Feed = feed c.args.self.now (g.D.Disk.state c.args.disk.now) (g.K.Sink.state c.args.sink.now) in
    let mid : Feed = feed c.loop-self.self (g.D.Disk.state c.loop-self.disk) (g.K.Sink.state c.loop-self.sink) in
    let new : Feed = feed c.put_next.new.self (g.D.Disk.state c.put_next.new.disk) (g.K.Sink.state c.put_next.new.sink) in
    rw (p.1, p.2) (taken_stopped c.args.peer.now.parts.holding old mid new (subst IsDescriptor c.descriptor.ensures c.chunk.ensures.valid)
    c.loop-self.invariant.put c.loop-self.invariant.rest c.in_err-put_next.field-0.0 c.in_err-put_next.ensures)

pub returns-then-not-branch : goal.returns-then-not-branch
returns-then-not-branch g c =
    let old : Feed = feed c.args.self.now (g.D.Disk.state c.args.disk.now) (g.K.Sink.state c.args.sink.now) in
    let mid : Feed = feed c.loop-self.self (g.D.Disk.state c.loop-self.disk) (g.K.Sink.state c.loop-self.sink) in
    let new : Feed = feed c.put_next.new.self (g.D.Disk.state c.put_next.new.disk) (g.K.Sink.state c.put_next.new.sink) in
    taken_off c.args.peer.now.parts.holding old mid new (subst IsDescriptor c.descriptor.ensures c.chunk.ensures.valid)
    c.loop-self.invariant.put c.loop-self.invariant.rest c.in_ok-put_next.field-0 c.in_ok-put_next.ensures c.if-not-branch.true

pub loop-self-preserved : goal.loop-self-preserved
loop-self-preserved g c =
    let old : Feed = feed c.args.self.now (g.D.Disk.state c.args.disk.now) (g.K.Sink.state c.args.sink.now) in
    let mid : Feed = feed c.loop-self.self (g.D.Disk.state c.loop-self.disk) (g.K.Sink.state c.loop-self.sink) in
    let new : Feed = feed c.put_next.new.self (g.D.Disk.state c.put_next.new.disk) (g.K.Sink.state c.put_next.new.sink) in
    let more = taken_more c.args.peer.now.parts.holding old mid new (subst IsDescriptor c.descriptor.ensures c.chunk.ensures.valid)
    c.loop-self.invariant.put c.loop-self.invariant.rest c.in_ok-put_next.field-0 c.in_ok-put_next.ensures c.if-not-branch.false in
    record { put = more.0; rest = more.1 }
