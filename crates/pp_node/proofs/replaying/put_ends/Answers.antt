use Rattle.std.proofs.Common.{◌≡◌, ℕ, suc, ◌+◌, ◌<◌, ◌≤◌, List, [], ◌∷◌, ◌++◌, length, sym, ◌∙◌, ap, subst, arith}
use Rattle.std.proofs.Math.Seq.{take-suc}
use Rattle.std.proofs.lemmas.List.{length-take-le, take_all}
use Rattle.std.specs.Prelude.{take}
use Rattle.pp_outcome.specs.declared.outcome.PeerEnd.{PeerEnd}
use Rattle.pp_node.specs.Shown.{HasLine, HasLines}
use Rattle.pp_node.proofs.Replays.{ArePut, at_index, put_more, put_none}
use Rattle.pp_node.proofs.replaying.put_ends.Goals as goal

pub loop-peer-init : goal.loop-peer-init
loop-peer-init g c = put_none (g.K.Sink.state c.args.sink.now)

pub put_end-requires : goal.put_end-requires
put_end-requires g c = sym (at_index c.args.chunks c.args.ends.now c.loop-peer.peer c.index-ends-peer.result c.requires c.loop-peer-test.true c.index-ends-peer.is)

pub loop-peer-preserved : goal.loop-peer-preserved
loop-peer-preserved g c =
    let peer : ℕ = c.loop-peer.peer in
    let end : PeerEnd = c.index-ends-peer.result in
    let less : peer < length c.args.ends.now = c.loop-peer-test.true in
    let within : peer ≤ length c.args.ends.now = omega (arith, less) in
    let size : length (take peer c.args.ends.now) ≡ peer = length-take-le peer c.args.ends.now within in
    let next : peer + 1 ≡ suc peer = omega arith in
    let more : take (peer + 1) c.args.ends.now ≡ take peer c.args.ends.now ++ end ∷ [] =
    ap (λ (k : ℕ). take k c.args.ends.now) next ∙ take-suc c.args.ends.now peer end less
    ∙ ap (λ (e : PeerEnd). take peer c.args.ends.now ++ e ∷ []) (sym c.index-ends-peer.is) in
    subst (λ (es : List PeerEnd). ArePut es (g.K.Sink.state c.args.sink.now) (g.K.Sink.state c.put_end.new.sink)) (sym more)
    (put_more (take peer c.args.ends.now) end (g.K.Sink.state c.args.sink.now) (g.K.Sink.state c.loop-peer.sink) (g.K.Sink.state c.put_end.new.sink) c.loop-peer.invariant
    (subst (λ (n : ℕ). HasLine n end (g.K.Sink.state c.loop-peer.sink) (g.K.Sink.state c.put_end.new.sink)) (sym size) c.in_ok-put_end.ensures.said)
    c.in_ok-put_end.ensures.cause.later)

pub returns-clause-said : goal.returns-clause-said
returns-clause-said g c =
    subst (λ (es : List PeerEnd). HasLines es (g.K.Sink.state c.args.sink.now) (g.K.Sink.state c.loop-peer.sink))
    (take_all c.loop-peer.peer c.args.ends.now c.loop-peer-test.false) c.loop-peer.invariant.put
