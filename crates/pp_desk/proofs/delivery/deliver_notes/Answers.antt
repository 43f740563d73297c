use Rattle.std.proofs.Common.{◌∙◌, ◌-◌, length, take, drop, arith}
use Rattle.std.proofs.lemmas.List.{length-take, length-drop}
use Rattle.pp_desk.proofs.Delivering.{rest_of, delivers_more, delivers_all, follow_chunks, counted_sum}
use Rattle.pp_desk.proofs.delivery.deliver_notes.Goals as goal

pub loop-from-preserved : goal.loop-from-preserved
loop-from-preserved g c =
    let notes = c.args.outgoing.now.notes.now in
    let from = c.loop-from.from in
    let rest = take (length notes - from) (drop from notes) in
    let count = c.post-posted.result.count in
    let within = c.post-posted.ensures.packs.within in
    let some = c.post-posted.ensures.packs.some in
    let more = counted_sum c.post-posted.result.sent (take count rest) c.loop-from.so_far c.follow-so_far.result c.follow-so_far.ensures.counted in
    record {
      within = omega (arith, within, c.loop-from.invariant.within, length-drop from notes, length-take (length notes - from) (drop from notes));
      few = omega (arith, some, more, c.loop-from.invariant.few);
      chunks = follow_chunks c.args.outgoing.now.sent_at c.loop-from.so_far.set_back c.post-posted.result.sent (take count rest) c.loop-from.seat c.follow-so_far.new.seat
          c.follow-so_far.ensures.follows ∙ c.loop-from.invariant.chunks;
      size = c.post-posted.auto.out ∙ c.loop-from.invariant.size;
      delivers = delivers_more _ notes rest from count c.post-posted.result.sent _ _ _
          (rest_of notes from) c.loop-from.invariant.delivers c.post-posted.ensures c.follow-so_far.ensures.follows c.follow-so_far.ensures.counted;
    }

pub returns : goal.returns
returns g c = record {
  delivers = delivers_all _ c.args.outgoing.now.notes.now c.loop-from.from _ _ (omega (arith, c.loop-from-test.false)) c.loop-from.invariant.delivers;
  few = omega (arith, c.loop-from.invariant.few, c.loop-from.invariant.within);
  content = c.loop-from.invariant.chunks;
}
