use Rattle.std.proofs.Common.{Some, None, get_or, ap, ◌∙◌, arith}
use Rattle.std.proofs.lemmas.List.{get_or_default}
use Rattle.std.proofs.lemmas.List.Edits.{map_over_more}
use Rattle.std.proofs.Math.ListN.{set}
use Rattle.pp_channels.specs.Seats.{after_drop}
use Rattle.pp_channels.proofs.channels.note_drop.Goals as goal

pub loop-channel-preserved : goal.loop-channel-preserved
loop-channel-preserved c =
    let old = get_or c.loop-channel.channels c.loop-channel.channel-index None in
    ap (λ channel. set c.loop-channel.channels c.loop-channel.channel-index channel) c.after_drop.ensures
    ∙ map_over_more (after_drop (Some c.args.dropped)) c.args.channels.now c.loop-channel.channels c.loop-channel.channel-index old
    c.loop-channel-test.true c.loop-channel.invariant
    (get_or_default c.loop-channel.channels c.loop-channel.channel-index None old (omega arith))
