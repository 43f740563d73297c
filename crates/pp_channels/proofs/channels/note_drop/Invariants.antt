use Rattle.std.proofs.Common.{◌≡◌, ◌++◌, Some, take, drop}
use Rattle.std.specs.Prelude.{map}
use Rattle.pp_channels.specs.Seats.{after_drop}
use Rattle.pp_channels.proofs.channels.note_drop.Given as goal

abbrev pub invariant-loop-channel : goal.invariant-loop-channel
invariant-loop-channel l =
    l.channels ≡ map (after_drop (Some l.dropped)) (take l.channel-index l.initial.channels) ++ drop l.channel-index l.initial.channels
