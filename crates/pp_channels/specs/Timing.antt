-- The timers of a channel, in microseconds: those of this profile.
use Rattle.std.specs.Prelude.{ℕ, ◌-◌, ◌==◌, nat_le, nat_lt, Bool, true, false, ◌&&◌, ◌||◌, Option, Some, None}
use Rattle.pp_channels.specs.declared.channel.State.{State}
use Rattle.pp_channels.specs.declared.channel.State.TheVariants.{Greeted, Proven}
use Rattle.pp_channels.specs.declared.channel.Reply.{Reply}
use Rattle.pp_channels.specs.declared.channel.Reply.TheVariants.{Due, Sent, DueAgain}
use Rattle.pp_channels.specs.declared.channel.Opening.{Opening}
use Rattle.pp_channels.specs.declared.channel.Opening.TheVariants.{Dialled, Answered}
use Rattle.pp_channels.specs.declared.channel.Channel.{Channel}
use Rattle.pp_channels.specs.Seats.{is_dialled}

-- A handshake is due so long after the channel was made: of a dialled one the first at once, the second after 3 seconds, the third
-- after 6; of an answered one the reply, until it is sent.
abbrev pub is_due : Reply → Bool
is_due Due = true
is_due Sent = false
is_due DueAgain = true

abbrev pub is_opening_due : Opening → ℕ → Bool
is_opening_due (Dialled handshakes) age =
    (handshakes == 0) || (handshakes == 1 && nat_le 3_000_000 age) || (handshakes == 2 && nat_le 6_000_000 age)
is_opening_due (Answered at) age = is_due at

abbrev pub is_greeted : State → Bool
is_greeted Greeted = true
is_greeted Proven = false

abbrev pub handshake_due : ℕ → Channel → Bool
handshake_due moment c = is_greeted c.state && is_opening_due c.opening (moment - c.made)

-- A dialled channel is young for 15 seconds. Its peer drops it ten seconds after the handshake that made it, which may be the last of
-- three, unless a datagram comes behind the reply.
abbrev pub is_young : ℕ → Channel → Bool
is_young moment c = is_dialled c.opening && nat_lt (moment - c.made) 15_000_000

-- nothing went for 120 seconds; or for 3 on a channel that is young
abbrev pub is_silent : ℕ → Channel → Bool
is_silent moment c = nat_le 120_000_000 (moment - c.wrote) || (is_young moment c && nat_le 3_000_000 (moment - c.wrote))

-- The time of a channel is over: 10 seconds after it was made where it is Greeted, 180 seconds after something last came
-- where it is Proven.
abbrev pub is_over_in : State → ℕ → Channel → Bool
is_over_in Greeted moment c = nat_le 10_000_000 (moment - c.made)
is_over_in Proven moment c = nat_le 180_000_000 (moment - c.heard)

abbrev pub is_over : ℕ → Option Channel → Bool
is_over moment None = false
is_over moment (Some c) = is_over_in c.state moment c
