-- Which channels something is due on.
use Rattle.std.specs.Prelude.{ℕ, Bool, false, if◌then◌else◌, Option, Some, None}
use Rattle.pp_channels.specs.Timing.{handshake_due, is_silent}
use Rattle.pp_channels.specs.declared.channel.Channel.{Channel}

-- this peer's handshake is due on the channel of a seat
abbrev pub is_due_at : ℕ → Option Channel → Bool
is_due_at now None = false
is_due_at now (Some c) = handshake_due now c

-- nothing went there for 120 seconds
abbrev pub is_silent_at : ℕ → Option Channel → Bool
is_silent_at now None = false
is_silent_at now (Some c) = is_silent now c

-- this peer's number for the channel of a seat, where its handshake is due there
abbrev pub opening_of : ℕ → Option Channel → Option ℕ
opening_of now None = None
opening_of now (Some c) = if handshake_due now c then Some c.local else None
