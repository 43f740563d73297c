-- Where a channel's datagrams go.
use Rattle.std.specs.Prelude.{if◌then◌else◌, Option, Some, None, unwrap_or}
use Rattle.pp_channels.specs.Seats.{is_begun}
use Rattle.pp_channels.specs.declared.channel.Channel.{Channel}
use Rattle.pp_lives.specs.Reading.{is_waiting, is_proven}
use Rattle.pp_lives.specs.declared.lives.Far.{Far}
use Rattle.pp_lives.specs.declared.lives.Greeting.{Greeting}

-- None where the seat is free, or a reply is awaited, so that the peer's number isn't known yet
abbrev pub far_of : Option Channel → Option Far
far_of None = None
far_of (Some c) = if is_waiting c then None else
    Some (record { address = c.address; number = unwrap_or c.remote 0; proven = is_proven c; begun = is_begun c.opening })

-- This peer's handshake goes to the other peer's number, or to 0 while the reply to a dial is awaited.
abbrev pub greeting_of : Option Channel → Option Greeting
greeting_of None = None
greeting_of (Some c) = Some (record { source = c.local; address = c.address; number = if is_waiting c then 0 else unwrap_or c.remote 0 })
