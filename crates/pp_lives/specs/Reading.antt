-- Which records open a channel and prove it, and when nothing was said on it yet.
use Rattle.std.specs.Prelude.{Bool, true, false, not, ◌&&◌, if◌then◌else◌, List, [], ◌∷◌}
use Rattle.pp_terms.specs.format.Traffic.{Record}
use Rattle.pp_terms.specs.format.Descriptor.{Descriptor}
use Rattle.pp_traffic.specs.Life.{Life, greets, answers, comes_on, shakes_on}
use Rattle.pp_traffic.specs.Story.{Line, Heard, Said, Taken}
use Rattle.pp_channels.specs.Seats.{is_dialled}
use Rattle.pp_channels.specs.Timing.{is_greeted}
use Rattle.pp_channels.specs.declared.channel.Channel.{Channel}

-- the handshake that opens the channel: this peer's where it dialled, else the other one's
abbrev pub opens : Descriptor → Life → Record → Bool
opens d life r = if life.is_dialled then answers d life r else greets d life r

-- a datagram that proves it: where this peer dialled, one for its number that begins with a handshake
abbrev pub shows : Descriptor → Life → Record → Bool
shows d life r = if life.is_dialled then shakes_on d life r else comes_on d life r

-- no message was heard or said
abbrev pub is_blank : List Line → Bool
is_blank [] = true
is_blank (Heard now m ∷ before) = false
is_blank (Said now m ∷ before) = false
is_blank (Taken now ∷ before) = is_blank before

-- ---- how far a channel has come

-- a datagram came to its number
abbrev pub is_proven : Channel → Bool
is_proven c = not (is_greeted c.state)

-- this peer dialled, and the reply hasn't come
abbrev pub is_waiting : Channel → Bool
is_waiting c = is_dialled c.opening && is_greeted c.state
