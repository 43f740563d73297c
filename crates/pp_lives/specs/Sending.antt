-- The seats after this peer sent a datagram.
use Rattle.std.specs.Prelude.{ℕ, Bool, true, false}
use Rattle.pp_channels.specs.Seats.{Seats, changed, with_handshake}

-- a datagram was sent on a channel, which began with a handshake or didn't
abbrev pub with_datagram : Seats → ℕ → Bool → ℕ → Seats
with_datagram t seat true now = changed (changed t seat (λ c. record c { wrote = now })) seat
    (λ c. record c { opening = with_handshake c.opening })
with_datagram t seat false now = changed t seat (λ c. record c { wrote = now })
