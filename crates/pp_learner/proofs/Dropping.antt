-- Channels whose time is over.
use Rattle.std.proofs.Common.{◌≡◌, ℕ, ◌<◌, Option, Some, None, List, ◌∷◌, refl, sym, ap, subst, arith}
use Rattle.std.specs.Prelude.{IsSome, position}
use Rattle.pp_channels.specs.Seats.{Seats, IsUsedSeat, channel_at, closed, used_of}
use Rattle.pp_channels.specs.Timing.{is_over}
use Rattle.pp_channels.specs.declared.channel.Channel.{Channel}
use Rattle.pp_channels.proofs.Seating.{used_less}
use Rattle.pp_lives.proofs.Changing.{within}
use Rattle.pp_learner.specs.Dialling.{Drops}

some_there : (o : Option Channel) → IsSome o → (c : Channel) × (o ≡ Some c)
some_there None used = absurd cc
some_there (Some c) used = (c, refl)

-- a channel fewer is in use
pub fewer : (t new : Seats) (seat : ℕ) → IsUsedSeat t seat → new ≡ closed t seat → used_of new < used_of t
fewer t new seat used is =
    let there = some_there (channel_at t seat) used.1 in
    let less = used_less t seat there.0 there.1 (within t.channels seat there.0 there.1) in
    omega (arith, less, ap used_of is)

-- all that is dropped later is dropped with one that was dropped first
pub drops_first : (now seat : ℕ) (old mid new : Seats) (seats : List ℕ) → Some seat ≡ position (is_over now) old.channels → mid ≡ closed old seat
    → Drops now seats mid new → Drops now (seat ∷ seats) old new
drops_first now seat old mid new seats first is drops = (sym first, subst (λ (t : Seats). Drops now seats t new) is drops)
