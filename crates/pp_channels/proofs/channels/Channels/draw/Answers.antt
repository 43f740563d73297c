use Rattle.std.proofs.Common.{◌≡◌, false, sym, subst}
use Rattle.std.specs.Prelude.{IsSome}
use Rattle.rand_chacha.specs.ChaCha.{next_word}
use Rattle.pp_channels.specs.Seats.{Seats, at_seat, has_local, number_from, free_seat}
use Rattle.pp_channels.proofs.channels.Channels.draw.Goals as goal

pub draw-requires-clause-free : goal.draw-requires-clause-free
draw-requires-clause-free c = rw c.deref.ensures.value (subst (λ (s : Seats). IsSome (free_seat s)) (sym c.self.view_is) c.requires)

pub returns-clause-number : goal.returns-clause-number
returns-clause-number c =
    subst (λ (s : Seats). c.draw.result ≡ number_from s.channels (next_word 10 s.numbers).0) c.self.view_is
    (rw c.deref.ensures.value at c.draw.ensures.number)

pub returns-clause-alone : goal.returns-clause-alone
returns-clause-alone c = λ seat.
    subst (λ (s : Seats). has_local c.draw.result (at_seat s.channels seat) ≡ false) c.self.view_is
    (rw c.deref.ensures.value at (c.draw.ensures.alone seat))
