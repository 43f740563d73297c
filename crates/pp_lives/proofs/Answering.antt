-- A reply, by what came of it.
use Rattle.std.proofs.Common.{◌≡◌, ℕ, true, List, ◌∷◌}
use Rattle.pp_terms.specs.format.Descriptor.{Descriptor}
use Rattle.pp_terms.specs.format.Options.{Options}
use Rattle.pp_terms.specs.format.Messages.{Message, Handshake}
use Rattle.pp_traffic.specs.Life.{fits}
use Rattle.pp_outside.specs.declared.link.Address.{Address}
use Rattle.pp_channels.specs.Seats.{Seats}
use Rattle.pp_lives.specs.Arriving.{contents, Answers, Awaited}
use Rattle.pp_lives.specs.declared.arriving.Arrival.{Arrival}
use Rattle.pp_lives.specs.declared.arriving.Arrival.TheVariants as arrivals

pub awaited_answer : (d : Descriptor) (t : Seats) (seat : ℕ) (sender : Address) (now : ℕ) (bytes : List ℕ) (source : ℕ) (options : Options) (rest : List Message) (result : Arrival) (new : Seats)
    → (contents d bytes).read ≡ Handshake source options ∷ rest → Answers t seat sender now source (fits d true options) result new → Awaited d t seat sender now bytes result new
awaited_answer d t seat sender now bytes source options rest (arrivals.NoReply k) new first does = absurd does
awaited_answer d t seat sender now bytes source options rest (arrivals.Cut k) new first does = absurd does
awaited_answer d t seat sender now bytes source options rest (arrivals.Differs k) new first does = record { source = source; options = options; rest = rest; first = first; does = does }
awaited_answer d t seat sender now bytes source options rest (arrivals.Given k) new first does = record { source = source; options = options; rest = rest; first = first; does = does }
awaited_answer d t seat sender now bytes source options rest (arrivals.Replied k) new first does = record { source = source; options = options; rest = rest; first = first; does = does }
awaited_answer d t seat sender now bytes source options rest result new first does = record { source = source; options = options; rest = rest; first = first; does = does }
