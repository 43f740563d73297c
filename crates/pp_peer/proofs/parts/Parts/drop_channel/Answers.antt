use Rattle.std.proofs.Common.{refl, ap, ◌∙◌, subst}
use Rattle.pp_channels.specs.Seats.{channel_at}
use Rattle.pp_seats.specs.Standing.{SeatsState}
use Rattle.pp_peer.specs.Greeting.{Clears}
use Rattle.pp_peer.proofs.Heard.{closed_free, cleared_so}
use Rattle.pp_peer.proofs.parts.Parts.drop_channel.Goals as goal

pub clear_seat-requires-clause-free : goal.clear_seat-requires-clause-free
clear_seat-requires-clause-free c = ap (λ (p : SeatsState). channel_at p.table c.args.seat) c.close.ensures ∙ closed_free c.args.self.now.seats.table c.args.seat c.requires.1

pub returns-clause-closes : goal.returns-clause-closes
returns-clause-closes c = cleared_so c.args.seat c.args.self.now _ c.clear_seat.new.self c.close.new.self refl c.close.ensures c.clear_seat.ensures

pub returns-clause-shuts : goal.returns-clause-shuts
returns-clause-shuts c = subst (λ (p : SeatsState). Clears c.args.seat (record c.args.self.now { seats = p }) c.clear_seat.new.self) c.close.ensures c.clear_seat.ensures
