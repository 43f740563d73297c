use Rattle.std.proofs.Common.{sym, ap, ◌∙◌, subst, Option}
use Rattle.pp_counts.specs.declared.note.Note.{Note}
use Rattle.pp_lives.specs.Arriving.{Arrives}
use Rattle.pp_seats.specs.Standing.{SeatsState}
use Rattle.pp_seats.specs.Hearing.{Prepares, Ready}
use Rattle.pp_terms.specs.format.Traffic.{Received}
use Rattle.pp_outside.specs.Outside.{address_of}
use Rattle.pp_peer.specs.Taking.{after_some}
use Rattle.pp_peer.specs.declared.parts.Parts.{Parts}
use Rattle.pp_peer.specs.Standing.{size_of}
use Rattle.pp_peer.proofs.Heard.{ok_then}
use Rattle.pp_peer.proofs.Fetched.{arrived_fetches}
use Rattle.pp_peer.proofs.Arrived.{arrival_counts, datagram_advanced, stocks_from, once_heard}
use Rattle.pp_peer.proofs.Events.{datagram_exact}
use Rattle.pp_peer.proofs.parts.Parts.take_datagram.Goals as goal

pub returns-clause-advanced : goal.returns-clause-advanced
returns-clause-advanced g c = datagram_advanced c.args.bytes.now c.args.self.now c.note.new.self c.take_arrival.new.self _ (g.D.Disk.state c.args.disk.now) (g.D.Disk.state c.take_arrival.new.disk)
    (ap (λ (p : Parts). p.holding) c.note.ensures)
    (ap (λ (p : Parts). p.counts) c.note.ensures ∙ ap (λ (o : Option Note). after_some o c.args.self.now.counts) c.note_of.ensures)
    (arrival_counts _ _ _ _ _ c.args.bytes.now c.args.self.now.counts c.arrive-arrival.result c.arrive-arrival.ensures.arrives)
    (record {
      swarm = ap (λ (p : Parts). p.seats.descriptor) c.note.ensures ∙ c.arrive-arrival.ensures.swarm;
      size = ap (λ (p : Parts). size_of p.fetching) c.note.ensures;
    }) c.take_arrival.ensures.advanced

pub returns-clause-stocks : goal.returns-clause-stocks
returns-clause-stocks g c = stocks_from c.take_arrival.result c.args.self.now c.note.new.self c.take_arrival.new.self (ap (λ (p : Parts). p.holding) c.note.ensures) c.take_arrival.ensures.stocks

pub returns-clause-readies : goal.returns-clause-readies
returns-clause-readies g c = ok_then c.take_arrival.result (λ heard x most past h.
    once_heard (λ (q : SeatsState). Ready x most q (Received c.args.at (address_of c.args.from.now) c.args.bytes.now) past) c.args.self.now.seats.descriptor c.args.bytes.now c.arrive-arrival.new.self
    c.note.new.self c.take_arrival.new.self c.arrive-arrival.result c.arrive-arrival.ensures.swarm (ap (λ (p : Parts). p.seats) c.note.ensures) c.arrive-arrival.ensures.behind heard
    (c.arrive-arrival.ensures.stands x most past h)) c.take_arrival.ensures.read

pub returns-clause-fetches : goal.returns-clause-fetches
returns-clause-fetches g c = ok_then c.take_arrival.result (λ fetches f. fetches
    (arrived_fetches c.args.self.now.seats.descriptor c.is_free-slot.result c.arrive-arrival.result c.args.self.now c.note.new.self c.args.from.now c.note.new.self.seats.moment c.args.bytes.now
    (subst (λ (p : SeatsState). Arrives c.args.self.now.seats.descriptor c.args.self.now.seats.table c.args.from.now p.moment c.args.bytes.now c.arrive-arrival.result p.table)
    (sym (ap (λ (p : Parts). p.seats) c.note.ensures)) c.arrive-arrival.ensures.arrives)
    (subst (λ (p : SeatsState). Prepares c.args.self.now.seats.descriptor c.is_free-slot.result c.arrive-arrival.result (record p { seats = c.args.self.now.seats.seats }) p)
    (sym (ap (λ (p : Parts). p.seats) c.note.ensures)) c.arrive-arrival.ensures.makes)
    (ap (λ (p : Parts). p.fetching) c.note.ensures) f)) c.take_arrival.ensures.fetches

pub returns-clause-exact : goal.returns-clause-exact
returns-clause-exact g c = datagram_exact c.take_arrival.result c.args.from.now c.args.bytes.now c.args.at c.is_free-slot.result c.arrive-arrival.result c.arrive-arrival.new.self c.note_of.result
    c.args.self.now c.note.new.self c.take_arrival.new.self c.is_free-slot.ensures c.note.ensures c.note_of.ensures c.arrive-arrival.ensures.now c.arrive-arrival.ensures.swarm
    c.arrive-arrival.ensures.arrives c.arrive-arrival.ensures.makes c.take_arrival.ensures.exact
