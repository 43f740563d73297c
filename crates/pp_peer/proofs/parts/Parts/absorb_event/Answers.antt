use Rattle.std.proofs.Common.{refl, ap}
use Rattle.pp_peer.proofs.Fetched.{looked_fetches}
use Rattle.pp_seats.specs.Standing.{SeatsState}
use Rattle.pp_peer.specs.Absorbing.{is_quiet}
use Rattle.pp_peer.proofs.Arrived.{settled_advanced, timed}
use Rattle.pp_peer.proofs.Events.{absorbed_exact}
use Rattle.pp_peer.proofs.parts.Parts.absorb_event.Goals as goal

pub returns-in_err-settle-clause-advanced : goal.returns-in_err-settle-clause-advanced
returns-in_err-settle-clause-advanced g c = settled_advanced _ c.args.self.now c.take_event.new.self _ c.settle.new.self (g.D.Disk.state c.args.disk.now) (g.D.Disk.state c.take_event.new.disk)
    (g.D.Disk.state c.settle.new.disk) c.take_event.ensures.advanced refl c.settle.ensures.advances refl (record { swarm = refl; size = refl })

pub returns-clause-advanced : goal.returns-clause-advanced
returns-clause-advanced g c = settled_advanced _ c.args.self.now c.take_event.new.self _ c.settle.new.self (g.D.Disk.state c.args.disk.now) (g.D.Disk.state c.take_event.new.disk)
    (g.D.Disk.state c.settle.new.disk) c.take_event.ensures.advanced refl c.settle.ensures.advances refl
    (record { swarm = ap (λ (p : SeatsState). p.descriptor) c.taken.ensures.exact; size = refl })

pub returns-clause-in_time : goal.returns-clause-in_time
returns-clause-in_time g c = timed (is_quiet c.args.event.now) c.is_quiet.result c.moment-now.result c.args.self.now c.take_event.new.self _ c.laws_of_holdings.ensures.events
    c.store.ensures.tied c.is_quiet.ensures c.moment-now.ensures (ap (λ (p : SeatsState). p.moment) c.taken.ensures.exact) c.in_ok-take_event.ensures.stocks c.in_ok-settle.ensures.batch

pub returns-clause-fetches : goal.returns-clause-fetches
returns-clause-fetches g c = λ f. looked_fetches c.take_event.new.self.seats.moment c.take_event.new.self _ c.taken.ensures.exact refl (c.in_ok-take_event.ensures.fetches f)

pub returns-clause-exact : goal.returns-clause-exact
returns-clause-exact g c = absorbed_exact c.args.event.now c.args.bytes.now c.is_quiet.result c.moment-now.result c.settle.new.self c.taken.new.self c.args.self.now c.take_event.new.self _
    c.in_ok-take_event.ensures.exact c.is_quiet.ensures c.moment-now.ensures c.in_ok-settle.ensures.batch c.in_ok-settle.ensures.queue c.settle.ensures.book
    c.in_ok-settle.ensures.live c.store.ensures.tied.waits c.store-2.ensures.tied.waits c.taken.ensures.exact refl
