use Rattle.std.proofs.Common.{◌≡◌, ◌+◌, ◌++◌, sym, ◌∙◌, ap, arith}
use Rattle.pp_terms.specs.format.Descriptor.{Descriptor}
use Rattle.pp_peer.specs.Standing.{setting}
use Rattle.pp_core.specs.Peers.{PeerState}
use Rattle.pp_core.specs.Turning.{scene}
use Rattle.pp_core.proofs.Flushes.{flush_course, flush_asks}
use Rattle.pp_core.proofs.Having.{flush_held}
use Rattle.pp_core.proofs.Leaving.{leaves_none}
use Rattle.pp_core.proofs.Promising.{flush_promises}
use Rattle.pp_core.proofs.Reaching.{flush_reaches}
use Rattle.pp_core.proofs.Slots.{slots_kept}
use Rattle.pp_core.proofs.Told.{acknowledged, announced, greeted, cancelled, exchanged, turned}
use Rattle.pp_core.proofs.peer.Peer.flush.Goals as goal

pub returns-clause-exact : goal.returns-clause-exact
returns-clause-exact g c = rw (← c.self.view_is) (
    let old : PeerState = record { parts = c.self.inside.parts; speaker = c.self.inside.speaker; dials = c.self.inside.dials } in
    let new : PeerState =
    record { parts = record c.flush.new.self { holding = c.forget_tickets.new.self }; speaker = c.flush.new.speaker; dials = c.flush.new.dials } in
    let course = flush_course c.flush.result old new c.flush.new.self
    (g.L.Link.seen c.args.link.now) (g.L.Link.seen c.flush.new.link) (g.D.Disk.state c.args.disk.now) (g.D.Disk.state c.flush.new.disk)
    c.flush.ensures.sends c.flush.ensures.flushes (λ t. record c.flush.new.self { holding = c.forget_tickets.ensures t }) in
    let swarm : c.descriptor.result ≡ c.self.inside.parts.holding.store.descriptor =
    c.descriptor.ensures ∙ ap (λ (p : PeerState). p.parts.holding.store.descriptor) (sym c.self.view_is) in (
      c.flush.result,
      course,
      flush_promises c.flush.result old new
          (g.L.Link.seen c.args.link.now) (g.L.Link.seen c.flush.new.link) (g.D.Disk.state c.args.disk.now) (g.D.Disk.state c.flush.new.disk)
          course c.store.ensures.tied.waits
          (let range = c.chunk.ensures.range.0 in
          let is = c.chunk.ensures.chunk ∙ ap (λ (d : Descriptor). d.chunk) swarm in
          omega (arith, range, is)),
    )
    )

pub returns-clause-acknowledged : goal.returns-clause-acknowledged
returns-clause-acknowledged g c = rw (← c.self.view_is) (acknowledged c.self.inside.dials c.flush.new.dials c.self.inside.speaker c.flush.new.speaker c.flush.result
    (scene c.self.inside.parts (g.L.Link.seen c.args.link.now) (g.D.Disk.state c.args.disk.now))
    (scene c.flush.new.self (g.L.Link.seen c.flush.new.link) (g.D.Disk.state c.flush.new.disk)) c.flush.ensures.sends)

pub returns-clause-announced : goal.returns-clause-announced
returns-clause-announced g c = rw (← c.self.view_is) (announced c.self.inside.dials c.flush.new.dials c.self.inside.speaker c.flush.new.speaker c.flush.result
    (scene c.self.inside.parts (g.L.Link.seen c.args.link.now) (g.D.Disk.state c.args.disk.now))
    (scene c.flush.new.self (g.L.Link.seen c.flush.new.link) (g.D.Disk.state c.flush.new.disk)) c.flush.ensures.sends)

pub returns-clause-greeted : goal.returns-clause-greeted
returns-clause-greeted g c = rw (← c.self.view_is) (greeted c.self.inside.dials c.flush.new.dials c.self.inside.speaker c.flush.new.speaker c.flush.result
    (scene c.self.inside.parts (g.L.Link.seen c.args.link.now) (g.D.Disk.state c.args.disk.now))
    (scene c.flush.new.self (g.L.Link.seen c.flush.new.link) (g.D.Disk.state c.flush.new.disk)) c.flush.ensures.sends)

pub returns-clause-cancelled : goal.returns-clause-cancelled
returns-clause-cancelled g c = rw (← c.self.view_is) (cancelled c.self.inside.dials c.flush.new.dials c.self.inside.speaker c.flush.new.speaker c.flush.result
    (scene c.self.inside.parts (g.L.Link.seen c.args.link.now) (g.D.Disk.state c.args.disk.now))
    (scene c.flush.new.self (g.L.Link.seen c.flush.new.link) (g.D.Disk.state c.flush.new.disk)) c.flush.ensures.sends)

pub returns-clause-exchanged : goal.returns-clause-exchanged
returns-clause-exchanged g c = rw (← c.self.view_is) (exchanged c.self.inside.dials c.flush.new.dials c.self.inside.speaker c.flush.new.speaker c.flush.result
    (scene c.self.inside.parts (g.L.Link.seen c.args.link.now) (g.D.Disk.state c.args.disk.now))
    (scene c.flush.new.self (g.L.Link.seen c.flush.new.link) (g.D.Disk.state c.flush.new.disk)) c.flush.ensures.sends)

pub returns-clause-turned : goal.returns-clause-turned
returns-clause-turned g c = rw (← c.self.view_is) (turned c.self.inside.dials c.flush.new.dials c.self.inside.speaker c.flush.new.speaker c.flush.result
    (scene c.self.inside.parts (g.L.Link.seen c.args.link.now) (g.D.Disk.state c.args.disk.now))
    (scene c.flush.new.self (g.L.Link.seen c.flush.new.link) (g.D.Disk.state c.flush.new.disk)) c.flush.ensures.sends)

pub returns-clause-slots : goal.returns-clause-slots
returns-clause-slots g c = rw (← c.self.view_is) (slots_kept c.self.inside.dials c.flush.new.dials c.self.inside.speaker c.flush.new.speaker c.flush.result
    (scene c.self.inside.parts (g.L.Link.seen c.args.link.now) (g.D.Disk.state c.args.disk.now))
    (scene c.flush.new.self (g.L.Link.seen c.flush.new.link) (g.D.Disk.state c.flush.new.disk)) c.flush.ensures.sends)

pub returns-clause-had : goal.returns-clause-had
returns-clause-had g c =
    rw (← c.self.view_is) (flush_held c.self.inside.dials c.flush.new.dials c.self.inside.speaker c.flush.new.speaker c.flush.result
    (scene c.self.inside.parts (g.L.Link.seen c.args.link.now) (g.D.Disk.state c.args.disk.now))
    (scene c.flush.new.self (g.L.Link.seen c.flush.new.link) (g.D.Disk.state c.flush.new.disk))
    (record c.flush.new.self { holding = c.forget_tickets.new.self }) c.flush.ensures.sends c.flush.ensures.flushes.holding
    (λ t. record c.flush.new.self { holding = c.forget_tickets.ensures t }))

pub returns-clause-reaches : goal.returns-clause-reaches
returns-clause-reaches g c = rw (← c.self.view_is) (flush_reaches c.flush.result
    (record { parts = c.self.inside.parts; speaker = c.self.inside.speaker; dials = c.self.inside.dials })
    (record { parts = record c.flush.new.self { holding = c.forget_tickets.new.self }; speaker = c.flush.new.speaker; dials = c.flush.new.dials })
    (g.L.Link.seen c.args.link.now) (g.L.Link.seen c.flush.new.link) (g.D.Disk.state c.args.disk.now) (g.D.Disk.state c.flush.new.disk)
    (flush_course c.flush.result
    (record { parts = c.self.inside.parts; speaker = c.self.inside.speaker; dials = c.self.inside.dials })
    (record { parts = record c.flush.new.self { holding = c.forget_tickets.new.self }; speaker = c.flush.new.speaker; dials = c.flush.new.dials })
    c.flush.new.self
    (g.L.Link.seen c.args.link.now) (g.L.Link.seen c.flush.new.link) (g.D.Disk.state c.args.disk.now) (g.D.Disk.state c.flush.new.disk)
    c.flush.ensures.sends c.flush.ensures.flushes (λ t. record c.flush.new.self { holding = c.forget_tickets.ensures t })))

pub returns-clause-asks : goal.returns-clause-asks
returns-clause-asks g c = rw (← c.self.view_is) (flush_asks c.flush.result
    (record { parts = c.self.inside.parts; speaker = c.self.inside.speaker; dials = c.self.inside.dials })
    (record { parts = record c.flush.new.self { holding = c.forget_tickets.new.self }; speaker = c.flush.new.speaker; dials = c.flush.new.dials })
    (g.L.Link.seen c.args.link.now) (g.L.Link.seen c.flush.new.link) (g.D.Disk.state c.args.disk.now) (g.D.Disk.state c.flush.new.disk)
    (flush_course c.flush.result
    (record { parts = c.self.inside.parts; speaker = c.self.inside.speaker; dials = c.self.inside.dials })
    (record { parts = record c.flush.new.self { holding = c.forget_tickets.new.self }; speaker = c.flush.new.speaker; dials = c.flush.new.dials })
    c.flush.new.self
    (g.L.Link.seen c.args.link.now) (g.L.Link.seen c.flush.new.link) (g.D.Disk.state c.args.disk.now) (g.D.Disk.state c.flush.new.disk)
    c.flush.ensures.sends c.flush.ensures.flushes (λ t. record c.flush.new.self { holding = c.forget_tickets.ensures t })))

pub returns-clause-leaves : goal.returns-clause-leaves
returns-clause-leaves g c = rw (← c.self.view_is) (λ b most past since stands.
    let now = c.flush.ensures.flushes.stands b most past since stands in
    let size : c.chunk.result ≡ b.d.chunk = c.chunk.ensures.chunk ∙ ap (λ (d : Descriptor). d.chunk)
    (c.descriptor.ensures ∙ ap (λ (p : PeerState). p.parts.holding.store.descriptor) (sym c.self.view_is) ∙ stands.ledger.swarm) in
    leaves_none (setting b now.known_of) (most + c.flush.result) (record c.flush.new.self { holding = c.forget_tickets.new.self })
    (c.flush.ensures.flushes.added ++ past) now.seats (let range = c.chunk.ensures.range.0 in omega (arith, size, range))
    c.flush.ensures.sends.serves.ends)
