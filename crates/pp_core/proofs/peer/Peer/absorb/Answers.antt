use Rattle.std.proofs.Common.{◌≡◌, sym, ◌∙◌, ap, subst, arith}
use Rattle.std.proofs.lemmas.Result.{on_ok_weaker}
use Rattle.pp_terms.specs.format.Descriptor.{Descriptor, chunks_of, IsDescriptor}
use Rattle.pp_seats.specs.Standing.{AllHold}
use Rattle.pp_core.specs.Peers.{PeerState}
use Rattle.pp_core.proofs.Having.{absorbs_held}
use Rattle.pp_core.proofs.Keeping.{kept_on, kept_event, on_ok_both}
use Rattle.pp_core.proofs.Listing.{lists_requests}
use Rattle.pp_core.proofs.Firsts.{absorb_acks}
use Rattle.pp_core.proofs.LatelySent.{awaits_number}
use Rattle.pp_core.proofs.Offered.{absorbs_offers}
use Rattle.pp_core.proofs.Remembered.{absorb_keeps}
use Rattle.pp_core.proofs.Steadily.{promised, shipped}
use Rattle.pp_core.proofs.Storing.{stores_what_fits}
use Rattle.pp_core.proofs.Unchoked.{absorbs_unchoked}
use Rattle.pp_core.proofs.Wrote.{absorbs_wrote}
use Rattle.pp_core.proofs.peer.Peer.absorb.Goals as goal

pub returns-clause-keeps : goal.returns-clause-keeps
returns-clause-keeps g c = rw (← c.self.view_is) (λ since past k.
    kept_event since (record { parts = c.absorb.new.self; speaker = c.self.inside.speaker; dials = c.self.inside.dials })
    (g.D.Disk.state c.absorb.new.disk)
    c.args.event.now c.args.bytes.now past
    (kept_on since (record { parts = c.self.inside.parts; speaker = c.self.inside.speaker; dials = c.self.inside.dials })
    (record { parts = c.absorb.new.self; speaker = c.self.inside.speaker; dials = c.self.inside.dials })
    (g.D.Disk.state c.args.disk.now) (g.D.Disk.state c.absorb.new.disk) past c.absorb.ensures.advanced.advances k))

pub returns-clause-stores : goal.returns-clause-stores
returns-clause-stores g c = rw (← c.self.view_is) (on_ok_weaker c.absorb.result
    (stores_what_fits c.args.event.now c.args.bytes.now c.self.inside.parts c.absorb.new.self) c.absorb.ensures.exact)

pub returns-clause-lists : goal.returns-clause-lists
returns-clause-lists g c = rw (← c.self.view_is) (on_ok_weaker c.absorb.result
    (lists_requests c.args.event.now c.args.bytes.now c.self.inside.parts c.absorb.new.self) c.absorb.ensures.exact)

pub returns-clause-reads : goal.returns-clause-reads
returns-clause-reads g c = rw (← c.self.view_is) (λ since past k. on_ok_weaker c.absorb.result
    (λ absorbs. (kept_on since (record { parts = c.self.inside.parts; speaker = c.self.inside.speaker; dials = c.self.inside.dials })
    (record { parts = c.absorb.new.self; speaker = c.self.inside.speaker; dials = c.self.inside.dials })
    (g.D.Disk.state c.args.disk.now) (g.D.Disk.state c.absorb.new.disk) past c.absorb.ensures.advanced.advances k).kept.holds absorbs.live)
    c.absorb.ensures.exact)

pub returns-clause-had : goal.returns-clause-had
returns-clause-had g c = rw (← c.self.view_is) (on_ok_weaker c.absorb.result
    (λ a h. absorbs_held c.args.event.now c.args.bytes.now c.self.inside.parts c.absorb.new.self a h) c.absorb.ensures.exact)

pub returns-clause-offers : goal.returns-clause-offers
returns-clause-offers g c = rw (← c.self.view_is) (on_ok_weaker c.absorb.result
    (λ absorbs b most past stands keeps. absorbs_offers b most past c.self.inside.parts c.absorb.new.self stands c.self.invariant
    c.args.event.now c.args.bytes.now c.requires absorbs keeps) c.absorb.ensures.exact)

pub returns-clause-proves : goal.returns-clause-proves
returns-clause-proves g c = rw (← c.self.view_is) (on_ok_weaker c.absorb.result
    (λ absorbs b most past stands.
    let swarm : c.descriptor.result ≡ b.d =
    c.descriptor.ensures ∙ ap (λ (p : PeerState). p.parts.holding.store.descriptor) (sym c.self.view_is) ∙ stands.ledger.swarm in
    promised b most past c.args.event.now c.args.bytes.now c.self.inside.parts c.absorb.new.self
    (subst IsDescriptor swarm c.chunk.ensures.valid)
    (subst (λ (d : Descriptor). AllHold (chunks_of d) c.self.inside.parts.seats.seats) stands.seats.swarm c.far.ensures.content)
    c.requires stands c.absorb.ensures.advanced.advances.entries
    (stores_what_fits c.args.event.now c.args.bytes.now c.self.inside.parts c.absorb.new.self absorbs))
    c.absorb.ensures.exact)

pub returns-clause-ships : goal.returns-clause-ships
returns-clause-ships g c = rw (← c.self.view_is) (on_ok_weaker c.absorb.result
    (λ absorbs b most past stands live had commits.
    let swarm : c.descriptor.result ≡ b.d =
    c.descriptor.ensures ∙ ap (λ (p : PeerState). p.parts.holding.store.descriptor) (sym c.self.view_is) ∙ stands.ledger.swarm in
    shipped b most past c.args.event.now c.args.bytes.now c.self.inside.parts c.absorb.new.self
    (subst IsDescriptor swarm c.chunk.ensures.valid)
    (subst (λ (d : Descriptor). AllHold (chunks_of d) c.self.inside.parts.seats.seats) stands.seats.swarm c.far.ensures.content)
    c.requires stands c.absorb.ensures.advanced.advances.entries
    (stores_what_fits c.args.event.now c.args.bytes.now c.self.inside.parts c.absorb.new.self absorbs)
    live c.store.ensures.tied had commits)
    c.absorb.ensures.exact)

pub returns-clause-ledger : goal.returns-clause-ledger
returns-clause-ledger g c = rw (← c.self.view_is) c.absorb.ensures.ledger

pub returns-clause-stands : goal.returns-clause-stands
returns-clause-stands g c = rw (← c.self.view_is) c.absorb.ensures.stands

pub returns-clause-wrote : goal.returns-clause-wrote
returns-clause-wrote g c = rw (← c.self.view_is) (on_ok_weaker c.absorb.result
    (λ absorbs b most past stands keeps. absorbs_wrote c.args.event.now c.args.bytes.now c.self.inside.parts c.absorb.new.self absorbs
    (awaits_number b most c.self.inside.parts past stands) b.d _ past keeps) c.absorb.ensures.exact)

pub returns-clause-unchoked : goal.returns-clause-unchoked
returns-clause-unchoked g c = rw (← c.self.view_is) (on_ok_weaker c.absorb.result
    (λ absorbs b most past stands was. absorbs_unchoked c.args.event.now c.args.bytes.now c.self.inside.parts c.absorb.new.self absorbs c.requires
    b most past stands was) c.absorb.ensures.exact)

pub returns-clause-told : goal.returns-clause-told
returns-clause-told g c = rw (← c.self.view_is) (on_ok_both c.absorb.result
    (λ absorbs goes b most past stands taken keeps.
    let swarm : c.descriptor.result ≡ b.d =
    c.descriptor.ensures ∙ ap (λ (p : PeerState). p.parts.holding.store.descriptor) (sym c.self.view_is) ∙ stands.ledger.swarm in
    absorb_keeps b most past c.args.event.now c.args.bytes.now c.self.inside.parts c.absorb.new.self absorbs c.requires (λ i. omega (arith, c.type_inv.bytes i))
    (subst IsDescriptor swarm c.chunk.ensures.valid).chunk_size stands (goes b most past stands) taken keeps)
    c.absorb.ensures.exact c.absorb.ensures.stands)

pub returns-clause-acks : goal.returns-clause-acks
returns-clause-acks g c = rw (← c.self.view_is) (on_ok_both c.absorb.result
    (λ absorbs goes b most past stands taken unrepeated told book keeps acks.
    let swarm : c.descriptor.result ≡ b.d =
    c.descriptor.ensures ∙ ap (λ (p : PeerState). p.parts.holding.store.descriptor) (sym c.self.view_is) ∙ stands.ledger.swarm in
    let valid = subst IsDescriptor swarm c.chunk.ensures.valid in
    absorb_acks b most past c.args.event.now c.args.bytes.now c.self.inside.parts c.absorb.new.self absorbs c.requires
    (λ i. omega (arith, c.type_inv.bytes i)) valid.chunk_size stands (goes b most past stands) taken unrepeated told
    (promised b most past c.args.event.now c.args.bytes.now c.self.inside.parts c.absorb.new.self valid
    (subst (λ (d : Descriptor). AllHold (chunks_of d) c.self.inside.parts.seats.seats) stands.seats.swarm c.far.ensures.content)
    c.requires stands c.absorb.ensures.advanced.advances.entries
    (stores_what_fits c.args.event.now c.args.bytes.now c.self.inside.parts c.absorb.new.self absorbs))
    book keeps acks)
    c.absorb.ensures.exact c.absorb.ensures.stands)
