use Rattle.std.proofs.Common.{ap, ◌∙◌}
use Rattle.pp_peer.specs.declared.parts.Parts.{Parts}
use Rattle.pp_peer.specs.Standing.{size_of}
use Rattle.pp_peer.proofs.Content.{got_size}
use Rattle.pp_peer.proofs.Heard.{put_keeps, put_stores}
use Rattle.pp_peer.proofs.parts.Parts.put.Goals as goal

pub returns-clause-keeps : goal.returns-clause-keeps
returns-clause-keeps g c = put_keeps c.args.self.now c.heed_put.new.self c.in_ok-put.put c.put.new.self (g.D.Disk.state c.args.disk.now) (g.D.Disk.state c.put.new.disk)
    (ap (λ (p : Parts). p.holding) c.heed_put.ensures.rest) c.put.ensures.advances c.heed_put.ensures.counts (record {
      swarm = ap (λ (p : Parts). p.seats.descriptor) c.heed_put.ensures.rest;
      size = ap size_of c.heed_put.ensures.got ∙ got_size c.in_ok-put.put c.args.parcel.now.ticket.chunk c.args.self.now.fetching;
    })

pub returns-clause-stores : goal.returns-clause-stores
returns-clause-stores g c = put_stores c.args.self.now c.heed_put.new.self c.in_ok-put.put c.put.new.self c.args.parcel.now.ticket.chunk c.args.parcel.now.at
    (ap (λ (p : Parts). p.holding) c.heed_put.ensures.rest) c.requires.moment c.in_ok-put.ensures.batch c.in_ok-put.ensures.live
