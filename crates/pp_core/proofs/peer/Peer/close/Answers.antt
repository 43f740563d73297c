use Rattle.std.proofs.Common.{ap, refl}
use Rattle.pp_holding.specs.Holding.{batch_of}
use Rattle.pp_peer.specs.declared.parts.Parts.{Parts}
use Rattle.pp_core.proofs.Having.{had_of, keeps_held}
use Rattle.pp_core.proofs.Keeping.{close_goes}
use Rattle.pp_core.proofs.peer.Peer.close.Goals as goal

pub returns-clause-exact : goal.returns-clause-exact
returns-clause-exact g c = rw (← c.self.view_is) (record {
  parting = c.part.ensures;
  goes = close_goes (record { parts = c.self.inside.parts; speaker = c.self.inside.speaker; dials = c.self.inside.dials })
      (record { parts = c.part.new.self; speaker = c.self.inside.speaker; dials = c.self.inside.dials })
      (g.L.Link.seen c.args.link.now) (g.L.Link.seen c.part.new.link) (g.D.Disk.state c.args.disk.now)
      (g.D.Disk.state c.args.disk.now) c.part.ensures.flushes;
  rest = refl;
})

pub returns-clause-had : goal.returns-clause-had
returns-clause-had g c = rw (← c.self.view_is) (keeps_held c.self.inside.parts c.part.new.self
    (ap (λ (p : Parts). had_of p.fetching) c.part.ensures.rest) (ap (λ (p : Parts). batch_of p.holding) c.part.ensures.rest))
