use Rattle.std.proofs.Common.{sym}
use Rattle.pp_peer.proofs.Dialled.{each_refilled, all_dialling}
use Rattle.pp_peer.proofs.parts.Parts.dial_all.Goals as goal

pub returns-clause-dials : goal.returns-clause-dials
returns-clause-dials g c = (
  record { parts = c.dial_each.new.self; link = g.L.Link.seen c.dial_each.new.link; disk = g.D.Disk.state c.args.disk.now },
  each_refilled c.args.dials.now c.dials.inside.entries.items c.as_mut_slice.result.now c.dial_each.new.dials _ _
      (sym c.dials.view_is) c.as_mut_slice.ensures.value c.dial_each.auto.dials c.dial_each.ensures,
  c.dial_suggested.ensures.dials,
)

pub returns-clause-flushes : goal.returns-clause-flushes
returns-clause-flushes g c = (all_dialling _ _ _ _ _ c.dial_each.ensures c.dial_suggested.ensures.dials).flushes

pub returns-clause-rest : goal.returns-clause-rest
returns-clause-rest g c = (all_dialling _ _ _ _ _ c.dial_each.ensures c.dial_suggested.ensures.dials).only
