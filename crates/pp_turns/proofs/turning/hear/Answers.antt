use Rattle.std.proofs.Common.{ap, take, refl, sym, subst, Result}
use Rattle.pp_outside.specs.Outside.{DoesNext}
use Rattle.pp_outside.specs.declared.link.Event.{Event}
use Rattle.pp_outside.specs.declared.link.LinkFault.{LinkFault}
use Rattle.pp_holding.specs.Holding.{stock_of}
use Rattle.pp_holding.specs.Stock.{Advances}
use Rattle.pp_holding.proofs.Advancing.{advances_none}
use Rattle.pp_core.specs.Offering.{limit_of}
use Rattle.pp_core.specs.Peers.{PeerState}
use Rattle.pp_core.proofs.Limits.{absorbs_on}
use Rattle.pp_turns.specs.Turning.{Post, post}
use Rattle.pp_turns.proofs.Steps.{bytes_fit, gained_event}
use Rattle.pp_turns.proofs.Turned.{waits_event, waits_refused}
use Rattle.pp_turns.proofs.turning.hear.Goals as goal

pub returns-in-Ok-clause-waits : goal.returns-in-Ok-clause-waits
returns-in-Ok-clause-waits g c link link' does =
    let next = subst (λ (r : Result Event LinkFault). DoesNext {E = LinkFault} link c.args.buffer.now r link') c.in-Ok.is does in
    let old : Post = post c.args.peer.now (g.D.Disk.state c.args.disk.now) link in
    let new : Post = post c.absorb.new.self (g.D.Disk.state c.absorb.new.disk) link' in
    waits_event c.in-Ok.event (take c.size.result c.args.buffer.now) old new c.absorb.result
    (bytes_fit c.in-Ok.event c.args.buffer.now c.size.result old new c.size.ensures c.requires.room next.fits)
    (ap (λ (p : PeerState). p.dials) c.absorb.ensures.rest)
    (record {
      gained = gained_event c.in-Ok.event c.args.buffer.now c.size.result old new c.size.ensures c.requires.room next.fits next.gained;
      nexts = next.nexts;
      bound = next.bound;
      later = next.cause.later;
      advanced = c.absorb.ensures.advanced;
      ledger = c.absorb.ensures.ledger;
      keeps = c.absorb.ensures.keeps;
    }) c.absorb.ensures.exact c.absorb.ensures.stands c.absorb.ensures.proves c.absorb.ensures.ships c.absorb.ensures.wrote
    c.absorb.ensures.unchoked c.absorb.ensures.told c.absorb.ensures.acks c.absorb.ensures.offers c.absorb.ensures.live c.absorb.ensures.cause

pub returns-in-Err-clause-waits : goal.returns-in-Err-clause-waits
returns-in-Err-clause-waits g c link link' does =
    let next = subst (λ (r : Result Event LinkFault). DoesNext {E = LinkFault} link c.args.buffer.now r link') c.in-Err.is does in
    let old : Post = post c.args.peer.now (g.D.Disk.state c.args.disk.now) link in
    let new : Post = post c.refused.new.self (g.D.Disk.state c.args.disk.now) link' in
    waits_refused old new tt c.refused.ensures.exact refl next.refused next.nexts next.bound
    next.cause.later (next.cause.risen refl) c.refused.ensures.stands

pub returns-in-Ok-clause-advances : goal.returns-in-Ok-clause-advances
returns-in-Ok-clause-advances g c = c.absorb.ensures.advanced.advances

pub returns-in-Err-clause-advances : goal.returns-in-Err-clause-advances
returns-in-Err-clause-advances g c =
    subst (λ (p : PeerState). Advances (stock_of c.args.peer.now.parts.holding (g.D.Disk.state c.args.disk.now)) (stock_of p.parts.holding (g.D.Disk.state c.args.disk.now)))
    (sym c.refused.ensures.exact) (advances_none (stock_of c.args.peer.now.parts.holding (g.D.Disk.state c.args.disk.now)))

pub returns-in-Ok-clause-limit : goal.returns-in-Ok-clause-limit
returns-in-Ok-clause-limit g c =
    absorbs_on c.in-Ok.event _ c.args.peer.now.parts c.absorb.new.self.parts c.absorb.result c.absorb.ensures.exact

pub returns-in-Err-clause-limit : goal.returns-in-Err-clause-limit
returns-in-Err-clause-limit g c = ap (λ (p : PeerState). limit_of p.parts.fetching) c.refused.ensures.exact
