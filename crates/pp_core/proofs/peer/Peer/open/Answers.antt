use Rattle.std.proofs.Common.{ap, sym, ◌∙◌, subst}
use Rattle.pp_terms.specs.disk.Disk.{moment_of}
use Rattle.pp_holding.specs.Holding.{HoldingState, AreTied}
use Rattle.pp_store.specs.Store.{is_committed}
use Rattle.pp_core.proofs.Beginning.{begun_of, begun_stands}
use Rattle.pp_core.proofs.Having.{begun_held}
use Rattle.pp_core.proofs.peer.Peer.open.Goals as goal

pub returns-clause-begun : goal.returns-clause-begun
returns-clause-begun g c =
    begun_of c.args.descriptor.now c.args.random c.args.asks c.args.dial.now.items c.in-Ok.room c.in_ok-holding.holding c.begin.result
    c.in-Ok.ensures c.in_ok-holding.ensures.begun c.store.ensures.tied c.begin.ensures

pub returns-clause-stands : goal.returns-clause-stands
returns-clause-stands g c = begun_stands c.args.descriptor.now c.args.random c.args.asks c.args.dial.now.items c.begin.result
    (moment_of (g.D.Disk.state c.open.new.disk).history)
    (begun_of c.args.descriptor.now c.args.random c.args.asks c.args.dial.now.items c.in-Ok.room c.in_ok-holding.holding c.begin.result
    c.in-Ok.ensures c.in_ok-holding.ensures.begun c.store.ensures.tied c.begin.ensures)

pub returns-clause-taken : goal.returns-clause-taken
returns-clause-taken g c known i stood =
    ap (λ (h : HoldingState). is_committed h.store i) c.begin.ensures.holding_is ∙ c.in_ok-holding.ensures.taken known i stood

pub returns-clause-had : goal.returns-clause-had
returns-clause-had g c = begun_held c.args.descriptor.now c.args.random c.args.asks c.args.dial.now.items c.begin.result
    (begun_of c.args.descriptor.now c.args.random c.args.asks c.args.dial.now.items c.in-Ok.room c.in_ok-holding.holding c.begin.result
    c.in-Ok.ensures c.in_ok-holding.ensures.begun c.store.ensures.tied c.begin.ensures)
    (subst (λ (h : HoldingState). AreTied h) (sym c.begin.ensures.holding_is) c.store.ensures.tied)
