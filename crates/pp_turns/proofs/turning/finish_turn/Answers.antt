use Rattle.std.proofs.Common.{◌∙◌, ap}
use Rattle.pp_holding.specs.Holding.{HoldingState}
use Rattle.pp_peer.specs.declared.parts.Parts.{Parts}
use Rattle.pp_turns.specs.Turning.{post}
use Rattle.pp_turns.proofs.Alike.{finish_alike}
use Rattle.pp_turns.proofs.Steps.{flushed_by}
use Rattle.pp_turns.proofs.Turned.{finish_whole}
use Rattle.pp_turns.proofs.turning.finish_turn.Goals as goal

pub returns-clause-ends : goal.returns-clause-ends
returns-clause-ends g c =
    finish_whole (post c.args.peer.now (g.D.Disk.state c.args.disk.now) (g.L.Link.seen c.args.link.now))
    (post c.flush.new.self (g.D.Disk.state c.flush.new.disk) (g.L.Link.seen c.flush.new.link)) c.flush.ensures.exact.0
    (flushed_by c.flush.ensures.exact.0 _ _ c.flush.ensures.exact.1) c.flush.ensures.exact.2

pub returns-clause-carries : goal.returns-clause-carries
returns-clause-carries g c =
    let f = c.flush.ensures.exact.1.flushes in
    record {
      added = f.added;
      gained = f.gained;
      ours = f.ours;
      nexts = f.nexts;
      bound = f.bound;
      later = f.later;
      refused = c.flush.ensures.exact.0;
      stands = c.flush.ensures.exact.1.goes.stands;
    }

pub returns-clause-alike : goal.returns-clause-alike
returns-clause-alike g c seen seen' alike =
    finish_alike (post c.args.peer.now (g.D.Disk.state c.args.disk.now) (g.L.Link.seen c.args.link.now))
    (post c.flush.new.self (g.D.Disk.state c.flush.new.disk) (g.L.Link.seen c.flush.new.link)) c.flush.ensures.exact.0
    (flushed_by c.flush.ensures.exact.0 _ _ c.flush.ensures.exact.1) c.flush.ensures.exact.2 seen seen' alike

pub returns-clause-store : goal.returns-clause-store
returns-clause-store g c =
    ap (λ (p : Parts). p.holding.store) c.flush.ensures.exact.1.rest ∙ ap (λ (h : HoldingState). h.store) c.flush.ensures.exact.1.flushes.holding

pub returns-clause-book : goal.returns-clause-book
returns-clause-book g c =
    ap (λ (p : Parts). p.holding.book) c.flush.ensures.exact.1.rest ∙ ap (λ (h : HoldingState). h.book) c.flush.ensures.exact.1.flushes.holding

pub returns-clause-reads : goal.returns-clause-reads
returns-clause-reads g c = c.flush.ensures.exact.1.flushes.reads

pub returns-clause-limit : goal.returns-clause-limit
returns-clause-limit g c = c.flush.ensures.exact.2.limit
