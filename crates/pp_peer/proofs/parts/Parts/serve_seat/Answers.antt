use Rattle.std.proofs.Common.{◌+◌, ap, refl, sym, subst, arith}
use Rattle.pp_seats.specs.declared.serving.Served.{Served}
use Rattle.pp_peer.specs.Serving.{sent_of, given_up}
use Rattle.pp_peer.proofs.Rounds.{IsMore, goes_none, goes_next, goes_full, lessens, goes_end}
use Rattle.pp_peer.proofs.parts.Parts.serve_seat.Goals as goal

pub loop-sent-init : goal.loop-sent-init
loop-sent-init g c = (goes_none c.args.seat _, refl)

pub loop-sent-smaller-in-Passed : goal.loop-sent-smaller-in-Passed
loop-sent-smaller-in-Passed g c =
    (lessens c.args.seat c.serve_one.result
    (record { parts = c.loop-sent.self; link = g.L.Link.seen c.loop-sent.link; disk = g.D.Disk.state c.loop-sent.disk })
    (record { parts = c.serve_one.new.self; link = g.L.Link.seen c.serve_one.new.link; disk = g.D.Disk.state c.serve_one.new.disk })
    c.serve_one.ensures.serves (subst (λ (o : Served). IsMore o) (sym c.in-Passed.is) tt)).fewer

pub loop-sent-preserved-in-Passed : goal.loop-sent-preserved-in-Passed
loop-sent-preserved-in-Passed g c =
    goes_next c.args.seat c.loop-sent.sent c.loop-sent.given_up _ _ c.serve_one.result _ _ _ c.store.ensures.tied c.loop-sent.invariant c.loop-sent-test.true
    c.serve_one.ensures.serves c.serve_one.ensures.counts c.serve_one.ensures.rest (subst (λ (o : Served). IsMore o) (sym c.in-Passed.is) tt)
    (omega (arith, ap sent_of c.in-Passed.is)) (omega (arith, ap given_up c.in-Passed.is))

pub loop-sent-smaller-in-Sent : goal.loop-sent-smaller-in-Sent
loop-sent-smaller-in-Sent g c =
    (lessens c.args.seat c.serve_one.result
    (record { parts = c.loop-sent.self; link = g.L.Link.seen c.loop-sent.link; disk = g.D.Disk.state c.loop-sent.disk })
    (record { parts = c.serve_one.new.self; link = g.L.Link.seen c.serve_one.new.link; disk = g.D.Disk.state c.serve_one.new.disk })
    c.serve_one.ensures.serves (subst (λ (o : Served). IsMore o) (sym c.in-Sent.is) tt)).fewer

pub loop-sent-preserved-in-Sent : goal.loop-sent-preserved-in-Sent
loop-sent-preserved-in-Sent g c =
    goes_next c.args.seat c.loop-sent.sent c.loop-sent.given_up _ _ c.serve_one.result _ _ _ c.store.ensures.tied c.loop-sent.invariant c.loop-sent-test.true
    c.serve_one.ensures.serves c.serve_one.ensures.counts c.serve_one.ensures.rest (subst (λ (o : Served). IsMore o) (sym c.in-Sent.is) tt)
    (omega (arith, ap sent_of c.in-Sent.is)) (omega (arith, ap given_up c.in-Sent.is))

pub loop-sent-smaller-in-Refused : goal.loop-sent-smaller-in-Refused
loop-sent-smaller-in-Refused g c =
    (lessens c.args.seat c.serve_one.result
    (record { parts = c.loop-sent.self; link = g.L.Link.seen c.loop-sent.link; disk = g.D.Disk.state c.loop-sent.disk })
    (record { parts = c.serve_one.new.self; link = g.L.Link.seen c.serve_one.new.link; disk = g.D.Disk.state c.serve_one.new.disk })
    c.serve_one.ensures.serves (subst (λ (o : Served). IsMore o) (sym c.in-Refused.is) tt)).fewer

pub loop-sent-preserved-in-Refused : goal.loop-sent-preserved-in-Refused
loop-sent-preserved-in-Refused g c =
    goes_next c.args.seat c.loop-sent.sent c.loop-sent.given_up _ _ c.serve_one.result _ _ _ c.store.ensures.tied c.loop-sent.invariant c.loop-sent-test.true
    c.serve_one.ensures.serves c.serve_one.ensures.counts c.serve_one.ensures.rest (subst (λ (o : Served). IsMore o) (sym c.in-Refused.is) tt)
    (omega (arith, ap sent_of c.in-Refused.is)) (omega (arith, ap given_up c.in-Refused.is))

pub loop-sent-smaller : goal.loop-sent-smaller
loop-sent-smaller g c =
    (lessens c.args.seat c.serve_one.result
    (record { parts = c.loop-sent.self; link = g.L.Link.seen c.loop-sent.link; disk = g.D.Disk.state c.loop-sent.disk })
    (record { parts = c.serve_one.new.self; link = g.L.Link.seen c.serve_one.new.link; disk = g.D.Disk.state c.serve_one.new.disk })
    c.serve_one.ensures.serves (subst (λ (o : Served). IsMore o) (sym c.in-Unread.is) tt)).fewer

pub loop-sent-preserved : goal.loop-sent-preserved
loop-sent-preserved g c =
    goes_next c.args.seat c.loop-sent.sent c.loop-sent.given_up _ _ c.serve_one.result _ _ _ c.store.ensures.tied c.loop-sent.invariant c.loop-sent-test.true
    c.serve_one.ensures.serves c.serve_one.ensures.counts c.serve_one.ensures.rest (subst (λ (o : Served). IsMore o) (sym c.in-Unread.is) tt)
    (omega (arith, ap sent_of c.in-Unread.is)) (omega (arith, ap given_up c.in-Unread.is))

pub overflow_add-given_up : goal.overflow_add-given_up
overflow_add-given_up g c =
    let n = (goes_next c.args.seat c.loop-sent.sent c.loop-sent.given_up c.loop-sent.sent (c.loop-sent.given_up + 1) c.serve_one.result _ _
    (record { parts = c.serve_one.new.self; link = g.L.Link.seen c.serve_one.new.link; disk = g.D.Disk.state c.serve_one.new.disk })
    c.store.ensures.tied c.loop-sent.invariant c.loop-sent-test.true c.serve_one.ensures.serves c.serve_one.ensures.counts c.serve_one.ensures.rest
    (subst (λ (o : Served). IsMore o) (sym c.in-Refused.is) tt) (omega (arith, ap sent_of c.in-Refused.is)) (omega (arith, ap given_up c.in-Refused.is))).0 in
    (let lost = n.lost in let content = n.content in omega (arith, lost, content, c.chunks.ensures))

pub overflow_add-given_up-in-Unread : goal.overflow_add-given_up-in-Unread
overflow_add-given_up-in-Unread g c =
    let n = (goes_next c.args.seat c.loop-sent.sent c.loop-sent.given_up c.loop-sent.sent (c.loop-sent.given_up + 1) c.serve_one.result _ _
    (record { parts = c.serve_one.new.self; link = g.L.Link.seen c.serve_one.new.link; disk = g.D.Disk.state c.serve_one.new.disk })
    c.store.ensures.tied c.loop-sent.invariant c.loop-sent-test.true c.serve_one.ensures.serves c.serve_one.ensures.counts c.serve_one.ensures.rest
    (subst (λ (o : Served). IsMore o) (sym c.in-Unread.is) tt) (omega (arith, ap sent_of c.in-Unread.is)) (omega (arith, ap given_up c.in-Unread.is))).0 in
    (let lost = n.lost in let content = n.content in omega (arith, lost, content, c.chunks.ensures))

pub returns-clause-serves : goal.returns-clause-serves
returns-clause-serves g c = goes_full c.args.seat c.loop-sent.sent c.loop-sent.given_up _ _ c.loop-sent.invariant.0 (omega (arith, c.loop-sent-test.false))

pub returns-in-Done-clause-serves : goal.returns-in-Done-clause-serves
returns-in-Done-clause-serves g c =
    goes_end c.args.seat c.loop-sent.sent c.loop-sent.given_up c.serve_one.result _ _ _ c.loop-sent.invariant.0 c.in-Done.is
    c.serve_one.ensures.serves c.serve_one.ensures.counts c.serve_one.ensures.rest
