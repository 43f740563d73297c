use Rattle.pp_peer.proofs.Dialled.{first_fewer, first_then, suggested_end}
use Rattle.pp_peer.proofs.parts.Parts.dial_suggested.Goals as goal

pub suggested-init : goal.suggested-init
suggested-init g c = λ end h. h

pub suggested-smaller : goal.suggested-smaller
suggested-smaller g c = first_fewer _ _ c.suggested-test.ensures

pub suggested-preserved : goal.suggested-preserved
suggested-preserved g c = λ end h. c.suggested.invariant end (first_then _ _ end c.suggested-test.ensures h)

pub returns-clause-dials : goal.returns-clause-dials
returns-clause-dials g c =
    c.suggested.invariant
    (record { parts = c.dial_first.new.self; link = g.L.Link.seen c.dial_first.new.link; disk = g.D.Disk.state c.args.disk.now })
    (suggested_end c.suggested.self c.dial_first.new.self _ _ _
    c.suggested-test.ensures.0 c.suggested-test.ensures.1 c.suggested-test.ensures.2)
