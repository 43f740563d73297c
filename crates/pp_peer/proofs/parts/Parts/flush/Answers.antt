use Rattle.pp_peer.proofs.AllSent.{drops_quiet, gives_quiet, all_flushes}
use Rattle.pp_peer.proofs.Turned.{slots_quiet}
use Rattle.pp_peer.proofs.parts.Parts.flush.Goals as goal

pub returns-clause-flushes : goal.returns-clause-flushes
returns-clause-flushes g c =
    all_flushes c.speak_all-unsaid.result c.serve_all-unserved.result
    c.args.self.now c.expire.new.self c.give_up_requests.new.self c.dial_all.new.self c.turn_slots.new.self c.speak_all-unsaid.new.self c.serve_all-unserved.new.self
    (g.L.Link.seen c.args.link.now) (g.L.Link.seen c.dial_all.new.link) (g.L.Link.seen c.speak_all-unsaid.new.link) (g.L.Link.seen c.serve_all-unserved.new.link)
    (g.D.Disk.state c.args.disk.now) (g.D.Disk.state c.serve_all-unserved.new.disk)
    (drops_quiet c.args.self.now c.expire.new.self c.expire.ensures.drops)
    (gives_quiet c.expire.new.self c.give_up_requests.new.self c.give_up_requests.ensures.gives_up)
    c.dial_all.ensures.flushes
    (slots_quiet c.dial_all.new.self c.turn_slots.new.self c.turn_slots.ensures.keeps)
    c.speak_all-unsaid.ensures.flushes
    c.serve_all-unserved.ensures.flushes
