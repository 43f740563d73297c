use Rattle.pp_peer.proofs.Heard.{ok_both}
use Rattle.pp_peer.proofs.Ledgers.{ledger_on, stands_on}
use Rattle.pp_peer.proofs.parts.Parts.absorb.Goals as goal

pub returns-clause-ledger : goal.returns-clause-ledger
returns-clause-ledger g c b past l = ledger_on c.args.event.now c.args.bytes.now c.args.self.now c.absorb_event-result.new.self (g.D.Disk.state c.args.disk.now)
    (g.D.Disk.state c.absorb_event-result.new.disk) b past c.requires c.absorb_event-result.ensures.advanced c.book.ensures.tied.book_is.rooted l

pub returns-clause-stands : goal.returns-clause-stands
returns-clause-stands g c = ok_both c.absorb_event-result.result (λ seats fetches b most past s. stands_on c.args.event.now c.args.bytes.now c.args.self.now c.absorb_event-result.new.self
    (g.D.Disk.state c.args.disk.now) (g.D.Disk.state c.absorb_event-result.new.disk) b most past c.requires c.absorb_event-result.ensures.advanced c.book.ensures.tied.book_is.rooted
    seats fetches s) c.absorb_event-result.ensures.seats c.absorb_event-result.ensures.fetches
