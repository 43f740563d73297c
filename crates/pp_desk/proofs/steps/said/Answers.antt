use Rattle.pp_terms.specs.format.Messages as plain
use Rattle.pp_draft.specs.declared.note.Note.TheVariants.{Choke, Unchoke, PexReq, Pex4, Pex6}
use Rattle.pp_desk.proofs.Saying.{alone_said, request_said, cancel_said, address_said, keep_alive_said, ack_said}
use Rattle.pp_desk.proofs.steps.said.Goals as goal

pub returns-in-Choke : goal.returns-in-Choke
returns-in-Choke c = rw c.in-Choke.is (alone_said c.args.now c.args.set_back Choke plain.Choke c.args.seat.now c.said_choke.new.self
    c.said_choke.ensures.exact (λ d ms e. e) (c.said_choke.ensures.goes c.args.now))

pub returns-in-Unchoke : goal.returns-in-Unchoke
returns-in-Unchoke c = rw c.in-Unchoke.is (alone_said c.args.now c.args.set_back Unchoke plain.Unchoke c.args.seat.now c.said_unchoke.new.self
    (c.said_unchoke.ensures.slot, c.said_unchoke.ensures.none) (λ d ms e. e) (c.said_unchoke.ensures.goes c.args.now))

pub said_have-requires : goal.said_have-requires
said_have-requires c = rw c.in-Have.is at c.requires.below

pub said_request-requires : goal.said_request-requires
said_request-requires c = rw c.in-Request.is at c.requires.below

pub returns-in-Have : goal.returns-in-Have
returns-in-Have c = rw c.in-Have.is (c.said_have.ensures c.args.now)

pub returns-in-Request : goal.returns-in-Request
returns-in-Request c = rw c.in-Request.is (request_said c.args.now c.args.set_back c.in-Request.range c.args.seat.now c.said_request.new.self
    c.said_request.ensures.rest c.said_request.ensures.exact c.said_request.ensures.says)

pub returns-in-Cancel : goal.returns-in-Cancel
returns-in-Cancel c = rw c.in-Cancel.is (cancel_said c.args.now c.args.set_back c.in-Cancel.range c.args.seat.now c.said_cancel.new.seat
    c.said_cancel.ensures.rest c.said_cancel.ensures.gone)

pub returns-in-PexReq : goal.returns-in-PexReq
returns-in-PexReq c = rw c.in-PexReq.is (alone_said c.args.now c.args.set_back PexReq plain.PexReq c.args.seat.now c.said_question.new.self
    c.said_question.ensures.exact (λ d ms e. e) c.said_question.ensures.goes)

pub returns-in-KeepAlive : goal.returns-in-KeepAlive
returns-in-KeepAlive c = rw c.in-KeepAlive.is (keep_alive_said c.args.now c.args.set_back c.args.seat.now)

pub returns-in-Ack : goal.returns-in-Ack
returns-in-Ack c = rw c.in-Ack.is (ack_said c.args.now c.args.set_back _ _ c.args.seat.now)

pub returns-in-Handshake : goal.returns-in-Handshake
returns-in-Handshake c = absurd (rw c.in-Handshake.is at c.requires.plain)

pub returns-in-Close : goal.returns-in-Close
returns-in-Close c = absurd (rw c.in-Close.is at c.requires.plain)

pub returns-in-Pex4 : goal.returns-in-Pex4
returns-in-Pex4 c = rw c.in-Pex4.is (address_said c.args.now c.args.set_back (Pex4 _ _) _ c.args.seat.now c.said_addresses.new.self
    c.said_addresses.ensures.exact (λ d ms e. e) tt c.said_addresses.ensures.says)

pub returns-in-Pex6 : goal.returns-in-Pex6
returns-in-Pex6 c = rw c.in-Pex6.is (address_said c.args.now c.args.set_back (Pex6 _ _) _ c.args.seat.now c.said_addresses-in-Pex6.new.self
    c.said_addresses-in-Pex6.ensures.exact (λ d ms e. e) tt c.said_addresses-in-Pex6.ensures.says)
