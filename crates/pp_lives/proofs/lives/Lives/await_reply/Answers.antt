use Rattle.std.proofs.Common.{Bool, ap, subst, drop}
use Rattle.pp_options.specs.Views.{options_of}
use Rattle.pp_terms.specs.format.Messages.{Messages, messages_at}
use Rattle.pp_lives.specs.Arriving.{Answers}
use Rattle.pp_lives.proofs.Answering.{awaited_answer}
use Rattle.pp_lives.proofs.lives.Lives.await_reply.Goals as goal

pub returns-in-Handshake : goal.returns-in-Handshake
returns-in-Handshake c =
    awaited_answer c.args.descriptor.now c.args.self.now c.args.seat c.args.from.now c.args.now c.args.bytes.now c.in-Handshake.source (options_of c.in-Handshake.options)
    (messages_at c.args.descriptor.now.method c.args.descriptor.now.chunk c.in-Handshake.next (drop c.in-Handshake.next c.args.bytes.now)).read
    c.answer.result c.answer.new.self (ap (λ (m : Messages). m.read) c.in-Handshake.ensures.1)
    (subst (λ (b : Bool). Answers c.args.self.now c.args.seat c.args.from.now c.args.now c.in-Handshake.source b c.answer.result c.answer.new.self) c.fits-fit.ensures c.answer.ensures)
