use Rattle.std.proofs.Common.{sym, ap}
use Rattle.pp_promises.specs.Laws.{is_any_data}
use Rattle.pp_wire.specs.declared.message.Message.{Message}
use Rattle.pp_wire.specs.Views.{message_of}
use Rattle.pp_story.proofs.Standings.{said}
use Rattle.pp_story.proofs.Messages.{says_of, says_other, on_ok, on_err}
use Rattle.pp_story.proofs.story.Story.say.Goals as goal

pub returns-in-Choke-clause-said : goal.returns-in-Choke-clause-said
returns-in-Choke-clause-said c = said c.args.now _ c.args.self.now c.say_choke.new.self (says_of (sym c.in-Choke.is) (c.say_choke.ensures c.args.now))

pub returns-in-Unchoke-clause-said : goal.returns-in-Unchoke-clause-said
returns-in-Unchoke-clause-said c = said c.args.now _ c.args.self.now c.say_unchoke.new.self (says_of (sym c.in-Unchoke.is) (c.say_unchoke.ensures c.args.now))

pub returns-in-Data-clause-said : goal.returns-in-Data-clause-said
returns-in-Data-clause-said c =
    on_ok c.say_data.result
    (λ says. said c.args.now _ c.args.self.now c.say_data.new.self (says_of (sym c.in-Data.is) (says c.in-Data.sent_at c.in-Data.bytes.now)))
    c.say_data.ensures.said

pub returns-in-Data-clause-only : goal.returns-in-Data-clause-only
returns-in-Data-clause-only c = on_err c.say_data.result (ap (λ (m : Message). is_any_data (message_of m)) c.in-Data.is)

pub returns-in_default-clause-said : goal.returns-in_default-clause-said
returns-in_default-clause-said c =
    said c.args.now _ c.args.self.now c.args.self.now
    (says_other c.args.message.now c.args.self.now c.args.now c.in_default.not-Data c.in_default.not-Choke c.in_default.not-Unchoke)
