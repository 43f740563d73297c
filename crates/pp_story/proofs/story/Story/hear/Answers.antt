use Rattle.std.proofs.Common.{sym}
use Rattle.pp_story.proofs.Standings.{heard}
use Rattle.pp_story.proofs.Messages.{hears_of, hears_other}
use Rattle.pp_story.proofs.story.Story.hear.Goals as goal

pub returns-in-Request : goal.returns-in-Request
returns-in-Request c = heard c.args.now _ c.args.self.now c.hear_request.new.self (hears_of (sym c.in-Request.is) (c.hear_request.ensures c.args.now))

pub returns-in-Cancel : goal.returns-in-Cancel
returns-in-Cancel c = heard c.args.now _ c.args.self.now c.hear_cancel.new.self (hears_of (sym c.in-Cancel.is) (c.hear_cancel.ensures c.args.now))

pub returns-in-Have : goal.returns-in-Have
returns-in-Have c = heard c.args.now _ c.args.self.now c.hear_have.new.self (hears_of (sym c.in-Have.is) (c.hear_have.ensures c.args.now))

pub returns-in-Ack : goal.returns-in-Ack
returns-in-Ack c = heard c.args.now _ c.args.self.now c.hear_ack.new.self (hears_of (sym c.in-Ack.is) c.hear_ack.ensures)

pub returns-in_default : goal.returns-in_default
returns-in_default c =
    heard c.args.now _ c.args.self.now c.args.self.now
    (hears_other c.args.message.now c.args.self.now c.args.now c.in_default.not-Ack c.in_default.not-Have c.in_default.not-Request c.in_default.not-Cancel)
