use Rattle.std.proofs.Common.{◌==◌, sym, ◌∙◌, ap}
use Rattle.pp_mail.proofs.Kept.{length-waiting}
use Rattle.pp_mail.proofs.queues.Mail.is_empty.Goals as goal

pub returns : goal.returns
returns c =
    c.is_empty.ensures
    ∙ ap (λ n. n == 0) (sym (length-waiting c.self.inside c.args.self.now c.self.view_is c.args.peer c.requires c.from.result c.from.ensures
    c.index.result.now c.index.ensures))
