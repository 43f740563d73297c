use Rattle.std.proofs.Common.{◌≡◌, rules}
use Rattle.pp_outside.proofs.Replays.{did_push, keeps_refused, history_refused}
use Rattle.pp_outside.proofs.log.Log.refuse_write.Goals as goal

pub invariant_of-self-2 : goal.invariant_of-self-2
invariant_of-self-2 c =
    let copied : c.in_ok-to_vec.field-0.items ≡ c.args.bytes.now = search rules in
    keeps_refused _ _ _ _ _ _ _ _ c.self.invariant _ _ _ (did_push _ _ _ c.in_ok-push.ensures.items) copied c.requires

pub returns-clause-ok : goal.returns-clause-ok
returns-clause-ok c =
    let copied : c.in_ok-to_vec.field-0.items ≡ c.args.bytes.now = search rules in
    history_refused _ _ _ _ _ _ _ _ c.self.invariant _ c.self.view_is _ _ _ (did_push _ _ _ c.in_ok-push.ensures.items) copied
