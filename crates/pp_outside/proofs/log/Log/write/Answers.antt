use Rattle.std.proofs.Common.{◌≡◌, rules}
use Rattle.pp_outside.proofs.Replays.{did_push_reserved, keeps_write, history_write}
use Rattle.pp_outside.proofs.log.Log.write.Goals as goal

pub invariant_of-self-2 : goal.invariant_of-self-2
invariant_of-self-2 c =
    let copied : c.in_ok-to_vec.field-0.items ≡ c.args.bytes.now = search rules in
    let pushed = did_push_reserved _ _ _ _ c.reserve.ensures.items c.push_reserved.ensures.items in
    keeps_write _ _ _ _ _ _ _ _ c.self.invariant _ _ _ _ pushed copied c.in_ok-write_over.ensures.ok c.requires

pub returns-clause-ok : goal.returns-clause-ok
returns-clause-ok c =
    let copied : c.in_ok-to_vec.field-0.items ≡ c.args.bytes.now = search rules in
    let pushed = did_push_reserved _ _ _ _ c.reserve.ensures.items c.push_reserved.ensures.items in
    history_write _ _ _ _ _ _ _ _ c.self.invariant _ c.self.view_is _ _ _ pushed copied
