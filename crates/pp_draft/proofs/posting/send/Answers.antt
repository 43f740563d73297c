use Rattle.pp_draft.proofs.Sending.{sends_by}
use Rattle.pp_draft.proofs.posting.send.Goals as goal

pub returns-clause-sends : goal.returns-clause-sends
returns-clause-sends a c = sends_by c.args.to.now.address _ _ _ _ c.send.result _ c.is_ok.ensures.value c.send.ensures
