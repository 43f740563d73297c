use Rattle.pp_node.proofs.replaying.replay.Goals as goal

pub returns-clause-takes : goal.returns-clause-takes
returns-clause-takes g c = c.replay_from.ensures.takes
