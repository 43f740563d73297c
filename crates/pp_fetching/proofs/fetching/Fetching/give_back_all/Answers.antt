use Rattle.pp_fetching.proofs.GivenBack.{entries_more}
use Rattle.pp_fetching.proofs.fetching.Fetching.give_back_all.Goals as goal

pub loop-entry-preserved : goal.loop-entry-preserved
loop-entry-preserved c =
    entries_more c.args.entries.now c.loop-entry.entry-index _ c.args.self.now c.loop-entry.self c.give_back.new.self c.loop-entry-test.true
    c.loop-entry.invariant c.give_back.ensures
