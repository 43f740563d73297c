use Rattle.std.proofs.Common.{arith}
use Rattle.pp_store.proofs.Committing.{commit_end}
use Rattle.pp_store.proofs.keeping.commit_all.Goals as goal

pub overflow_add-from : goal.overflow_add-from
overflow_add-from c =
    let inside = c.in-Some.ensures in
    omega (arith, inside.1, c.loop-i.invariant.pending_size, c.requires.few)

pub returns-clause-none : goal.returns-clause-none
returns-clause-none c =
    (commit_end c.args.committed.now c.args.pending.now c.loop-i.committed c.loop-i.pending c.loop-i.from c.requires.same c.loop-i.invariant c.in_default.ensures).0
