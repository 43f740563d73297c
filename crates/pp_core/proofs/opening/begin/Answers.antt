use Rattle.std.proofs.Common.{List, Bool, length, sym, ◌∙◌, ap}
use Rattle.pp_core.proofs.Beginning.{sized_on}
use Rattle.pp_core.proofs.opening.begin.Goals as goal

pub with_committed-fetching-requires : goal.with_committed-fetching-requires
with_committed-fetching-requires c f e = c.requires.sized f e ∙ sym c.requires.chunks ∙ ap (λ (xs : List Bool). length xs) (sym c.committed.ensures)

pub invariant_of-result : goal.invariant_of-result
invariant_of-result c = record {
  swarm = c.requires.swarm;
  content = sized_on _ c.committed.result.now c.args.room.fetching c.with_committed-fetching.result c.with_committed-fetching.ensures c.requires.sized;
}
