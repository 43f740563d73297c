use Rattle.pp_store.proofs.Writings.{does_later}
use Rattle.pp_store.proofs.PairWrites.{puts_more}
use Rattle.std.proofs.lemmas.Result.{on_ok_weaker}
use Rattle.pp_store.proofs.Writtens.{wrote_more}
use Rattle.pp_store.proofs.pairing.put_pairs.Goals as goal

pub returns-in-Ok-clause-does : goal.returns-in-Ok-clause-does
returns-in-Ok-clause-does g c = does_later _ _ _ _ c.in-Ok.ensures.puts.keeps c.put_unfilled.ensures.does

pub returns-in-Ok-clause-puts : goal.returns-in-Ok-clause-puts
returns-in-Ok-clause-puts g c = puts_more _ _ _ _ _ _ _ _ c.in-Ok.ensures.puts c.put_unfilled.ensures.puts

pub returns-in-Ok-clause-wrote : goal.returns-in-Ok-clause-wrote
returns-in-Ok-clause-wrote g c =
    on_ok_weaker c.put_unfilled.result (wrote_more _ _ _ _ _ _ _ _ _ _ c.in-Ok.ensures.puts.keeps c.in-Ok.ensures.wrote) c.put_unfilled.ensures.wrote
