use Rattle.pp_store.proofs.Writings.{does_later}
use Rattle.pp_store.proofs.Layering.{chunk_put}
use Rattle.pp_store.proofs.growing.GrowingTree.put_chunk.Goals as goal

pub returns-in-Ok-clause-does : goal.returns-in-Ok-clause-does
returns-in-Ok-clause-does g c = does_later _ _ _ _ c.in-Ok.ensures.does.keeps c.carry.ensures.does

pub returns-in-Ok-clause-put : goal.returns-in-Ok-clause-put
returns-in-Ok-clause-put g c =
    chunk_put c.args.chunk c.args.self.now.count c.args.self.now.peaks _ c.args.bytes.now c.args.digest.now _ _ _ _ _ c.carry.result c.in-Ok.ensures.does c.in-Ok.ensures.put c.carry.ensures.put
