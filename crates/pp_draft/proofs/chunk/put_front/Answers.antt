use Rattle.pp_draft.proofs.Hashes.{chunk_front}
use Rattle.pp_draft.proofs.chunk.put_front.Goals as goal

pub returns-clause-front : goal.returns-clause-front
returns-clause-front c =
    chunk_front c.args.descriptor.now c.args.delivery.now c.begin-end.new.out c.put_hashes-end.new.out c.append_head.new.out c.begin-end.result c.put_hashes-end.result c.append_head.result
    (c.begin-end.ensures.front c.args.descriptor.now) c.put_hashes-end.ensures.adds c.append_head.ensures.adds
