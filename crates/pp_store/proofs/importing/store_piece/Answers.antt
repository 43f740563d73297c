use Rattle.std.proofs.Common.{◌≡◌, ◌*◌, length, drop, arith}
use Rattle.pp_store.proofs.Ends.{piece_next}
use Rattle.pp_store.proofs.importing.store_piece.Goals as goal

pub returns-in-Ok-put_chunks-clause-put : goal.returns-in-Ok-put_chunks-clause-put
returns-in-Ok-put_chunks-clause-put g c content told low part =
    let read = c.in-Ok.ensures.filled (drop (c.args.tree.now.count * c.args.chunk) content) told in
    let long : length c.fill.new.buffer ≡ 65536 = omega (arith, c.fill.auto.buffer, c.told-buffer) in
    c.in-Ok-put_chunks.ensures.put content (piece_next c.args.chunk content c.args.tree.now.count c.in-Ok.count c.fill.new.buffer c.requires.size long low read.0 read.1) part
