use Rattle.std.proofs.Common.{arith, ◌∙◌, ap}
use Rattle.std.proofs.lemmas.Result.{on_ok_weaker}
use Rattle.pp_terms.specs.disk.Store.{chunk_place}
use Rattle.pp_tree.specs.Book.{entry}
use Rattle.pp_store.proofs.Writings.{write_puts, does_later}
use Rattle.pp_store.proofs.PairWrites.{chunk_done, chunk_refused, chunk_there, on_ok_any}
use Rattle.pp_store.specs.Writes.{pairs_for}
use Rattle.pp_store.proofs.Writtens.{wrote_chunk}
use Rattle.pp_store.proofs.pairing.put_pieces.Goals as goal

pub returns-in-Ok-clause-does : goal.returns-in-Ok-clause-does
returns-in-Ok-clause-does g c =
    does_later _ _ _ _ (write_puts _ _ _ _ _ (omega (arith, c.slot_place.ensures)) c.in-Ok.ensures).does.keeps c.put_pairs.ensures.does

pub returns-in-Err-clause-does : goal.returns-in-Err-clause-does
returns-in-Err-clause-does g c = (write_puts _ _ _ _ _ (omega (arith, c.slot_place.ensures)) c.in-Err.ensures).does

pub returns-in-Ok-clause-there : goal.returns-in-Ok-clause-there
returns-in-Ok-clause-there g c known =
    on_ok_any c.put_pairs.result
    (chunk_there c.args.descriptor.now (entry c.args.book.now) c.args.pairs.now c.put_pairs.new.pairs c.args.i c.slot_place.result c.args.chunk.now
    (g.D.Disk.state c.args.disk.now) (g.D.Disk.state c.write_at.new.self) (g.D.Disk.state c.put_pairs.new.disk) c.in-Ok.field-0 c.chunk.ensures.valid c.requires.backed
    (c.slot_place.ensures ∙ ap (λ n. chunk_place n c.args.i) c.chunk.ensures.chunk) c.in-Ok.ensures c.put_pairs.ensures.puts known)

pub returns-in-Ok-clause-puts : goal.returns-in-Ok-clause-puts
returns-in-Ok-clause-puts g c =
    chunk_done c.args.descriptor.now (entry c.args.book.now) c.args.pairs.now c.put_pairs.new.pairs c.args.i c.slot_place.result c.args.chunk.now
    (g.D.Disk.state c.args.disk.now) (g.D.Disk.state c.write_at.new.self) (g.D.Disk.state c.put_pairs.new.disk) c.in-Ok.field-0 c.chunk.ensures.valid c.requires.backed.rooted
    (c.slot_place.ensures ∙ ap (λ n. chunk_place n c.args.i) c.chunk.ensures.chunk) c.requires.backed.whole c.in-Ok.ensures c.put_pairs.ensures.puts

pub returns-in-Err-clause-puts : goal.returns-in-Err-clause-puts
returns-in-Err-clause-puts g c =
    chunk_refused c.args.descriptor.now (entry c.args.book.now) c.args.pairs.now c.args.i c.slot_place.result c.args.chunk.now
    (g.D.Disk.state c.args.disk.now) (g.D.Disk.state c.write_at.new.self) c.in-Err.fault c.chunk.ensures.valid c.requires.backed.rooted
    (c.slot_place.ensures ∙ ap (λ n. chunk_place n c.args.i) c.chunk.ensures.chunk) c.requires.backed.whole c.in-Err.ensures

pub returns-in-Ok-clause-marked : goal.returns-in-Ok-clause-marked
returns-in-Ok-clause-marked g c = on_ok_weaker c.put_pairs.result (λ wrote. wrote.pairs_are) c.put_pairs.ensures.wrote

pub returns-in-Ok-clause-wrote : goal.returns-in-Ok-clause-wrote
returns-in-Ok-clause-wrote g c known =
    on_ok_weaker c.put_pairs.result
    (λ wrote. wrote_chunk c.args.descriptor.now (entry c.args.book.now) c.args.i c.slot_place.result c.args.chunk.now (pairs_for c.args.descriptor.now c.args.i)
    c.args.pairs.now c.put_pairs.new.pairs (g.D.Disk.state c.args.disk.now) (g.D.Disk.state c.write_at.new.self) (g.D.Disk.state c.put_pairs.new.disk) c.in-Ok.field-0
    (c.slot_place.ensures ∙ ap (λ n. chunk_place n c.args.i) c.chunk.ensures.chunk) c.in-Ok.ensures wrote known)
    c.put_pairs.ensures.wrote
