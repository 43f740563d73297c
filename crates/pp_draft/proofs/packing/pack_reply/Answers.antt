use Rattle.std.proofs.Common.{◌∙◌, arith}
use Rattle.pp_draft.proofs.Filling.{packs_behind, greeted_front, greeted_room}
use Rattle.pp_draft.proofs.packing.pack_reply.Goals as goal

pub returns-in_default-clause-packs : goal.returns-in_default-clause-packs
returns-in_default-clause-packs c = absurd (greeted_room c.args.descriptor.now c.args.reply.now.source c.begin-begun.result c.begin-begun.new.out c.put_handshake.new.out
    c.begin-begun.ensures.ends (c.begin-begun.auto.out ∙ c.requires.room) (rw c.in_default.is at c.put_handshake.ensures.puts))

pub returns-clause-packs : goal.returns-clause-packs
returns-clause-packs c =
    packs_behind c.args.descriptor.now c.args.channel c.args.reply.now.source c.args.reply.now.notes.now c.fill.result.count c.in-Some.greeted c.fill.result.end c.put_handshake.new.out c.fill.new.out
    (omega (arith, c.chunk-chunk.ensures.chunk, c.chunk-chunk.ensures.range.0)) (omega arith) (λ i. omega (arith, c.type_inv.out i))
    (c.fill.auto.out ∙ c.put_handshake.auto.out ∙ c.begin-begun.auto.out ∙ c.requires.room)
    (omega (arith, c.begin-begun.ensures.ends, c.in-Some.ensures.short))
    (greeted_front c.args.descriptor.now c.args.channel c.args.reply.now.source c.begin-begun.result c.in-Some.greeted c.begin-begun.new.out c.put_handshake.new.out
    (c.begin-begun.ensures.front c.args.descriptor.now) c.in-Some.ensures.puts)
    c.fill.ensures
