use Rattle.std.proofs.Common.{◌≡◌, List, ◌∷◌, [], refl}
use Rattle.pp_terms.specs.format.Messages.{Message, Handshake}
use Rattle.pp_draft.specs.Notes.{own_options}
use Rattle.pp_draft.proofs.Putting.{one_puts, ends_by, handshake_short}
use Rattle.pp_draft.proofs.message.put_handshake.Goals as goal

pub returns-clause-puts : goal.returns-clause-puts
returns-clause-puts c =
    one_puts c.args.descriptor.now (Handshake c.args.source (own_options c.args.descriptor.now)) (λ (ms : List Message). ms ≡ Handshake c.args.source (own_options c.args.descriptor.now) ∷ []) c.args.out.now c.put_message.new.out c.args.at c.put_message.result refl (λ rest. tt)
    (handshake_short c.args.descriptor.now c.args.source c.root-root.ensures.valid)
    (rw (c.as_slice.ensures, c.bytes.ensures.same, c.root-root.ensures.root, c.number.ensures, c.method.ensures.method, c.chunk.ensures.chunk) at c.put_message.ensures)

pub returns-clause-short : goal.returns-clause-short
returns-clause-short c =
    ends_by c.args.descriptor.now (Handshake c.args.source (own_options c.args.descriptor.now)) c.args.out.now c.put_message.new.out c.args.at 64 c.put_message.result
    (handshake_short c.args.descriptor.now c.args.source c.root-root.ensures.valid)
    (rw (c.as_slice.ensures, c.bytes.ensures.same, c.root-root.ensures.root, c.number.ensures, c.method.ensures.method, c.chunk.ensures.chunk) at c.put_message.ensures)
