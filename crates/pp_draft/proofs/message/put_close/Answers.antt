use Rattle.std.proofs.Common.{◌≡◌, List, ◌∷◌, [], refl}
use Rattle.pp_terms.specs.format.Messages.{Message, Handshake}
use Rattle.pp_draft.specs.Notes.{no_options}
use Rattle.pp_draft.proofs.Putting.{one_puts, close_short}
use Rattle.pp_draft.proofs.message.put_close.Goals as goal

pub returns : goal.returns
returns c =
    one_puts c.args.descriptor.now (Handshake 0 no_options) (λ (ms : List Message). ms ≡ Handshake 0 no_options ∷ []) c.args.out.now c.put_message.new.out c.args.at c.put_message.result refl (λ rest. tt)
    (close_short c.args.descriptor.now.method) c.put_message.ensures
