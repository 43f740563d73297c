use Rattle.std.proofs.Common.{◌≡◌, List, ◌∷◌, [], refl, arith}
use Rattle.pp_terms.specs.format.Messages.{Message, Pex4}
use Rattle.pp_draft.proofs.Putting.{one_puts, address4_short}
use Rattle.pp_draft.proofs.message.put_address4.Goals as goal

pub returns : goal.returns
returns c =
    one_puts c.args.descriptor.now (Pex4 c.args.address c.args.port) (λ (ms : List Message). ms ≡ Pex4 c.args.address c.args.port ∷ []) c.args.out.now c.put_message.new.out c.args.at c.put_message.result refl (λ rest. tt)
    (address4_short c.args.descriptor.now.method c.args.address c.args.port (omega arith)) c.put_message.ensures
