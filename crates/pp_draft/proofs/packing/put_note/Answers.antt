use Rattle.std.proofs.Common.{◌≡◌, List, ◌∷◌, [], refl}
use Rattle.pp_terms.specs.format.Messages as plain
use Rattle.pp_draft.proofs.Putting.{one_puts, none_puts, choke_short, unchoke_short, ask_short}
use Rattle.pp_draft.proofs.packing.put_note.Goals as goal

pub returns-in-KeepAlive : goal.returns-in-KeepAlive
returns-in-KeepAlive c = rw c.in-KeepAlive.is (none_puts c.args.descriptor.now c.args.out.now c.args.at c.requires.within)

pub returns-in-Choke : goal.returns-in-Choke
returns-in-Choke c = rw c.in-Choke.is
    (one_puts c.args.descriptor.now plain.Choke (λ (ms : List plain.Message). ms ≡ plain.Choke ∷ []) c.args.out.now c.put_message.new.out c.args.at c.put_message.result refl (λ rest. tt) (choke_short c.args.descriptor.now.method) c.put_message.ensures)

pub returns-in-Unchoke : goal.returns-in-Unchoke
returns-in-Unchoke c = rw c.in-Unchoke.is
    (one_puts c.args.descriptor.now plain.Unchoke (λ (ms : List plain.Message). ms ≡ plain.Unchoke ∷ []) c.args.out.now c.put_message-in-Unchoke.new.out c.args.at c.put_message-in-Unchoke.result refl (λ rest. tt) (unchoke_short c.args.descriptor.now.method) c.put_message-in-Unchoke.ensures)

pub returns-in-PexReq : goal.returns-in-PexReq
returns-in-PexReq c = rw c.in-PexReq.is
    (one_puts c.args.descriptor.now plain.PexReq (λ (ms : List plain.Message). ms ≡ plain.PexReq ∷ []) c.args.out.now c.put_message-in-PexReq.new.out c.args.at c.put_message-in-PexReq.result refl (λ rest. tt) (ask_short c.args.descriptor.now.method) c.put_message-in-PexReq.ensures)
