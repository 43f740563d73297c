use Rattle.std.proofs.Common.{take, sym, ◌∙◌, ap}
use Rattle.pp_traffic.specs.Story.{story}
use Rattle.pp_promises.specs.Announced.{is_acknowledged}
use Rattle.pp_tree.specs.Book.{entry}
use Rattle.pp_wire.specs.Views.{message_of}
use Rattle.pp_wire.specs.declared.message.Message.{Message}
use Rattle.pp_audit.specs.Acknowledgements.{is_acked}
use Rattle.pp_recorded.specs.Claims.{known_of}
use Rattle.pp_recorded.specs.Entries.{past, life_of}
use Rattle.pp_recorded.specs.Parts.{all}
use Rattle.pp_audit.proofs.acking.is_acked.Goals as goal

pub returns-in-Data : goal.returns-in-Data
returns-in-Data c =
    c.is_settled.ensures
    ∙ ap (λ (m : Message). is_acked c.args.claims.now.descriptor.now (entry c.args.book.now)
    (λ i. is_acknowledged i (story c.args.claims.now.descriptor.now (life_of c.args.claims.now.life) (past c.args.entries.now))) (past c.args.claims.now.entries.now)
    (known_of c.args.claims.now) (take c.args.claims.now.count (all c.args.claims.now.descriptor.now c.args.claims.now.bytes.now)) (message_of m)) (sym c.in-Data.is)
