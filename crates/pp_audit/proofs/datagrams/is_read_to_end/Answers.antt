use Rattle.std.proofs.Common.{ℕ, Option, sym, ◌∙◌, ap}
use Rattle.std.specs.Prelude.{is_none}
use Rattle.pp_terms.specs.format.Messages.{WireKind}
use Rattle.pp_recorded.proofs.FaultSteps.{none_behind, fault_some}
use Rattle.pp_audit.proofs.datagrams.is_read_to_end.Goals as goal

pub messages-init : goal.messages-init
messages-init c = record { within = c.first_place-at.ensures.within; same = c.first_place-at.ensures.fault c.args.descriptor.now }

pub returns : goal.returns
returns c =
    sym (ap (λ (o : Option (ℕ × WireKind)). is_none o) (c.messages.invariant.same
    ∙ none_behind c.args.descriptor.now c.args.bytes.now c.messages.at c.messages-test.false))

pub returns-in-None : goal.returns-in-None
returns-in-None c =
    sym (ap (λ (o : Option (ℕ × WireKind)). is_none o) c.messages.invariant.same ∙ fault_some _ c.in-None.ensures)
