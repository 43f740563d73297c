-- What is asked of one message of a datagram, behind others.
use Rattle.std.specs.Prelude.{ℕ, Option, List}
use Rattle.pp_terms.specs.format.Traffic.{Address, Record}
use Rattle.pp_terms.specs.format.Descriptor.{Descriptor}
use Rattle.pp_terms.specs.format.Messages.{Message, Data}
use Rattle.pp_traffic.specs.Serving.{Window}
use Rattle.pp_promises.specs.Datagrams.{PlansPeer}

-- A message is no chunk, or is planned so.
abbrev pub PlansMessage : Descriptor → Window → List Record → Address → Option ℕ → List Message → Message → Type 0
PlansMessage d window past receiver channel front (Data i sent_at bytes) = PlansPeer d window past receiver channel i front
PlansMessage d window past receiver channel front _ = Unit {0}
