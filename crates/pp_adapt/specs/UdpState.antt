-- A link over a socket: what is known of it, and its meaning.
use Rattle.std.specs.Prelude.{ℕ, Option, Some, None}
use Rattle.std.specs.declared.net.ip_addr.IpAddr.{IpAddr}
use Rattle.std.specs.declared.net.ip_addr.IpAddr.TheVariants as ip
use Rattle.std.specs.Net.Addr.{ipv4_octets, ipv6_octets}
use Rattle.pp_terms.specs.format.Traffic.{LinkState}
use Rattle.pp_outside.specs.declared.link.Address.{Address}
use Rattle.pp_outside.specs.declared.link.Address.TheVariants.{V4, V6}
use Rattle.pp_outside.specs.declared.link.Event.{Event}
use Rattle.pp_outside.specs.declared.link.Event.TheVariants.{Datagram, Quiet}
use Rattle.pp_adapt.specs.Counts.{raised}

-- The address that it was bound to, if any; the latest moment that it told; how often it refused a call; and how
-- many calls of `next` have returned.
pub record UdpState : Type 0 where
  pub listen : Option Address
  pub moment : ℕ
  pub faults : ℕ
  pub nexts : ℕ

-- before it is first bound
abbrev pub unbound : UdpState
unbound = record { listen = None; moment = 0; faults = 0; nexts = 0 }

-- after a refused call
abbrev pub with_refused_call : UdpState → UdpState
with_refused_call s = record s { faults = raised s.faults }

-- the meaning of a link that tells neither its traffic nor its addresses
abbrev pub silent_link : UdpState → LinkState
silent_link s = record { traffic = None; faults = s.faults; nexts = s.nexts; bound = None }

-- an IP address and a port, in a link's words
abbrev pub named : IpAddr → ℕ → Address
named (ip.V4 a) port = V4 (ipv4_octets a) port
named (ip.V6 a) port = V6 (ipv6_octets a) port

-- both are of IPv4, or both of IPv6
abbrev pub IsSameFamily : Address → Address → Type 0
IsSameFamily (V4 bytes port) (V4 others other) = Unit {0}
IsSameFamily (V6 bytes port) (V6 others other) = Unit {0}
IsSameFamily (V4 bytes port) (V6 others other) = ⊥
IsSameFamily (V6 bytes port) (V4 others other) = ⊥

-- the socket listens at an address of the same family
abbrev pub Reaches : Option Address → Address → Type 0
Reaches None receiver = ⊥
Reaches (Some listen) receiver = IsSameFamily listen receiver

-- the moment of an event
abbrev pub moment_of_event : Event → ℕ
moment_of_event (Datagram sender len at) = at
moment_of_event (Quiet at) = at
