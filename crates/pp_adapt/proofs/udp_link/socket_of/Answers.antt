-- The octets of an IPv6 address come back from its segments.
use Rattle.std.proofs.Common.{rules, ◌≡◌, ℕ, ◌<◌, ◌∙◌, ap, sym, length, get_or}
use Rattle.std.specs.declared.net.ip_addr.IpAddr.TheVariants as ip
use Rattle.std.specs.Net.Addr.{segments_of, octets_of}
use Rattle.std.specs.Net.Socket.{socket_ip, socket_port}
use Rattle.pp_outside.specs.declared.link.Address.TheVariants.{V6}
use Rattle.pp_adapt.specs.UdpState.{named}
use Rattle.pp_adapt.proofs.Octets.{octets_back}
use Rattle.pp_adapt.proofs.udp_link.socket_of.Goals as goal

pub returns-in-V6 : goal.returns-in-V6
returns-in-V6 c =
    let made : socket_ip c.new-in-V6.result ≡ ip.V6 c.from_octets-in-V6.result = c.new-in-V6.ensures.ip in
    let port : socket_port c.new-in-V6.result ≡ c.in-V6.port = c.new-in-V6.ensures.port in
    let segments : c.from_octets-in-V6.result.segments ≡ segments_of c.in-V6.bytes = c.from_octets-in-V6.ensures in
    let long : length c.in-V6.bytes ≡ 16 = search rules in
    let small : (k : ℕ) → get_or c.in-V6.bytes k 0 < 256 = λ k. search rules in
    let back : octets_of c.from_octets-in-V6.result.segments ≡ c.in-V6.bytes = ap octets_of segments ∙ octets_back c.in-V6.bytes long small in
    ap (λ found. named found (socket_port c.new-in-V6.result)) made ∙ ap (V6 (octets_of c.from_octets-in-V6.result.segments)) port ∙ ap (λ bytes. V6 bytes c.in-V6.port) back ∙ sym c.in-V6.is
