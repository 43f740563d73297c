use Rattle.std.proofs.Common.{◌≡◌, ℕ, List, length, sym, subst, arith}
use Rattle.pp_terms.specs.format.Traffic as terms
use Rattle.pp_terms.specs.format.Traffic.{Record}
use Rattle.pp_outside.specs.Outside.{address_of}
use Rattle.pp_recording.specs.Recording.{IsKeptRecord}
use Rattle.pp_recording.proofs.Draftings.{own_bytes, kept_bytes, own_received}
use Rattle.pp_recording.proofs.draft.Draft.take_received.Goals as goal

pub take_datagram-requires-clause-fills : goal.take_datagram-requires-clause-fills
take_datagram-requires-clause-fills c bytes all is =
    let size = c.count_in-len.ensures bytes all is in
    let place : c.len-start.result ≡ length c.args.self.now.bytes.items = omega (arith, c.len-start.ensures) in (place, omega (arith, size))

pub take_datagram-requires-clause-kept : goal.take_datagram-requires-clause-kept
take_datagram-requires-clause-kept c bytes all is =
    let place : c.len-start.result ≡ length c.args.self.now.bytes.items = omega (arith, c.len-start.ensures) in
    let own = own_bytes c.args.self.now.bytes.items bytes c.len-start.result c.count_in-len.result place (c.count_in-len.ensures bytes all is) in
    subst (λ (b : List ℕ). IsKeptRecord (terms.Received c.args.at (address_of c.args.from) b)) (sym own)
    (omega (arith, c.ranges.at.fits), c.requires.peer, kept_bytes c.args.digits.now bytes c.requires.digits all is, all)

pub returns : goal.returns
returns c =
    let place : c.len-start.result ≡ length c.args.self.now.bytes.items = omega (arith, c.len-start.ensures) in
    own_received c.args.self.now c.take_datagram.new.self c.args.at c.args.from c.args.digits.now c.len-start.result c.count_in-len.result c.take_datagram.result place
    c.count_in-len.ensures c.take_datagram.ensures
