use Rattle.std.proofs.Common.{◌≡◌, ℕ, List, length, sym, subst, arith}
use Rattle.pp_terms.specs.format.Traffic as terms
use Rattle.pp_terms.specs.format.Traffic.{Record}
use Rattle.pp_outside.specs.Outside.{address_of}
use Rattle.pp_recording.specs.Recording.{IsKeptRecord}
use Rattle.pp_recording.proofs.Draftings.{own_bytes, kept_bytes, own_sent}
use Rattle.pp_recording.proofs.draft.Draft.take_sent.Goals as goal

pub take_datagram-requires-clause-fills : goal.take_datagram-requires-clause-fills
take_datagram-requires-clause-fills c bytes all is =
    let size = c.count_in-len.ensures bytes all is in
    let place : c.len-start.result ≡ length c.args.self.now.bytes.items = omega (arith, c.len-start.ensures) in (place, omega (arith, size))

pub take_datagram-requires-clause-kept : goal.take_datagram-requires-clause-kept
take_datagram-requires-clause-kept c bytes all is =
    let place : c.len-start.result ≡ length c.args.self.now.bytes.items = omega (arith, c.len-start.ensures) in
    let own = own_bytes c.args.self.now.bytes.items bytes c.len-start.result c.count_in-len.result place (c.count_in-len.ensures bytes all is) in
    subst (λ (b : List ℕ). IsKeptRecord (terms.Sent c.args.moment (address_of c.args.to) b)) (sym own)
    (omega (arith, c.ranges.moment.fits), c.requires.peer, kept_bytes c.args.digits.now bytes c.requires.digits all is, all)

pub returns : goal.returns
returns c =
    let place : c.len-start.result ≡ length c.args.self.now.bytes.items = omega (arith, c.len-start.ensures) in
    own_sent c.args.self.now c.take_datagram.new.self c.args.moment c.args.to c.args.digits.now c.len-start.result c.count_in-len.result c.take_datagram.result place
    c.count_in-len.ensures c.take_datagram.ensures
