use Rattle.std.proofs.Common.{length, rules, sym, ◌∙◌, ap}
use Rattle.pp_replay.proofs.Pairs.{decoded}
use Rattle.pp_replay.proofs.datagram.Hex.decode.Goals as goal

pub unwrap-requires : goal.unwrap-requires
unwrap-requires c =
    let size = c.requires ∙ sym (ap length c.self.view_is) in
    let written = rw (decoded c.self.inside.digits.now (length c.args.into.now) c.self.invariant size) at c.decode_to_slice.ensures.value in
    rw written.0 (search rules)

pub returns : goal.returns
returns c =
    let size = c.requires ∙ sym (ap length c.self.view_is) in
    let written = rw (decoded c.self.inside.digits.now (length c.args.into.now) c.self.invariant size) at c.decode_to_slice.ensures.value in
    written.1 ∙ c.self.view_is
