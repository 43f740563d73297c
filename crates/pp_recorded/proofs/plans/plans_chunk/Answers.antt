use Rattle.std.proofs.Common.{take, arith}
use Rattle.pp_terms.specs.format.Messages.{datagram}
use Rattle.pp_traffic.specs.Meter.{lets_send}
use Rattle.pp_outside.specs.Outside.{address_of}
use Rattle.pp_recorded.specs.Entries.{past}
use Rattle.pp_recorded.specs.Parts.{all}
use Rattle.pp_recorded.proofs.Plannings.{far_unplanned}
use Rattle.pp_recorded.proofs.plans.plans_chunk.Goals as goal

pub returns-then-chunk : goal.returns-then-chunk
returns-then-chunk c = (
  λ e. absurd cc,
  λ plans.
      let few = c.chunks-chunks.ensures.range in
      let low = c.height-height.ensures.range in
      let far = c.if-chunk.true in
      absurd (far_unplanned c.args.descriptor.now (lets_send c.args.descriptor.now.chunk) (past c.args.entries.now) (address_of c.args.to)
      (datagram c.args.descriptor.now.method c.args.descriptor.now.chunk c.args.bytes.now).channel c.args.chunk (take c.args.count (all c.args.descriptor.now c.args.bytes.now))
      (omega (arith, few, c.chunks-chunks.ensures.chunks)) (omega (arith, low, c.height-height.ensures.height)) (omega (arith, far)) plans),
)
