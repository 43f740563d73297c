use Rattle.std.proofs.Common.{arith}
use Rattle.pp_terms.specs.format.Descriptor.{chunks_of}
use Rattle.pp_recorded.specs.Claims.{known_of}
use Rattle.pp_recorded.specs.Provings.{leads_at, leads_up}
use Rattle.pp_recorded.proofs.Provings.{below_more, below_end}
use Rattle.pp_recorded.proofs.proving.leads_up.Goals as goal

pub loop-top-preserved : goal.loop-top-preserved
loop-top-preserved c =
    below_more (leads_at (chunks_of c.args.claims.now.descriptor.now) (known_of c.args.claims.now) c.args.chunk c.args.digest) c.loop-top.top c.leads_at-found.result c.loop-top.found
    c.leads_at-found.ensures c.loop-top.invariant

pub returns : goal.returns
unfolding leads_up
returns c =
    let end = c.loop-top.auto.top-end in
    let over = c.loop-top-test.false in
    below_end (leads_at (chunks_of c.args.claims.now.descriptor.now) (known_of c.args.claims.now) c.args.chunk c.args.digest) c.loop-top.top 21 c.loop-top.found c.loop-top.invariant
    (omega (arith, end, over))
