use Rattle.std.proofs.Common.{arith}
use Rattle.pp_options.proofs.Found.{is_found, is_read}
use Rattle.pp_options.proofs.reading.read.Goals as goal

pub returns-clause-found : goal.returns-clause-found
returns-clause-found c = is_found c.args.bytes.now c.scan.result (λ i. omega (arith, c.type_inv.bytes i)) c.scan.ensures

pub returns-clause-only : goal.returns-clause-only
returns-clause-only c = is_read c.args.bytes.now c.scan.result c.scan.ensures
