use Rattle.std.proofs.Common.{arith}
use Rattle.pp_store.proofs.Upgrades.{header_read}
use Rattle.pp_store.proofs.upgrading.check_header.Goals as goal

pub returns-in-Ok-clause-read : goal.returns-in-Ok-clause-read
returns-in-Ok-clause-read g c =
    header_read c.args.descriptor.now c.in-Ok.field-0 (g.S.Source.state c.args.source.now) (g.S.Source.state c.fill_zeroed.new.source) c.fill_zeroed.new.buffer c.old_header_of.result
    c.old_header_of.ensures (omega (arith, c.fill_zeroed.auto.buffer)) c.in-Ok.ensures.bytes c.in-Ok.ensures.read c.compare.result c.compare.ensures.same
