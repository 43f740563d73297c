use Rattle.std.proofs.Common.{arith, ◌∙◌}
use Rattle.pp_scan.proofs.Reading.{read_prefix}
use Rattle.pp_scan.proofs.layers.read_tail.Goals as goal

pub returns-in-Ok-clause-pair : goal.returns-in-Ok-clause-pair
returns-in-Ok-clause-pair g c known inside =
    c.tail_of.ensures.pair
    ∙ read_prefix (g.D.Disk.state c.args.disk.now).history.reads c.args.place 64 c.read_at.new.into (c.in-Ok.ensures.filled known) (omega (arith, c.read_at.auto.into)) inside
