use Rattle.pp_targets.specs.Names.{name_of}
use Rattle.pp_scan.proofs.Reading.{len_keeps}
use Rattle.pp_named.proofs.Fronts.{told_before}
use Rattle.pp_named.proofs.probing.probe_name.Goals as goal

pub returns-in-Ok-clause-told : goal.returns-in-Ok-clause-told
returns-in-Ok-clause-told g c =
    told_before (name_of c.args.name.now) (g.D.Disk.state c.args.disk.now) (g.D.Disk.state c.len.new.self)
    (g.D.Disk.state c.read_front.new.disk) c.read_front.result (len_keeps _ _ _ c.len.ensures) c.read_front.ensures.told
