use Rattle.pp_targets.specs.Names.{name_of}
use Rattle.pp_named.proofs.Fronts.{judged_told}
use Rattle.pp_named.proofs.probing.read_front.Goals as goal

pub returns-in-Ok-clause-told : goal.returns-in-Ok-clause-told
returns-in-Ok-clause-told g c =
    judged_told (name_of c.args.name.now) (g.D.Disk.state c.args.disk.now) (g.D.Disk.state c.read_at.new.self) c.read_at.new.into c.judge.result
    c.requires.some c.in-Ok.ensures.filled c.read_at.auto.into c.judge.ensures
