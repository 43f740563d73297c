use Rattle.pp_targets.proofs.TargetReadings.{each_target}
use Rattle.pp_targets.proofs.target.Target.read.Goals as goal

pub returns-clause-each : goal.returns-clause-each
returns-clause-each c = λ t ok all e.
    each_target c.args.text.now c.read_either.result c.read_either.ensures.ok c.read_either.ensures.valid c.read_either.ensures.bytes
    c.read_either.ensures.fault t ok all e
