use Rattle.pp_terms.proofs.Knowing.{known_on}
use Rattle.pp_node.proofs.Looks.{named_later}
use Rattle.pp_node.proofs.Runs.{attach_run}
use Rattle.pp_node.proofs.Attached.{ends_since, run_since}
use Rattle.pp_node.proofs.importing.import.Goals as goal

pub returns-in-Ok-clause-ends : goal.returns-in-Ok-clause-ends
returns-in-Ok-clause-ends g c link book =
    ends_since c.args.chunk _ _ _ _ (g.D.Disk.state c.args.disk.now) (g.D.Disk.state c.attach.new.self) _ c.in-Ok.ensures link book c.import_attached.result (c.import_attached.ensures.ends link book)

pub returns-in-Ok-clause-run : goal.returns-in-Ok-clause-run
returns-in-Ok-clause-run g c =
    run_since c.args.chunk _ _ (g.K.Sink.state c.args.sink.now) (g.K.Sink.state c.args.sink.now) (g.D.Disk.state c.args.disk.now) (g.D.Disk.state c.attach.new.self) _ c.in-Ok.ensures c.import_attached.result c.import_attached.ensures.run

pub returns-in-Ok-clause-named : goal.returns-in-Ok-clause-named
returns-in-Ok-clause-named g c known =
    named_later (g.D.Disk.state c.args.disk.now).history.names c.args.store.now (g.D.Disk.state c.attach.new.self).history.names (g.D.Disk.state c.import_attached.new.disk).history.names
    (c.in-Ok.ensures.attached known).named
    (c.import_attached.ensures.names (known_on (g.D.Disk.state c.args.disk.now) (g.D.Disk.state c.attach.new.self) c.in-Ok.ensures.call.tells c.in-Ok.ensures.call.honest known))

pub returns-in-Err-clause-run : goal.returns-in-Err-clause-run
returns-in-Err-clause-run g c =
    attach_run c.report.result c.args.chunk (g.S.Source.state c.args.source.now) (g.D.Disk.state c.args.disk.now) (g.D.Disk.state c.attach.new.self) _ _ c.in-Err.ensures c.report.ensures.0
