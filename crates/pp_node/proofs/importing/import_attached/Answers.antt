use Rattle.pp_node.proofs.Runs.{import_run, refused_done, refused_fault}
use Rattle.pp_node.proofs.importing.import_attached.Goals as goal

pub returns-in-Err-print-clause-run : goal.returns-in-Err-print-clause-run
returns-in-Err-print-clause-run g c =
    let does = c.import.ensures in
    import_run _ c.args.chunk _ _ _ _ c.requires.attached does.disk does.whole does.sound does.no_store does.untouched does.takes (refused_done _ _ _ _ _ _ c.in-Ok.ensures.answer)

pub returns-in-Err-clause-run : goal.returns-in-Err-clause-run
returns-in-Err-clause-run g c =
    let does = c.import.ensures in
    import_run _ c.args.chunk _ _ _ _ c.requires.attached does.disk does.whole does.sound does.no_store does.untouched does.takes (refused_fault c.in-Err.fault _ _ _ _ _ _ _ _ c.in-Err.ensures.answer c.report.ensures)

pub returns-in-Ok-print-clause-run : goal.returns-in-Ok-print-clause-run
returns-in-Ok-print-clause-run g c =
    let does = c.import.ensures in
    import_run _ c.args.chunk _ _ _ _ c.requires.attached does.disk does.whole does.sound does.no_store does.untouched does.takes (refused_done _ _ _ _ _ _ c.in-Ok.ensures.answer)
