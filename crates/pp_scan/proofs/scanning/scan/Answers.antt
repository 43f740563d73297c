use Rattle.pp_tree.specs.Book.{entry}
use Rattle.pp_scan.proofs.Finding.{found_weaker}
use Rattle.pp_scan.proofs.scanning.scan.Goals as goal

pub returns-in-Ok-clause-found : goal.returns-in-Ok-clause-found
returns-in-Ok-clause-found g c =
    found_weaker _ c.args.descriptor.now (g.D.Disk.state c.args.disk.now) (g.D.Disk.state c.scan_into.new.disk) (entry c.scan_into.new.book) c.scan_into.result c.scan_into.ensures.found
