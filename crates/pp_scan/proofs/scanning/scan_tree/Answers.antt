use Rattle.std.proofs.Common.{subst, sym}
use Rattle.pp_terms.specs.disk.Disk.{History}
use Rattle.pp_terms.proofs.Knowing.{known_on}
use Rattle.pp_terms.specs.format.Descriptor.{height_of}
use Rattle.pp_scan.specs.Layers.{HasKnown}
use Rattle.pp_scan.specs.Gates.{ShowsGates}
use Rattle.pp_tree.specs.Book.{entry}
use Rattle.pp_scan.proofs.Finding.{found_after}
use Rattle.pp_scan.proofs.scanning.scan_tree.Goals as goal

pub returns-in-Ok-clause-found : goal.returns-in-Ok-clause-found
returns-in-Ok-clause-found g c =
    found_after c.args.descriptor.now (g.D.Disk.state c.args.disk.now) (g.D.Disk.state c.know_nodes.new.disk) (g.D.Disk.state c.scan_gates.new.disk) (entry c.know_nodes.new.book)
    c.scan_gates.result c.in-Ok.ensures.looks.keeps c.scan_gates.ensures.found

pub scan_gates-requires-clause-known : goal.scan_gates-requires-clause-known
scan_gates-requires-clause-known g c known =
    let looks = c.in-Ok.ensures.looks.keeps in
    let before = known_on (g.D.Disk.state c.know_nodes.new.disk) (g.D.Disk.state c.args.disk.now) (sym looks.tells) (sym looks.honest) known in
    subst (λ (h : History). HasKnown c.args.descriptor.now h.reads (entry c.know_nodes.new.book)) (sym looks.same) (c.in-Ok.ensures.known before)

pub scan_gates-requires-clause-gates : goal.scan_gates-requires-clause-gates
scan_gates-requires-clause-gates g c known =
    let looks = c.in-Ok.ensures.looks.keeps in
    let before = known_on (g.D.Disk.state c.know_nodes.new.disk) (g.D.Disk.state c.args.disk.now) (sym looks.tells) (sym looks.honest) known in
    subst (λ (h : History). ShowsGates c.args.descriptor.now h.reads (height_of c.args.descriptor.now) 0 (entry c.know_nodes.new.book) c.know_nodes.new.set) (sym looks.same) (c.in-Ok.ensures.gates before)
