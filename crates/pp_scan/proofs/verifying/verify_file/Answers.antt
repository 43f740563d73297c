use Rattle.std.proofs.Common.{subst, sym}
use Rattle.pp_terms.specs.disk.Disk.{History}
use Rattle.pp_terms.proofs.Knowing.{known_on}
use Rattle.pp_tree.specs.Book.{entry}
use Rattle.pp_scan.specs.Layers.{HasKnown}
use Rattle.pp_scan.proofs.Finding.{verified_after}
use Rattle.pp_scan.proofs.verifying.verify_file.Goals as goal

pub verify_chunks-requires-clause-known : goal.verify_chunks-requires-clause-known
verify_chunks-requires-clause-known g c known =
    let looks = c.in-Ok.ensures.looks.keeps in
    let before = known_on (g.D.Disk.state c.know_nodes.new.disk) (g.D.Disk.state c.args.disk.now) (sym looks.tells) (sym looks.honest) known in
    subst (λ (h : History). HasKnown c.args.descriptor.now h.reads (entry c.know_nodes.new.book)) (sym looks.same) (c.in-Ok.ensures.known before)

pub returns-in-Ok-clause-found : goal.returns-in-Ok-clause-found
returns-in-Ok-clause-found g c =
    verified_after _ c.args.descriptor.now (g.D.Disk.state c.args.disk.now) (g.D.Disk.state c.know_nodes.new.disk) (g.D.Disk.state c.verify_chunks.new.disk) (entry c.know_nodes.new.book)
    c.verify_chunks.result c.in-Ok.ensures.looks.keeps c.verify_chunks.ensures.found
