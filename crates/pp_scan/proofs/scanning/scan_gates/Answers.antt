use Rattle.std.proofs.Common.{ℕ, false, get_or, ap, ◌∙◌, arith}
use Rattle.std.specs.Prelude.{◌&&◌, is_some}
use Rattle.pp_terms.specs.tree.Book.{has_peaks}
use Rattle.pp_tree.specs.Book.{entry, chunks_or_none}
use Rattle.pp_scan.proofs.Finding.{found_kept, gates_all}
use Rattle.pp_scan.proofs.scanning.scan_gates.Goals as goal

pub keep_known-requires : goal.keep_known-requires
keep_known-requires g c = record { few = omega (arith, c.mark_last.ensures.count, c.requires.room, c.mark_last.ensures.fits.0) }

pub returns-in-Ok-clause-found : goal.returns-in-Ok-clause-found
returns-in-Ok-clause-found g c =
    found_kept c.args.descriptor.now (g.D.Disk.state c.args.disk.now) (entry c.args.book.now) c.mark_last.new.set c.keep_known.new.set
    (c.mark_last.ensures.count ∙ c.requires.room) c.keep_known.ensures.count c.requires.begins c.requires.known
    (λ known. gates_all c.args.descriptor.now (g.D.Disk.state c.args.disk.now).history.reads (entry c.args.book.now) c.args.set c.mark_last.new.set
    c.mark_last.ensures.fits.1 (c.requires.gates known) c.mark_last.ensures.others (c.in-Ok.ensures.last known))
    (λ i. c.keep_known.ensures.kept i
    ∙ ap (λ (n : ℕ). get_or c.mark_last.new.set i false && has_peaks (entry c.args.book.now) n && is_some (entry c.args.book.now 0 i)) (ap chunks_or_none c.requires.descriptor))
