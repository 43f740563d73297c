use Rattle.std.proofs.Common.{ℕ, false, get_or, sym, ap, ◌∙◌}
use Rattle.std.specs.Prelude.{◌&&◌, is_some}
use Rattle.pp_terms.specs.tree.Book.{has_peaks}
use Rattle.pp_tree.specs.Book.{entry, chunks_or_none}
use Rattle.pp_scan.proofs.Finding.{verified_none, verified_held}
use Rattle.pp_scan.proofs.verifying.verify_chunks.Goals as goal

pub returns-then-not-has_peaks-clause-found : goal.returns-then-not-has_peaks-clause-found
returns-then-not-has_peaks-clause-found g c =
    let count = ap chunks_or_none c.requires.descriptor in
    verified_none c.args.descriptor.now (g.D.Disk.state c.args.disk.now) (entry c.args.book.now) c.args.set c.keep_known.new.set c.requires.room c.keep_known.ensures.count
    (ap (λ (n : ℕ). has_peaks (entry c.args.book.now) n) (sym count) ∙ sym c.has_peaks.ensures ∙ c.if-not-has_peaks.true) c.requires.known
    (λ i. c.keep_known.ensures.kept i ∙ ap (λ (n : ℕ). get_or c.args.set i false && has_peaks (entry c.args.book.now) n && is_some (entry c.args.book.now 0 i)) count)

pub returns-in-Ok-clause-found : goal.returns-in-Ok-clause-found
returns-in-Ok-clause-found g c =
    verified_held c.args.descriptor.now (g.D.Disk.state c.args.disk.now) (entry c.args.book.now) c.args.set c.hold_chunks.new.set c.requires.room c.hold_chunks.ensures.count
    (ap (λ (n : ℕ). has_peaks (entry c.args.book.now) n) (sym (ap chunks_or_none c.requires.descriptor)) ∙ sym c.has_peaks.ensures ∙ c.if-not-has_peaks.false) c.requires.known
    c.in-Ok.ensures.leaf c.in-Ok.ensures.held
