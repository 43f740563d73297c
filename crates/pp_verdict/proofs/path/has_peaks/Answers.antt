use Rattle.std.proofs.Common.{◌∙◌, ap, ℕ}
use Rattle.std.specs.List.{list_all}
use Rattle.pp_terms.specs.tree.Tree.{peaks}
use Rattle.pp_recorded.proofs.Peaks.{each_peak}
use Rattle.pp_recorded.proofs.PeakLayers.{peaks_low}
use Rattle.pp_verdict.specs.Courses.{is_known}
use Rattle.pp_verdict.proofs.path.has_peaks.Goals as goal

pub are_known-requires : goal.are_known-requires
are_known-requires c = peaks_low c.chunks.result c.peaks-peaks.result.items c.deref.result.now c.deref.ensures.0 c.peaks-peaks.ensures

pub returns : goal.returns
returns c = λ s stands.
    each_peak c.chunks.result (is_known c.args.descriptor.now c.args.chunk s)
    c.peaks-peaks.result.items c.deref.result.now c.are_known.result c.deref.ensures.0 c.peaks-peaks.ensures (c.are_known.ensures s stands)
    ∙ ap (λ (n : ℕ). list_all (is_known c.args.descriptor.now c.args.chunk s) (peaks n)) c.chunks.ensures.chunks
