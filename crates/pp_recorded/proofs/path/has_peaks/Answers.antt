use Rattle.std.proofs.Common.{◌∙◌, ap, ℕ}
use Rattle.std.specs.List.{list_all}
use Rattle.pp_terms.specs.tree.Tree.{peaks}
use Rattle.pp_recorded.specs.Entries.{past, life_of}
use Rattle.pp_recorded.specs.Paths.{known}
use Rattle.pp_recorded.proofs.Peaks.{each_peak}
use Rattle.pp_recorded.proofs.PeakLayers.{peaks_low}
use Rattle.pp_recorded.proofs.path.has_peaks.Goals as goal

pub are_known-requires : goal.are_known-requires
are_known-requires c = peaks_low c.chunks.result c.peaks-peaks.result.items c.deref.result.now c.deref.ensures.0 c.peaks-peaks.ensures

pub returns : goal.returns
returns c =
    each_peak c.chunks.result (known c.args.descriptor.now (life_of c.args.life) (past c.args.entries.now) c.args.bytes.now c.args.count)
    c.peaks-peaks.result.items c.deref.result.now c.are_known.result c.deref.ensures.0 c.peaks-peaks.ensures c.are_known.ensures
    ∙ ap (λ (n : ℕ). list_all (known c.args.descriptor.now (life_of c.args.life) (past c.args.entries.now) c.args.bytes.now c.args.count) (peaks n)) c.chunks.ensures.chunks
