use Rattle.std.proofs.Common.{List, map, ◌∙◌, ap}
use Rattle.pp_terms.specs.format.Descriptor.{chunks_of}
use Rattle.pp_terms.specs.tree.Tree.{Node}
use Rattle.pp_promises.specs.Datagrams.{is_read_told}
use Rattle.pp_tree.specs.declared.node.Node as code
use Rattle.pp_tree.specs.Node.{node_of}
use Rattle.pp_recorded.specs.Entries.{past, life_of}
use Rattle.pp_recorded.specs.Plans.{spans_at, without}
use Rattle.pp_recorded.proofs.HashSpans.{first_none, first_all}
use Rattle.pp_recorded.proofs.Peaks.{each_peak}
use Rattle.pp_recorded.proofs.PeakLayers.{peaks_low}
use Rattle.pp_recorded.proofs.hashes.without_peaks.Goals as goal

pub returns-then-are_told-clause-spans : goal.returns-then-are_told-clause-spans
returns-then-are_told-clause-spans c =
    let told = is_read_told c.args.descriptor.now (life_of c.args.life) (past c.args.entries.now) in
    first_none (chunks_of c.args.descriptor.now) c.chunks.result told (spans_at c.args.descriptor.now c.args.bytes.now c.args.front) c.are_told.result c.chunks.ensures.chunks
    (each_peak c.chunks.result told c.peaks-peaks.result.items c.deref.result.now c.are_told.result c.deref.ensures.0 c.peaks-peaks.ensures c.are_told.ensures)
    c.if-are_told.true

pub without_nodes-requires-clause-low : goal.without_nodes-requires-clause-low
without_nodes-requires-clause-low c = peaks_low c.chunks.result c.peaks-peaks.result.items c.deref-2.result.now c.deref-2.ensures.0 c.peaks-peaks.ensures

pub returns-clause-spans : goal.returns-clause-spans
returns-clause-spans c =
    let told = is_read_told c.args.descriptor.now (life_of c.args.life) (past c.args.entries.now) in
    let spans = spans_at c.args.descriptor.now c.args.bytes.now c.args.front in
    c.without_nodes.ensures.spans
    ∙ ap (λ (xs : List code.Node). without (map node_of xs) spans) c.deref-2.ensures.0
    ∙ ap (λ (ns : List Node). without ns spans) c.peaks-peaks.ensures
    ∙ first_all (chunks_of c.args.descriptor.now) c.chunks.result told spans c.are_told.result c.chunks.ensures.chunks
    (each_peak c.chunks.result told c.peaks-peaks.result.items c.deref.result.now c.are_told.result c.deref.ensures.0 c.peaks-peaks.ensures c.are_told.ensures)
    c.if-are_told.false
