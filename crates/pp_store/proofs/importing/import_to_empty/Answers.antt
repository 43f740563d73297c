use Rattle.std.proofs.Common.{inl, inr, arith, ap, ◌+◌, ◌<◌, refl, ℕ}
use Rattle.pp_store.specs.Import.{most_bytes}
use Rattle.pp_store.specs.declared.importing.ImportFault.TheVariants.{Source}
use Rattle.pp_store.proofs.Ends.{import_fault, import_none, import_done, counted_none, counted_over, read_whole, reads_some, partial_none, cleared_reads, clearing_fault, takes_more, takes_at_most}
use Rattle.pp_store.proofs.importing.import_to_empty.Goals as goal

pub returns-in-Ok-true : goal.returns-in-Ok-true
returns-in-Ok-true g c =
    let old = g.S.Source.state c.args.source.now in
    let mid = g.S.Source.state c.store_chunks.new.source in
    let new = g.S.Source.state c.is_over.new.source in
    let full = c.in-Ok-true.ensures.full c.in-Ok-true.field-0-test in
    import_none c.args.chunk old new _ _ _ _ c.requires.empty c.in-Ok.ensures c.in-Ok-store_chunks.ensures.disk
    (takes_more old mid new c.in-Ok-store_chunks.size 1 _ (omega (arith, c.in-Ok-store_chunks.ensures.most)) (reads_some c.args.chunk old mid c.in-Ok-store_chunks.size c.in-Ok-store_chunks.ensures.read) c.in-Ok-true.ensures.takes)
    (omega (arith, c.in-Ok-store_chunks.ensures.source, c.in-Ok-true.ensures.cause.later))
    (c.in-Ok-store_chunks.size + 1) (inr (ap (λ (n : ℕ). n + 1) full))
    (counted_over c.args.chunk old mid c.in-Ok-store_chunks.size c.in-Ok-true.field-0 c.in-Ok-true.field-0-test c.in-Ok-store_chunks.ensures.read c.in-Ok-true.ensures.over)

pub returns-in-Ok-false : goal.returns-in-Ok-false
returns-in-Ok-false g c =
    let old = g.S.Source.state c.args.source.now in
    let mid = g.S.Source.state c.store_chunks.new.source in
    let new = g.S.Source.state c.is_over.new.source in
    import_none c.args.chunk old new _ _ _ _ c.requires.empty c.in-Ok.ensures c.in-Ok-store_chunks.ensures.disk
    (takes_more old mid new c.in-Ok-store_chunks.size 1 _ (omega (arith, c.in-Ok-store_chunks.ensures.most)) (reads_some c.args.chunk old mid c.in-Ok-store_chunks.size c.in-Ok-store_chunks.ensures.read) c.in-Ok-false.ensures.takes)
    (omega (arith, c.in-Ok-store_chunks.ensures.source, c.in-Ok-false.ensures.cause.later))
    0 (inl refl)
    (counted_none c.args.chunk old mid c.in-Ok-store_chunks.size c.requires.size c.if-size-eq0.true c.in-Ok-store_chunks.ensures.read)

pub returns-in-Ok-false-2 : goal.returns-in-Ok-false-2
returns-in-Ok-false-2 g c =
    let old = g.S.Source.state c.args.source.now in
    let mid = g.S.Source.state c.store_chunks.new.source in
    let new = g.S.Source.state c.is_over.new.source in
    import_done c.args.chunk old new (g.D.Disk.state c.args.disk.now) (g.D.Disk.state c.keep_front.new.disk) (g.D.Disk.state c.store_chunks.new.disk) (g.D.Disk.state c.finish_store.new.disk) _
    c.in-Ok-store_chunks.size c.store_chunks.new.tree.count c.store_chunks.new.tree.peaks c.requires.size c.if-size-eq0.false c.in-Ok-store_chunks.ensures.most c.requires.empty c.in-Ok.ensures c.in-Ok-store_chunks.ensures.disk
    (read_whole c.args.chunk old mid c.in-Ok-store_chunks.size c.in-Ok-false.field-0 c.in-Ok-false.field-0-test c.in-Ok-store_chunks.ensures.read c.in-Ok-false.ensures.over)
    (λ content told fits. c.in-Ok-store_chunks.ensures.put content told (partial_none c.args.chunk content c.new-tree.result.peaks (g.D.Disk.state c.keep_front.new.disk) fits
    (cleared_reads (g.D.Disk.state c.args.disk.now) (g.D.Disk.state c.keep_front.new.disk) _ c.requires.empty c.in-Ok.ensures)))
    c.finish_store.result c.finish_store.ensures.described c.finish_store.ensures.stored c.finish_store.ensures.left c.finish_store.ensures.fault c.finish_store.ensures.disk
    (takes_more old mid new c.in-Ok-store_chunks.size 1 _ (omega (arith, c.in-Ok-store_chunks.ensures.most)) (reads_some c.args.chunk old mid c.in-Ok-store_chunks.size c.in-Ok-store_chunks.ensures.read) c.in-Ok-false.ensures.takes)
    (omega (arith, c.in-Ok-store_chunks.ensures.source, c.in-Ok-false.ensures.cause.later))

pub returns-in-Err-is_over : goal.returns-in-Err-is_over
returns-in-Err-is_over g c =
    let old = g.S.Source.state c.args.source.now in
    let mid = g.S.Source.state c.store_chunks.new.source in
    let new = g.S.Source.state c.is_over.new.source in
    import_fault c.args.chunk old new _ _ _ _ c.requires.empty c.in-Ok.ensures c.in-Ok-store_chunks.ensures.disk
    (takes_more old mid new c.in-Ok-store_chunks.size 1 _ (omega (arith, c.in-Ok-store_chunks.ensures.most)) (reads_some c.args.chunk old mid c.in-Ok-store_chunks.size c.in-Ok-store_chunks.ensures.read) c.in-Err-is_over.ensures.takes)
    (omega (arith, c.in-Ok-store_chunks.ensures.source, c.in-Err-is_over.ensures.cause.later))
    Source (λ below. let r : mid.faults < new.faults = c.in-Err-is_over.ensures.cause.risen refl below in omega (arith, c.in-Ok-store_chunks.ensures.source))

pub returns-in-Err : goal.returns-in-Err
returns-in-Err g c = clearing_fault c.args.chunk (g.S.Source.state c.args.source.now) (g.D.Disk.state c.args.disk.now) (g.D.Disk.state c.keep_front.new.disk) _ c.requires.empty c.in-Err.ensures

pub returns-in-Err-store_chunks : goal.returns-in-Err-store_chunks
returns-in-Err-store_chunks g c =
    import_fault c.args.chunk (g.S.Source.state c.args.source.now) (g.S.Source.state c.store_chunks.new.source) _ _ _ _ c.requires.empty c.in-Ok.ensures c.in-Err-store_chunks.ensures.disk
    (takes_at_most (g.S.Source.state c.args.source.now) (g.S.Source.state c.store_chunks.new.source) (most_bytes c.args.chunk) (most_bytes c.args.chunk + 1) (omega arith) c.in-Err-store_chunks.ensures.takes) c.in-Err-store_chunks.ensures.source
    c.in-Err-store_chunks.fault c.in-Err-store_chunks.ensures.fault
