use Rattle.std.proofs.lemmas.Result.{err_from_is_err_and}
use Rattle.pp_targets.proofs.NameForms.{stage_root, stage_colon, stage_chunk, stage_auto, stage_method, stage_end, fault_at_front, fault_at_root, fault_at_colon, fault_at_chunk, fault_at_auto, fault_at_method, fault_at_end, words_read}
use Rattle.pp_targets.proofs.form.read_words.Goals as goal

pub returns-in_err-root_at-clause-err : goal.returns-in_err-root_at-clause-err
returns-in_err-root_at-clause-err c =
    let p = err_from_is_err_and c.from_residual.result c.from_residual.ensures.1 in
    rw (p.1, p.2) (fault_at_front c.args.bytes.now _ c.in_err-root_at.ensures.err)

pub returns-in_err-root_end-clause-err : goal.returns-in_err-root_end-clause-err
returns-in_err-root_end-clause-err c =
    let p = err_from_is_err_and c.from_residual-in_err-root_end.result c.from_residual-in_err-root_end.ensures.1 in
    let w1 = stage_root c.args.bytes.now _ c.in_ok-root_at.ensures.ok in
    rw (p.1, p.2) (fault_at_root c.args.bytes.now _ _ w1 c.in_err-root_end.ensures.err)

pub returns-in_err-chunk_at-clause-err : goal.returns-in_err-chunk_at-clause-err
returns-in_err-chunk_at-clause-err c =
    let p = err_from_is_err_and c.from_residual-in_err-chunk_at.result c.from_residual-in_err-chunk_at.ensures.1 in
    let w1 = stage_root c.args.bytes.now _ c.in_ok-root_at.ensures.ok in
    let w2 = stage_colon c.args.bytes.now _ _ w1 c.in_ok-root_end.ensures.ok in
    rw (p.1, p.2) (fault_at_colon c.args.bytes.now _ _ w2 c.in_err-chunk_at.ensures.err)

pub returns-in_err-chunk-clause-err : goal.returns-in_err-chunk-clause-err
returns-in_err-chunk-clause-err c =
    let p = err_from_is_err_and c.from_residual-in_err-chunk.result c.from_residual-in_err-chunk.ensures.1 in
    let w1 = stage_root c.args.bytes.now _ c.in_ok-root_at.ensures.ok in
    let w2 = stage_colon c.args.bytes.now _ _ w1 c.in_ok-root_end.ensures.ok in
    let w3 = stage_chunk c.args.bytes.now _ _ w2 c.in_ok-chunk_at.ensures.ok in
    rw (p.1, p.2) (fault_at_chunk c.args.bytes.now _ _ w3 c.in_ok-chunk_at.ensures.ok.inside c.in_err-chunk.ensures.err)

pub returns-in_err-method_at-clause-err : goal.returns-in_err-method_at-clause-err
returns-in_err-method_at-clause-err c =
    let p = err_from_is_err_and c.from_residual-in_err-method_at.result c.from_residual-in_err-method_at.ensures.1 in
    let w1 = stage_root c.args.bytes.now _ c.in_ok-root_at.ensures.ok in
    let w2 = stage_colon c.args.bytes.now _ _ w1 c.in_ok-root_end.ensures.ok in
    let w3 = stage_chunk c.args.bytes.now _ _ w2 c.in_ok-chunk_at.ensures.ok in
    let w4 = stage_auto c.args.bytes.now _ _ _ w3 c.in_ok-chunk.ensures.ok in
    rw (p.1, p.2) (fault_at_auto c.args.bytes.now _ _ w4 c.in_err-method_at.ensures.err)

pub returns-in_err-method-clause-err : goal.returns-in_err-method-clause-err
returns-in_err-method-clause-err c =
    let p = err_from_is_err_and c.from_residual-in_err-method.result c.from_residual-in_err-method.ensures.1 in
    let w1 = stage_root c.args.bytes.now _ c.in_ok-root_at.ensures.ok in
    let w2 = stage_colon c.args.bytes.now _ _ w1 c.in_ok-root_end.ensures.ok in
    let w3 = stage_chunk c.args.bytes.now _ _ w2 c.in_ok-chunk_at.ensures.ok in
    let w4 = stage_auto c.args.bytes.now _ _ _ w3 c.in_ok-chunk.ensures.ok in
    let w5 = stage_method c.args.bytes.now _ _ w4 c.in_ok-method_at.ensures.ok in
    rw (p.1, p.2) (fault_at_method c.args.bytes.now _ _ w5 c.in_ok-method_at.ensures.ok.inside c.in_err-method.ensures.err)

pub returns-then-end-bytes-clause-err : goal.returns-then-end-bytes-clause-err
returns-then-end-bytes-clause-err c =
    let w1 = stage_root c.args.bytes.now _ c.in_ok-root_at.ensures.ok in
    let w2 = stage_colon c.args.bytes.now _ _ w1 c.in_ok-root_end.ensures.ok in
    let w3 = stage_chunk c.args.bytes.now _ _ w2 c.in_ok-chunk_at.ensures.ok in
    let w4 = stage_auto c.args.bytes.now _ _ _ w3 c.in_ok-chunk.ensures.ok in
    let w5 = stage_method c.args.bytes.now _ _ w4 c.in_ok-method_at.ensures.ok in
    let w6 = stage_end c.args.bytes.now _ _ _ w5 c.in_ok-method.ensures.ok in
    fault_at_end c.args.bytes.now _ w6 c.if-end-bytes.true

pub returns-clause-ok : goal.returns-clause-ok
returns-clause-ok c =
    words_read c.args.bytes.now _ _ _ _ _ c.in_ok-root_at.ensures.ok c.in_ok-root_end.ensures.ok c.in_ok-chunk_at.ensures.ok
    c.in_ok-chunk.ensures.ok c.in_ok-method_at.ensures.ok c.in_ok-method.ensures.ok c.if-end-bytes.false
    c.root_bytes-root.ensures.text c.root_bytes-root.ensures.all c.root_bytes-root.ensures.size
