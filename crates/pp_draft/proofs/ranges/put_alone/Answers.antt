use Rattle.pp_tree.specs.Method.{method_of}
use Rattle.pp_wire.specs.Views.{naming, span_of}
use Rattle.pp_draft.proofs.Putting.{one_added, one_lacks}
use Rattle.pp_draft.proofs.ranges.put_alone.Goals as goal

pub returns-in-Ok : goal.returns-in-Ok
returns-in-Ok c =
    let put = rw c.method.ensures.method at c.in-Ok.ensures.exact in
    let spelt = rw c.method.ensures.method at c.in-Ok.ensures.spelt in
    one_added c.args.descriptor.now (naming c.args.kind (span_of c.args.span)) c.args.out.now c.put_named.new.out c.args.at c.in-Ok.end spelt put.1 put.2 put.3 c.put_named.auto.out

pub returns-in-Err : goal.returns-in-Err
returns-in-Err c =
    one_lacks c.args.descriptor.now (naming c.args.kind (span_of c.args.span)) (method_of c.method.result) c.args.out.now c.put_named.new.out c.args.at c.in-Err.field-0 c.method.ensures.method c.requires.named c.in-Err.ensures.exact
