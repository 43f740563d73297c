use Rattle.std.proofs.Common.{◌-◌, ◌^◌, ◌≤◌, arith}
use Rattle.std.proofs.Math.Nat.{pow-le-pow_right}
use Rattle.pp_terms.specs.format.Descriptor.{height_of}
use Rattle.pp_recording.proofs.Partings.{height_low}
use Rattle.pp_recording.proofs.Draftings.{node_taken, node_refused}
use Rattle.pp_recording.proofs.draft.Draft.take_node.Goals as goal

pub returns-then-not-may_come : goal.returns-then-not-may_come
returns-then-not-may_come c =
    node_refused c.args.self.now c.args.node c.args.digest.now c.requires.draft (λ may. let told = c.may_come.ensures.1 may in let refused = c.if-not-may_come.true in cc)

pub overflow_add-self-2 : goal.overflow_add-self-2
overflow_add-self-2 c =
    let may = c.may_come.ensures.0 c.if-not-may_come.false in
    let low = height_low c.args.self.now.descriptor c.requires.draft.kept.descriptor in
    let less : height_of c.args.self.now.descriptor - c.args.node.layer ≤ 20 = omega (arith, low) in
    let base : 1 ≤ 2 = omega arith in
    let most : 2 ^ (height_of c.args.self.now.descriptor - c.args.node.layer) ≤ 2 ^ 20 = pow-le-pow_right base less in
    omega (arith, may.in_tree.offset, most)

pub returns : goal.returns
returns c =
    let may = c.may_come.ensures.0 c.if-not-may_come.false in
    node_taken c.args.self.now c.set.new.self c.args.node c.args.digest.now c.requires.draft may c.set.ensures.entered
    (c.set.ensures.prepared c.args.self.now.descriptor c.requires.draft.book) c.requires.size c.requires.bytes
