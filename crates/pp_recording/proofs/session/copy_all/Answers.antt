use Rattle.std.proofs.Common.{◌≡◌, ◌≤◌, ℕ, suc, refl, ◌∙◌, ap, subst, length, arith}
use Rattle.pp_terms.specs.format.Descriptor.{height_of}
use Rattle.pp_tree.specs.Book.{entry}
use Rattle.pp_recording.specs.Recording.{lowest_nodes}
use Rattle.pp_recording.proofs.Sessions.{layer_few, layer_count, layer_copied}
use Rattle.pp_recording.proofs.session.copy_all.Goals as goal

pub loop-layer-preserved : goal.loop-layer-preserved
loop-layer-preserved c =
    let is = c.height-height.ensures.height in
    let low : height_of c.args.descriptor.now ≤ 20 = subst (λ (n : ℕ). n ≤ 20) is (omega (arith, c.height-height.ensures.range)) in
    let before = c.loop-layer.invariant in
    let here = c.copy_layer-nodes.ensures in
    record {
      copied = layer_copied (height_of c.args.descriptor.now) c.height-height.result c.loop-layer.layer _ (entry c.args.from.now) (entry c.args.to.now)
          (entry c.loop-layer.to) (entry c.copy_layer-nodes.new.to) is low refl before.copied here.copied;
      count = layer_count (entry c.args.from.now) (height_of c.args.descriptor.now) c.height-height.result c.loop-layer.layer _
          c.loop-layer.nodes c.copy_layer-nodes.result is low refl before.count here.count;
      few = layer_few (height_of c.args.descriptor.now) c.height-height.result c.loop-layer.layer _ c.loop-layer.nodes c.copy_layer-nodes.result
          is low refl before.few here.few;
      prepared = here.prepared c.args.descriptor.now before.prepared;
      digests = here.digests;
    }

pub returns-clause-count : goal.returns-clause-count
returns-clause-count c =
    let end : c.loop-layer.layer ≡ suc c.height-height.result = omega arith in
    c.loop-layer.invariant.count ∙ ap (λ (k : ℕ). length (lowest_nodes (entry c.args.from.now) (height_of c.args.descriptor.now) k))
    (end ∙ ap (λ (h : ℕ). suc h) c.height-height.ensures.height)
