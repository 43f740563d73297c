use Rattle.std.proofs.Common.{◌≡◌, ℕ, ◌+◌, ◌-◌, List, take, sym, ◌∙◌, ap, arith}
use Rattle.pp_terms.specs.format.Descriptor.{chunks_of, height_of}
use Rattle.pp_terms.specs.format.Messages.{Message}
use Rattle.pp_traffic.specs.Laws.{uncles_from}
use Rattle.pp_promises.specs.Datagrams.{hash_spans, is_read_told}
use Rattle.pp_tree.specs.declared.node.Node as code
use Rattle.pp_tree.specs.Node.{node_of}
use Rattle.pp_recorded.specs.Entries.{past, life_of}
use Rattle.pp_recorded.specs.Parts.{all}
use Rattle.pp_recorded.specs.Plans.{spans_at, without, first_of}
use Rattle.pp_recorded.proofs.HashSpans.{plan_then, plan_none}
use Rattle.pp_recorded.proofs.hashes.without_plan.Goals as goal

pub returns-in-Some-clause-spans : goal.returns-in-Some-clause-spans
returns-in-Some-clause-spans c =
    let told = is_read_told c.args.descriptor.now (life_of c.args.life) (past c.args.entries.now) in
    let more = spans_at c.args.descriptor.now c.args.bytes.now c.in-Some.more in
    let whole : height_of c.args.descriptor.now + 1 - 0 ≡ height_of c.args.descriptor.now + 1 = omega arith in
    plan_then (chunks_of c.args.descriptor.now) told c.args.chunk (hash_spans (take c.args.count (all c.args.descriptor.now c.args.bytes.now))) more _
    (c.in-Some.ensures.spans
    ∙ ap (λ (ms : List Message). without (first_of (chunks_of c.args.descriptor.now) told) (hash_spans (take c.args.count ms))) (sym (c.first_place.ensures.all c.args.descriptor.now)))
    (c.without_uncles.ensures.spans
    ∙ ap (λ (n : code.Node). without (uncles_from (height_of c.args.descriptor.now + 1 - n.layer) (chunks_of c.args.descriptor.now) told (node_of n)) more) c.leaf.ensures.is
    ∙ ap (λ (l : ℕ). without (uncles_from l (chunks_of c.args.descriptor.now) told (record { layer = 0; offset = c.args.chunk })) more) whole)

pub returns-in-None-clause-spans : goal.returns-in-None-clause-spans
returns-in-None-clause-spans c =
    let told = is_read_told c.args.descriptor.now (life_of c.args.life) (past c.args.entries.now) in
    plan_none (chunks_of c.args.descriptor.now) told c.args.chunk (hash_spans (take c.args.count (all c.args.descriptor.now c.args.bytes.now)))
    (c.in-None.ensures.spans
    ∙ ap (λ (ms : List Message). without (first_of (chunks_of c.args.descriptor.now) told) (hash_spans (take c.args.count ms))) (sym (c.first_place.ensures.all c.args.descriptor.now)))
