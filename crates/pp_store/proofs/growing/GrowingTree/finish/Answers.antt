use Rattle.std.proofs.Common.{◌<◌, [], inl, inr, length, arith, refl, ◌∙◌}
use Rattle.pp_tree.proofs.Layers.{default_in, zeros_empty}
use Rattle.pp_store.proofs.Writings.{keeps_same, keeps_more, does_later}
use Rattle.pp_store.proofs.Tails.{tail_first, tail_up, tail_low, tail_start, tail_built, tail_root}
use Rattle.pp_store.proofs.growing.GrowingTree.finish.Goals as goal

pub loop-step-init : goal.loop-step-init
loop-step-init g c = record {
  at = tail_first c.args.self.now.count;
  keeps = keeps_same _;
  tailing = λ content all part. tail_start c.args.chunk content c.args.self.now.count c.args.self.now.peaks _ _ (c.new-last.ensures.same ∙ zeros_empty) all part;
}

pub returns-in-Err-clause-does : goal.returns-in-Err-clause-does
returns-in-Err-clause-does g c = does_later _ _ _ _ c.loop-step.invariant.keeps c.in-Err.ensures.does

pub overflow_add-layer : goal.overflow_add-layer
overflow_add-layer g c = let low = tail_low _ _ _ _ c.loop-step.invariant.at c.requires.most in omega arith

pub loop-step-preserved : goal.loop-step-preserved
loop-step-preserved g c = record {
  at = tail_up _ _ _ _ c.loop-step.invariant.at c.loop-step-test.true c.requires.most;
  keeps = keeps_more _ _ _ c.loop-step.invariant.keeps c.in-Ok.ensures.does.keeps;
  tailing = λ content all part. c.in-Ok.ensures.put content (c.loop-step.invariant.tailing content all part);
}

pub offset_bounds-self-layer : goal.offset_bounds-self-layer
offset_bounds-self-layer g c = let low = tail_low _ _ _ _ c.loop-step.invariant.at c.requires.most in omega arith

pub listed : goal.listed
listed g c = let low = tail_low _ _ _ _ c.loop-step.invariant.at c.requires.most in omega arith

pub bounds-self-layer : goal.bounds-self-layer
bounds-self-layer g c = let low = tail_low _ _ _ _ c.loop-step.invariant.at c.requires.most in omega arith

pub returns-then-offset-eq1-clause-built : goal.returns-then-offset-eq1-clause-built
returns-then-offset-eq1-clause-built g c content all part known =
    tail_built c.args.chunk content c.args.self.now.count c.loop-step.layer c.loop-step.offset c.loop-step.step c.args.self.now.peaks c.loop-step.last _
    c.loop-step.invariant.at c.loop-step-test.false (c.loop-step.invariant.tailing content all part) known

pub returns-then-offset-eq1-clause-root : goal.returns-then-offset-eq1-clause-root
returns-then-offset-eq1-clause-root g c content all part =
    let low = tail_low _ _ _ _ c.loop-step.invariant.at c.requires.most in
    let inside : c.loop-step.layer < length c.args.self.now.peaks = omega arith in
    tail_root c.args.chunk content c.args.self.now.count c.loop-step.layer c.loop-step.offset c.loop-step.step c.args.self.now.peaks c.loop-step.last _ _
    c.loop-step.invariant.at c.loop-step-test.false
    (inl (c.if-offset-eq1.true, default_in c.args.self.now.peaks c.loop-step.layer c.index-self-layer.result [] inside))
    (c.loop-step.invariant.tailing content all part)

pub returns-else-offset-eq1-clause-built : goal.returns-else-offset-eq1-clause-built
returns-else-offset-eq1-clause-built g c content all part known =
    tail_built c.args.chunk content c.args.self.now.count c.loop-step.layer c.loop-step.offset c.loop-step.step c.args.self.now.peaks c.loop-step.last _
    c.loop-step.invariant.at c.loop-step-test.false (c.loop-step.invariant.tailing content all part) known

pub returns-else-offset-eq1-clause-root : goal.returns-else-offset-eq1-clause-root
returns-else-offset-eq1-clause-root g c content all part =
    tail_root c.args.chunk content c.args.self.now.count c.loop-step.layer c.loop-step.offset c.loop-step.step c.args.self.now.peaks c.loop-step.last c.loop-step.last _
    c.loop-step.invariant.at c.loop-step-test.false
    (inr (c.if-offset-eq1.false, refl))
    (c.loop-step.invariant.tailing content all part)
