use Rattle.std.proofs.Common.{◌<◌, [], length, get_or, arith, ◌∙◌}
use Rattle.pp_tree.proofs.Layers.{zeros_empty, default_in}
use Rattle.pp_store.proofs.Tails.{tail_low, tail_none}
use Rattle.pp_store.proofs.Layering.{last_odd, last_even}
use Rattle.pp_store.proofs.growing.GrowingTree.put_last.Goals as goal

pub offset_bounds-self-layer : goal.offset_bounds-self-layer
offset_bounds-self-layer g c = let low = tail_low _ _ _ _ c.requires.at c.requires.most in omega arith

pub listed : goal.listed
listed g c = let low = tail_low _ _ _ _ c.requires.at c.requires.most in omega arith

pub bounds-self-layer : goal.bounds-self-layer
bounds-self-layer g c = let low = tail_low _ _ _ _ c.requires.at c.requires.most in omega arith

pub returns-then-offset-eq1-clause-put : goal.returns-then-offset-eq1-clause-put
returns-then-offset-eq1-clause-put g c =
    let low = tail_low _ _ _ _ c.requires.at c.requires.most in
    let inside : c.args.layer < length c.args.self.now.peaks = omega arith in
    last_odd c.args.chunk c.args.self.now.count c.args.layer c.args.offset c.args.step c.args.self.now.peaks (g.D.Disk.state c.args.disk.now) (g.D.Disk.state c.put_pair.new.disk)
    (get_or c.args.self.now.peaks c.args.layer c.index-self-layer.result) c.args.last.now c.put_pair.result c.requires.at c.requires.short c.if-offset-eq1.true (default_in c.args.self.now.peaks c.args.layer c.index-self-layer.result [] inside) c.put_pair.ensures.put c.put_pair.ensures.digest

pub returns-then-offset-step-clause-put : goal.returns-then-offset-step-clause-put
returns-then-offset-step-clause-put g c =
    last_even c.args.chunk c.args.self.now.count c.args.layer c.args.offset c.args.step c.args.self.now.peaks (g.D.Disk.state c.args.disk.now) (g.D.Disk.state c.put_pair-then-offset-step.new.disk)
    _ _ c.put_pair-then-offset-step.result c.requires.at c.requires.short c.if-offset-eq1.false c.if-offset-step.true (c.new.ensures.same ∙ zeros_empty) c.put_pair-then-offset-step.ensures.put c.put_pair-then-offset-step.ensures.digest

pub returns-else-offset-step-clause-put : goal.returns-else-offset-step-clause-put
returns-else-offset-step-clause-put g c content before =
    tail_none c.args.chunk content c.args.self.now.count c.args.layer c.args.offset c.args.step c.args.self.now.peaks _ _ c.requires.at c.if-offset-eq1.false c.if-offset-step.false before
