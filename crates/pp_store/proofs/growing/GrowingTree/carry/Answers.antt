use Rattle.std.proofs.Common.{◌<◌, [], length, get_or, arith, refl}
use Rattle.pp_tree.proofs.Layers.{default_in}
use Rattle.pp_store.proofs.Writings.{keeps_more, does_later, does_fault}
use Rattle.pp_store.proofs.Carrying.{carry_low, carry_up, carry_end}
use Rattle.pp_store.proofs.Layering.{carry_put}
use Rattle.pp_store.proofs.growing.GrowingTree.carry.Goals as goal

pub offset_bounds-self-layer : goal.offset_bounds-self-layer
offset_bounds-self-layer g c = let low = carry_low _ _ _ _ c.loop-offset.invariant.at c.requires.room in omega arith

pub listed : goal.listed
listed g c = let low = carry_low _ _ _ _ c.loop-offset.invariant.at c.requires.room in omega arith

pub bounds-self-layer : goal.bounds-self-layer
bounds-self-layer g c = let low = carry_low _ _ _ _ c.loop-offset.invariant.at c.requires.room in omega arith

pub returns-in-Err-clause-does : goal.returns-in-Err-clause-does
returns-in-Err-clause-does g c = does_later _ _ _ _ c.loop-offset.invariant.keeps (does_fault _ _ _ c.in-Err.fault c.in-Err.ensures.put.does)

pub overflow_add-layer : goal.overflow_add-layer
overflow_add-layer g c = let low = carry_low _ _ _ _ c.loop-offset.invariant.at c.requires.room in omega arith

pub loop-offset-preserved : goal.loop-offset-preserved
loop-offset-preserved g c =
    let at = c.loop-offset.invariant.at in
    let low = carry_low _ _ _ _ at c.requires.room in
    let inside : c.loop-offset.layer < length c.args.self.now.peaks = omega arith in
    record {
      at = carry_up _ _ _ _ at c.loop-offset-test.true;
      keeps = keeps_more _ _ _ c.loop-offset.invariant.keeps c.in-Ok.ensures.put.does.keeps;
      carrying = λ content begun.
          carry_put c.args.chunk c.args.self.now.count c.loop-offset.layer c.loop-offset.offset c.loop-offset.step c.args.self.now.peaks (g.D.Disk.state c.loop-offset.disk) (g.D.Disk.state c.put_pair.new.disk)
          (get_or c.args.self.now.peaks c.loop-offset.layer c.index-self-layer.result) c.loop-offset.last c.in-Ok.above at c.loop-offset-test.true
          (default_in c.args.self.now.peaks c.loop-offset.layer c.index-self-layer.result [] inside) c.in-Ok.ensures.put c.in-Ok.ensures.digest content (c.loop-offset.invariant.carrying content begun);
    }

pub offset_bounds-self-layer-2 : goal.offset_bounds-self-layer-2
offset_bounds-self-layer-2 g c = let low = carry_low _ _ _ _ c.loop-offset.invariant.at c.requires.room in omega arith

pub listed-2 : goal.listed-2
listed-2 g c = let low = carry_low _ _ _ _ c.loop-offset.invariant.at c.requires.room in omega arith

pub bounds-self-layer-2 : goal.bounds-self-layer-2
bounds-self-layer-2 g c = let low = carry_low _ _ _ _ c.loop-offset.invariant.at c.requires.room in omega arith

pub returns-clause-put : goal.returns-clause-put
returns-clause-put g c content begun =
    let low = carry_low _ _ _ _ c.loop-offset.invariant.at c.requires.room in
    let inside : c.loop-offset.layer < length c.args.self.now.peaks = omega arith in
    carry_end c.args.chunk content c.args.self.now.count c.loop-offset.layer c.loop-offset.offset c.loop-offset.step c.args.self.now.peaks _ c.loop-offset.last _
    c.loop-offset.invariant.at c.loop-offset-test.false inside refl (c.loop-offset.invariant.carrying content begun)
