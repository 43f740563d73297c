use Rattle.std.proofs.Common.{List, Bool, ◌∙◌, ◌+◌, sym, subst, arith}
use Rattle.pp_terms.specs.disk.Image.{is_open}
use Rattle.pp_outcome.proofs.Gates.{AreKeptBelow, kept_none, taken_more, left_more}
use Rattle.pp_outcome.proofs.held.keep_open.Goals as goal
use Rattle.pp_outcome.proofs.held.keep_open.Goals.{then-not-is_open, else-not-is_open}

pub loop-i-init : goal.loop-i-init
loop-i-init c = kept_none (is_open c.args.descriptor.now c.args.bytes.now) c.args.set.now

pub loop-i-preserved : goal.loop-i-preserved
loop-i-preserved c =
    let test = is_open c.args.descriptor.now c.args.bytes.now in
    let P = λ (set : List Bool). AreKeptBelow test c.args.set.now (c.loop-i.i + 1) set in
    elim c.if-not-is_open.branch [
      | then-not-is_open w ↦ subst P (sym (w.set-is ∙ w.remove.ensures))
          (taken_more test c.args.set.now c.loop-i.set c.loop-i.i
          (omega (arith, c.loop-i.invariant.size, c.requires, c.chunks-i-end.ensures.chunks, c.loop-i-test.true))
          (sym c.is_open.ensures ∙ w.if-not-is_open.true) c.loop-i.invariant)
      | else-not-is_open w ↦ subst P (sym w.set-is)
          (left_more test c.args.set.now c.loop-i.set c.loop-i.i (sym c.is_open.ensures ∙ w.if-not-is_open.false) c.loop-i.invariant)
    ]

pub returns : goal.returns
returns c = record {
  size = c.loop-i.invariant.size ∙ c.requires;
  each = λ i lt. c.loop-i.invariant.done i (omega (arith, lt, c.chunks-i-end.ensures.chunks, c.loop-i-test.false));
}
