use Rattle.std.proofs.Common.{Bool, ap, ◌∙◌}
use Rattle.std.specs.Prelude.{◌&&◌}
use Rattle.pp_terms.specs.disk.Image.{is_open}
use Rattle.pp_outcome.proofs.held.held.Goals as goal

pub returns : goal.returns
returns c = record {
  size = c.keep_open.ensures.size;
  each = λ i lt. c.keep_open.ensures.each i lt
      ∙ ap (λ (b : Bool). is_open c.args.descriptor.now c.args.bytes.now i && b) (c.in_ok-set.ensures.each i lt);
}
