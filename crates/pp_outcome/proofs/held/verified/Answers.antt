use Rattle.std.proofs.Common.{refl, ap, ◌∙◌}
use Rattle.pp_terms.specs.disk.Disk.{DiskState}
use Rattle.pp_terms.specs.disk.Image.{holds}
use Rattle.pp_outcome.proofs.held.verified.Goals as goal

pub returns-in-Ok : goal.returns-in-Ok
returns-in-Ok c = record {
  size = c.in-Ok.ensures.found.count;
  each = λ i lt. c.in-Ok.ensures.found.held refl i lt
      ∙ ap (λ (s : DiskState). holds c.args.descriptor.now s.history.reads i) c.in_ok-disk.ensures.state;
}
