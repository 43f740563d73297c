use Rattle.pp_terms.specs.disk.Store.{Has}
use Rattle.pp_terms.proofs.Images.{throughout_write_elsewhere, throughout_settled, sole_image}
use Rattle.pp_terms.proofs.Founds.{found_held}
use Rattle.pp_terms.proofs.laws_of_the_disk.Goals as goal

pub returns : goal.returns
returns c = record {
  write = throughout_write_elsewhere;
  sync = λ h image. sole_image h.reads image;
  found = found_held;
  sync_keeps = λ h moment at kept. throughout_settled h moment h.reads (Has at kept);
}
