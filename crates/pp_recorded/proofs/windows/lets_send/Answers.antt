use Rattle.std.proofs.Common.{ℕ, List, [], refl, ◌∙◌, ap, arith}
use Rattle.pp_traffic.specs.Meter.{Meter, new_meter}
use Rattle.pp_recorded.specs.declared.acts.Act.{Act}
use Rattle.pp_recorded.specs.Entries.{life_of}
use Rattle.pp_recorded.specs.Acts.{acts_of_life, run}
use Rattle.pp_recorded.specs.Gauges.{with_flight}
use Rattle.pp_recorded.proofs.Actings.{life_run}
use Rattle.pp_recorded.proofs.windows.lets_send.Goals as goal

pub acts-init : goal.acts-init
acts-init c = record {
  run = ap (λ (acts : List Act). run (with_flight c.new-gauge.result []) acts) c.opening-at.ensures
      ∙ ap (λ (m : Meter). run (with_flight m []) (acts_of_life c.args.descriptor.now (life_of c.args.life) c.args.entries.now)) c.new-gauge.ensures
      ∙ ap (λ (chunk : ℕ). run (new_meter chunk) (acts_of_life c.args.descriptor.now (life_of c.args.life) c.args.entries.now)) c.chunk.ensures.chunk
      ∙ life_run c.args.descriptor.now.chunk c.args.descriptor.now (life_of c.args.life) c.args.entries.now;
  behind = refl;
  few = omega arith;
}
