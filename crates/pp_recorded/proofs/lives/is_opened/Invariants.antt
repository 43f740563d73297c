use Rattle.std.proofs.Common.{◌≡◌, ◌||◌}
use Rattle.pp_traffic.specs.Past.{is_at}
use Rattle.pp_traffic.specs.Life.{greets, answers}
use Rattle.pp_recorded.specs.Entries.{life_of}
use Rattle.pp_recorded.proofs.Pasts.{first}
use Rattle.pp_recorded.proofs.lives.is_opened.Given as goal

abbrev pub invariant-loop-place : goal.invariant-loop-place
invariant-loop-place l =
    l.opened ≡ is_at (λ r. greets l.descriptor (life_of l.life) r || answers l.descriptor (life_of l.life) r) l.life.opening (first l.place l.entries)
