use Rattle.std.proofs.Common.{◌≡◌, ◌-◌, ◌^◌, min}
use Rattle.pp_traffic.specs.Asking as asking
use Rattle.pp_traffic.specs.Story.{story}
use Rattle.pp_recorded.specs.Entries.{life_of}
use Rattle.pp_recorded.proofs.Pasts.{first}
use Rattle.pp_audit.proofs.asks.asks_few.Given as goal

abbrev pub invariant-loop-place : goal.invariant-loop-place
invariant-loop-place l = l.count ≡ min (asking.asks_in (story l.descriptor (life_of l.life) (first l.place l.entries))) (2 ^ 64 - 1)
