use Rattle.std.proofs.Common.{◌≡◌}
use Rattle.pp_recorded.specs.Entries.{life_of}
use Rattle.pp_recorded.specs.Offers as terms
use Rattle.pp_recorded.proofs.Pasts.{first}
use Rattle.pp_audit.proofs.offers.is_choked_by_peer.Given as goal

abbrev pub invariant-loop-place : goal.invariant-loop-place
invariant-loop-place l = l.choked ≡ terms.chokes_since l.descriptor (life_of l.life) (first l.place l.entries)
