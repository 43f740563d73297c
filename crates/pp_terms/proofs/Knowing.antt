-- A disk that is honest and tells stays so.
use Rattle.std.proofs.Common.{◌≡◌, sym, subst}
use Rattle.std.specs.Prelude.{Bool, ◌&&◌, IsTrue}
use Rattle.pp_terms.specs.disk.Disk.{DiskState, IsKnown}

pub known_on : (old new : DiskState) → new.tells ≡ old.tells → new.honest ≡ old.honest → IsKnown old → IsKnown new
known_on old new tells honest known =
    subst (λ (b : Bool). IsTrue b) (sym (λ i. tells i && honest i)) known
