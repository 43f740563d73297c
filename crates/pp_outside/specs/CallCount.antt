-- How many calls changed what is on a disk: each write, done or refused, is pending in its epoch, and each other one ended an epoch.
use Rattle.std.specs.Prelude.{ℕ, ◌+◌, List, [], ◌∷◌, length}
use Rattle.pp_terms.specs.disk.Disk.{Epoch, History}

abbrev pub calls_of_ended : List Epoch → ℕ
calls_of_ended [] = 0
calls_of_ended (epoch ∷ epochs) = length epoch.pending + 1 + calls_of_ended epochs

abbrev pub calls_in : History → ℕ
calls_in h = calls_of_ended h.past + length h.epoch.pending
