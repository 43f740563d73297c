-- The commands that words may ask for, and how each of them ends.
use Rattle.std.specs.Prelude.{ℕ}
use Rattle.pp_words.specs.Commands.{Command, Import, Seed, Fetch, Check, Export, Upgrade, Replay, Rehearse, Play, Record, Audit}
use Rattle.pp_node.specs.Auditing.{AuditEnds}
use Rattle.pp_node.specs.Naming.{TargetCheckEnds}
use Rattle.pp_node.specs.NamedExporting.{TargetExportEnds}
use Rattle.pp_node.specs.NamedFetching.{TargetFetchEnds}
use Rattle.pp_node.specs.Outside.{Outside}
use Rattle.pp_node.specs.Playing.{PlayEnds}
use Rattle.pp_node.specs.NamedSeeding.{TargetSeedEnds}
use Rattle.pp_node.specs.Recordings.{RecordEnds}
use Rattle.pp_node.specs.Replaying.{ReplayEnds, RehearseEnds}
use Rattle.pp_node.specs.Run.{ImportEnds}
use Rattle.pp_node.specs.Upgrading.{UpgradeEnds}

-- the commands that fill the book, and those that use the link
abbrev pub FillsBook : Command → Type 0
FillsBook (Check store target) = Unit {0}
FillsBook (Export store target) = Unit {0}
FillsBook (Upgrade store descriptor) = Unit {0}
FillsBook (Seed store target listen turns) = Unit {0}
FillsBook (Fetch store target listen turns order peers) = Unit {0}
FillsBook (Play store descriptor listen turns window peers) = Unit {0}
FillsBook _ = ⊥

abbrev pub UsesLink : Command → Type 0
UsesLink (Seed store target listen turns) = Unit {0}
UsesLink (Fetch store target listen turns order peers) = Unit {0}
UsesLink (Play store descriptor listen turns window peers) = Unit {0}
UsesLink _ = ⊥

-- How a command ended, by the number that it answered.
abbrev pub HasEnded : Command → ℕ → Outside → Outside → Type 0
HasEnded (Import store chunk) number old new = ImportEnds number store chunk old new
HasEnded (Check store target) number old new = TargetCheckEnds number store target old new
HasEnded (Seed store target listen turns) number old new = TargetSeedEnds number store target listen turns old new
HasEnded (Fetch store target listen turns order peers) number old new = TargetFetchEnds number store target listen turns peers old new
HasEnded (Export store target) number old new = TargetExportEnds number store target old new
HasEnded (Upgrade store descriptor) number old new = UpgradeEnds number store descriptor old new
HasEnded Replay number old new = ReplayEnds number old new
HasEnded (Rehearse n) number old new = RehearseEnds number n old new
HasEnded (Play store descriptor listen turns window peers) number old new =
    PlayEnds number (record { store = store; descriptor = descriptor; listen = listen; turns = turns }) window peers old new
HasEnded (Record peer life) number old new = RecordEnds number peer life old new
HasEnded Audit number old new = AuditEnds number old new
