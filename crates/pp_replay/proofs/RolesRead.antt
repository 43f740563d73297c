-- Lines of peers, read one by one.
use Rattle.std.proofs.Common.{◌≡◌, ℕ, ◌+◌, ◌≤◌, List, ◌++◌, length}
use Rattle.pp_world.specs.Schedule.{Role}
use Rattle.pp_world.specs.ScheduleRead.{Declared, rows_of, peers_declared, all_declared}
use Rattle.pp_replay.specs.Roles.{declared}

-- these roles, and then those that are read
abbrev pub behind_roles : List Role → Declared → Declared
behind_roles roles more = declared (roles ++ more.roles) more.behind

-- Of a text these roles are read, and this text is left.
pub record AreDeclared (text left : List ℕ) (roles : List Role) : Type 0 where
  pub read : peers_declared 0 (rows_of text) ≡ behind_roles roles (peers_declared (length roles) (rows_of left))
  pub few : length roles ≤ 16

-- As far as this line, all roles dial declared peers.
pub record AreAllDeclared (peers line i : ℕ) (roles left : List Role) : Type 0 where
  pub line_is : line ≡ i + 3
  pub same : all_declared peers 3 roles ≡ all_declared peers line left
