-- A session: what a peer does from one opening of its store until it stops. Its book, what its link carried, and how
-- far the peer's devices were at the points where a session may be looked at. (A life, in the definitions on traffic,
-- is a channel.)
use Rattle.std.specs.Prelude.{ℕ, Some, None, List, [], ◌∷◌, length}
use Rattle.pp_terms.specs.format.Traffic.{Record, LinkState}
use Rattle.pp_terms.specs.tree.Book.{LookUp}

-- How many calls had changed the disk, how many calls of it were refused, all and those but readings, and how many
-- records the session's link had. The disk's moment alone wouldn't tell what was pending then.
pub record Mark : Type 0 where
  pub calls : ℕ
  pub faults : ℕ
  pub hard : ℕ
  pub records : ℕ

-- The marks of the beginning and the end of the opening, and of the end of each turn, the newest first; the records
-- of the link, the newest first; how many calls of the link were refused; and the book.
pub record Session : Type 0 where
  pub began : Mark
  pub opened : Mark
  pub turns : List Mark
  pub traffic : List Record
  pub refused : ℕ
  pub book : LookUp

-- the newest of some marks, of which one is the oldest
abbrev pub newest_mark : (oldest : Mark) → List Mark → Mark
newest_mark oldest [] = oldest
newest_mark oldest (mark ∷ marks) = mark

-- where the peer was when the session was last in use
abbrev pub last_mark : Session → Mark
last_mark s = newest_mark s.opened s.turns

-- a link that nothing has come over
abbrev pub new_link : LinkState
new_link = record { traffic = Some []; faults = 0; nexts = 0; bound = None }

-- the session's link, on which each turn waited once
abbrev pub link_of : Session → LinkState
link_of s = record { traffic = Some s.traffic; faults = s.refused; nexts = length s.turns; bound = None }
