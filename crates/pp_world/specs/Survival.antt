-- What survives restarts: a chunk that a peer announced in any session is held, behind the header and an open gate,
-- in what the disk reads at the end of each later opening that succeeds, and stands in each image that a crash at any
-- later moment leaves.
use Rattle.std.specs.Prelude.{List, [], ◌∷◌}
use Rattle.std.specs.List.{AllByRecursion}
use Rattle.pp_terms.specs.disk.Calls.{Calls}
use Rattle.pp_terms.specs.disk.Image.{StandsIn}
use Rattle.pp_terms.specs.disk.Sound.{BeganSound}
use Rattle.pp_terms.specs.format.Descriptor.{Descriptor}
use Rattle.pp_traffic.specs.Keeping.{EachAnnounced, Keeps}
use Rattle.pp_world.specs.Session.{Session}
use Rattle.pp_world.specs.World.{PeerState, World, reads_at, disk_since}

-- Each chunk that a session announced stands in what the disk reads when a later session has opened.
abbrev pub FindsAnnounced : Descriptor → Calls → (s later : Session) → Type 0
FindsAnnounced d disk s later = EachAnnounced d (λ moment i. StandsIn d (reads_at disk later.opened) i) s.traffic

-- Every image was sound as the session's opening began, so gates could be believed. From then on to the end of all
-- calls of the disk, later sessions and crashes included, each image has what stood in every image then, and what the
-- session announced since it was announced. Each later session found that.
pub record Outlasts (d : Descriptor) (disk : Calls) (later : List Session) (s : Session) : Type 0 where
  pub sound : BeganSound d (disk_since disk s)
  pub keeps : Keeps d (disk_since disk s) s.traffic
  pub found : AllByRecursion (FindsAnnounced d disk s) later

-- What each of these sessions announced outlasts it; they stand with the newest first, and the others are later ones.
abbrev pub AllOutlast : Descriptor → Calls → (later sessions : List Session) → Type 0
AllOutlast d disk later [] = Unit {0}
AllOutlast d disk later (s ∷ earlier) = Outlasts d disk later s × AllOutlast d disk (s ∷ later) earlier

-- the same of all sessions of a peer
abbrev pub KeepsAnnounced : Descriptor → PeerState → Type 0
KeepsAnnounced d x = AllOutlast d x.disk [] x.sessions

-- What any peer of a world announced survives to the world's end.
abbrev pub AnnouncedSurvives : Descriptor → World → Type 0
AnnouncedSurvives d w = AllByRecursion (KeepsAnnounced d) w.peers
