-- What is sure of each peer of a world, by which what it sends and what it takes in can be trusted.
use Rattle.std.specs.Prelude.{◌≡◌, ℕ, Bool, true, false, List, [], ◌∷◌}
use Rattle.std.specs.List.{AllByRecursion, list_any}
use Rattle.pp_terms.specs.disk.Image.{holds}
use Rattle.pp_terms.specs.format.Descriptor.{Descriptor}
use Rattle.pp_terms.specs.tree.Book.{IsRooted}
use Rattle.pp_traffic.specs.Past.{EachRecord}
use Rattle.pp_traffic.specs.Turns.{is_closing}
use Rattle.pp_promises.specs.Promises.{IsSafe}
use Rattle.pp_world.specs.Outcome.{is_announced_in}
use Rattle.pp_world.specs.Session.{Session}
use Rattle.pp_world.specs.World.{PeerState, reads_of}
use Rattle.pp_complete.specs.Shipped.{StoresShipped}

-- one of the sessions announced the chunk
abbrev pub was_announced : Descriptor → List Session → ℕ → Bool
was_announced d sessions i = list_any (λ s. is_announced_in d i s.traffic) sessions

-- What came in the newest session, with the hashes that the peer lacked by all that it had announced, is held in what the disk reads.
abbrev pub StoresInNewest : Descriptor → (reads : List ℕ) → List Session → Type 0
StoresInNewest d reads [] = Unit {0}
StoresInNewest d reads (s ∷ earlier) = EachRecord (StoresShipped d (was_announced d earlier) s.book (holds d reads)) s.traffic

-- Each of its books is rooted, all that it sent is served and planned rightly, and it closed no channel; and while it runs it stores
-- what comes.
pub record IsTrusty (d : Descriptor) (x : PeerState) : Type 0 where
  pub rooted : AllByRecursion (λ s. IsRooted d s.book) x.sessions
  pub safe : AllByRecursion (λ s. IsSafe d s.book s.traffic) x.sessions
  pub closes_none : AllByRecursion (λ s. list_any (is_closing d) s.traffic ≡ false) x.sessions
  pub stores : x.is_running ≡ true → StoresInNewest d (reads_of x) x.sessions
