-- The books of a replay's worlds agree, since each is rooted.
use Rattle.std.proofs.Common.{◌≡◌, ℕ, zero, suc, ◌<◌, List, [], ◌∷◌, length, subst, arith}
use Rattle.std.specs.Prelude.{slice_index_or, Contains}
use Rattle.std.specs.List.{AllByRecursion}
use Rattle.pp_terms.specs.format.Descriptor.{Descriptor}
use Rattle.pp_terms.specs.tree.Book.{IsRooted}
use Rattle.pp_tree.proofs.Clashes.{rooted_agree}
use Rattle.pp_world.specs.Agreement.{AllBooksAgree, IsSession}
use Rattle.pp_world.specs.Outcome.{AreRuns, IsRun, RunPromise}
use Rattle.pp_world.specs.Schedule.{Role}
use Rattle.pp_world.specs.Session.{Session}
use Rattle.pp_world.specs.World.{PeerState, World}

rooted_in : (P : RunPromise) (d : Descriptor) (role : Role) (x : PeerState) (ss : List Session) (k : ℕ) (s : Session) → AllByRecursion (IsRun P d role x) ss
    → k < length ss → slice_index_or ss k s ≡ s → IsRooted d s.book
rooted_in P d role x [] k s all within is = absurd (omega (arith, within))
rooted_in P d role x (t ∷ ss) zero s all within is = subst (λ (e : Session). IsRooted d e.book) is all.0.rooted
rooted_in P d role x (t ∷ ss) (suc k) s all within is = rooted_in P d role x ss k s all.1 (omega (arith, within)) is

rooted_at : (P : RunPromise) (d : Descriptor) (roles : List Role) (peers : List PeerState) (k : ℕ) (x : PeerState) → AreRuns P d roles peers
    → k < length peers → slice_index_or peers k x ≡ x → (s : Session) → Contains x.sessions s → IsRooted d s.book
rooted_at P d roles [] k x runs within is s among = absurd (omega (arith, within))
rooted_at P d [] (y ∷ ys) k x runs within is s among = absurd runs
rooted_at P d (r ∷ roles) (y ∷ ys) zero x runs within is s among =
    rooted_in P d r x x.sessions among.0 s (subst (λ (z : PeerState). AllByRecursion (IsRun P d r z) z.sessions) is runs.0) among.1 among.2
rooted_at P d (r ∷ roles) (y ∷ ys) (suc k) x runs within is s among = rooted_at P d roles ys k x runs.1 (omega (arith, within)) is s among

pub books_agree : (P : RunPromise) (d : Descriptor) (roles : List Role) (w : World) → AreRuns P d roles w.peers → AllBooksAgree d w
books_agree P d roles w runs one other here there n k j x y below at at' =
    rooted_agree d one.book other.book k n j x y (rooted one here) (rooted other there) below.layer below.within at at'
  where
    rooted : (s : Session) → IsSession w s → IsRooted d s.book
    rooted s is = rooted_at P d roles w.peers is.here.0 is.peer runs is.here.1 is.here.2 s is.among
