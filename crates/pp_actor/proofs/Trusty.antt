-- What is sure of a peer of a world, as long as an actor is it.
use Rattle.std.proofs.Common.{◌≡◌, ◌⊎◌, inl, inr, ⊎_elim, ℕ, Bool, true, false, Some, None, Option, List, [], ◌∷◌, ◌++◌, sym, ◌∙◌, ap, subst, arith}
use Rattle.std.specs.Prelude.{reverse}
use Rattle.std.specs.List.{AllByRecursion, list_any}
use Rattle.std.proofs.lemmas.Bool.{or_cases}
use Rattle.std.proofs.lemmas.List.{append-nil}
use Rattle.std.proofs.lemmas.Option.{same_Some}
use Rattle.pp_terms.specs.disk.Calls.{Calls, history_of}
use Rattle.pp_terms.specs.disk.Disk.{History, moment_of}
use Rattle.pp_terms.specs.disk.Image.{StandsIn, holds}
use Rattle.pp_terms.specs.format.Descriptor.{Descriptor}
use Rattle.pp_terms.specs.format.Traffic.{GainsRecords, Record}
use Rattle.pp_terms.specs.tree.Book.{LookUp, IsRooted}
use Rattle.pp_traffic.specs.Past.{EachRecord}
use Rattle.pp_promises.specs.Promises.{IsSafe}
use Rattle.pp_tree.specs.Book.{entry}
use Rattle.pp_outside.specs.MemoryDisk as disks
use Rattle.pp_store.specs.Store.{is_committed, is_held}
use Rattle.pp_store.proofs.Sealing.{throughout_later}
use Rattle.pp_complete.proofs.Knowing.{announced_has}
use Rattle.pp_complete.specs.Shipped.{StoresShipped}
use Rattle.pp_shipments.specs.Trusty.{IsTrusty, StoresInNewest, was_announced}
use Rattle.pp_peer.specs.Standing.{Beginning}
use Rattle.pp_core.specs.Keeping.{IsKeeping}
use Rattle.pp_turns.specs.Promising.{Ended, HasTurned}
use Rattle.pp_turns.specs.Turning.{Post}
use Rattle.pp_world.specs.Knowing.{AllKnowTold}
use Rattle.pp_world.specs.Outcome.{is_announced_in}
use Rattle.pp_world.specs.Session.{Session}
use Rattle.pp_world.specs.World.{PeerState, reads_of}
use Rattle.pp_stage.specs.Turned.{post_of}
use Rattle.pp_stage.specs.declared.turning.Running.{Running}
use Rattle.pp_actor.specs.Actor.{ActorState, ShowsActor, ShowsNow, part_of}
use Rattle.pp_actor.specs.Going.{IsGoing, IsGoingIn, LastsNow}
use Rattle.pp_actor.specs.Keeping.{AllKeep, Part}
use Rattle.pp_actor.specs.Lasting.{AllLast, HasStood, IsLasting, disk_before}
use Rattle.pp_actor.proofs.Actors.{seen_so, tied_now}
use Rattle.pp_actor.proofs.Begins.{stop_lasts}

-- ---- what is stored

-- Where more was had, and more is held, it is so still.
each_shipped : (d : Descriptor) (book : LookUp) (had had' held held' : ℕ → Bool) → ((i : ℕ) → had' i ≡ true → had i ≡ true)
    → ((i : ℕ) → held i ≡ true → held' i ≡ true) → (past : List Record) → EachRecord (StoresShipped d had book held) past
    → EachRecord (StoresShipped d had' book held') past
each_shipped d book had had' held held' less more [] each = tt
each_shipped d book had had' held held' less more (r ∷ past) each = (
  λ life i bytes b told theirs shipped. ⊎_elim (λ is. inl (more i is)) (λ fault. inr fault) (each.0 life i bytes b told theirs (record {
    told_of = λ n is. let of = shipped.told_of n is in
        (of.0, of.1, ⊎_elim (λ before. inl (less of.0 before)) (λ since. inr since) of.2);
    peaks = shipped.peaks;
    backed = shipped.backed;
    hashes = shipped.hashes;
    inside = shipped.inside;
    few = shipped.few;
    path = shipped.path;
  })),
  each_shipped d book had had' held held' less more past each.1,
)

-- what earlier sessions announced was committed as this one had opened
module _ (d : Descriptor) (disk : Calls) (committed : ℕ → Bool)
    (taken : (i : ℕ) → HasStood d (history_of disk) (moment_of (history_of disk)) i → committed i ≡ true) where
  was_taken : (es : List Session) → AllLast d disk es → (i : ℕ) → was_announced d es i ≡ true → committed i ≡ true
  was_taken [] all i is = absurd cc
  was_taken (e ∷ es) all i is = ⊎_elim
      (λ here.
      let stood = (announced_has d (HasStood d (history_of disk)) i e.traffic all.0.announced here).1 in
      taken i (record {
        past = omega arith;
        stands = throughout_later (history_of disk) (announced_has d (HasStood d (history_of disk)) i e.traffic all.0.announced here).0
            (moment_of (history_of disk)) (λ image. StandsIn d image i) stood.past stood.stands;
      }))
      (λ later. was_taken es all.2 i later)
      (or_cases (is_announced_in d i e.traffic) (was_announced d es i) is)

module _ (d : Descriptor) (part : Part) (disk : Calls) (s : Session) (earlier : List Session) (now : Post) (going : IsGoing d part disk s earlier now)
    (carried_all : now.link.traffic ≡ Some s.traffic) (book : entry now.peer.parts.holding.book ≡ s.book) (reads : now.disk.history.reads ≡ (history_of disk).reads) where
  swarm : going.b.d ≡ d
  swarm = ap (λ (b : Beginning). b.d) going.opening.is ∙ going.opening.swarm

  added_is : going.turned.turns.went.added ≡ s.traffic
  added_is =
      let went = going.turned.turns.went in
      sym (append-nil went.added) ∙ same_Some (went.added ++ []) s.traffic
      (sym (subst (λ t. GainsRecords t went.added now.link.traffic) going.opening.unused.traffic went.gained) ∙ carried_all)

  is_there : (i : ℕ) → is_held now.peer.parts.holding.store i ≡ true → holds d (history_of disk).reads i ≡ true
  is_there i is =
      let went = going.turned.turns.went in
      let kept = (went.keeps going.opening.kept).kept in
      subst (λ (bytes : List ℕ). holds d bytes i ≡ true) reads
      (subst (λ (x : Descriptor). holds x now.disk.history.reads i ≡ true) (went.advances.descriptor ∙ going.opening.swarm)
      (kept.holds going.turned.turns.live i is).held)

  ships : EachRecord (StoresShipped d (is_committed going.first.peer.parts.holding.store) s.book (is_held now.peer.parts.holding.store)) s.traffic
  ships =
      subst (λ (rs : List Record). EachRecord (StoresShipped d (is_committed going.first.peer.parts.holding.store) s.book
      (is_held now.peer.parts.holding.store)) rs) added_is
      (subst (λ (k : LookUp). EachRecord (StoresShipped d (is_committed going.first.peer.parts.holding.store) k (is_held now.peer.parts.holding.store))
      going.turned.turns.went.added) book
      (subst (λ (x : Descriptor). EachRecord (StoresShipped x (is_committed going.first.peer.parts.holding.store) (entry now.peer.parts.holding.book)
      (is_held now.peer.parts.holding.store)) going.turned.turns.went.added) swarm
      (going.turned.keeps.ships going.opening.kept)))

  stores_going : EachRecord (StoresShipped d (was_announced d earlier) s.book (holds d (history_of disk).reads)) s.traffic
  stores_going = each_shipped d s.book (is_committed going.first.peer.parts.holding.store) (was_announced d earlier)
      (is_held now.peer.parts.holding.store) (holds d (history_of disk).reads)
      (was_taken d (disk_before disk s) (is_committed going.first.peer.parts.holding.store) going.opening.taken earlier going.all)
      is_there s.traffic ships

-- ---- whether it runs or not

-- what each session kept
all_rooted : (d : Descriptor) (part : Part) (disk : Calls) (ss : List Session) → AllKeep d part disk ss → AllByRecursion (λ s. IsRooted d s.book) ss
all_rooted d part disk [] keep = tt
all_rooted d part disk (s ∷ ss) keep = (keep.0.rooted, all_rooted d part disk ss keep.1)

all_safe : (d : Descriptor) (part : Part) (disk : Calls) (ss : List Session) → AllKeep d part disk ss
    → AllByRecursion (λ s. IsSafe d s.book s.traffic) ss
all_safe d part disk [] keep = tt
all_safe d part disk (s ∷ ss) keep = (keep.0.safe, all_safe d part disk ss keep.1)

-- all its sessions last, as if it had been stopped
pub all_lasts : (d : Descriptor) (most : ℕ) (a : ActorState) (x : PeerState) → ShowsActor d most a x → IsLasting d (part_of a) x.disk x.sessions
all_lasts d most a x shows = of a.running shows.now shows.lasts
  where
    of : (o : Option Running) → ShowsNow most x o (reverse a.lives) → LastsNow d (part_of a) x.disk x.sessions a.disk o
        → IsLasting d (part_of a) x.disk x.sessions
    of None now lasts = lasts
    of (Some r) now lasts = stop_lasts d (part_of a) most a.disk x now.session now.earlier r shows.disk now.sessions
        (seen_so most a.disk x r now.session (tied_now d (part_of a) x.disk x.sessions (post_of r a.disk) lasts) now.shows) lasts

pub trusty : (d : Descriptor) (most : ℕ) (a : ActorState) (x : PeerState) → ShowsActor d most a x → IsTrusty d x
trusty d most a x shows =
    let lasts = all_lasts d most a x shows in record {
      rooted = all_rooted d (part_of a) x.disk x.sessions lasts.keep;
      safe = all_safe d (part_of a) x.disk x.sessions lasts.keep;
      closes_none = lasts.settled.closes_none;
      stores = of a.running shows.now shows.lasts;
    }
  where
    of : (o : Option Running) → ShowsNow most x o (reverse a.lives) → LastsNow d (part_of a) x.disk x.sessions a.disk o
        → x.is_running ≡ true → StoresInNewest d (reads_of x) x.sessions
    of None now lasts runs = (let never : false ≡ true = sym now.stands ∙ runs in absurd cc)
    of (Some r) now lasts runs =
        subst (StoresInNewest d (reads_of x)) (sym now.sessions)
        (stores_going d (part_of a) x.disk now.session now.earlier (post_of r a.disk)
        (subst (λ (ss : List Session). IsGoingIn d (part_of a) x.disk ss (post_of r a.disk)) now.sessions lasts)
        now.shows.link.traffic now.shows.book (ap (λ (h : History). h.reads) shows.disk.history))

pub knows_told : (d : Descriptor) (most : ℕ) (a : ActorState) (x : PeerState) → ShowsActor d most a x → AllKnowTold d x.sessions
knows_told d most a x shows = (all_lasts d most a x shows).settled.knows
