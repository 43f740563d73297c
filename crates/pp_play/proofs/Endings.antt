-- The peers of a replay at its end.
use Rattle.std.proofs.Common.{◌≡◌, ℕ, ◌+◌, ◌*◌, ◌^◌, ◌<◌, List, [], ◌∷◌, ◌++◌, map, length, Option, refl, sym, ◌∙◌, ap, subst, arith, Vec, Global}
use Rattle.std.specs.Prelude.{reverse}
use Rattle.std.specs.List.{AllByRecursion}
use Rattle.std.proofs.lemmas.List.{append-nil, map-append}
use Rattle.pp_terms.specs.format.Descriptor.{Descriptor, IsDescriptor, chunks_of}
use Rattle.pp_world.specs.Move.{Move, moves_of}
use Rattle.pp_promises.specs.Promises.{Fetching, Promises, Task}
use Rattle.pp_terms.specs.format.Traffic.{Address}
use Rattle.pp_avail.specs.declared.ranker.Rank.{Rank}
use Rattle.pp_sessions.specs.Sessions.{task_of}
use Rattle.pp_world.specs.Outcome as terms
use Rattle.pp_world.specs.Outcome.{AreRuns, IsEndOf, IsRun}
use Rattle.pp_world.specs.Schedule as schedules
use Rattle.pp_world.specs.Schedule.{Schedule, content_of}
use Rattle.pp_world.specs.Session.{Session, last_mark, link_of, new_link}
use Rattle.pp_world.specs.Survival.{KeepsAnnounced}
use Rattle.pp_world.specs.World.{PeerState, disk_at}
use Rattle.pp_world.specs.Worlds.{Happened, swarm_of}
use Rattle.pp_actor.specs.Actor.{ActorState, ShowsActor, ShowsRemains, part_of}
use Rattle.pp_actor.specs.Keeping.{AllKeep, KeptBy, Part, course_of, devices_of}
use Rattle.pp_actor.specs.declared.life.Remains.{Remains}
use Rattle.pp_outcome.specs.Outcome.{EndsAs, end_as}
use Rattle.pp_outcome.specs.declared.outcome.PeerEnd.{PeerEnd}
use Rattle.pp_play.specs.Keeping.{HasRole, HaveRoles, KeepAll, KeepsRun, task_for}
use Rattle.pp_play.specs.First.{IsReadied}
use Rattle.pp_play.specs.Playing.{AreEnds, EndAs, PlaysAs}
use Rattle.pp_play.specs.Replaying.{IsPlayed, ShowEnds}
use Rattle.pp_play.specs.Stage.{ShowActors, StageState}
use Rattle.pp_play.proofs.Books.{books_agree}
use Rattle.pp_play.proofs.Firsts.{count_new, count_shown}
use Rattle.pp_play.proofs.Plays.{all_know}

-- ---- one more

-- the last of some actors
record LastShown (d : Descriptor) (most : ℕ) (actors : List ActorState) (a : ActorState) (peers : List PeerState) : Type 0 where
  front : List PeerState
  x : PeerState
  is : peers ≡ front ++ x ∷ []
  show : ShowActors d most actors front
  one : ShowsActor d most a x

last_shown : (d : Descriptor) (most : ℕ) (actors : List ActorState) (a : ActorState) (peers : List PeerState) → ShowActors d most (actors ++ a ∷ []) peers → LastShown d most actors a peers
last_shown d most [] a [] show = absurd show
last_shown d most [] a (x ∷ []) show = record { front = []; x = x; is = refl; show = tt; one = show.0 }
last_shown d most [] a (x ∷ y ∷ ys) show = absurd show.1
last_shown d most (b ∷ actors) a [] show = absurd show
last_shown d most (b ∷ actors) a (x ∷ xs) show =
    let it = last_shown d most actors a xs show.1 in record {
      front = x ∷ it.front;
      x = it.x;
      is = ap (λ (ys : List PeerState). x ∷ ys) it.is;
      show = (show.0, it.show);
      one = it.one;
    }

end_more : (d : Descriptor) (ends : List PeerEnd) (end : PeerEnd) (peers : List PeerState) (x : PeerState) → AreEnds d ends peers → ShowsRemains end.remains x
    → IsEndOf d (end_as x end) → KeepsAnnounced d x → AreEnds d (ends ++ end ∷ []) (peers ++ x ∷ [])
end_more d [] end [] x are shows is keeps = (shows, is, keeps, tt)
end_more d [] end (y ∷ ys) x are shows is keeps = absurd are
end_more d (e ∷ ends) end [] x are shows is keeps = absurd are
end_more d (e ∷ ends) end (y ∷ ys) x are shows is keeps = (are.0, are.1, are.2, end_more d ends end ys x are.3 shows is keeps)

keep_more : (d : Descriptor) (parts : List Part) (part : Part) (peers : List PeerState) (x : PeerState) → KeepAll d parts peers
    → AllKeep d part x.disk x.sessions → KeepAll d (parts ++ part ∷ []) (peers ++ x ∷ [])
keep_more d [] part [] x keep one = (one, tt)
keep_more d [] part (y ∷ ys) x keep one = absurd keep
keep_more d (p ∷ parts) part [] x keep one = absurd keep
keep_more d (p ∷ parts) part (y ∷ ys) x keep one = (keep.0, keep_more d parts part ys x keep.1 one)

pub ends_more : (d : Descriptor) (actors : List ActorState) (ends : List PeerEnd) (a : ActorState) (remains : Remains) (end : PeerEnd) → EndAs d actors ends
    → ((d : Descriptor) (most : ℕ) (x : PeerState) → ShowsActor d most a x → ShowsRemains remains x)
    → ((d : Descriptor) (most : ℕ) (x : PeerState) → ShowsActor d most a x → KeepsAnnounced d x)
    → ((d : Descriptor) (most : ℕ) (x : PeerState) → ShowsActor d most a x → AllKeep d (part_of a) x.disk x.sessions) → EndsAs d remains end
    → EndAs d (actors ++ a ∷ []) (ends ++ end ∷ [])
ends_more d actors ends a remains end all leaves survives runs one most peers show =
    let it = last_shown d most actors a peers show in
    let left : ShowsRemains remains it.x = leaves d most it.x it.one in
    let front = all most it.front it.show in (
      subst (AreEnds d (ends ++ end ∷ [])) (sym it.is)
          (end_more d ends end it.front it.x front.0 (subst (λ (r : Remains). ShowsRemains r it.x) (sym one.kept) left) (one.numbers it.x left)
          (survives d most it.x it.one)),
      subst (λ (ps : List Part). KeepAll d ps peers) (sym (map-append part_of actors (a ∷ [])))
          (subst (KeepAll d (map part_of actors ++ part_of a ∷ [])) (sym it.is)
          (keep_more d (map part_of actors) (part_of a) it.front it.x front.1 (runs d most it.x it.one))),
    )

pub ends_none : (d : Descriptor) → EndAs d [] []
ends_none d most [] show = (tt, tt)
ends_none d most (x ∷ xs) show = absurd show

-- all that an iterator gave, as it is
pub map_same : (actors : List ActorState) → map (λ a. a) actors ≡ actors
map_same [] = refl
map_same (a ∷ actors) = ap (λ (l : List ActorState). a ∷ l) (map_same actors)

-- ---- the whole

abbrev seen : List PeerEnd → List PeerState → List terms.PeerEnd
seen [] peers = []
seen (end ∷ ends) [] = []
seen (end ∷ ends) (x ∷ xs) = end_as x end ∷ seen ends xs

seen_states : (d : Descriptor) (ends : List PeerEnd) (peers : List PeerState) → AreEnds d ends peers → map (λ e. e.state) (seen ends peers) ≡ peers
seen_states d [] [] are = refl
seen_states d [] (x ∷ xs) are = absurd are
seen_states d (end ∷ ends) [] are = absurd are
seen_states d (end ∷ ends) (x ∷ xs) are = ap (λ (ys : List PeerState). x ∷ ys) (seen_states d ends xs are.3)

seen_numbers : (d : Descriptor) (ends : List PeerEnd) (peers : List PeerState) → AreEnds d ends peers → AllByRecursion (IsEndOf d) (seen ends peers)
seen_numbers d [] peers are = tt
seen_numbers d (end ∷ ends) [] are = absurd are
seen_numbers d (end ∷ ends) (x ∷ xs) are = (are.1, seen_numbers d ends xs are.3)

seen_shown : (d : Descriptor) (ends : List PeerEnd) (peers : List PeerState) → AreEnds d ends peers → ShowEnds ends (seen ends peers)
seen_shown d [] peers are = tt
seen_shown d (end ∷ ends) [] are = absurd are
seen_shown d (end ∷ ends) (x ∷ xs) are = (record { remains = are.0; numbers = refl }, seen_shown d ends xs are.3)

seen_survive : (d : Descriptor) (ends : List PeerEnd) (peers : List PeerState) → AreEnds d ends peers → AllByRecursion (KeepsAnnounced d) peers
seen_survive d [] [] are = tt
seen_survive d [] (x ∷ xs) are = absurd are
seen_survive d (end ∷ ends) [] are = absurd are
seen_survive d (end ∷ ends) (x ∷ xs) are = (are.2, seen_survive d ends xs are.3)

-- ---- each session

task_is : (role : schedules.Role) (part : Part) (turns : ℕ) → HasRole role part → task_of part.asks part.dialled turns ≡ task_for role turns
task_is schedules.Seeds part turns has = ap (λ (o : Option Rank). task_of o part.dialled turns) has
task_is (schedules.Fetches order dialled) part turns has =
    ap (λ (o : Option Rank). task_of o part.dialled turns) has.1 ∙ ap (λ (l : List Address). Fetching turns l) has.2

run_of_role : (d : Descriptor) (role : schedules.Role) (part : Part) (x : PeerState) (s : Session) → HasRole role part → KeptBy d part x.disk s → IsRun KeepsRun d role x s
run_of_role d role part x s has kept =
    record {
      serves = kept.safe.serves;
      rooted = kept.rooted;
      promises = subst (λ (t : Task). Promises d t (devices_of (disk_at x.disk s s.began) new_link) (devices_of (disk_at x.disk s (last_mark s)) (link_of s))
          (course_of s)) (task_is role part (length s.turns) has) kept;
    }

runs_of_role : (d : Descriptor) (role : schedules.Role) (part : Part) (x : PeerState) (ss : List Session) → HasRole role part → AllKeep d part x.disk ss
    → AllByRecursion (IsRun KeepsRun d role x) ss
runs_of_role d role part x [] has keep = tt
runs_of_role d role part x (s ∷ ss) has keep = (run_of_role d role part x s has keep.0, runs_of_role d role part x ss has keep.1)

all_run : (d : Descriptor) (roles : List schedules.Role) (parts : List Part) (peers : List PeerState) → HaveRoles roles parts → KeepAll d parts peers
    → AreRuns KeepsRun d roles peers
all_run d [] [] [] have keep = tt
all_run d [] [] (x ∷ xs) have keep = absurd keep
all_run d [] (p ∷ parts) peers have keep = absurd have
all_run d (r ∷ roles) [] peers have keep = absurd have
all_run d (r ∷ roles) (p ∷ parts) [] have keep = absurd keep
all_run d (r ∷ roles) (p ∷ parts) (x ∷ xs) have keep = (runs_of_role d r p x x.sessions have.0 keep.0, all_run d roles parts xs have.1 keep.1)

-- A schedule was played from its first world.
pub played : (s : Schedule) (first last : StageState) (ends : Vec PeerEnd Global) (chunks : ℕ) → IsReadied s first → PlaysAs (moves_of s) first last
    → 4 * length (moves_of s) < 2 ^ 64 → EndAs last.descriptor last.actors ends.items → chunks ≡ chunks_of last.descriptor → IsDescriptor last.descriptor
    → IsPlayed s (record { ends = ends; descriptor = last.descriptor; chunks = chunks })
played s first last ends chunks ready plays few all size valid =
    let done = plays.plays s 0 [] (subst IsDescriptor (plays.descriptor ∙ ready.descriptor) valid) (sym ready.descriptor) (omega (arith, few)) (record {
      last = ready.first;
      before = [];
      happened = ready.is_first;
      knows = (
        all_know (swarm_of s) 0 first.actors ready.first.peers
            (subst (λ (d : Descriptor). ShowActors d 0 first.actors ready.first.peers) ready.descriptor ready.shows.actors),
        tt,
      );
      datagrams = tt;
      shows = ready.shows;
    }) in
    let both = subst (λ (d : Descriptor). AreEnds d ends.items done.last.peers × KeepAll d (map part_of last.actors) done.last.peers)
    (plays.descriptor ∙ ready.descriptor) (all (0 + 4 * length (moves_of s)) done.last.peers done.shows.actors) in
    let are = both.0 in
    let runs : AreRuns KeepsRun (swarm_of s) s.roles done.last.peers = all_run (swarm_of s) s.roles (map part_of first.actors) done.last.peers ready.told
    (subst (λ (ps : List Part). KeepAll (swarm_of s) ps done.last.peers) plays.parts both.1) in record {
      peers = seen ends.items done.last.peers;
      ended = record {
        last = done.last;
        before = done.before;
        worlds = subst (λ (moves : List Move). Happened s moves (done.last ∷ done.before)) (append-nil (reverse (moves_of s))) done.happened;
        same = seen_states (swarm_of s) ends.items done.last.peers are;
        numbers = seen_numbers (swarm_of s) ends.items done.last.peers are;
        runs = runs;
        survives = seen_survive (swarm_of s) ends.items done.last.peers are;
        knows = done.knows;
        datagrams = done.datagrams;
        books = books_agree KeepsRun (swarm_of s) s.roles done.last runs;
      };
      show = seen_shown (swarm_of s) ends.items done.last.peers are;
      swarm = plays.descriptor ∙ ready.descriptor;
      chunks = size ∙ ap chunks_of (plays.descriptor ∙ ready.descriptor);
    }

pub counted : (s : Schedule) (stage : StageState) → IsReadied s stage → length stage.actors ≡ length s.roles
counted s stage ready =
    count_shown stage.descriptor 0 stage.actors ready.first.peers ready.shows.actors ∙ count_new (swarm_of s) (content_of s) s.roles ready.first.peers ready.is_first.peers
