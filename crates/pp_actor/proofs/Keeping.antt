-- A session that is over kept the promise of a run.
use Rattle.std.proofs.Common.{◌≡◌, ℕ, ◌≤◌, true, Some, None, Option, List, [], ◌∷◌, ◌++◌, length, sym, ◌∙◌, ap, subst, arith}
use Rattle.std.proofs.lemmas.List.{append-nil, take_all, take-append-le}
use Rattle.std.proofs.lemmas.Option.{same_Some}
use Rattle.pp_terms.specs.command.Stream.{SinkState}
use Rattle.pp_terms.specs.disk.Calls.{Calls, Did, history_of}
use Rattle.pp_terms.specs.disk.Disk.{DiskState, History, moment_of}
use Rattle.pp_terms.specs.format.Descriptor.{Descriptor}
use Rattle.pp_terms.specs.format.Traffic.{GainsRecords, LinkState, Record}
use Rattle.pp_terms.specs.tree.Book.{LookUp}
use Rattle.pp_promises.specs.Premises.{Devices}
use Rattle.pp_promises.specs.Promises.{Course, Promises, Task}
use Rattle.pp_tree.specs.Book.{entry, IsBookOf}
use Rattle.pp_outside.specs.Whole.{reads_are_image}
use Rattle.pp_peer.specs.Standing.{Beginning}
use Rattle.pp_core.specs.Keeping.{IsKeeping}
use Rattle.pp_turns.specs.Promising.{Ended, HasTurned}
use Rattle.pp_turns.specs.Turning.{Post, Stops, Went}
use Rattle.pp_sessions.specs.Laws.{IsAttachedThen, Opens}
use Rattle.pp_sessions.specs.Sessions as sessions
use Rattle.pp_sessions.specs.Sessions.{HasEnded, HasStopped, IsSession, seen_disk, seen_link, task_of}
use Rattle.pp_sessions.proofs.Seen.{seen_from_opening}
use Rattle.pp_sessions.proofs.Sessions.{stops_keep, turns_keep}
use Rattle.pp_world.specs.Session.{Mark, Session, last_mark, link_of, new_link}
use Rattle.pp_world.specs.World.{disk_after, disk_at}
use Rattle.pp_actor.specs.Going.{HasOpenedOver, IsMarked}
use Rattle.pp_actor.specs.Keeping.{AllKeep, KeptBy, Part, course_of, devices_of}
use Rattle.pp_actor.specs.Lasting.{AllLast, disk_before}
use Rattle.pp_actor.proofs.Lasting.{SameImages}

-- ---- more calls of its disk

module _ (d : Descriptor) (part : Part) (disk : Calls) (calls : List Did) where
  at_same : (s : Session) (mark : Mark) → mark.calls ≤ length disk.done → disk_at (record disk { done = disk.done ++ calls }) s mark ≡ disk_at disk s mark
  at_same s mark le = ap (λ (done : List Did). record {
    tells = true;
    honest = true;
    history = history_of (record disk { done = done; attached_at = s.began.calls });
    faults = mark.faults;
    hard = mark.hard;
  }) (take-append-le mark.calls disk.done calls le)

  keep_more : (s : Session) → s.began.calls ≤ length disk.done → (last_mark s).calls ≤ length disk.done → KeptBy d part disk s
      → KeptBy d part (record disk { done = disk.done ++ calls }) s
  keep_more s began marked kept =
      subst (λ (old : DiskState). Promises d (task_of part.asks part.dialled (length s.turns)) (devices_of old new_link)
      (devices_of (disk_at (record disk { done = disk.done ++ calls }) s (last_mark s)) (link_of s)) (course_of s)) (sym (at_same s s.began began))
      (subst (λ (new : DiskState). Promises d (task_of part.asks part.dialled (length s.turns)) (devices_of (disk_at disk s s.began) new_link)
      (devices_of new (link_of s)) (course_of s)) (sym (at_same s (last_mark s) marked)) kept)

  pub all_keep_more : (ss : List Session) → AllLast d disk ss → AllKeep d part disk ss → AllKeep d part (record disk { done = disk.done ++ calls }) ss
  all_keep_more [] all keep = tt
  all_keep_more (s ∷ ss) all keep = (keep_more s all.0.began all.0.marked keep.0, all_keep_more ss all.2 keep.1)

-- ---- a session that is over

-- The link is the session's, and the book is.
pub record IsSeen (s : Session) (now : Post) : Type 0 where
  pub traffic : now.link.traffic ≡ Some s.traffic
  pub faults : now.link.faults ≡ s.refused
  pub nexts : now.link.nexts ≡ length s.turns
  pub book : entry now.peer.parts.holding.book ≡ s.book
  pub rooted : IsBookOf now.peer.parts.holding.store.descriptor now.peer.parts.holding.book

module _ (d : Descriptor) (part : Part) (disk : Calls) (s : Session) (b : Beginning) (first now : Post) (o : HasOpenedOver d part disk s b first)
    (shown : SameImages now.disk.history (history_of disk)) (reads : now.disk.history.reads ≡ (history_of disk).reads) (marked : IsMarked disk s now)
    (seen : IsSeen s now) where
  abbrev old : History
  old = history_of (disk_before disk s)

  abbrev at_end : History
  at_end = disk_after s.began.calls (last_mark s).calls disk

  abbrev whole : sessions.Session
  whole = record {
    start = record { random = o.random; asks = part.asks; dial = part.dialled };
    old = disk_at disk s s.began;
    first = first;
    last = now;
    taken = length s.turns;
    seen = at_end;
  }

  opens : Opens d old first
  opens = record {
    whole = reads_are_image (disk_before disk s);
    later = o.keeps_on.later;
    goes_on = λ i stands. o.keeps_on.stands i (moment_of old) (omega arith) stands;
    found = λ i stands. o.taken i (record { past = omega arith; stands = stands });
    kept = λ sound. subst (λ (m : ℕ). IsKeeping m first.peer first.disk []) (ap (λ (x : Beginning). x.since) o.is) o.kept;
  }

  end_is : at_end ≡ history_of (record disk { attached_at = s.began.calls })
  end_is = ap (λ (n : ℕ). disk_after s.began.calls n disk) marked.calls
      ∙ ap (λ (done : List Did). history_of (record disk { done = done; attached_at = s.began.calls })) (take_all (length disk.done) disk.done (omega arith))

  attached_then : IsAttachedThen old now.disk.history at_end
  attached_then = record {
    reads = ap (λ (h : History). h.reads) end_is ∙ sym reads;
    past = ap (λ (h : History). h.past) end_is ∙ sym shown.past;
    epoch = ap (λ (h : History). h.epoch) end_is ∙ sym shown.epoch;
    start = ap (λ (h : History). h.start) end_is;
    first = ap (λ (h : History). h.first) end_is;
  }

  is_session : IsSession d whole
  is_session = record {
    opened = record { begun = o.begun; few = o.few; unused = o.unused; known = o.kept.kept.known; faults = o.faults; hard = o.hard };
    seen_as = seen_from_opening d old at_end first now opens attached_then;
    book = seen.rooted;
  }

  abbrev task : Task
  task = task_of part.asks part.dialled (length s.turns)

  abbrev before : Devices
  before = devices_of (disk_at disk s s.began) new_link

  abbrev no_sink : SinkState
  no_sink = record { taken = None; faults = 0 }

  same_disk : seen_disk now.disk at_end ≡ disk_at disk s (last_mark s)
  same_disk =
      ap (λ (n : ℕ). record { tells = true; honest = true; history = at_end; faults = n; hard = now.disk.hard }) (sym marked.faults)
      ∙ ap (λ (n : ℕ). record { tells = true; honest = true; history = at_end; faults = (last_mark s).faults; hard = n }) (sym marked.hard)

  same_link : seen_link now.link ≡ link_of s
  same_link =
      ap (λ (t : Option (List Record)). record { traffic = t; faults = now.link.faults; nexts = now.link.nexts; bound = None }) seen.traffic
      ∙ ap (λ (n : ℕ). record { traffic = Some s.traffic; faults = n; nexts = now.link.nexts; bound = None }) seen.faults
      ∙ ap (λ (n : ℕ). record { traffic = Some s.traffic; faults = s.refused; nexts = n; bound = None }) seen.nexts

  same_course : (begun : Beginning) (went : Went begun (length s.turns) first now) → record { book = entry now.peer.parts.holding.book; taken = length s.turns; added = went.added } ≡ course_of s
  same_course begun went =
      let same : went.added ++ [] ≡ s.traffic = same_Some (went.added ++ []) s.traffic
      (sym (subst (λ t. GainsRecords t went.added now.link.traffic) o.unused.traffic went.gained) ∙ seen.traffic) in
      ap (λ (k : LookUp). record { book = k; taken = length s.turns; added = went.added }) seen.book
      ∙ ap (λ (rs : List Record). record { book = s.book; taken = length s.turns; added = rs }) (sym (append-nil went.added) ∙ same)

  -- its promises, in the words of a world
  as_kept : (course : Course) → course ≡ course_of s
      → Promises d task before (record { disk = seen_disk now.disk at_end; link = seen_link now.link; sink = no_sink }) course → KeptBy d part disk s
  as_kept course same promises =
      subst (λ (e : DiskState). Promises d task before (record { disk = e; link = link_of s; sink = no_sink }) (course_of s)) same_disk
      (subst (λ (l : LinkState). Promises d task before (record { disk = seen_disk now.disk at_end; link = l; sink = no_sink }) (course_of s)) same_link
      (subst (Promises d task before (record { disk = seen_disk now.disk at_end; link = seen_link now.link; sink = no_sink })) same promises))

  pub ended_keeps : HasTurned Ended b (length s.turns) first now → KeptBy d part disk s
  ended_keeps turned =
      let t : HasEnded whole = subst (λ (x : Beginning). HasTurned Ended x (length s.turns) first now) o.is turned in
      as_kept (sessions.course_of whole t.turns.went.added)
      (same_course (sessions.beginning_of first) t.turns.went)
      (turns_keep d whole no_sink no_sink is_session t)

  pub stopped_keeps : Stops b (length s.turns) first now → KeptBy d part disk s
  stopped_keeps stopped =
      let t : HasStopped whole = subst (λ (x : Beginning). Stops x (length s.turns) first now) o.is stopped in
      as_kept (sessions.course_of whole t.went.added)
      (same_course (sessions.beginning_of first) t.went)
      (stops_keep d whole no_sink no_sink is_session t)
