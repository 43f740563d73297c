-- A session of a peer that is over lasts, as all before it do.
use Rattle.std.proofs.Common.{◌≡◌, inl, ℕ, ◌≤◌, true, false, Some, List, [], ◌∷◌, ◌++◌, refl, sym, ◌∙◌, ap, subst, arith}
use Rattle.std.specs.Prelude.{length, drop, slice_index_or}
use Rattle.std.specs.List.{AllByRecursion, list_any}
use Rattle.std.proofs.lemmas.Bool.{or_left}
use Rattle.std.proofs.lemmas.List.{append-nil, take-append-drop}
use Rattle.std.proofs.lemmas.Option.{same_Some}
use Rattle.pp_terms.specs.disk.Calls.{Calls, Did, history_of}
use Rattle.pp_terms.specs.disk.Disk.{Throughout, moment_of}
use Rattle.pp_terms.specs.disk.Image.{StandsIn}
use Rattle.pp_terms.specs.disk.Sound.{IsSound}
use Rattle.pp_terms.specs.format.Descriptor.{Descriptor}
use Rattle.pp_terms.specs.format.Traffic.{GainsRecords, Record}
use Rattle.pp_terms.specs.tree.Book.{LookUp}
use Rattle.pp_tree.specs.Book.{entry}
use Rattle.pp_traffic.specs.Keeping.{EachAnnounced, StandsSince}
use Rattle.pp_traffic.specs.Turns.{is_closing}
use Rattle.pp_store.specs.Pairs.{GoesOnSince}
use Rattle.pp_store.specs.Sound.{StaysSound}
use Rattle.pp_store.specs.Store.{is_committed}
use Rattle.pp_store.proofs.Sealing.{throughout_later}
use Rattle.pp_holding.specs.Holding.{AreTied}
use Rattle.pp_peer.specs.Standing.{Beginning}
use Rattle.pp_core.specs.Keeping.{IsThere}
use Rattle.pp_turns.specs.Turning.{Post, Went}
use Rattle.pp_turns.proofs.Steps.{each_announced}
use Rattle.pp_world.specs.Knowing.{KnowsTold, KnowsToldIn}
use Rattle.pp_world.specs.Session.{Session, last_mark}
use Rattle.pp_world.specs.Survival.{FindsAnnounced}
use Rattle.pp_world.specs.World.{reads_at}
use Rattle.pp_actor.specs.Going.{HasOpenedOver}
use Rattle.pp_actor.specs.Keeping.{AllKeep, Part}
use Rattle.pp_complete.proofs.Knowing.{rooted_knows}
use Rattle.pp_actor.specs.Lasting.{AllLast, AreSettled, HasStood, IsSoundNow, KeepsOn, Lasts, disk_before}
use Rattle.pp_actor.proofs.Keeping.{all_keep_more}
use Rattle.pp_actor.proofs.Lasting.{SameImages, all_more, carried, keeps_same, sound_now}

module _ (d : Descriptor) (part : Part) (disk : Calls) (s : Session) (b : Beginning) (first now : Post) (taken : ℕ) (o : HasOpenedOver d part disk s b first)
    (went : Went b taken first now) (shown : SameImages now.disk.history (history_of disk)) where
  abbrev before : Calls
  before = disk_before disk s

  -- what was committed as it opened stands on
  stood_on : (i moment : ℕ) → moment ≤ moment_of (history_of before) → StandsSince d (history_of before) moment i → StandsSince d now.disk.history moment i
  stood_on i moment le stands =
      let stood : HasStood d (history_of before) (moment_of (history_of before)) i = record {
        past = omega arith;
        stands = throughout_later (history_of before) moment (moment_of (history_of before)) (λ image. StandsIn d image i) le stands;
      } in
      let past = o.keeps_on.later in
      subst (λ (x : Descriptor). GoesOnSince x i first.disk.history now.disk.history) o.swarm (went.advances.goes_on o.kept.kept.known i (o.taken i stood))
      moment (omega (arith, le, past)) (o.keeps_on.stands i moment le stands)

  sound_on : (moment : ℕ) → moment ≤ moment_of (history_of before) → Throughout (history_of before) moment (IsSound d)
      → Throughout now.disk.history moment (IsSound d)
  sound_on moment le sound =
      let past = o.keeps_on.later in
      subst (λ (x : Descriptor). StaysSound x first.disk.history now.disk.history) o.swarm (went.advances.sound b.since o.kept.kept)
      moment (omega (arith, le, past)) (o.keeps_on.sound moment le sound)

  pub keeps_now : KeepsOn d (history_of before) (history_of disk)
  keeps_now = keeps_same d (history_of before) (history_of before) now.disk.history (history_of disk) (record { past = refl; epoch = refl }) shown (record {
    later = (let one = o.keeps_on.later in let two = went.advances.disk.later in omega (arith, one, two));
    stands = stood_on;
    sound = sound_on;
  })

  -- ---- what it announced

  announced_now : now.link.traffic ≡ Some s.traffic → EachAnnounced d (HasStood d (history_of disk)) s.traffic
  announced_now carried_all =
      let same : went.added ++ [] ≡ s.traffic = same_Some (went.added ++ []) s.traffic
      (sym (subst (λ t. GainsRecords t went.added now.link.traffic) o.unused.traffic went.gained) ∙ carried_all) in
      let swarm : now.peer.parts.holding.store.descriptor ≡ d = went.advances.descriptor ∙ o.swarm in
      let there = subst (λ (x : Descriptor). EachAnnounced x (IsThere now.peer now.disk) went.added) swarm (went.keeps o.kept).announced in
      subst (EachAnnounced d (HasStood d (history_of disk))) (sym (append-nil went.added) ∙ same)
      (each_announced d (IsThere now.peer now.disk) (HasStood d (history_of disk)) stood went.added there)
    where
      stood : (moment i : ℕ) → IsThere now.peer now.disk moment i → HasStood d (history_of disk) moment i
      stood moment i there = record {
        past = (let past = there.past in let same = ap length shown.past in omega (arith, past, same));
        stands = carried now.disk.history (history_of disk) shown moment (λ image. StandsIn d image i)
            (subst (λ (x : Descriptor). StandsSince x now.disk.history moment i) (went.advances.descriptor ∙ o.swarm) there.stands);
      }

  -- ---- what earlier sessions announced

  finds : (e : Session) → Lasts d before e → FindsAnnounced d disk e s
  finds e lasts = each_announced d (HasStood d (history_of before)) (λ moment i. StandsIn d (reads_at disk s.opened) i) there e.traffic lasts.announced
    where
      there : (moment i : ℕ) → HasStood d (history_of before) moment i → StandsIn d (reads_at disk s.opened) i
      there moment i stood =
          subst (λ (reads : List ℕ). StandsIn d reads i) o.reads (o.keeps_on.stands i moment stood.past stood.stands first.disk.history.reads (inl o.whole))

  find_all : (es : List Session) → AllLast d before es → AllByRecursion (λ e. FindsAnnounced d disk e s) es
  find_all [] all = tt
  find_all (e ∷ es) all = (finds e all.0, find_all es all.2)

  whole_disk : disk ≡ record before { done = before.done ++ drop s.began.calls disk.done }
  whole_disk = ap (λ (done : List Did). record disk { done = done }) (sym (take-append-drop s.began.calls disk.done))

  earlier_now : (es : List Session) → AllLast d before es → AllLast d disk es
  earlier_now es all = subst (λ (c : Calls). AllLast d c es) (sym whole_disk)
      (all_more d before (drop s.began.calls disk.done) (subst (λ (c : Calls). KeepsOn d (history_of before) (history_of c)) whole_disk keeps_now) es all)

  -- all sessions, of which this is the newest
  pub session_over : (earlier : List Session) → s.began.calls ≤ length disk.done → s.opened.calls ≤ length disk.done → (last_mark s).calls ≤ length disk.done → IsSoundNow d (history_of before)
      → AllLast d before earlier → now.link.traffic ≡ Some s.traffic → AllLast d disk (s ∷ earlier)
  session_over earlier began opened marked sound all carried_all = (
    record {
      began = began;
      opened = opened;
      marked = marked;
      sound = sound;
      goes_on = keeps_now;
      announced = announced_now carried_all;
    },
    find_all earlier all,
    earlier_now earlier all,
  )

  -- ---- what it knows

  swarm_is : now.peer.parts.holding.store.descriptor ≡ d
  swarm_is = went.advances.descriptor ∙ o.swarm

  gained_all : now.link.traffic ≡ Some s.traffic → went.added ≡ s.traffic
  gained_all carried_all = sym (append-nil went.added) ∙ same_Some (went.added ++ []) s.traffic
      (sym (subst (λ t. GainsRecords t went.added now.link.traffic) o.unused.traffic went.gained) ∙ carried_all)

  -- the book has what an announcement of a committed chunk tells
  knows_one : AreTied now.peer.parts.holding → (i : ℕ) → is_committed now.peer.parts.holding.store i ≡ true → KnowsTold d (entry now.peer.parts.holding.book) i
  knows_one tied i is =
      let held = or_left (is_committed now.peer.parts.holding.store i) (slice_index_or now.peer.parts.holding.store.pending i false) is in
      subst (λ (x : Descriptor). KnowsTold x (entry now.peer.parts.holding.book) i) swarm_is
      (rooted_knows now.peer.parts.holding.store.descriptor (entry now.peer.parts.holding.book) i tied.book_is.rooted (tied.knows.leaf i held)
      (tied.knows.peaks i held))

  knows_own : AreTied now.peer.parts.holding → EachAnnounced d (λ m i. KnowsTold d (entry now.peer.parts.holding.book) i) went.added
  knows_own tied =
      each_announced d (IsThere now.peer now.disk) (λ m i. KnowsTold d (entry now.peer.parts.holding.book) i) (λ m i there. knows_one tied i there.committed)
      went.added
      (subst (λ (x : Descriptor). EachAnnounced x (IsThere now.peer now.disk) went.added) swarm_is (went.keeps o.kept).announced)

  knows_earlier : AreTied now.peer.parts.holding → (e : Session) → Lasts d before e
      → EachAnnounced d (λ m i. KnowsTold d (entry now.peer.parts.holding.book) i) e.traffic
  knows_earlier tied e lasts =
      each_announced d (HasStood d (history_of before)) (λ m i. KnowsTold d (entry now.peer.parts.holding.book) i) known e.traffic lasts.announced
    where
      known : (m i : ℕ) → HasStood d (history_of before) m i → KnowsTold d (entry now.peer.parts.holding.book) i
      known m i stood = knows_one tied i (went.advances.committed i (o.taken i (record {
        past = omega arith;
        stands = throughout_later (history_of before) m (moment_of (history_of before)) (λ image. StandsIn d image i) stood.past stood.stands;
      })))

  knows_all : AreTied now.peer.parts.holding → entry now.peer.parts.holding.book ≡ s.book → (es : List Session) → AllLast d before es
      → AllByRecursion (KnowsToldIn d s) es
  knows_all tied book [] all = tt
  knows_all tied book (e ∷ es) all = (
    subst (λ (k : LookUp). EachAnnounced d (λ m i. KnowsTold d k i) e.traffic) book (knows_earlier tied e all.0),
    knows_all tied book es all.2,
  )

  -- Where it closed no channel, all sessions are settled.
  pub settled_over : (earlier : List Session) → AllLast d before earlier → AreSettled d earlier → AreTied now.peer.parts.holding
      → now.link.traffic ≡ Some s.traffic → entry now.peer.parts.holding.book ≡ s.book → list_any (is_closing b.d) went.added ≡ false
      → AreSettled d (s ∷ earlier)
  settled_over earlier all settled tied carried_all book open_still = record {
    closes_none = (
      ap (λ (rs : List Record). list_any (is_closing d) rs) (sym (gained_all carried_all))
          ∙ ap (λ (x : Descriptor). list_any (is_closing x) went.added) (sym (ap (λ (x : Beginning). x.d) o.is ∙ o.swarm)) ∙ open_still,
      settled.closes_none,
    );
    knows = (
      (
        subst (EachAnnounced d (λ m i. KnowsTold d s.book i)) (gained_all carried_all)
            (subst (λ (k : LookUp). EachAnnounced d (λ m i. KnowsTold d k i) went.added) book (knows_own tied)),
        knows_all tied book earlier all,
      ),
      settled.knows,
    );
  }

  -- what earlier sessions kept
  pub keep_over : (earlier : List Session) → AllLast d before earlier → AllKeep d part before earlier → AllKeep d part disk earlier
  keep_over earlier all keep = subst (λ (c : Calls). AllKeep d part c earlier) (sym whole_disk)
      (all_keep_more d part before (drop s.began.calls disk.done) earlier all keep)

  pub sound_over : IsSoundNow d (history_of before) → IsSoundNow d (history_of disk)
  sound_over sound = sound_now d (history_of before) (history_of disk) keeps_now sound
