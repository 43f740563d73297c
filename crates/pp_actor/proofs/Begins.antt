-- A session that begins, and one that goes on, where all that is announced lasts.
use Rattle.std.proofs.Common.{◌≡◌, inl, ℕ, ◌+◌, ◌≤◌, true, false, Bool, Option, List, [], ◌∷◌, ◌++◌, length, refl, sym, ◌∙◌, ap, subst, arith}
use Rattle.std.specs.Prelude.{take}
use Rattle.std.proofs.lemmas.List.{length-append, take_all, take_at}
use Rattle.pp_terms.specs.disk.Calls.{Calls, Crashed, Did, attached, crash_image, history_of, replay}
use Rattle.pp_terms.specs.disk.Disk.{Epoch, History, IsImage, Throughout, fresh, moment_of, settled}
use Rattle.pp_terms.specs.disk.Image.{StandsIn}
use Rattle.pp_terms.specs.disk.Sound.{IsSound}
use Rattle.pp_terms.specs.format.Descriptor.{Descriptor}
use Rattle.pp_terms.specs.format.Traffic.{Record}
use Rattle.pp_terms.specs.tree.Book.{LookUp}
use Rattle.pp_outside.specs.MemoryDisk as disks
use Rattle.pp_outside.specs.MemoryLink as links
use Rattle.pp_outside.specs.Whole.{reads_are_image}
use Rattle.pp_outside.proofs.Possible.{crash_possible}
use Rattle.pp_outside.specs.declared.memory_disk.MemoryDisk.{MemoryDisk}
use Rattle.pp_peer.specs.Standing.{Beginning}
use Rattle.pp_store.specs.Sound.{StaysSound}
use Rattle.pp_store.specs.Store.{GoesOn}
use Rattle.pp_outside.specs.declared.link.Address.{Address}
use Rattle.pp_avail.specs.declared.ranker.Rank.{Rank}
use Rattle.pp_holding.specs.Holding.{AreTied}
use Rattle.pp_core.specs.Opening.{HasBegun, beginning}
use Rattle.pp_turns.specs.Promising.{Ended, HasTurned}
use Rattle.pp_turns.specs.Turning.{IsBegun, Post, Stops}
use Rattle.pp_turns.proofs.Turned.{turned_none}
use Rattle.pp_watch.specs.Shown.{ShowsDisk}
use Rattle.pp_watch.proofs.Showing.{attached_replay, replay-append}
use Rattle.pp_world.specs.Change.{with_crash}
use Rattle.pp_world.specs.DiskCalls.{MakesCalls}
use Rattle.pp_world.specs.Opening.{new_session}
use Rattle.pp_world.specs.Session.{Session, last_mark}
use Rattle.pp_world.specs.Turn.{TakesTurn, with_turn}
use Rattle.pp_world.specs.World.{PeerState, reads_at}
use Rattle.pp_stage.specs.Opening.{Begins, LosesNothing}
use Rattle.pp_stage.specs.Turned.{EndsOrStops, KeepsPromises, post_of}
use Rattle.pp_stage.specs.declared.opening.Start.{Start}
use Rattle.pp_stage.specs.declared.turning.Running.{Running}
use Rattle.pp_sessions.specs.Sessions.{IsUnused}
use Rattle.pp_actor.specs.Going.{HasOpenedOver, IsGoing, IsGoingIn, IsMarked}
use Rattle.pp_actor.specs.Keeping.{AllKeep, Part}
use Rattle.pp_actor.specs.Lasting.{AllLast, HasStood, IsLasting, IsSoundNow, KeepsOn, disk_before}
use Rattle.pp_actor.proofs.Keeping.{IsSeen, all_keep_more, ended_keeps, stopped_keeps}
use Rattle.pp_actor.proofs.Lasting.{SameImages, all_more, before_same, carried, keeps_calls, keeps_crash, keeps_same, other_way, reads_same, same_moment, sound_now}
use Rattle.pp_actor.proofs.Lives.{keep_over, session_over, settled_over, sound_over}

-- ---- images

-- those of a disk in memory are those of its peer's calls
pub shown_images : (most : ℕ) (m : MemoryDisk) (x : PeerState) → ShowsDisk most m x → SameImages (disks.state_of m).history (history_of x.disk)
shown_images most m x shows =
    record { past = ap (λ (h : History). h.past) shows.history; epoch = ap (λ (h : History). h.epoch) shows.history }

-- more calls of a disk, wherever it was attached
more_images : (disk : Calls) (calls : List Did) → SameImages (replay (history_of disk) calls) (history_of (record disk { done = disk.done ++ calls }))
more_images disk calls =
    let at = replay (fresh disk.image) (take disk.attached_at disk.done) in
    let now = replay (fresh disk.image) disk.done in
    let same : replay (attached at now) calls ≡ attached at (replay (fresh disk.image) (disk.done ++ calls)) =
    sym (attached_replay at now calls) ∙ ap (attached at) (sym (replay-append (fresh disk.image) disk.done calls)) in
    record { past = ap (λ (h : History). h.past) same; epoch = ap (λ (h : History). h.epoch) same }

module _ (d : Descriptor) (part : Part) where
  goes_same : (g g' h h' : History) → SameImages g g' → SameImages h h' → GoesOn d g h → GoesOn d g' h'
  goes_same g g' h h' old new goes i stands =
      subst (λ (m : ℕ). Throughout h' m (λ image. StandsIn d image i)) (same_moment g g' old)
      (carried h h' new (moment_of g) (λ image. StandsIn d image i) (goes i
      (subst (λ (m : ℕ). Throughout g m (λ image. StandsIn d image i)) (sym (same_moment g g' old))
      (carried g' g (other_way g g' old) (moment_of g') (λ image. StandsIn d image i) stands))))

  sound_same : (g g' h h' : History) → SameImages g g' → SameImages h h' → StaysSound d g h → StaysSound d g' h'
  sound_same g g' h h' old new stays m le sound =
      let was = same_moment g g' old in
      carried h h' new m (IsSound d) (stays m (omega (arith, le, was)) (carried g' g (other_way g g' old) m (IsSound d) sound))

  -- ---- what an opening loses

  module _ (most more : ℕ) (old new : MemoryDisk) (x after : PeerState) (was : ShowsDisk most old x) (is : ShowsDisk more new after) (makes : MakesCalls x after)
      (loses : LosesNothing d (disks.state_of old).history (disks.state_of new).history) where
    abbrev made : Calls
    made = record x.disk { done = x.disk.done ++ makes.calls }

    made_images : SameImages (disks.state_of new).history (history_of made)
    made_images = subst (λ (c : Calls). SameImages (disks.state_of new).history (history_of c)) makes.made (shown_images more new after is)

    pub keeps_made : KeepsOn d (history_of x.disk) (history_of made)
    keeps_made = keeps_calls d (history_of x.disk) (history_of made) makes.calls (more_images x.disk makes.calls)
        (goes_same (disks.state_of old).history (history_of x.disk) (disks.state_of new).history (history_of made) (shown_images most old x was) made_images
        loses.stands)
        (sound_same (disks.state_of old).history (history_of x.disk) (disks.state_of new).history (history_of made) (shown_images most old x was) made_images
        loses.sound)

    -- a peer whose opening was refused
    pub refused_lasts : after.sessions ≡ x.sessions → IsLasting d part x.disk x.sessions → IsLasting d part after.disk after.sessions
    refused_lasts same lasts =
        subst (λ (ss : List Session). IsLasting d part after.disk ss) (sym same) (subst (λ (c : Calls). IsLasting d part c x.sessions) (sym makes.made) (record {
          sound = sound_now d (history_of x.disk) (history_of made) keeps_made lasts.sound;
          all = all_more d x.disk makes.calls keeps_made x.sessions lasts.all;
          keep = all_keep_more d part x.disk makes.calls x.sessions lasts.all lasts.keep;
          settled = lasts.settled;
        }))

    -- ---- a session that begins

    module _ (start : Start) (r : Running) (begins : Begins d start (disks.state_of old) (disks.state_of new) r.peer) (asks : start.asks ≡ part.asks)
        (dialled : start.dialled.items ≡ part.dialled) (few : length part.dialled ≤ 16) (book : LookUp) (unused : IsUnused (links.state_of r.link))
        (tied : AreTied r.peer.parts.holding) (lasts : IsLasting d part x.disk x.sessions) where
      abbrev s : Session
      s = new_session x after book

      abbrev first : Post
      first = post_of r new

      abbrev b : Beginning
      b = beginning r.peer (moment_of (disks.state_of new).history)

      before_is : disk_before after.disk s ≡ x.disk
      before_is = ap (λ (c : Calls). record c { done = take (length x.disk.done) c.done }) makes.made
          ∙ ap (λ (done : List Did). record x.disk { done = done }) (take_at x.disk.done makes.calls (length x.disk.done) refl)

      begun : IsBegun b first
      begun = record {
        past = begins.is_begun.past;
        stands = begins.is_begun.stands;
        counts = begins.is_begun.counts;
        live = begins.is_begun.live;
        wrote = begins.is_begun.wrote;
        unchoked = begins.is_begun.unchoked;
        told = begins.is_begun.told;
        taken = begins.is_begun.taken;
        unrepeated = begins.is_begun.unrepeated;
        acks = begins.is_begun.acks;
        held = begins.is_begun.held;
      }

      opened_over : HasOpenedOver d part after.disk s b first
      opened_over = record {
        random = start.random;
        begun = subst (λ (o : Option Rank). HasBegun d start.random o part.dialled r.peer) asks
            (subst (λ (l : List Address). HasBegun d start.random start.asks l r.peer) dialled begins.begun);
        few = few;
        is = refl;
        keeps_on = subst (λ (c : Calls). KeepsOn d (history_of c) (disks.state_of new).history) (sym before_is)
            (keeps_same d (history_of x.disk) (history_of x.disk) (history_of made) (disks.state_of new).history (record { past = refl; epoch = refl })
            (other_way (disks.state_of new).history (history_of made) made_images) keeps_made);
        reads = ap (λ (h : History). h.reads) is.history
            ∙ sym (ap (λ (done : List Did). (history_of (record after.disk { done = done; attached_at = 0 })).reads)
            (take_all (length after.disk.done) after.disk.done (omega arith)));
        whole = subst (λ (e : Epoch). IsImage e (disks.state_of new).history.reads) (sym (ap (λ (h : History). h.epoch) is.history))
            (subst (IsImage (history_of after.disk).epoch) (sym (ap (λ (h : History). h.reads) is.history)) (reads_are_image after.disk));
        swarm = begins.begun.holding.descriptor;
        past = begins.is_begun.past;
        taken = λ i stood. begins.taken i (taken_then (subst (λ (c : Calls). HasStood d (history_of c) (moment_of (history_of c)) i) before_is stood).stands);
        kept = begins.kept (subst (IsSound d) (sym (ap (λ (h : History). h.reads) was.history))
            (lasts.sound (history_of x.disk).reads (inl (reads_are_image x.disk))));
        unused = unused;
        faults = (let one = was.faults in let two = is.faults in let sum = makes.faults in omega (arith, one, two, sum));
        hard = (let one = was.hard in let two = is.hard in let sum = makes.hard in omega (arith, one, two, sum));
      }
        where
          taken_then : {i : ℕ} → Throughout (history_of x.disk) (moment_of (history_of x.disk)) (λ image. StandsIn d image i)
              → Throughout (disks.state_of old).history (moment_of (disks.state_of old).history) (λ image. StandsIn d image i)
          taken_then {i} stands =
              let same = other_way (disks.state_of old).history (history_of x.disk) (shown_images most old x was) in
              subst (λ (m : ℕ). Throughout (disks.state_of old).history m (λ image. StandsIn d image i)) (same_moment (history_of x.disk) (disks.state_of old).history same)
              (carried (history_of x.disk) (disks.state_of old).history same (moment_of (history_of x.disk)) (λ image. StandsIn d image i) stands)

      going : IsGoing d part after.disk s x.sessions first
      going = record {
        began = (let sum = ap (λ (c : Calls). length c.done) makes.made in let more = length-append x.disk.done makes.calls in omega (arith, sum, more));
        opened = omega arith;
        sound = subst (λ (c : Calls). IsSoundNow d (history_of c)) (sym before_is) lasts.sound;
        all = subst (λ (c : Calls). AllLast d c x.sessions) (sym before_is) lasts.all;
        keep = subst (λ (c : Calls). AllKeep d part c x.sessions) (sym before_is) lasts.keep;
        settled = lasts.settled;
        tied = tied;
        marked = record { calls = refl; faults = sym is.faults; hard = sym is.hard };
        b = b;
        first = first;
        opening = opened_over;
        turned = turned_none b first begun;
      }

      pub opened_lasts : after.sessions ≡ s ∷ x.sessions → IsGoingIn d part after.disk after.sessions first
      opened_lasts same = subst (λ (ss : List Session). IsGoingIn d part after.disk ss first) (sym same) going

  -- ---- a crash

  pub crashed_lasts : (pick : ℕ) (x : PeerState) → IsLasting d part x.disk x.sessions → IsLasting d part (with_crash pick x).disk x.sessions
  crashed_lasts pick x lasts =
      let image = crash_image pick (history_of x.disk).epoch in
      let new = history_of (record x.disk { done = x.disk.done ++ Crashed image ∷ [] }) in
      let keeps : KeepsOn d (history_of x.disk) new =
      keeps_same d (history_of x.disk) (history_of x.disk) (settled (history_of x.disk) image) new (record { past = refl; epoch = refl })
      (record { past = (more_images x.disk (Crashed image ∷ [])).past; epoch = (more_images x.disk (Crashed image ∷ [])).epoch })
      (keeps_crash d (history_of x.disk) image (crash_possible pick (history_of x.disk).epoch)) in record {
        sound = sound_now d (history_of x.disk) new keeps lasts.sound;
        all = all_more d x.disk (Crashed image ∷ []) keeps x.sessions lasts.all;
        keep = all_keep_more d part x.disk (Crashed image ∷ []) x.sessions lasts.all lasts.keep;
        settled = lasts.settled;
      }

  -- ---- a turn

  module _ (more : ℕ) (clock : ℕ) (new : MemoryDisk) (x after : PeerState) (added : List Record) (is : ShowsDisk more new after) (takes : TakesTurn clock x added after)
      (r : Running) (old : Post) (goes_on : Bool) (keeps : KeepsPromises goes_on old (post_of r new)) (tied : AreTied r.peer.parts.holding) (was : IsGoingIn d part x.disk x.sessions old) where
    abbrev later : Session
    later = with_turn takes.session added takes.book x after

    going_before : IsGoing d part x.disk takes.session takes.earlier old
    going_before = subst (λ (ss : List Session). IsGoingIn d part x.disk ss old) takes.was was

    longer : (n : ℕ) → n ≤ length x.disk.done → n ≤ length after.disk.done
    longer n le =
        let sum = ap (λ (c : Calls). length c.done) takes.calls.made in let more = length-append x.disk.done takes.calls.calls in omega (arith, sum, more, le)

    same_before : disk_before after.disk later ≡ disk_before x.disk takes.session
    same_before = ap (λ (c : Calls). disk_before c later) takes.calls.made ∙ before_same x.disk takes.calls.calls takes.session going_before.began

    same_reads : reads_at after.disk later.opened ≡ reads_at x.disk takes.session.opened
    same_reads = ap (λ (c : Calls). reads_at c later.opened) takes.calls.made ∙ reads_same x.disk takes.calls.calls takes.session.opened going_before.opened

    opening_on : HasOpenedOver d part after.disk later going_before.b going_before.first
    opening_on = record {
      random = going_before.opening.random;
      begun = going_before.opening.begun;
      few = going_before.opening.few;
      is = going_before.opening.is;
      keeps_on = subst (λ (c : Calls). KeepsOn d (history_of c) going_before.first.disk.history) (sym same_before) going_before.opening.keeps_on;
      reads = going_before.opening.reads ∙ sym same_reads;
      whole = going_before.opening.whole;
      swarm = going_before.opening.swarm;
      past = going_before.opening.past;
      taken = λ i stood. going_before.opening.taken i (subst (λ (c : Calls). HasStood d (history_of c) (moment_of (history_of c)) i) same_before stood);
      kept = going_before.opening.kept;
      unused = going_before.opening.unused;
      faults = going_before.opening.faults;
      hard = going_before.opening.hard;
    }

    marked_on : IsMarked after.disk later (post_of r new)
    marked_on = record { calls = refl; faults = sym is.faults; hard = sym is.hard }

    came : EndsOrStops goes_on going_before.b (length takes.session.turns + 1) going_before.first (post_of r new)
    came = keeps.kept going_before.b (length takes.session.turns) going_before.first going_before.turned

    pub turn_lasts : goes_on ≡ true → IsGoingIn d part after.disk after.sessions (post_of r new)
    turn_lasts on = subst (λ (ss : List Session). IsGoingIn d part after.disk ss (post_of r new)) (sym takes.is) (record {
      began = longer takes.session.began.calls going_before.began;
      opened = longer takes.session.opened.calls going_before.opened;
      sound = subst (λ (c : Calls). IsSoundNow d (history_of c)) (sym same_before) going_before.sound;
      all = subst (λ (c : Calls). AllLast d c takes.earlier) (sym same_before) going_before.all;
      keep = subst (λ (c : Calls). AllKeep d part c takes.earlier) (sym same_before) going_before.keep;
      settled = going_before.settled;
      tied = tied;
      marked = marked_on;
      b = going_before.b;
      first = going_before.first;
      opening = opening_on;
      turned = subst (λ (n : ℕ). HasTurned Ended going_before.b n going_before.first (post_of r new)) (omega arith)
          (subst (λ (g : Bool). EndsOrStops g going_before.b (length takes.session.turns + 1) going_before.first (post_of r new)) on came);
    })

    pub stopped_lasts : goes_on ≡ false → IsSeen later (post_of r new) → IsLasting d part after.disk after.sessions
    stopped_lasts off seen =
        let stops = subst (λ (g : Bool). EndsOrStops g going_before.b (length takes.session.turns + 1) going_before.first (post_of r new)) off came in
        let shown = shown_images more new after is in
        let sound = subst (λ (c : Calls). IsSoundNow d (history_of c)) (sym same_before) going_before.sound in
        let all = subst (λ (c : Calls). AllLast d c takes.earlier) (sym same_before) going_before.all in
        subst (λ (ss : List Session). IsLasting d part after.disk ss) (sym takes.is) (record {
          sound = sound_over d part after.disk later going_before.b going_before.first (post_of r new) (length takes.session.turns + 1) opening_on stops.went
              shown sound;
          all = session_over d part after.disk later going_before.b going_before.first (post_of r new) (length takes.session.turns + 1) opening_on stops.went
              shown takes.earlier (longer takes.session.began.calls going_before.began) (longer takes.session.opened.calls going_before.opened) (omega arith)
              sound all seen.traffic;
          keep = (
            stopped_keeps d part after.disk later going_before.b going_before.first (post_of r new) opening_on shown (ap (λ (h : History). h.reads) is.history)
                marked_on seen (subst (λ (n : ℕ). Stops going_before.b n going_before.first (post_of r new)) (omega arith) stops),
            keep_over d part after.disk later going_before.b going_before.first (post_of r new) (length takes.session.turns + 1) opening_on stops.went shown
                takes.earlier all (subst (λ (c : Calls). AllKeep d part c takes.earlier) (sym same_before) going_before.keep),
          );
          settled = settled_over d part after.disk later going_before.b going_before.first (post_of r new) (length takes.session.turns + 1) opening_on stops.went
              shown takes.earlier all going_before.settled tied seen.traffic seen.book (stops.closes_none [] opening_on.unused.traffic);
        })

  -- ---- a stop

  pub stop_lasts : (most : ℕ) (m : MemoryDisk) (x : PeerState) (s : Session) (earlier : List Session) (r : Running) → ShowsDisk most m x
      → x.sessions ≡ s ∷ earlier → IsSeen s (post_of r m) → IsGoingIn d part x.disk x.sessions (post_of r m) → IsLasting d part x.disk x.sessions
  stop_lasts most m x s earlier r shows same seen was =
      let going : IsGoing d part x.disk s earlier (post_of r m) = subst (λ (ss : List Session). IsGoingIn d part x.disk ss (post_of r m)) same was in
      let shown = shown_images most m x shows in
      let went = going.turned.turns.went in
      let last : (last_mark s).calls ≤ length x.disk.done = (let is = going.marked.calls in omega (arith, is)) in
      subst (λ (ss : List Session). IsLasting d part x.disk ss) (sym same) (record {
        sound = sound_over d part x.disk s going.b going.first (post_of r m) (length s.turns) going.opening went shown going.sound;
        all = session_over d part x.disk s going.b going.first (post_of r m) (length s.turns) going.opening went shown earlier
            going.began going.opened last going.sound going.all seen.traffic;
        keep = (
          ended_keeps d part x.disk s going.b going.first (post_of r m) going.opening shown (ap (λ (h : History). h.reads) shows.history) going.marked seen
              going.turned,
          keep_over d part x.disk s going.b going.first (post_of r m) (length s.turns) going.opening went shown earlier going.all going.keep,
        );
        settled = settled_over d part x.disk s going.b going.first (post_of r m) (length s.turns) going.opening went shown earlier going.all going.settled
            going.tied seen.traffic seen.book (going.turned.keeps.closes_none [] going.opening.unused.traffic);
      })
