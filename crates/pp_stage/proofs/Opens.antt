-- A peer's opening, as one of a peer of a world.
use Rattle.std.proofs.Common.{◌≡◌, ◌⊎◌, ⊎_elim, inl, inr, ℕ, ◌+◌, ◌^◌, ◌<◌, Bool, true, false, None, List, [], length, Result, Ok, Err, refl, sym, ◌∙◌, ap, subst, arith}
use Rattle.std.specs.Prelude.{IfOk, IfErr}
use Rattle.pp_terms.specs.Count.{HasRisen}
use Rattle.pp_terms.specs.disk.Disk.{DiskState, IsKnown, Throughout, moment_of}
use Rattle.pp_terms.specs.disk.Image.{StandsIn}
use Rattle.pp_terms.specs.disk.Sound.{IsSound}
use Rattle.pp_terms.specs.disk.Store.{header, HasHeader}
use Rattle.pp_terms.specs.format.Descriptor.{Descriptor}
use Rattle.pp_terms.specs.format.Traffic.{LinkState}
use Rattle.pp_terms.specs.tree.Book.{LookUp}
use Rattle.pp_tree.specs.Book.{entry}
use Rattle.pp_outside.specs.Arrivals.{Arrivals}
use Rattle.pp_outside.specs.MemoryDisk as disks
use Rattle.pp_outside.specs.MemoryLink as links
use Rattle.pp_outside.specs.declared.call.Call.{Call}
use Rattle.pp_outside.specs.declared.call.Call.TheVariants as calls
use Rattle.pp_outside.specs.declared.memory_disk.MemoryDisk.{MemoryDisk}
use Rattle.pp_scan.specs.Scan.{IsOther, IsScanned}
use Rattle.pp_scan.specs.declared.scanning.ScanFault.{ScanFault}
use Rattle.pp_scan.specs.declared.scanning.ScanFault.TheVariants.{NotAStore, Disk, Memory}
use Rattle.pp_store.specs.Store.{is_committed}
use Rattle.pp_holding.specs.Opening.{IsOpenFault}
use Rattle.pp_peer.specs.Standing.{StandsFor}
use Rattle.pp_core.specs.Having.{HasHeld}
use Rattle.pp_core.specs.Keeping.{IsKeeping}
use Rattle.pp_core.specs.Opening.{HasBegun, beginning}
use Rattle.pp_core.specs.Peers.{PeerState as Peer}
use Rattle.pp_core.proofs.Firsts.{begun_acks, begun_unrepeated}
use Rattle.pp_core.proofs.LatelySent.{begun_wrote}
use Rattle.pp_core.proofs.Remembered.{begun_keeps, begun_taken}
use Rattle.pp_core.proofs.Unchoked.{begun_unchoked}
use Rattle.pp_turns.specs.Turning.{IsBegun, post}
use Rattle.pp_watch.specs.Done as doings
use Rattle.pp_watch.specs.Opened.{after_opening, after_refusal}
use Rattle.pp_watch.specs.Shown.{ShowsDisk}
use Rattle.pp_watch.specs.Used.{order_if}
use Rattle.pp_watch.proofs.Openings as openings
use Rattle.pp_world.specs.Opening.{IsAnothers, new_session}
use Rattle.pp_world.specs.Session.{new_link}
use Rattle.pp_world.specs.World.{PeerState}
use Rattle.pp_stage.specs.declared.opening.Start.{Start}
use Rattle.pp_stage.specs.declared.turning.Running.{Running}
use Rattle.pp_stage.specs.Opening.{Begins, HasOpened, WasRefused}
use Rattle.pp_stage.specs.Shown.{IsReady}
use Rattle.pp_stage.proofs.Taken.{done_of}

-- ---- the peer

pub begins : (d : Descriptor) (start : Start) (old new : DiskState) (p : Peer) → HasBegun d start.random start.asks start.dialled.items p
    → StandsFor (beginning p (moment_of new.history)) 0 p.parts [] → HasHeld p.parts
    → IsScanned d old (entry p.parts.holding.book) p.parts.holding.store.committed
    → (IsSound d old.history.reads → IsKeeping (moment_of new.history) p new [])
    → ((i : ℕ) → Throughout old.history (moment_of old.history) (λ image. StandsIn d image i) → is_committed p.parts.holding.store i ≡ true)
    → Begins d start old new p
begins d start old new p begun stands had scanned kept taken = record {
  begun = begun;
  is_begun = record {
    past = omega arith;
    stands = stands;
    counts = begun.counts;
    live = begun.holding.live;
    wrote = begun_wrote p.parts.holding.store.descriptor d start.random start.asks start.dialled.items p begun;
    unchoked = begun_unchoked p.parts.holding.store.descriptor d start.random start.asks start.dialled.items p begun;
    told = begun_keeps p.parts.holding.store.descriptor d start.random start.asks start.dialled.items p begun;
    taken = begun_taken d start.random start.asks start.dialled.items p begun;
    unrepeated = begun_unrepeated d start.random start.asks start.dialled.items p begun;
    acks = begun_acks p.parts.holding.store.descriptor d start.random start.asks start.dialled.items p begun;
    held = had;
  };
  scanned = scanned;
  kept = kept;
  taken = taken;
}

-- So it is where an opening answers a peer, and the disk is seen under another name.
pub begins_if : (d : Descriptor) (start : Start) (old new : DiskState) (mid : DiskState) (result : Result Peer ScanFault) → mid ≡ new
    → IfOk result (HasBegun d start.random start.asks start.dialled.items)
    → IfOk result (λ p. StandsFor (beginning p (moment_of mid.history)) 0 p.parts []) → IfOk result (λ p. HasHeld p.parts)
    → IfOk result (λ p. IsScanned d old (entry p.parts.holding.book) p.parts.holding.store.committed)
    → (IsSound d old.history.reads → IfOk result (λ p. IsKeeping (moment_of mid.history) p mid []))
    → IfOk result (λ p. (i : ℕ) → Throughout old.history (moment_of old.history) (λ image. StandsIn d image i) → is_committed p.parts.holding.store i ≡ true)
    → IfOk result (Begins d start old new)
begins_if d start old new mid (Ok p) is begun stands had scanned kept taken =
    subst (λ (s : DiskState). Begins d start old s p) is (begins d start old mid p begun stands had scanned kept taken)
begins_if d start old new mid (Err fault) is begun stands had scanned kept taken = tt

pub faults_if : (d : Descriptor) (old mid new : DiskState) (result : Result Peer ScanFault) → mid ≡ new → IfErr result (IsOpenFault d old mid)
    → IfErr result (IsOpenFault d old new)
faults_if d old mid new (Ok p) is fault = tt
faults_if d old mid new (Err e) is fault = subst (λ (s : DiskState). IsOpenFault d old s e) is fault

-- ---- the peer of a world

not_anothers : (d : Descriptor) (disk : MemoryDisk) (book : LookUp) (set : List Bool) → IsScanned d (disks.state_of disk) book set
    → IsAnothers d (disks.state_of disk).history.reads → ⊥
not_anothers d disk book set scanned other = ⊎_elim
    (λ empty. let none : length (disks.state_of disk).history.reads ≡ 0 = ap (λ (r : List ℕ). length r) empty in let some = other.some in omega (arith, none, some))
    (λ begins. other.differs begins)
    (scanned.begins refl)

module _ (d : Descriptor) (old new : MemoryDisk) (enough : disks.is_short new ≡ false) (since : doings.IsSince (doings.as_before old) new) where
  done : doings.HasDone (doings.as_before old) new
  done = done_of (doings.as_before old) new enough since

  module _ (r : Running) (scanned : IsScanned d (disks.state_of old) (entry r.peer.parts.holding.book) r.peer.parts.holding.store.committed)
      (state : links.state_of r.link ≡ new_link) (events : links.arrivals_of r.link ≡ record { coming = []; last = 0 })
      (none : (call : Call) → links.order_of r.link call ≡ None) (hears : r.is_deaf ≡ false) where
    abbrev book : LookUp
    book = entry r.peer.parts.holding.book

    pub opened : (most : ℕ) (x : PeerState) → most + 4 < 2 ^ 64 → ShowsDisk most old x → HasOpened d most x new r
    opened most x low shows =
        let begins = not_anothers d old book r.peer.parts.holding.store.committed scanned in
        let learned = scanned.known refl in
        record {
          after = after_opening done.calls new book x;
          session = new_session x (after_opening done.calls new book x) book;
          opens = openings.opens d most old new x low shows done book begins learned;
          sessions = refl;
          traffic = refl;
          shows_disk = openings.opened_disk d most old new x low shows done book begins learned;
          shows = record {
            link = openings.opened_link d most old new x low shows done book begins learned r.link state events none;
            deaf = hears;
            book = refl;
          };
        }

    pub ready : r.peer.parts.holding.store.live ≡ true → IsReady r
    ready live = record {
      idle = ap (λ (a : Arrivals). a.coming) events;
      deaf = none calls.Next ∙ sym (ap order_if hears);
      live = live;
    }

  another : (at found want : ℕ) → IsOther d at found want (disks.state_of old) → IsAnothers d (disks.state_of old).history.reads
  another at found want is = record {
    some = is.some refl;
    differs = λ begins. let first = is.first refl in first.differ (first.found_is ∙ begins at first.within ∙ sym first.want_is);
  }

  cause_of : (fault : ScanFault) → (fault ≡ Memory → ⊥) → IsOpenFault d (disks.state_of old) (disks.state_of new) fault
      → IsAnothers d (disks.state_of old).history.reads ⊎ HasRisen (disks.state_of old).faults (disks.state_of new).faults
  cause_of (NotAStore at found want) some is = inl (another at found want is)
  cause_of Disk some is = inr is
  cause_of Memory some is = absurd (some refl)

  pub refused : (fault : ScanFault) → (fault ≡ Memory → ⊥) → IsOpenFault d (disks.state_of old) (disks.state_of new) fault
      → (most : ℕ) (x : PeerState) → most + 4 < 2 ^ 64 → ShowsDisk most old x → WasRefused d most x new
  refused fault some is most x low shows = record {
    after = after_refusal done.calls new x;
    fails = openings.fails d most old new x low shows done (cause_of fault some is);
    shows_disk = openings.refused_disk d most old new x low shows done (cause_of fault some is);
  }
