-- A turn of a peer that runs, as one of a peer of a world.
use Rattle.std.proofs.Common.{◌≡◌, ◌⊎◌, inl, inr, ℕ, ◌+◌, Bool, true, false, List, [], ◌∷◌, refl, sym, ◌∙◌, ap, subst}
use Rattle.std.specs.Prelude.{Option, Result, IsTrue}
use Rattle.pp_terms.specs.tree.Book.{LookUp}
use Rattle.pp_tree.specs.Book.{entry}
use Rattle.pp_outside.specs.Arrivals.{Arrivals}
use Rattle.pp_outside.specs.MemoryDisk as disks
use Rattle.pp_outside.specs.MemoryLink as links
use Rattle.pp_outside.specs.declared.call.Call.TheVariants as calls
use Rattle.pp_outside.specs.declared.link.Event.{Event}
use Rattle.pp_outside.specs.declared.link.LinkFault.{LinkFault}
use Rattle.pp_outside.specs.declared.memory_disk.MemoryDisk.{MemoryDisk}
use Rattle.pp_outside.specs.declared.memory_link.MemoryLink.{MemoryLink}
use Rattle.pp_watch.specs.Done as doings
use Rattle.pp_watch.specs.Sent as sendings
use Rattle.pp_watch.specs.Turned.{Devices, HasActed}
use Rattle.pp_watch.specs.Used.{order_if}
use Rattle.pp_watch.specs.Waiting.{HasWaited}
use Rattle.pp_watch.proofs.Orders.{none_later, spent_if}
use Rattle.pp_watch.proofs.Turns as turns
use Rattle.pp_world.specs.Turn.{with_turn}
use Rattle.pp_stage.specs.declared.turning.Cue.{Cue}
use Rattle.pp_stage.specs.declared.turning.Running.{Running}
use Rattle.pp_stage.specs.declared.turning.Turned.{Turned}
use Rattle.pp_stage.specs.Shown.{IsReady, ShowsRunning}
use Rattle.pp_stage.specs.Turned.{TurnsAs}

-- memory was found
pub done_of : (before : doings.DiskBefore) (disk : MemoryDisk) → disks.is_short disk ≡ false → doings.IsSince before disk → doings.HasDone before disk
done_of before disk enough (inl short) = (let never : true ≡ false = sym short ∙ enough in cc)
done_of before disk enough (inr done) = done

sent_of : (before : sendings.LinkBefore) (link : MemoryLink) → links.is_short link ≡ false → sendings.IsSince before link → sendings.HasSent before link
sent_of before link enough (inl short) = (let never : true ≡ false = sym short ∙ enough in cc)
sent_of before link enough (inr sent) = sent

module _ (cue : Cue) (disk : MemoryDisk) (running : Running) (t : Turned) (mid : MemoryLink) (buffer : List ℕ) (event : Result Event LinkFault)
    (waited : HasWaited running.is_deaf cue.clock cue.came running.link mid buffer event)
    (acted : HasActed t.goes_on (record { disk = disk; link = mid }) (record { disk = t.disk; link = t.running.link }))
    (enough_disk : disks.is_short t.disk ≡ false) (enough_link : links.is_short t.running.link ≡ false) (hears : t.running.is_deaf ≡ false) where
  abbrev old : Devices
  old = record { disk = disk; link = running.link }

  abbrev new : Devices
  new = record { disk = t.disk; link = t.running.link }

  done : doings.HasDone (doings.as_before disk) t.disk
  done = done_of (doings.as_before disk) t.disk enough_disk acted.done

  sent : sendings.HasSent (sendings.as_before mid) t.running.link
  sent = sent_of (sendings.as_before mid) t.running.link enough_link acted.over

  pub turned : TurnsAs cue disk running t
  turned most x s earlier low was shows runs comes =
      let book : LookUp = entry t.running.peer.parts.holding.book in
      let waits = subst (λ (b : Bool). HasWaited b cue.clock cue.came running.link mid buffer event) runs.deaf waited in
      record {
        added = turns.added most cue.clock cue.came old mid new buffer event x s earlier book t.goes_on acted.sent low was shows runs.link waits comes done sent acted.gains acted.stops;
        after = turns.after most cue.clock cue.came old mid new buffer event x s earlier book t.goes_on acted.sent low was shows runs.link waits comes done sent acted.gains acted.stops;
        later = turns.later most cue.clock cue.came old mid new buffer event x s earlier book t.goes_on acted.sent low was shows runs.link waits comes done sent acted.gains acted.stops;
        takes = turns.takes most cue.clock cue.came old mid new buffer event x s earlier book t.goes_on acted.sent low was shows runs.link waits comes done sent acted.gains acted.stops;
        sessions = refl;
        traffic = refl;
        runs = refl;
        shows_disk = turns.shows_disk most cue.clock cue.came old mid new buffer event x s earlier book t.goes_on acted.sent low was shows runs.link waits comes done sent acted.gains acted.stops;
        shows = record {
          link = turns.shows_link most cue.clock cue.came old mid new buffer event x s earlier book t.goes_on acted.sent low was shows runs.link waits comes done sent acted.gains acted.stops;
          deaf = hears;
          book = refl;
        };
      }

  pub ready : links.order_of running.link calls.Next ≡ order_if running.is_deaf → t.running.peer.parts.holding.store.live ≡ true → IsReady t.running
  ready was live = record {
    idle = ap (λ (a : Arrivals). a.coming) (sent.idle waited.idle) ∙ waited.idle;
    deaf = none_later _ _ (spent_if _ _ _ was waited.spent) (sent.ordered calls.Next) ∙ sym (ap order_if hears);
    live = live;
  }
