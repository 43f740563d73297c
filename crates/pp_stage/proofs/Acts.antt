-- What a running peer does with watched devices.
use Rattle.std.proofs.Common.{◌≡◌, ℕ, ◌+◌, Bool, true, false, List, [], ◌∷◌, ◌++◌, refl, sym, ◌∙◌, ap, subst}
use Rattle.std.specs.Prelude.{Result, Ok, Err, is_ok, IsErr}
use Rattle.std.specs.List.{AllByRecursion}
use Rattle.pp_terms.specs.Count.{HasRisen}
use Rattle.pp_terms.specs.disk.Disk.{DiskState, History, moment_of}
use Rattle.pp_terms.specs.format.Descriptor.{Descriptor}
use Rattle.pp_terms.specs.format.Traffic.{Record, LinkState, GainsRecords}
use Rattle.pp_terms.proofs.Risings.{gains_nothing}
use Rattle.pp_outside.specs.MemoryDisk as disks
use Rattle.pp_outside.specs.MemoryLink as links
use Rattle.pp_peer.specs.Flushing.{IsOurs, Scene, Flushes}
use Rattle.pp_watch.specs.Done as doings
use Rattle.pp_watch.specs.Sent as sendings
use Rattle.pp_watch.specs.Turned.{Devices, GainsSent, StopsForCause, HasActed}
use Rattle.pp_world.specs.Turn.{WentAt}
use Rattle.pp_outside.specs.declared.disk.DiskFault.{DiskFault}
use Rattle.pp_outside.specs.declared.memory_disk.MemoryDisk.{MemoryDisk}
use Rattle.pp_outside.specs.declared.memory_link.MemoryLink.{MemoryLink}
use Rattle.pp_core.specs.Peers.{PeerState}
use Rattle.pp_core.specs.Promising.{Promises}
use Rattle.pp_core.specs.Turning.{Sends}
use Rattle.pp_turns.specs.Taking.{Waits}
use Rattle.pp_turns.specs.Turning.{Post, post}
use Rattle.pp_turns.proofs.Turned.{turn_whole}
use Rattle.pp_stage.specs.Turned.{KeepsPromises}

went_of : (d : Descriptor) (moment : ℕ) (rs : List Record) → AllByRecursion (IsOurs d moment) rs → AllByRecursion (WentAt moment) rs
went_of d moment [] all = tt
went_of d moment (r ∷ rs) all = (subst (WentAt moment) (sym all.0.is) refl, went_of d moment rs all.1)

-- What was due went.
pub flushed : (old mid new : Devices) (refused : ℕ) (from to : Scene) (flushes : Flushes refused from to)
    → from.link ≡ links.state_of old.link → from.disk ≡ disks.state_of mid.disk → to.link ≡ links.state_of new.link → to.disk ≡ disks.state_of new.disk
    → GainsSent old new flushes.added
flushed old mid new refused from to flushes link disk later left = record {
  gained = subst (λ (l : LinkState). GainsRecords l.traffic flushes.added (links.state_of new.link).traffic) link
      (subst (λ (l : LinkState). GainsRecords from.link.traffic flushes.added l.traffic) later flushes.gained);
  nexts = sym (ap (λ (l : LinkState). l.nexts) later) ∙ flushes.nexts ∙ ap (λ (l : LinkState). l.nexts) link;
  went = subst (λ (n : ℕ). AllByRecursion (WentAt n) flushes.added)
      (sym (ap (λ (h : History). moment_of h) flushes.reads.same) ∙ ap (λ (s : DiskState). moment_of s.history) left)
      (went_of from.parts.seats.descriptor (moment_of from.disk.history) flushes.added flushes.ours);
}

-- Nothing went.
pub silent : (old new : Devices) → links.state_of new.link ≡ links.state_of old.link → GainsSent old new []
silent old new same = record {
  gained = gains_nothing (links.state_of old.link).traffic (links.state_of new.link).traffic (ap (λ (l : LinkState). l.traffic) same);
  nexts = ap (λ (l : LinkState). l.nexts) same;
  went = tt;
}

-- ---- what a peer did

pub acted_on : (goes_on : Bool) (old new : Devices) (sent : List Record) → doings.IsSince (doings.as_before old.disk) new.disk
    → sendings.IsSince (sendings.as_before old.link) new.link → GainsSent old new sent → goes_on ≡ true → HasActed goes_on old new
acted_on goes_on old new sent done over goes is = record {
  done = done;
  over = over;
  sent = sent;
  gains = goes;
  stops = subst (λ (b : Bool). StopsForCause b old new sent) (sym is) tt;
}

pub acted_off : (goes_on : Bool) (old new : Devices) → doings.IsSince (doings.as_before old.disk) new.disk
    → sendings.IsSince (sendings.as_before old.link) new.link → links.state_of new.link ≡ links.state_of old.link
    → HasRisen (disks.state_of old.disk).hard (disks.state_of new.disk).hard → goes_on ≡ false → HasActed goes_on old new
acted_off goes_on old new done over same risen is = record {
  done = done;
  over = over;
  sent = [];
  gains = silent old new same;
  stops = subst (λ (b : Bool). StopsForCause b old new []) (sym is) (refl, risen);
}

pub failed : {T E : Type 0} (r : Result T E) → is_ok r ≡ false → IsErr r
failed (Ok x) is = cc
failed (Err e) is = refl

-- ---- what a peer promises of its turns

-- What came was taken, and what was due went.
pub promised_on : (old mid new : Post) (result : Result (Unit {0}) DiskFault) (refused : ℕ) → is_ok result ≡ true → Waits old mid result
    → (course : Sends refused mid.peer new.peer mid.link new.link mid.disk new.disk)
    → Promises refused mid.peer new.peer mid.link new.link mid.disk new.disk course.flushes.added → KeepsPromises true old new
promised_on old mid new (Ok u) refused is waits course promises = record { kept = turn_whole old mid new refused u tt waits course promises }
promised_on old mid new (Err e) refused is waits course promises = absurd cc

-- The disk refused something.
pub promised_off : (old new : Post) (result : Result (Unit {0}) DiskFault) → is_ok result ≡ false → Waits old new result → KeepsPromises false old new
promised_off old new (Ok u) is waits = absurd cc
promised_off old new (Err e) is waits = record { kept = λ b taken first turned. (waits b taken first turned).stops }

-- The same peer, devices and answer under other names.
pub renamed : (goes_on went_on : Bool) (first last last' : PeerState) (link : LinkState) (old old' new new' : MemoryDisk) (over over' : MemoryLink)
    → goes_on ≡ went_on → old ≡ old' → last ≡ last' → new ≡ new' → over ≡ over'
    → KeepsPromises goes_on (post first (disks.state_of old) link) (post last (disks.state_of new) (links.state_of over))
    → KeepsPromises went_on (post first (disks.state_of old') link) (post last' (disks.state_of new') (links.state_of over'))
renamed goes_on went_on first last last' link old old' new new' over over' goes is_old is_last is_new is_over keeps =
    subst (λ (b : Bool). KeepsPromises b (post first (disks.state_of old') link) (post last' (disks.state_of new') (links.state_of over'))) goes
    (subst (λ (d : MemoryDisk). KeepsPromises goes_on (post first (disks.state_of d) link) (post last' (disks.state_of new') (links.state_of over'))) is_old
    (subst (λ (p : PeerState). KeepsPromises goes_on (post first (disks.state_of old) link) (post p (disks.state_of new') (links.state_of over'))) is_last
    (subst (λ (d : MemoryDisk). KeepsPromises goes_on (post first (disks.state_of old) link) (post last (disks.state_of d) (links.state_of over'))) is_new
    (subst (λ (l : MemoryLink). KeepsPromises goes_on (post first (disks.state_of old) link) (post last (disks.state_of new) (links.state_of l))) is_over
    keeps))))
