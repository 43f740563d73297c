-- What is known of a peer that is made ready, step by step.
use Rattle.std.proofs.Common.{◌≡◌, Bool, true, inl, inr, ℕ, zero, suc, ◌<◌, ◌≤◌, Option, List, [], ◌∷◌, length, drop, Result, Ok, Err, refl, sym, ◌∙◌, ap, subst, arith}
use Rattle.pp_terms.specs.format.Descriptor.{Descriptor}
use Rattle.pp_terms.specs.disk.Disk.{DiskState, History, Epoch, IsImage, WasImage, MayLeaveSince, IsKnown, moment_of}
use Rattle.pp_terms.specs.format.Traffic.{Address, LinkState, GainsAddress}
use Rattle.pp_terms.proofs.Knowing.{known_on}
use Rattle.pp_terms.specs.disk.Disk.{Throughout}
use Rattle.pp_terms.specs.disk.Image.{StandsIn, is_found}
use Rattle.pp_traffic.specs.Keeping.{StoodThroughout, StandsSince}
use Rattle.pp_store.specs.Keep.{SameAttachment}
use Rattle.pp_terms.specs.disk.Sound.{IsSound, BeganSound}
use Rattle.pp_store.specs.Store.{GoesOn, is_committed}
use Rattle.pp_tree.specs.Book.{entry}
use Rattle.pp_store.specs.Sound.{StaysSound}
use Rattle.pp_store.proofs.Opening.{goes_on_synced, sound_synced}
use Rattle.pp_terms.specs.disk.Untouched.{IsFreshlyAttached, IsSyncedAtMost}
use Rattle.pp_terms.specs.disk.Store.{header}
use Rattle.pp_terms.proofs.Untouched.{synced_at_most}
use Rattle.pp_scan.specs.Look.{KeepsAll, SyncsAtMost}
use Rattle.pp_scan.specs.Header.{IsDifference}
use Rattle.pp_scan.specs.declared.scanning.ScanFault.{ScanFault}
use Rattle.pp_scan.specs.declared.scanning.ScanFault.TheVariants as scans
use Rattle.pp_scan.specs.Scan.{IsScanned}
use Rattle.pp_scan.specs.Layers.{HasKnown}
use Rattle.pp_terms.specs.tree.Book.{LookUp}
use Rattle.pp_store.specs.Probe.{HasProbed}
use Rattle.pp_store.specs.declared.findings.ProbeFault.{ProbeFault}
use Rattle.pp_store.specs.declared.findings.ProbeFault.TheVariants as probes
use Rattle.pp_node.specs.Looking.{IsOf, Lasts}
use Rattle.pp_holding.specs.Opening.{IsOpenFault}
use Rattle.pp_core.specs.Keeping.{IsKeeping}
use Rattle.pp_core.specs.Peers.{PeerState}
use Rattle.pp_node.specs.Preparing.{IsFresh, IsReady, HasPrepared, HasOpenedPeer, LeavesDisk, LeavesLink, fault_of_probe, fault_of_open}
use Rattle.pp_node.specs.declared.preparing.Peering.{Peering}
use Rattle.pp_node.specs.declared.preparing.SeedFault.{SeedFault}
use Rattle.pp_node.specs.declared.preparing.SeedFault.TheVariants.{NotAStore, Disk, Link, Memory}
use Rattle.pp_node.specs.declared.preparing.Ready.{Ready}
use Rattle.pp_node.proofs.Looks.{none_other, fresh_kept, other_kept, other_since}
use Rattle.pp_terms.proofs.Risings.{risen_less}

-- ---- what stood goes on standing

past_end : {X : Type 0} (n : ℕ) (xs : List X) → length xs ≤ n → drop n xs ≡ []
past_end zero [] le = refl
past_end (suc n) [] le = refl
past_end zero (x ∷ xs) le = absurd (omega arith)
past_end (suc n) (x ∷ xs) le = past_end n xs (omega arith)

-- since now, or later, there is only what a crash now may leave
pub since_later : (h : History) (moment : ℕ) (image : List ℕ) → moment_of h ≤ moment → MayLeaveSince h moment image → IsImage h.epoch image
since_later h moment image le (inl now) = now
since_later h moment image le (inr was) = absurd (subst (λ (past : List Epoch). WasImage past image) (past_end moment h.past le) was)

pub lasts_attached : (d : Descriptor) (h : History) → h.start ≡ moment_of h → h.first ≡ h.epoch → Lasts d h
lasts_attached d h started began = record { stood = λ i stood image since. stood image (at_first image since); sound = λ sound image since. sound image (at_first image since) }
  where
    at_first : (image : List ℕ) → MayLeaveSince h h.start image → IsImage h.first image
    at_first image since = subst (λ (e : Epoch). IsImage e image) (sym began) (since_later h h.start image (omega (arith, started)) since)

pub lasts_fresh : (d : Descriptor) (h : History) → IsFreshlyAttached h → Lasts d h
lasts_fresh d h fresh = lasts_attached d h fresh.started fresh.began

pub lasts_same : (d : Descriptor) (old new : History) → new ≡ old → Lasts d old → Lasts d new
lasts_same d old new same lasts = subst (Lasts d) (sym same) lasts

-- what stood in every image at the attachment stands in every image that a crash may leave now
pub stood_opened : (d : Descriptor) (old new : History) (i : ℕ) → IsFreshlyAttached old → SameAttachment old new → StoodThroughout d new i → Throughout old (moment_of old) (λ image. StandsIn d image i)
stood_opened d old new i fresh same stood image since =
    stood image (subst (λ (e : Epoch). IsImage e image) (sym (same.first ∙ fresh.began)) (since_later old (moment_of old) image (omega arith) since))

-- and where every image was sound then, each is now
pub began_opened : (d : Descriptor) (old new : History) → IsFreshlyAttached old → SameAttachment old new → BeganSound d new → Throughout old (moment_of old) (IsSound d)
began_opened d old new fresh same began image since =
    began image (subst (λ (e : Epoch). IsImage e image) (sym (same.first ∙ fresh.began)) (since_later old (moment_of old) image (omega arith) since))

pub lasts_opened : (d : Descriptor) (old new : History) → IsFreshlyAttached old → SameAttachment old new → GoesOn d old new → StaysSound d old new → Lasts d new
lasts_opened d old new fresh same on sound = record {
  stood = λ i stood. subst (λ (m : ℕ). StandsSince d new m i) (sym (same.start ∙ fresh.started)) (on i (stood_opened d old new i fresh same stood));
  sound = λ began. subst (λ (m : ℕ). Throughout new m (IsSound d)) (sym (same.start ∙ fresh.started))
      (sound (moment_of old) (omega arith) (began_opened d old new fresh same began));
}

pub stays_sound : (d : Descriptor) (old new : History) → IsFreshlyAttached old → SameAttachment old new → StaysSound d old new → BeganSound d new
    → Throughout new new.start (IsSound d)
stays_sound d old new fresh same sound began =
    subst (λ (m : ℕ). Throughout new m (IsSound d)) (sym (same.start ∙ fresh.started)) (sound (moment_of old) (omega arith) (began_opened d old new fresh same began))

pub sound_attached : (d : Descriptor) (h : History) → IsFreshlyAttached h → BeganSound d h → Throughout h h.start (IsSound d)
sound_attached d h fresh began =
    stays_sound d h h fresh (record { start = refl; first = refl; found = refl; names = refl }) (λ moment le all. all) began

-- what reads gave is sound then
pub sound_opened : (d : Descriptor) (old new : History) → IsFreshlyAttached old → SameAttachment old new → IsImage old.epoch old.reads → BeganSound d new → IsSound d old.reads
sound_opened d old new fresh same whole began = began_opened d old new fresh same began old.reads (inl whole)

-- after a sync, or none
pub lasts_scanned : (d : Descriptor) (old new : History) → IsFreshlyAttached old → IsImage old.epoch old.reads → SyncsAtMost old new → Lasts d new
lasts_scanned d old new fresh whole syncs =
    lasts_opened d old new fresh (attachment syncs) (goes_on_synced d old old new whole refl syncs) (sound_synced d old old new whole refl syncs)
  where
    attachment : SyncsAtMost old new → SameAttachment old new
    attachment (inl same) = record { start = ap (λ (h : History). h.start) same; first = ap (λ (h : History). h.first) same; found = ap (λ (h : History). h.found) same; names = ap (λ (h : History). h.names) same }
    attachment (inr is) = record { start = ap (λ (h : History). h.start) is; first = ap (λ (h : History). h.first) is; found = ap (λ (h : History). h.found) is; names = ap (λ (h : History). h.names) is }

-- ---- what is left of the disk and the link

module _ (w : Peering) (old new : DiskState) (fresh : IsKnown old → IsFreshlyAttached old.history) (keeps : KeepsAll old new) where
  pub prepared_probe : (seen : LinkState) (fault : ProbeFault) → HasProbed w.descriptor.now old new (Err fault)
      → HasPrepared w old new seen seen (Err (fault_of_probe fault))
  prepared_probe seen (probes.NotAStore at found want) is = other_kept w.descriptor.now old new fresh keeps at found want is
  prepared_probe seen probes.Disk risen = risen

  pub leaves_probe : (fault : ProbeFault) → IsKnown old → LeavesDisk w.descriptor.now new.history (Err (fault_of_probe fault))
  leaves_probe (probes.NotAStore at found want) known = fresh_kept w.descriptor.now old new fresh keeps known
  leaves_probe probes.Disk known = inr (fresh_kept w.descriptor.now old new fresh keeps known)

-- the store was refused before the link was asked
pub unbound_probe : (bound : Option (List Address)) (listen : Address) (fault : ProbeFault) → LeavesLink bound listen bound (Err (fault_of_probe fault))
unbound_probe bound listen (probes.NotAStore at found want) = inl refl
unbound_probe bound listen probes.Disk = inl refl

module _ (w : Peering) (old new : DiskState) (fresh : IsKnown old → IsFreshlyAttached old.history)
    (attachment : IsKnown old → SameAttachment old.history new.history) (begins : IsKnown old → IsOf w.descriptor.now old.history.reads) where
  abbrev d : Descriptor
  d = w.descriptor.now

  pub found_opened : IsKnown old → new.history.found ≡ old.history.reads
  found_opened known = (attachment known).found ∙ (fresh known).showed

  pub known_opened : (book : LookUp) (set : List Bool) → IsScanned d old book set → IsKnown old → HasKnown d new.history.found book
  known_opened book set scanned known = subst (λ (reads : List ℕ). HasKnown d reads book) (sym (found_opened known)) (scanned.known known)

  pub begins_opened : IsKnown old → IsOf d new.history.found
  begins_opened known = subst (IsOf d) (sym (found_opened known)) (begins known)

  pub opened_fault : (fault : ScanFault) → IsOpenFault d old new fault → HasOpenedPeer w old new (Err (fault_of_open fault))
  opened_fault (scans.NotAStore at found want) is = record {
    within = is.within;
    differ = is.differ;
    wanted = is.wanted;
    some = λ known. subst (λ (r : List ℕ). 0 < length r) (sym (found_opened known)) (is.some known);
    first = λ known. subst (λ (r : List ℕ). IsDifference r (header d) at found want) (sym (found_opened known)) (is.first known);
    untouched = λ known. absurd (none_other d old.history.reads at found want (begins known) (is.some known) (is.first known));
  }
  opened_fault scans.Disk risen = risen
  opened_fault scans.Memory is = begins_opened

  pub leaves_fault : (fault : ScanFault) → IsOpenFault d old new fault → IsKnown old → LeavesDisk d new.history (Err (fault_of_open fault))
  leaves_fault (scans.NotAStore at found want) is known = absurd (none_other d old.history.reads at found want (begins known) (is.some known) (is.first known))
  leaves_fault scans.Disk risen known = inl (begins_opened known)
  leaves_fault scans.Memory is known = subst (λ (s : DiskState). IsFreshlyAttached s.history) (sym is) (fresh known)

  pub unwritten_opened : (IsKnown old → 0 < length old.history.reads → SyncsAtMost old.history new.history)
      → IsKnown old → 0 < length new.history.found → IsSyncedAtMost new.history
  unwritten_opened syncs known some =
      synced_at_most old.history new.history (fresh known) (syncs known (subst (λ (r : List ℕ). 0 < length r) (found_opened known) some))

  pub is_fresh : (p : PeerState) → moment_of old.history ≤ moment_of new.history → (IsKnown old → IsImage old.history.epoch old.history.reads) → IsScanned d old (entry p.parts.holding.book) p.parts.holding.store.committed
      → (IsKnown old → (i : ℕ) → Throughout old.history (moment_of old.history) (λ image. StandsIn d image i) → is_committed p.parts.holding.store i ≡ true)
      → (IsKnown old → IsSound d old.history.reads → IsKeeping (moment_of new.history) p new []) → IsFresh d old new p
  is_fresh p later whole scanned taken kept = record {
    count = scanned.count;
    started = λ known.
        let h1 = (fresh known).started in
        let h2 = (attachment known).start in
        omega (arith, h1, h2, later);
    begins = begins_opened;
    held = λ known i within. scanned.found known i within ∙ ap (λ (r : List ℕ). is_found d r i) (sym (found_opened known));
    taken = λ known i stood. taken known i (stood_opened d old.history new.history i (fresh known) (attachment known) stood);
    kept = λ known began. kept known (sound_opened d old.history new.history (fresh known) (attachment known) (whole known) began);
  }

-- the link was bound
pub bound_open : (w : Peering) (disk disk' : DiskState) (old : Option (List Address)) (listen : Address) (new : Option (List Address)) (result : Result Ready SeedFault)
    → GainsAddress old listen new → HasOpenedPeer w disk disk' result → LeavesLink old listen new result
bound_open w disk disk' old listen new (Ok ready) gains is = gains
bound_open w disk disk' old listen new (Err (NotAStore at found want)) gains is = inr gains
bound_open w disk disk' old listen new (Err Disk) gains is = inr gains
bound_open w disk disk' old listen new (Err Link) gains is = absurd is
bound_open w disk disk' old listen new (Err Memory) gains is = gains

-- ---- as seen from before

module _ (w : Peering) (old mid new : DiskState) (seen seen' : LinkState) (tells : mid.tells ≡ old.tells) (honest : mid.honest ≡ old.honest)
    (later : old.faults ≤ mid.faults) (hard : old.hard ≤ mid.hard) where
  known_mid : IsKnown old → IsKnown mid
  known_mid = known_on old mid tells honest

  pub ready_since : (p : PeerState) (room : ℕ) → IsReady w mid new p room → IsReady w old new p room
  ready_since p room r = record {
    begun = r.begun;
    stands = r.stands;
    fresh = record {
      count = r.fresh.count;
      started = λ known. r.fresh.started (known_mid known);
      begins = λ known. r.fresh.begins (known_mid known);
      held = λ known. r.fresh.held (known_mid known);
      taken = λ known. r.fresh.taken (known_mid known);
      kept = λ known. r.fresh.kept (known_mid known);
    };
    tells = r.tells ∙ tells;
    honest = r.honest ∙ honest;
    faults = let more = r.faults in omega (arith, later, more);
    hard = let more = r.hard in omega (arith, hard, more);
    buffer = r.buffer;
    held = r.held;
    knows = λ known. r.knows (known_mid known);
  }

  pub prepared_since : (result : Result Ready SeedFault) → HasPrepared w mid new seen seen' result → HasPrepared w old new seen seen' result
  prepared_since (Ok ready) r = ready_since ready.peer (length ready.buffer.items) r
  prepared_since (Err (NotAStore at found want)) o = other_since w.descriptor.now old mid new known_mid at found want o
  prepared_since (Err Disk) risen = risen_less old.faults mid.faults new.faults later risen
  prepared_since (Err Link) both = (both.0, λ known. both.1 (known_mid known))
  prepared_since (Err Memory) begins = λ known. begins (known_mid known)
