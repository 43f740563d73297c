-- An opening over a disk that was watched, as that of a peer of a world; and what else happens to a disk.
use Rattle.std.proofs.Common.{◌≡◌, ◌⊎◌, inl, inr, ℕ, ◌+◌, ◌^◌, ◌<◌, true, None, Some, List, [], ◌∷◌, ◌++◌, refl, sym, ◌∙◌, ap, subst, arith}
use Rattle.pp_terms.specs.Count.{HasRisen}
use Rattle.pp_terms.specs.disk.Calls.{Crashed, Calls, after_call, replay, attached, history_of, crash_image}
use Rattle.pp_terms.specs.disk.Disk.{History, DiskState, fresh, settled}
use Rattle.pp_terms.specs.format.Descriptor.{Descriptor}
use Rattle.pp_terms.specs.format.Traffic.{LinkState}
use Rattle.pp_terms.specs.tree.Book.{LookUp}
use Rattle.pp_outside.specs.Arrivals.{Arrivals}
use Rattle.pp_outside.specs.MemoryDisk as disks
use Rattle.pp_outside.specs.MemoryLink as links
use Rattle.pp_outside.specs.declared.call.Call.{Call}
use Rattle.pp_outside.specs.declared.call.Call.TheVariants as calls
use Rattle.pp_outside.specs.declared.memory_disk.MemoryDisk.{MemoryDisk}
use Rattle.pp_outside.specs.declared.memory_link.MemoryLink.{MemoryLink}
use Rattle.pp_world.specs.Change.{with_crash}
use Rattle.pp_world.specs.DiskCalls.{MakesCalls}
use Rattle.pp_world.specs.Opening.{IsAnothers, IsLearned, new_session, Opens, FailsToOpen}
use Rattle.pp_world.specs.Orders.{has_order}
use Rattle.pp_world.specs.Schedule.{Device, Read, Write, Sync, Send, Receive}
use Rattle.pp_world.specs.World.{PeerState, reads_of}
use Rattle.pp_watch.specs.Done as doings
use Rattle.pp_watch.specs.Opened.{after_opening, after_refusal}
use Rattle.pp_watch.specs.Shown.{ShowsDisk, ShowsLink, with_calls}
use Rattle.pp_watch.specs.Used.{order_if}
use Rattle.pp_watch.proofs.Doings.{attached_call}
use Rattle.pp_watch.proofs.Showing.{makes_calls, shows_calls, history_unattached, replay-append}

-- what reads give
pub reads_shown : (most : ℕ) (disk : MemoryDisk) (x : PeerState) → ShowsDisk most disk x → (disks.state_of disk).history.reads ≡ reads_of x
reads_shown most disk x shows = ap (λ (h : History). h.reads) shows.history

module _ (d : Descriptor) (most : ℕ) (old new : MemoryDisk) (x : PeerState) (low : most + 4 < 2 ^ 64) (shows : ShowsDisk most old x)
    (done : doings.HasDone (doings.as_before old) new) where
  base : MakesCalls x (with_calls done.calls new x)
  base = makes_calls most old new x shows done (omega (arith, low))

  -- the disk shown for a peer whose disk, counts and orders of the disk are these
  pub shows_more : (y : PeerState) → y.disk ≡ (with_calls done.calls new x).disk → y.faults ≡ (with_calls done.calls new x).faults
      → y.hard ≡ (with_calls done.calls new x).hard → y.orders.read ≡ (with_calls done.calls new x).orders.read
      → y.orders.write ≡ (with_calls done.calls new x).orders.write → y.orders.sync ≡ (with_calls done.calls new x).orders.sync
      → ShowsDisk (most + 4) new y
  shows_more y disk faults hard read write sync =
      let shown = shows_calls most old new x shows done (omega (arith, low)) in record {
        unattached = ap (λ (c : Calls). c.attached_at) disk ∙ shown.unattached;
        history = ap (λ (c : Calls). attached (fresh c.image) (disks.state_of new).history) disk ∙ shown.history ∙ sym (ap history_of disk);
        faults = shown.faults ∙ sym faults;
        hard = shown.hard ∙ sym hard;
        few = (let few = shown.few in omega (arith, few, faults));
        few_hard = (let few = shown.few_hard in omega (arith, few, hard));
        read = shown.read ∙ sym (ap order_if read);
        write = shown.write ∙ sym (ap order_if write);
        sync = shown.sync ∙ sym (ap order_if sync);
        attach = shown.attach;
        len = shown.len;
      }

  -- ---- a store that was opened

  module _ (book : LookUp) (begins : IsAnothers d (disks.state_of old).history.reads → ⊥) (learned : IsLearned d (disks.state_of old).history.reads book) where
    abbrev opened : PeerState
    opened = after_opening done.calls new book x

    opening_calls : MakesCalls x opened
    opening_calls = record {
      calls = base.calls;
      made = base.made;
      are_calls = base.are_calls;
      ordered = none_new;
      writes = base.writes;
      faults = base.faults;
      hard = base.hard;
    }
      where
        none_new : (call : Device) → has_order opened.orders call ≡ true → has_order x.orders call ≡ true
        none_new Read is = base.ordered Read is
        none_new Write is = base.ordered Write is
        none_new Sync is = base.ordered Sync is
        none_new Send is = cc
        none_new Receive is = cc

    pub opens : Opens d x opened
    opens = record {
      calls = opening_calls;
      begins = subst (λ (r : List ℕ). IsAnothers d r → ⊥) (reads_shown most old x shows) begins;
      unordered = (refl, refl);
      book = book;
      learned = subst (λ (r : List ℕ). IsLearned d r book) (reads_shown most old x shows) learned;
      is = refl;
      runs = refl;
      queue = refl;
    }

    pub opened_disk : ShowsDisk (most + 4) new opened
    opened_disk = shows_more opened refl refl refl refl refl refl

    pub opened_link : (link : MemoryLink) → links.state_of link ≡ record { traffic = Some []; faults = 0; nexts = 0; bound = None }
        → links.arrivals_of link ≡ record { coming = []; last = 0 } → ((call : Call) → links.order_of link call ≡ None)
        → ShowsLink (most + 4) link opened.orders (new_session x opened book)
    opened_link link state events none = record {
      traffic = ap (λ (l : LinkState). l.traffic) state;
      faults = ap (λ (l : LinkState). l.faults) state;
      nexts = ap (λ (l : LinkState). l.nexts) state;
      few = omega arith;
      few_turns = omega arith;
      send = none calls.Send;
      receive = none calls.Next;
      bind = none calls.Bind;
      idle = ap (λ (a : Arrivals). a.coming) events;
    }

  -- ---- one that wasn't

  module _ (cause : IsAnothers d (disks.state_of old).history.reads ⊎ HasRisen (disks.state_of old).faults (disks.state_of new).faults) where
    abbrev refused : PeerState
    refused = after_refusal done.calls new x

    causes : IsAnothers d (disks.state_of old).history.reads ⊎ HasRisen (disks.state_of old).faults (disks.state_of new).faults
        → IsAnothers d (reads_of x) ⊎ (x.faults < refused.faults)
    causes (inl other) = inl (subst (IsAnothers d) (reads_shown most old x shows) other)
    causes (inr risen) =
        let shown = shows_calls most old new x shows done (omega (arith, low)) in
        let few = shown.few in
        let lt = risen (omega (arith, few, low)) in
        let same = shows.faults in
        inr (omega (arith, lt, same))

    pub fails : FailsToOpen d x refused
    fails = record {
      calls = record {
        calls = base.calls;
        made = base.made;
        are_calls = base.are_calls;
        ordered = base.ordered;
        writes = base.writes;
        faults = base.faults;
        hard = base.hard;
      };
      cause = causes cause;
      same = refl;
      stopped = refl;
      queue = refl;
    }

    pub refused_disk : ShowsDisk (most + 4) new refused
    refused_disk = shows_more refused refl refl refl refl refl refl

-- ---- a crash

pub crashed : (most pick : ℕ) (old new : MemoryDisk) (x : PeerState) → ShowsDisk most old x
    → disks.state_of new ≡ record (disks.state_of old) { history = settled (disks.state_of old).history (crash_image pick (disks.state_of old).history.epoch) }
    → ((call : Call) → disks.order_of new call ≡ disks.order_of old call) → ShowsDisk most new (with_crash pick x)
crashed most pick old new x shows state orders =
    let f = fresh x.disk.image in
    let image = crash_image pick (disks.state_of old).history.epoch in
    let same : image ≡ crash_image pick (history_of x.disk).epoch = ap (λ (h : History). crash_image pick h.epoch) shows.history in
    let was : attached f (disks.state_of old).history ≡ attached f (replay f x.disk.done) =
    shows.history ∙ history_unattached x.disk.image x.disk.done x.disk.attached_at shows.unattached in
    record {
      unattached = shows.unattached;
      history = ap (λ (s : DiskState). attached f s.history) state
          ∙ attached_call f (disks.state_of old).history (Crashed image)
          ∙ ap (λ (h : History). after_call h (Crashed image)) was
          ∙ sym (attached_call f (replay f x.disk.done) (Crashed image))
          ∙ ap (attached f) (sym (replay-append f x.disk.done (Crashed image ∷ [])))
          ∙ ap (λ (i : List ℕ). attached f (replay f (x.disk.done ++ Crashed i ∷ []))) same
          ∙ sym (history_unattached x.disk.image (x.disk.done ++ Crashed (crash_image pick (history_of x.disk).epoch) ∷ []) x.disk.attached_at shows.unattached);
      faults = ap (λ (s : DiskState). s.faults) state ∙ shows.faults;
      hard = ap (λ (s : DiskState). s.hard) state ∙ shows.hard;
      few = shows.few;
      few_hard = shows.few_hard;
      read = orders calls.Read ∙ shows.read;
      write = orders calls.Write ∙ shows.write;
      sync = orders calls.Sync ∙ shows.sync;
      attach = orders calls.Attach ∙ shows.attach;
      len = orders calls.Len ∙ shows.len;
    }
