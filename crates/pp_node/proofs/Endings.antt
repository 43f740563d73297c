-- How a run of a peer ends, by its status.
use Rattle.std.proofs.Common.{◌≡◌, ◌⊎◌, inl, inr, ⊎_elim, ℕ, ◌<◌, Bool, true, Option, None, List, [], length, refl, sym, ◌∙◌, ap, subst, arith, Err}
use Rattle.std.specs.Prelude.{is_some}
use Rattle.std.proofs.lemmas.Bool.{false≢true}
use Rattle.pp_terms.specs.command.Report.{disk_fault_line, SaysReport}
use Rattle.pp_terms.specs.command.Tally.{Tally}
use Rattle.pp_terms.specs.disk.Disk.{DiskState, IsKnown, GainsName}
use Rattle.pp_terms.specs.disk.Image.{holds}
use Rattle.pp_terms.specs.disk.Untouched.{IsSyncedAtMost}
use Rattle.pp_terms.specs.format.Descriptor.{Descriptor}
use Rattle.pp_terms.specs.format.Traffic.{Address, LinkState, Record, GainsAddress}
use Rattle.pp_terms.proofs.Risings.{gains_nothing}
use Rattle.pp_traffic.specs.Committed.{RequestsNone}
use Rattle.pp_promises.specs.Missing.{IsComplete}
use Rattle.pp_counts.specs.Counts.{tally_of}
use Rattle.pp_tree.specs.Book.{entry}
use Rattle.pp_avail.specs.declared.ranker.Rank.{Rank}
use Rattle.pp_core.specs.Offering.{FetchesAll}
use Rattle.pp_core.specs.Peers.{PeerState}
use Rattle.pp_node.specs.Looking.{Lasts}
use Rattle.pp_node.specs.Outside.{Outside}
use Rattle.pp_node.specs.Preparing.{IsUnsent, HasPrepared, LeavesDisk, LeavesLink}
use Rattle.pp_node.specs.Promising.{PeerWords, HasRun, IsIncomplete, IsStopped, IsUnturned, FaultsIn, SeedsIn, HasFetched, FetchesIn, LeavesFile, Binds, IsKeptTo, PeerEnds, SeedEnds, DialsAsTold, AsksAsOffered, FetchEndsBehind, FetchEnds}
use Rattle.pp_node.specs.Seeding.{words_of, dials_of, earlier_of, service_of, set_of, told_of, HasEvery, NamesBehind, Serves, ReportsSeed}
use Rattle.pp_node.specs.Status.{number_of}
use Rattle.pp_node.specs.Text.{Says}
use Rattle.pp_turns.specs.Taking.{StopsIn, Ends}
use Rattle.pp_turns.specs.Turning.{post}
use Rattle.pp_turns.proofs.Promising.{owes_none, keeps_none, tells_none, acknowledges_none, asks_none}
use Rattle.pp_node.specs.declared.preparing.Peering.{Peering}
use Rattle.pp_node.specs.declared.preparing.SeedFault.{SeedFault}
use Rattle.pp_node.specs.declared.preparing.SeedFault.TheVariants as fault
use Rattle.pp_node.specs.declared.status.Status.{Status}
use Rattle.pp_node.specs.declared.status.Status.TheVariants.{Done, Usage, NotAStore, Incomplete, DiskFault, LinkFault, SourceFault, SinkFault, NotEmpty, ContentSize, Schedule, Memory, Damaged, AuditNo, Recording, NoLife, TooLarge, Shape}
use Rattle.pp_node.proofs.Peers.{WasReady, HasBook, b, start, d_is, found_same, went_closed, is_closed, early_now, all_taken, complete_now, missing_now, peer_ends, bound_now, run_now, stopped_now, asks_none_now, kept_to_now, dialled_now, asked_now, unkept, unwilling}

-- ---- a fault is one of both commands

pub seeds_in : (status : Status) (w : PeerWords) (old new : Outside) (added : List Record) → FaultsIn status w old new added → SeedsIn status w old new added
seeds_in Done w old new added f = absurd f
seeds_in SinkFault w old new added f = absurd f
seeds_in NotAStore w old new added f = f
seeds_in DiskFault w old new added f = f
seeds_in LinkFault w old new added f = f
seeds_in Memory w old new added f = f
seeds_in Usage w old new added f = f
seeds_in Incomplete w old new added f = f
seeds_in SourceFault w old new added f = f
seeds_in NotEmpty w old new added f = f
seeds_in ContentSize w old new added f = f
seeds_in Schedule w old new added f = f
seeds_in Damaged w old new added f = f
seeds_in AuditNo w old new added f = f
seeds_in Recording w old new added f = f
seeds_in NoLife w old new added f = f
seeds_in TooLarge w old new added f = f
seeds_in Shape w old new added f = f

pub fetches_in : (status : Status) (earlier : Option Tally) (w : PeerWords) (old new : Outside) (added : List Record) → FaultsIn status w old new added
    → FetchesIn status earlier w old new added
fetches_in Done earlier w old new added f = absurd f
fetches_in SinkFault earlier w old new added f = absurd f
fetches_in Incomplete earlier w old new added f = absurd f
fetches_in NotAStore earlier w old new added f = f
fetches_in DiskFault earlier w old new added f = f
fetches_in LinkFault earlier w old new added f = f
fetches_in Memory earlier w old new added f = f
fetches_in Usage earlier w old new added f = f
fetches_in SourceFault earlier w old new added f = f
fetches_in NotEmpty earlier w old new added f = f
fetches_in ContentSize earlier w old new added f = f
fetches_in Schedule earlier w old new added f = f
fetches_in Damaged earlier w old new added f = f
fetches_in AuditNo earlier w old new added f = f
fetches_in Recording earlier w old new added f = f
fetches_in NoLife earlier w old new added f = f
fetches_in TooLarge earlier w old new added f = f
fetches_in Shape earlier w old new added f = f

-- ---- no peer was made ready

-- What holds of the disk whatever the status.
pub record Leaves (w : Peering) (old new : Outside) : Type 0 where
  pub lasts : IsKnown old.disk → Lasts w.descriptor.now new.disk.history
  pub named : IsKnown old.disk → GainsName old.disk.history.names w.store.now new.disk.history.names
  pub unwritten : IsKnown old.disk → 0 < length new.disk.history.found → IsSyncedAtMost new.disk.history
  pub unread : new.source ≡ old.source
  pub unfilled : new.book ≡ old.book

-- A run of either command ended by a fault.
pub record HasFault (number : ℕ) (w : PeerWords) (old new : Outside) : Type 0 where
  pub run : PeerEnds number w old new
  pub kept_to : IsKeptTo w.descriptor old new run.added
  pub asks_none : RequestsNone w.descriptor run.added
  pub ends : FaultsIn run.status w old new run.added
  pub dials : (dial : List Address) → DialsAsTold w.descriptor dial old new run.added
  pub asks : AsksAsOffered w.descriptor old new run.added
  pub none : run.added ≡ []

pub seed_fault : (number : ℕ) (w : PeerWords) (old new : Outside) → HasFault number w old new → SeedEnds number w old new
seed_fault number w old new f = record { run = f.run; kept_to = f.kept_to; asks_none = f.asks_none; ends = seeds_in f.run.status w old new f.run.added f.ends }

-- with no record
pub seed_unsent : (number : ℕ) (w : PeerWords) (old new : Outside) → HasFault number w old new
    → (ends : SeedEnds number w old new) × (ends.run.added ≡ [])
unfolding seed_fault
seed_unsent number w old new f = (seed_fault number w old new f, f.none)

pub fetch_fault : (number : ℕ) (earlier : Option Tally) (w : PeerWords) (dial : List Address) (old new : Outside) → HasFault number w old new
    → FetchEndsBehind earlier number w dial old new
fetch_fault number earlier w dial old new f = record {
  run = f.run;
  kept_to = f.kept_to;
  dials = f.dials dial;
  asks = f.asks;
  ends = fetches_in f.run.status earlier w old new f.run.added f.ends;
}

-- with no record
pub fetch_unsent : (number : ℕ) (w : PeerWords) (dial : List Address) (old new : Outside) → HasFault number w old new
    → (ends : FetchEnds number w dial old new) × (ends.run.added ≡ [])
unfolding fetch_fault
fetch_unsent number w dial old new f = (fetch_fault number None w dial old new f, f.none)

module _ (w : Peering) (old new : Outside) (leaves : Leaves w old new) where
  -- what is promised of a run in which nothing was sent
  abbrev pub unsent_run : (status : Status) → IsUnsent old.link new.link → Binds status (words_of w).listen old.link new.link → LeavesFile status old new
      → PeerEnds (number_of status) (words_of w) old new
  unsent_run status unsent bound file = record {
    status = status;
    number = refl;
    added = [];
    gained = gains_nothing old.link.traffic new.link.traffic unsent.traffic;
    serves = tt;
    plans = tt;
    whole = tt;
    keeps = λ known. record { held = (leaves.lasts known).stood; announced = λ sound. tt };
    lasts = leaves.lasts;
    named = leaves.named;
    bound = bound;
    leaves = file;
    unread = leaves.unread;
    rooted = inl leaves.unfilled;
  }

  silent : (status : Status) → IsUnsent old.link new.link → FaultsIn status (words_of w) old new [] → Binds status (words_of w).listen old.link new.link
      → LeavesFile status old new → HasFault (number_of status) (words_of w) old new
  silent status unsent ends bound file = record {
    run = unsent_run status unsent bound file;
    kept_to = record {
      stores = λ steady. tt;
      serves_owed = λ before tells steady counts. inl (owes_none _ (words_of w).descriptor new.disk.history, tt);
      keeps_up = λ before tells willing counts. inl (keeps_none (words_of w).descriptor, tt);
      lets_in = λ before tells willing counts. inl (refl, tt);
      chokes_none = λ before tells willing few. refl;
      tells = λ before tells steady calm. inl (tells_none (words_of w).descriptor new.disk.history, tt);
      acknowledges = λ before tells steady calm. inl (acknowledges_none (words_of w).descriptor (entry new.book), tt);
    };
    asks_none = refl;
    ends = ends;
    dials = λ dial few some. absurd (let same = unsent.nexts in omega (arith, some, same));
    asks = λ before tells steady counts.
        inl (asks_none (words_of w).descriptor _ (λ i. holds (words_of w).descriptor new.disk.history.reads i), tt);
    none = refl;
  }

  pub unturned : IsUnsent old.link new.link → IsUnturned old new []
  unturned unsent = record { none = refl; nexts = unsent.nexts; unwritten = leaves.unwritten }

  ends_as : (x status : Status) → status ≡ x → HasFault (number_of x) (words_of w) old new → HasFault (number_of status) (words_of w) old new
  ends_as x status is ends = subst (λ (y : Status). HasFault (number_of y) (words_of w) old new) (sym is) ends

  pub fault_ends : (status : Status) (f : SeedFault) → HasPrepared w old.disk new.disk old.link new.link (Err f)
      → (IsKnown old.disk → LeavesDisk w.descriptor.now new.disk.history (Err f)) → LeavesLink old.link.bound (words_of w).listen new.link.bound (Err f)
      → IsUnsent old.link new.link → ReportsSeed f status old.sink new.sink → HasFault (number_of status) (words_of w) old new
  fault_ends status (fault.NotAStore at found want) is kept bound unsent reported =
      ends_as NotAStore status reported.0 (silent NotAStore unsent
      (record { at = at; found = found; want = want; other = is; said = reported.1 }, unturned unsent) bound
      (record { other = λ e. kept; unbound = λ e. let never : NotAStore ≡ LinkFault = e in cc; no_memory = λ e. let never : NotAStore ≡ Memory = e in cc }))
  fault_ends status fault.Disk is kept bound unsent reported =
      ends_as DiskFault status reported.0 (silent DiskFault unsent
      (inl (record { refused = record { risen = is; compared = kept }; said = reported.1 }, unturned unsent)) bound
      (record { other = λ e. let never : DiskFault ≡ NotAStore = e in cc; unbound = λ e. let never : DiskFault ≡ LinkFault = e in cc; no_memory = λ e. let never : DiskFault ≡ Memory = e in cc }))
  fault_ends status fault.Link is kept bound unsent reported =
      ends_as LinkFault status reported.0 (silent LinkFault unsent
      (record { risen = is.0; begins = is.1; said = reported.1 }, unturned unsent) bound
      (record { other = λ e. let never : LinkFault ≡ NotAStore = e in cc; unbound = λ e. kept; no_memory = λ e. let never : LinkFault ≡ Memory = e in cc }))
  fault_ends status fault.Memory is kept bound unsent reported =
      ends_as Memory status reported.0 (silent Memory unsent
      (record { begins = is; silent = reported.1 }, unturned unsent) bound
      (record { other = λ e. let never : Memory ≡ NotAStore = e in cc; unbound = λ e. let never : Memory ≡ LinkFault = e in cc; no_memory = λ e. kept }))

-- ---- a peer served

unleft : (status : Status) (old new : Outside) → ((status ≡ NotAStore) ⊎ ((status ≡ LinkFault) ⊎ (status ≡ Memory)) → ⊥) → LeavesFile status old new
unleft status old new other = record {
  other = λ is. absurd (other (inl is));
  unbound = λ is. absurd (other (inr (inl is)));
  no_memory = λ is. absurd (other (inr (inr is)));
}

pub left_done : (old new : Outside) → LeavesFile Done old new
left_done old new = unleft Done old new (λ is. ⊎_elim (λ e. let never : Done ≡ NotAStore = e in cc)
    (λ more. ⊎_elim (λ e. let never : Done ≡ LinkFault = e in cc) (λ e. let never : Done ≡ Memory = e in cc) more) is)

pub left_incomplete : (old new : Outside) → LeavesFile Incomplete old new
left_incomplete old new = unleft Incomplete old new (λ is. ⊎_elim (λ e. let never : Incomplete ≡ NotAStore = e in cc)
    (λ more. ⊎_elim (λ e. let never : Incomplete ≡ LinkFault = e in cc) (λ e. let never : Incomplete ≡ Memory = e in cc) more) is)

pub left_sink : (old new : Outside) → LeavesFile SinkFault old new
left_sink old new = unleft SinkFault old new (λ is. ⊎_elim (λ e. let never : SinkFault ≡ NotAStore = e in cc)
    (λ more. ⊎_elim (λ e. let never : SinkFault ≡ LinkFault = e in cc) (λ e. let never : SinkFault ≡ Memory = e in cc) more) is)

pub left_disk : (old new : Outside) → LeavesFile DiskFault old new
left_disk old new = unleft DiskFault old new (λ is. ⊎_elim (λ e. let never : DiskFault ≡ NotAStore = e in cc)
    (λ more. ⊎_elim (λ e. let never : DiskFault ≡ LinkFault = e in cc) (λ e. let never : DiskFault ≡ Memory = e in cc) more) is)

pub left_damaged : (old new : Outside) → LeavesFile Damaged old new
left_damaged old new = unleft Damaged old new (λ is. ⊎_elim (λ e. let never : Damaged ≡ NotAStore = e in cc)
    (λ more. ⊎_elim (λ e. let never : Damaged ≡ LinkFault = e in cc) (λ e. let never : Damaged ≡ Memory = e in cc) more) is)

-- nothing was counted before
pub alone_of : (w : Peering) → w.earlier ≡ None → earlier_of w ≡ None
alone_of w is = rw is refl

none_some : (o : Option Rank) → o ≡ None → is_some o ≡ true → ⊥
none_some o is some = absurd (false≢true (ap (λ (x : Option Rank). is_some x) (sym is) ∙ some))

module _ (w : Peering) (old new : Outside) (opened : DiskState) (listens : LinkState) (first : PeerState)
    (r : WasReady w old new opened listens first) (last : PeerState) (k : HasBook last new.book) where
  abbrev fetches : Bool
  fetches = is_some w.asks

  abbrev HasEnds : Type 0
  HasEnds = Ends (b w old new opened listens first r) w.turns fetches (start w old new opened listens first r) (post last new.disk new.link)

  module _ (e : HasEnds) where
    abbrev closed_run : (status : Status) → Binds status (words_of w).listen old.link new.link → LeavesFile status old new
        → PeerEnds (number_of status) (words_of w) old new
    closed_run status = peer_ends w old new opened listens first r e.takes.taken last (went_closed w old new opened listens first r w.turns fetches last e) k status

    closed_kept : IsKeptTo w.descriptor.now old new (went_closed w old new opened listens first r w.turns fetches last e).added
    closed_kept = kept_to_now w old new opened listens first r w.turns fetches last e k

    abbrev closed_has : (n : ℕ) → e.takes.taken ≡ n → HasRun (words_of w) n old new (went_closed w old new opened listens first r w.turns fetches last e).added
    closed_has n is = run_now w old new opened listens first r e.takes.taken last (went_closed w old new opened listens first r w.turns fetches last e) k
        n is e.sized (is_closed w old new opened listens first r w.turns fetches last e)

    abbrev closed_bound : GainsAddress old.link.bound (words_of w).listen new.link.bound
    closed_bound = bound_now w old new opened listens first r e.takes.taken last (went_closed w old new opened listens first r w.turns fetches last e) k

    abbrev closed_asks : w.asks ≡ None → RequestsNone w.descriptor.now (went_closed w old new opened listens first r w.turns fetches last e).added
    closed_asks none = asks_none_now w old new opened listens first r e.takes.taken last (went_closed w old new opened listens first r w.turns fetches last e) k none

    closed_dials : DialsAsTold w.descriptor.now (dials_of w) old new (went_closed w old new opened listens first r w.turns fetches last e).added
    closed_dials = dialled_now w old new opened listens first r w.turns fetches last e k

    closed_asked : FetchesAll w.descriptor.now first.parts
        → AsksAsOffered w.descriptor.now old new (went_closed w old new opened listens first r w.turns fetches last e).added
    closed_asked all = asked_now w old new opened listens first r w.turns fetches last e k
        (subst (λ (x : Descriptor). FetchesAll x first.parts) (sym (d_is w old new opened listens first r)) all)

    closed_early : e.takes.taken < w.turns → HasEvery (set_of last)
    closed_early = early_now w old new opened listens first r w.turns fetches last e

    closed_complete : HasEvery (set_of last) → IsComplete w.descriptor.now (set_of last)
    closed_complete = complete_now w old new opened listens first r w.turns fetches last e

    incomplete : NamesBehind (earlier_of w) last old.sink new.sink → IsIncomplete w.descriptor.now (set_of last) (told_of (earlier_of w) last) old.sink new.sink
    incomplete n = record {
      first = n.names.first;
      missing = missing_now w old new opened listens first r w.turns fetches last e n.names.first n.names.within n.names.missing n.names.before;
      between = n.between;
      reported = n.reported;
      said = n.names.said;
    }

    closed_all : (fetches ≡ true → HasEvery (set_of last) → ⊥) → e.takes.taken ≡ w.turns
    closed_all = all_taken w old new opened listens first r w.turns fetches last e

    abbrev fetched : HasFetched (words_of w) old new (went_closed w old new opened listens first r w.turns fetches last e).added
    fetched = record { taken = e.takes.taken; within = e.takes.within; run = closed_has e.takes.taken refl; early = λ lt. closed_complete (closed_early lt) }

  abbrev Stopped : Type 0
  Stopped = StopsIn (b w old new opened listens first r) w.turns (start w old new opened listens first r) (post last new.disk new.link)

  module _ (s : Stopped) where
    abbrev stopped_run : PeerEnds (number_of DiskFault) (words_of w) old new
    stopped_run = peer_ends w old new opened listens first r s.taken last s.stops.went k DiskFault
        (inr (bound_now w old new opened listens first r s.taken last s.stops.went k)) (left_disk old new)

    stopped_kept : IsKeptTo w.descriptor.now old new s.stops.went.added
    stopped_kept = unkept w old new opened listens first r s.stops.went.added s.stops.hard

    abbrev stopped_ends : Says disk_fault_line old.sink new.sink → IsStopped (words_of w) old new s.stops.went.added
    stopped_ends said = stopped_now w old new opened listens first r s.taken last s.stops.went k s.within s.stops.some s.stops.hard said

    abbrev stopped_asks : w.asks ≡ None → RequestsNone w.descriptor.now s.stops.went.added
    stopped_asks none = asks_none_now w old new opened listens first r s.taken last s.stops.went k none

  abbrev Served : Status → Type 0
  Served status = Serves status (service_of w) (b w old new opened listens first r) (start w old new opened listens first r)
      (post last new.disk new.link) old.sink new.sink

  alone_said : w.earlier ≡ None → SaysReport (set_of last) (told_of (earlier_of w) last) old.sink new.sink
      → SaysReport (set_of last) (tally_of last.parts.counts) old.sink new.sink
  alone_said alone = subst (λ (e : Option Tally). SaysReport (set_of last) (told_of e last) old.sink new.sink) (alone_of w alone)

  pub seed_served : (status : Status) → w.asks ≡ None → w.earlier ≡ None → Served status → SeedEnds (number_of status) (words_of w) old new
  seed_served Done none alone s = record {
    run = closed_run s.0 Done (closed_bound s.0) (left_done old new);
    kept_to = closed_kept s.0;
    asks_none = closed_asks s.0 none;
    ends = (closed_has s.0 w.turns (closed_all s.0 (λ asked all. none_some w.asks none asked)), alone_said alone s.1.1);
  }
  seed_served SinkFault none alone s = record {
    run = closed_run s.0 SinkFault (closed_bound s.0) (left_sink old new);
    kept_to = closed_kept s.0;
    asks_none = closed_asks s.0 none;
    ends = (closed_has s.0 w.turns (closed_all s.0 (λ asked all. none_some w.asks none asked)), s.1);
  }
  seed_served DiskFault none alone s = record { run = stopped_run s.0; kept_to = stopped_kept s.0; asks_none = stopped_asks s.0 none; ends = inr (stopped_ends s.0 s.1) }
  seed_served Incomplete none alone s = absurd (none_some w.asks none s.1.0)
  seed_served Usage none alone s = absurd s
  seed_served NotAStore none alone s = absurd s
  seed_served LinkFault none alone s = absurd s
  seed_served SourceFault none alone s = absurd s
  seed_served NotEmpty none alone s = absurd s
  seed_served ContentSize none alone s = absurd s
  seed_served Schedule none alone s = absurd s
  seed_served Memory none alone s = absurd s
  seed_served Damaged none alone s = absurd s
  seed_served AuditNo none alone s = absurd s
  seed_served Recording none alone s = absurd s
  seed_served NoLife none alone s = absurd s
  seed_served TooLarge none alone s = absurd s
  seed_served Shape none alone s = absurd s

  pub fetch_served : (status : Status) → fetches ≡ true → FetchesAll w.descriptor.now first.parts → Served status
      → FetchEndsBehind (earlier_of w) (number_of status) (words_of w) (dials_of w) old new
  fetch_served Done asked all s = record {
    run = closed_run s.0 Done (closed_bound s.0) (left_done old new);
    kept_to = closed_kept s.0;
    dials = closed_dials s.0;
    asks = closed_asked s.0 all;
    ends = (fetched s.0, closed_complete s.0 (s.1.0 asked), s.1.1);
  }
  fetch_served Incomplete asked all s = record {
    run = closed_run s.0 Incomplete (closed_bound s.0) (left_incomplete old new);
    kept_to = closed_kept s.0;
    dials = closed_dials s.0;
    asks = closed_asked s.0 all;
    ends = (closed_has s.0 w.turns (closed_all s.0 (λ asked every. absurd (false≢true (sym s.1.1.names.missing ∙ every s.1.1.names.first s.1.1.names.within)))), incomplete s.0 s.1.1);
  }
  fetch_served SinkFault asked all s = record {
    run = closed_run s.0 SinkFault (closed_bound s.0) (left_sink old new);
    kept_to = closed_kept s.0;
    dials = closed_dials s.0;
    asks = closed_asked s.0 all;
    ends = (fetched s.0, s.1);
  }
  fetch_served DiskFault asked all s = record {
    run = stopped_run s.0;
    kept_to = stopped_kept s.0;
    dials = λ few some before tells willing. absurd (unwilling w old new opened listens first r s.0.stops.hard willing);
    asks = λ before tells steady. absurd (unwilling w old new opened listens first r s.0.stops.hard steady.willing);
    ends = inr (stopped_ends s.0 s.1);
  }
  fetch_served Usage asked all s = absurd s
  fetch_served NotAStore asked all s = absurd s
  fetch_served LinkFault asked all s = absurd s
  fetch_served SourceFault asked all s = absurd s
  fetch_served NotEmpty asked all s = absurd s
  fetch_served ContentSize asked all s = absurd s
  fetch_served Schedule asked all s = absurd s
  fetch_served Memory asked all s = absurd s
  fetch_served Damaged asked all s = absurd s
  fetch_served AuditNo asked all s = absurd s
  fetch_served Recording asked all s = absurd s
  fetch_served NoLife asked all s = absurd s
  fetch_served TooLarge asked all s = absurd s
  fetch_served Shape asked all s = absurd s

  pub fetched_alone : (status : Status) → w.earlier ≡ None → FetchEndsBehind (earlier_of w) (number_of status) (words_of w) (dials_of w) old new
      → FetchEnds (number_of status) (words_of w) (dials_of w) old new
  fetched_alone status alone = subst (λ (e : Option Tally). FetchEndsBehind e (number_of status) (words_of w) (dials_of w) old new) (alone_of w alone)

  -- what reads gave at the attachment is remembered
  pub found_served : (status : Status) → Served status → IsKnown old.disk → new.disk.history.found ≡ opened.history.found
  found_served Done s known = found_same w old new opened listens first r s.0.takes.taken last (went_closed w old new opened listens first r w.turns fetches last s.0) k known
  found_served Incomplete s known = found_same w old new opened listens first r s.0.takes.taken last (went_closed w old new opened listens first r w.turns fetches last s.0) k known
  found_served SinkFault s known = found_same w old new opened listens first r s.0.takes.taken last (went_closed w old new opened listens first r w.turns fetches last s.0) k known
  found_served DiskFault s known = found_same w old new opened listens first r s.0.taken last s.0.stops.went k known
  found_served Usage s known = absurd s
  found_served NotAStore s known = absurd s
  found_served LinkFault s known = absurd s
  found_served SourceFault s known = absurd s
  found_served NotEmpty s known = absurd s
  found_served ContentSize s known = absurd s
  found_served Schedule s known = absurd s
  found_served Memory s known = absurd s
  found_served Damaged s known = absurd s
  found_served AuditNo s known = absurd s
  found_served Recording s known = absurd s
  found_served NoLife s known = absurd s
  found_served TooLarge s known = absurd s
  found_served Shape s known = absurd s
