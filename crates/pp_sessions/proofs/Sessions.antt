-- What a session of a peer promises, from what its turns do.
use Rattle.std.proofs.Common.{◌≡◌, inl, inr, ⊎_elim, ℕ, ◌+◌, ◌<◌, ◌≤◌, ◌-◌, zero, suc, map, true, false, Some, None, Option, List, [], drop, refl, sym, ◌∙◌, ap, subst, arith}
use Rattle.std.specs.Prelude.{is_some}
use Rattle.std.specs.List.{AllByRecursion, list_any}
use Rattle.pp_terms.specs.Count.{HasRisen, capped}
use Rattle.pp_terms.specs.command.Stream.{SinkState}
use Rattle.pp_terms.specs.disk.Disk.{Epoch, IsImage, WasImage, MayLeaveSince, Throughout, moment_of}
use Rattle.pp_terms.specs.disk.Image.{StandsIn, holds}
use Rattle.pp_terms.specs.disk.Sound.{BeganSound}
use Rattle.pp_terms.specs.format.Descriptor.{Descriptor, chunks_of}
use Rattle.pp_terms.specs.format.Traffic.{Address, Record, GainsRecords}
use Rattle.pp_terms.specs.tree.Book.{IsRooted}
use Rattle.pp_terms.proofs.Risings.{risen_less}
use Rattle.pp_traffic.specs.Committed.{RequestsNone}
use Rattle.pp_traffic.specs.Keeping.{EachAnnounced, Keeps, StoodThroughout, StandsSince}
use Rattle.pp_traffic.specs.Past.{EachRecord}
use Rattle.pp_traffic.specs.Serving.{window_of, ServesAll}
use Rattle.pp_traffic.specs.Tallied.{TookTurns}
use Rattle.pp_traffic.specs.Turns.{is_closing, in_turns, AtEndsOfTurnsBut, AtEndsBut, ClosesLast}
use Rattle.pp_promises.specs.Announced.{AcknowledgesFirst, AcknowledgesAll, TellsOfHeld, TellsAll}
use Rattle.pp_promises.specs.Answered.{LetsIn, LetsInBut, ChokesNone, KeepsUp, KeepsUpBut}
use Rattle.pp_promises.specs.Asked.{DialsBut, AsksBut}
use Rattle.pp_promises.specs.Datagrams.{IsWhole, PlansAll}
use Rattle.pp_promises.specs.Premises.{Devices, IsCalm, IsWilling, IsSteady, CountsTell, refusals}
use Rattle.pp_promises.specs.Promises.{Task, Course, turns_of, AsksAsTold, Asks, IsPrompt, IsAnnounced, IsStored, Promises}
use Rattle.pp_promises.specs.Served.{LeavesFew, ServesBut}
use Rattle.pp_promises.specs.Stored.{StoresAll}
use Rattle.pp_outside.specs.Outside.{address_of}
use Rattle.pp_outside.specs.declared.link.Address as dialled
use Rattle.pp_avail.specs.declared.ranker.Rank.{Rank}
use Rattle.pp_tree.specs.Book.{entry}
use Rattle.pp_store.specs.Store.{is_committed, is_held}
use Rattle.pp_peer.specs.Standing.{Beginning}
use Rattle.pp_core.specs.Keeping.{IsThere, IsKeeping}
use Rattle.pp_core.specs.Offering.{FetchesAll, AsksOrHolds}
use Rattle.pp_core.specs.Opening.{WantsIf}
use Rattle.pp_core.specs.Promising.{IsFoundIn}
use Rattle.pp_core.specs.Storing.{StoresIn}
use Rattle.pp_core.proofs.Dialled.{misses_more, dials_but}
use Rattle.pp_core.proofs.Offered.{begun_fetches}
use Rattle.pp_core.proofs.Unchoked.{chokes_none}
use Rattle.pp_turns.specs.Promising.{Ended, faults_of, Tells, FailsFew, IsCalmLink, HasDialled}
use Rattle.pp_turns.specs.Turning.{Went}
use Rattle.pp_turns.proofs.Promising.{each_read, fails_at_most, in_turns_closed}
use Rattle.pp_turns.proofs.Steps.{each_announced}
use Rattle.pp_sessions.specs.Sessions.{Session, IsSession, HasEnded, HasStopped, beginning_of, new_link, seen_link, devices_before, devices_after, task_of, task_in, course_of}

-- What is promised while the disk refuses nothing but readings.
record IsKeptTo (d : Descriptor) (task : Task) (old new : Devices) (run : Course) : Type 0 where
  stores : IsSteady d old.disk new.disk → IsStored d run.book new.disk run.added
  announces : IsSteady d old.disk new.disk → IsCalm old.link.faults new.link.faults → IsAnnounced d run.book new.disk run.added
  serves : IsSteady d old.disk new.disk → CountsTell new → ServesBut (refusals old new) d (window_of d) new.disk.history run.added
  prompt : IsWilling old.disk new.disk → CountsTell new → IsPrompt (refusals old new) d run.added
  asks : IsSteady d old.disk new.disk → CountsTell new → Asks (refusals old new) d task new.disk run

-- ---- what was asked of it

turns_are : (asks : Option Rank) (dial : List dialled.Address) (n : ℕ) → turns_of (task_of asks dial n) ≡ n
turns_are None dial n = refl
turns_are (Some order) dial n = refl

module _ (d : Descriptor) (s : Session) (is : IsSession d s) where
  abbrev b : Beginning
  b = beginning_of s.first

  d_is : b.d ≡ d
  d_is = is.opened.begun.holding.descriptor

  tells_none : s.first.link.traffic ≡ Some []
  tells_none = is.opened.unused.traffic

  -- ---- what the disk keeps

  -- what a crash may have left of the disk as it is seen, it may have left of the disk
  left_so : (moment : ℕ) (image : List ℕ) → MayLeaveSince s.seen moment image → MayLeaveSince s.last.disk.history moment image
  left_so moment image (inl now) = inl (subst (λ (e : Epoch). IsImage e image) is.seen_as.epoch now)
  left_so moment image (inr was) = inr (subst (λ (past : List Epoch). WasImage (drop moment past) image) is.seen_as.past was)

  stands_so : (x : Descriptor) (moment i : ℕ) → StandsSince x s.last.disk.history moment i → StandsSince x s.seen moment i
  stands_so x moment i stands image since = stands image (left_so moment image since)

  found_in : IsFoundIn b s.seen
  found_in i stood = is.seen_as.found i (subst (λ (x : Descriptor). StoodThroughout x s.seen i) d_is stood)

  -- ---- whatever ended the turns

  module _ (sink sink' : SinkState) (t : Went b s.taken s.first s.last) where
    abbrev before : Devices
    before = devices_before s sink

    abbrev after : Devices
    after = devices_after s sink'

    last_d : s.last.peer.parts.holding.store.descriptor ≡ d
    last_d = t.advances.descriptor ∙ d_is

    keeping : BeganSound d s.seen → IsKeeping b.since s.last.peer s.last.disk t.added
    keeping began = t.keeps (is.seen_as.kept began)

    stood_still : (i : ℕ) → StoodThroughout d s.seen i → StandsSince d s.last.disk.history s.seen.start i
    stood_still i stood =
        subst (λ (x : Descriptor). (moment : ℕ) → moment ≤ moment_of s.first.disk.history
        → Throughout s.first.disk.history moment (λ image. StandsIn x image i)
        → Throughout s.last.disk.history moment (λ image. StandsIn x image i)) d_is
        (t.advances.goes_on is.opened.known i (is.seen_as.found i stood))
        s.seen.start is.seen_as.started (is.seen_as.stood i stood)

    announced : BeganSound d s.seen → EachAnnounced d (StandsSince d s.seen) t.added
    announced began = subst (λ (x : Descriptor). EachAnnounced x (StandsSince x s.seen) t.added) last_d
        (each_announced s.last.peer.parts.holding.store.descriptor (IsThere s.last.peer s.last.disk)
        (StandsSince s.last.peer.parts.holding.store.descriptor s.seen)
        (λ moment i at. stands_so s.last.peer.parts.holding.store.descriptor moment i at.stands) t.added (keeping began).announced)

    keeps : Keeps d s.seen t.added
    keeps = record { held = λ i stood. stands_so d s.seen.start i (stood_still i stood); announced = announced }

    took : TookTurns s.taken new_link (seen_link s.last.link) t.added
    took = record {
      nexts = λ some. t.took.nexts some ∙ ap (λ (n : ℕ). capped (n + s.taken)) is.opened.unused.nexts;
      still = λ none. t.took.still none ∙ is.opened.unused.nexts;
      refused = t.took.refused;
      each = t.took.each;
      why = ⊎_elim (λ none. inl none) (λ risen. inr (risen_less 0 s.first.link.faults s.last.link.faults (omega arith) risen)) t.took.why;
    }

    requests : AsksAsTold d (task_in s) t.added
    requests = of s.start.asks is.opened.begun.fetching
      where
        of : (asks : Option Rank) → WantsIf (chunks_of d) (is_committed s.first.peer.parts.holding.store) asks s.first.peer.parts.fetching
            → AsksAsTold d (task_of asks s.start.dial s.taken) t.added
        of None idle = subst (λ (x : Descriptor). RequestsNone x t.added) d_is (t.asks_none idle)
        of (Some order) wants = tt

    -- where nothing closed a channel
    all_in_turns : list_any (is_closing b.d) t.added ≡ false → in_turns d t.added ≡ t.added
    all_in_turns unclosed = in_turns_closed d [] t.added tt (subst (λ (x : Descriptor). list_any (is_closing x) t.added ≡ false) d_is unclosed)

    closes_last : list_any (is_closing b.d) t.added ≡ false → ClosesLast d t.added
    closes_last unclosed = ap (λ (rs : List Record). list_any (is_closing d) rs) (all_in_turns unclosed)
        ∙ subst (λ (x : Descriptor). list_any (is_closing x) t.added ≡ false) d_is unclosed

    promises : list_any (is_closing b.d) t.added ≡ false → IsKeptTo d (task_in s) before after (course_of s t.added)
        → Promises d (task_in s) before after (course_of s t.added)
    promises unclosed kept_to = record {
      gained = subst (λ (o : Option (List Record)). GainsRecords o t.added s.last.link.traffic) tells_none t.gained;
      few = (let n = turns_are s.start.asks s.start.dial s.taken in omega (arith, n));
      took = took;
      rooted = subst (λ (x : Descriptor). IsRooted x (entry s.last.peer.parts.holding.book)) last_d is.book.rooted;
      safe = record {
        serves = subst (λ (x : Descriptor). ServesAll x (entry s.last.peer.parts.holding.book) (window_of x) t.added) d_is t.ledger.served;
        plans = subst (λ (x : Descriptor). PlansAll x (window_of x) t.added) d_is t.ledger.plans;
        whole = subst (λ (x : Descriptor). AllByRecursion (IsWhole x) t.added) d_is t.whole;
        closes_last = closes_last unclosed;
      };
      keeps = λ known. keeps;
      requests = requests;
      stores = kept_to.stores;
      announces = kept_to.announces;
      serves = kept_to.serves;
      prompt = kept_to.prompt;
      asks = kept_to.asks;
    }

    -- where the disk refused something that was to be kept nothing more is promised
    unwilling : HasRisen s.first.disk.hard s.last.disk.hard → IsWilling before.disk after.disk → ⊥
    unwilling hard willing = willing.hard (risen_less s.old.hard s.first.disk.hard s.last.disk.hard is.opened.hard hard)

    unkept : HasRisen s.first.disk.hard s.last.disk.hard → IsKeptTo d (task_in s) before after (course_of s t.added)
    unkept hard = record {
      stores = λ steady. absurd (unwilling hard steady.willing);
      announces = λ steady calm. absurd (unwilling hard steady.willing);
      serves = λ steady counts. absurd (unwilling hard steady.willing);
      prompt = λ willing counts. absurd (unwilling hard willing);
      asks = λ steady counts. absurd (unwilling hard steady.willing);
    }

  -- ---- where the turns ended

  module _ (sink sink' : SinkState) (t : HasEnded s) where
    abbrev added : List Record
    added = t.turns.went.added

    abbrev most : ℕ
    most = refusals (devices_before s sink) (devices_after s sink')

    -- nothing closed a channel
    unclosed : list_any (is_closing b.d) added ≡ false
    unclosed = t.keeps.closes_none [] tells_none

    turned : in_turns d added ≡ added
    turned = all_in_turns sink sink' t.turns.went unclosed

    -- ---- how often something was refused

    within : faults_of s.last ≤ faults_of s.first + most
    within = let opened = is.opened.faults in omega (arith, opened)

    tells : CountsTell (devices_after s sink') → Tells s.last
    tells counts = record { link = counts.link; disk = counts.disk }

    -- what fails at the ends of few turns
    ends : (P : List Record → Type 0) → FailsFew Ended s.first s.last P added → AtEndsBut most d P added
    ends P few = subst (λ (rs : List Record). AtEndsOfTurnsBut most P rs) (sym turned)
        (fails_at_most few.0 most P added (let sum = few.1 in let enough = within in omega (arith, sum, enough)) few.2)

    -- and what fails at none
    ends_all : (P : List Record → Type 0) → AtEndsOfTurnsBut 0 P added → AtEndsBut 0 d P added
    ends_all P all = subst (λ (rs : List Record). AtEndsOfTurnsBut 0 P rs) (sym turned) all

    -- ---- what is held

    held : BeganSound d s.seen → (i : ℕ) → is_held s.last.peer.parts.holding.store i ≡ true → holds d s.seen.reads i ≡ true
    held began i at = subst (λ (bytes : List ℕ). holds d bytes i ≡ true) (sym is.seen_as.reads)
        (subst (λ (x : Descriptor). holds x s.last.disk.history.reads i ≡ true) (last_d sink sink' t.turns.went)
        ((keeping sink sink' t.turns.went began).kept.holds t.turns.live i at).held)

    stores : BeganSound d s.seen → StoresAll d (entry s.last.peer.parts.holding.book) s.seen.reads added
    stores began = each_read d (entry s.last.peer.parts.holding.book) s.last.peer.parts.holding.store s.seen.reads (held began) added
        (subst (λ (x : Descriptor). EachRecord (StoresIn x (entry s.last.peer.parts.holding.book) s.last.peer.parts.holding.store) added) d_is
        t.keeps.stores)

    -- ---- while the link refuses nothing

    calm_link : IsCalm 0 s.last.link.faults → IsCalmLink s.first s.last
    calm_link calm risen = calm (risen_less 0 s.first.link.faults s.last.link.faults (omega arith) risen)

    tells_all : IsCalm 0 s.last.link.faults → TellsAll d s.seen added
    tells_all calm = subst (λ (x : Descriptor). AtEndsBut 0 d (TellsOfHeld x s.seen) added) d_is
        (ends_all (TellsOfHeld b.d s.seen) (t.keeps.tells [] tells_none (calm_link calm) s.seen found_in))

    acknowledges : IsCalm 0 s.last.link.faults → AcknowledgesAll d (entry s.last.peer.parts.holding.book) added
    acknowledges calm = subst (λ (x : Descriptor). AtEndsBut 0 d (AcknowledgesFirst x (entry s.last.peer.parts.holding.book)) added) d_is
        (ends_all (AcknowledgesFirst b.d (entry s.last.peer.parts.holding.book))
        (t.keeps.acknowledges [] tells_none (calm_link calm) (entry s.last.peer.parts.holding.book) (λ layer offset digest here. here)))

    -- ---- while both counts tell

    serves : BeganSound d s.seen → CountsTell (devices_after s sink') → ServesBut most d (window_of d) s.seen added
    serves began counts = subst (λ (x : Descriptor). AtEndsBut most d (LeavesFew most x (window_of x) s.seen) added) d_is
        (ends (LeavesFew most b.d (window_of b.d) s.seen)
        (t.keeps.serves (record { keeping = is.seen_as.kept began; tells = tells counts }) s.seen found_in most within))

    keeps_up : CountsTell (devices_after s sink') → KeepsUpBut most d added
    keeps_up counts = subst (λ (x : Descriptor). AtEndsBut most d (KeepsUp x) added) d_is
        (ends (KeepsUp b.d) (t.keeps.keeps_up [] tells_none (tells counts)))

    lets_in : CountsTell (devices_after s sink') → LetsInBut most d added
    lets_in counts = subst (λ (x : Descriptor). AtEndsBut most d (LetsIn x) added) d_is
        (ends (LetsIn b.d) (t.keeps.lets_in [] tells_none (tells counts)))

    unchoked : ChokesNone most d added
    unchoked = subst (λ (x : Descriptor). ChokesNone most x added) d_is
        (chokes_none most b.d s.last.peer.parts added (t.keeps.unchoked [] tells_none))

    -- ---- what a fetch asks for

    asks_all : FetchesAll b.d s.first.peer.parts → BeganSound d s.seen → CountsTell (devices_after s sink') → AsksBut most d s.seen.reads added
    asks_all fetches began counts =
        subst (λ (x : Descriptor). AtEndsBut most d (AsksOrHolds x (chunks_of x) (λ i. holds d s.seen.reads i)) added) d_is
        (ends (AsksOrHolds b.d (chunks_of b.d) (λ i. holds d s.seen.reads i))
        (t.keeps.asks fetches (tells counts) (λ i. holds d s.seen.reads i) (held began)))

    abbrev addresses : List Address
    addresses = map address_of s.start.dial

    dials : CountsTell (devices_after s sink') → 0 < s.taken → DialsBut most d addresses added
    dials counts some = of s.taken refl
      where
        dialled : HasDialled b s.start.dial s.first s.last added → DialsBut most b.d addresses added
        dialled h = subst (λ (rs : List Record). DialsBut most b.d addresses rs) (sym h.behind)
            (dials_but most b.d addresses [] h.rest h.turn tt
            (subst (λ (rs : List Record). list_any (is_closing b.d) rs ≡ false) h.behind unclosed)
            h.one
            (misses_more (faults_of s.last - faults_of s.first) most b.d addresses h.turn (let enough = within in omega (arith, enough)) h.misses))

        of : (n : ℕ) → s.taken ≡ n → DialsBut most d addresses added
        of zero none = absurd (omega (arith, none, some))
        of (suc n) taken = subst (λ (x : Descriptor). DialsBut most x addresses added) d_is
            (dialled (t.dials s.start.dial is.opened.begun.dials is.opened.few [] tells_none (tells counts) (suc n) (omega (arith, taken))))

    asks : BeganSound d s.seen → CountsTell (devices_after s sink') → Asks most d (task_in s) (devices_after s sink').disk (course_of s added)
    asks began counts = of s.start.asks refl
      where
        of : (o : Option Rank) → s.start.asks ≡ o
            → Asks most d (task_of o s.start.dial s.taken) (devices_after s sink').disk (course_of s added)
        of None none = tt
        of (Some order) some = record {
          dials = dials counts;
          asks = asks_all (subst (λ (x : Descriptor). FetchesAll x s.first.peer.parts) (sym d_is)
              (begun_fetches d s.start.random s.start.asks s.start.dial s.first.peer is.opened.begun (ap is_some some))) began counts;
        }

    kept_to : IsKeptTo d (task_in s) (devices_before s sink) (devices_after s sink') (course_of s added)
    kept_to = record {
      stores = λ steady. stores steady.began;
      announces = λ steady calm. record { acknowledges = acknowledges calm; tells = tells_all calm };
      serves = λ steady counts. serves steady.began counts;
      prompt = λ willing counts. record { lets_in = lets_in counts; chokes_none = unchoked; keeps_up = keeps_up counts };
      asks = λ steady counts. asks steady.began counts;
    }

-- ---- the whole

pub turns_keep : (d : Descriptor) (s : Session) (sink sink' : SinkState) → IsSession d s → (t : HasEnded s)
    → Promises d (task_in s) (devices_before s sink) (devices_after s sink') (course_of s t.turns.went.added)
turns_keep d s sink sink' is t =
    promises d s is sink sink' t.turns.went (unclosed d s is sink sink' t) (kept_to d s is sink sink' t)

pub stops_keep : (d : Descriptor) (s : Session) (sink sink' : SinkState) → IsSession d s → (t : HasStopped s)
    → Promises d (task_in s) (devices_before s sink) (devices_after s sink') (course_of s t.went.added)
stops_keep d s sink sink' is t =
    promises d s is sink sink' t.went (t.closes_none [] is.opened.unused.traffic) (unkept d s is sink sink' t.went t.hard)
