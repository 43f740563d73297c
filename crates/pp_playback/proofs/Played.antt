-- One turn more in which a content is written.
use Rattle.std.proofs.Common.{◌≡◌, ◌⊎◌, inl, inr, ⊎_elim, ℕ, ◌+◌, ◌<◌, ◌≤◌, true, Option, Some, None, List, [], take, Result, Ok, Err, refl, sym, ◌∙◌, ap, subst, arith}
use Rattle.std.proofs.lemmas.Bool.{cases_lt}
use Rattle.std.proofs.lemmas.Option.{same_Some}
use Rattle.pp_terms.specs.Count.{HasRisen}
use Rattle.pp_terms.specs.tree.Book.{IsRooted}
use Rattle.pp_terms.specs.format.Descriptor.{Descriptor, IsDescriptor, chunks_of}
use Rattle.pp_terms.specs.disk.Disk.{DiskState}
use Rattle.pp_terms.specs.command.Stream.{SinkState}
use Rattle.pp_tree.specs.Book.{BookState, entry}
use Rattle.pp_paths.specs.Judge.{KeepsEntries}
use Rattle.pp_store.specs.Store.{StoreState, is_committed}
use Rattle.pp_holding.specs.Holding.{HoldingState}
use Rattle.pp_holding.specs.Stock.{Advances}
use Rattle.pp_fetching.specs.Fetching.{FetchState}
use Rattle.pp_peer.specs.Standing.{Beginning}
use Rattle.pp_core.specs.Keeping.{IsKeeping}
use Rattle.pp_core.specs.Offering as peers
use Rattle.pp_core.specs.Offering.{FetchesAll}
use Rattle.pp_core.specs.Turning.{limited}
use Rattle.pp_core.proofs.Below.{requests_less}
use Rattle.pp_turns.specs.Turning.{Post, stock_in}
use Rattle.pp_turns.specs.Promising.{Stage, Ended, Came, Refused, open_of, HasTurned}
use Rattle.pp_turns.specs.Taking.{Finishes, StopsBehind}
use Rattle.pp_turns.proofs.Between.{asking_below, reading, turned_limited, turned_read}
use Rattle.pp_stream.specs.Played.{HasPlayed}
use Rattle.pp_stream.specs.Player.{PlayerState, limit_of, feed}
use Rattle.pp_stream.specs.Steps.{PutsNext, HasNone, StopsAt, KeepsRest, TakesStep}
use Rattle.pp_stream.specs.declared.player.PlayFault.{PlayFault}
use Rattle.pp_stream.specs.declared.player.PlayFault.TheVariants.{Disk, Sink, Damaged}
use Rattle.pp_stream.proofs.Played.{played_kept, played_more}
use Rattle.pp_playback.specs.Turns.{Stand, stand, holding_in, HasWritten, HasGone, GoesOn, Halts, PlaysTo}
use Rattle.pp_playback.specs.declared.playing.PlayStop.TheVariants.{Broken, Unwritten}

-- what was written goes on to be backed by a larger book of the same content
written_kept : (s t : HoldingState) (base : ℕ) (old new : SinkState) (more : List ℕ) → t.store.descriptor ≡ s.store.descriptor → IsRooted t.store.descriptor (entry t.book)
    → KeepsEntries (entry s.book) (entry t.book) → HasPlayed s.store.descriptor (entry s.book) base old new more → HasPlayed t.store.descriptor (entry t.book) base old new more
written_kept s t base old new more same rooted keeps played =
    played_kept t.store.descriptor (entry s.book) (entry t.book) base old new more rooted keeps
    (subst (λ (d : Descriptor). HasPlayed d (entry s.book) base old new more) (sym same) played)

-- the limit of a peer that has one, and is given another
pub limited_some : (limit n : ℕ) (o : Option FetchState) → peers.limit_of o ≡ Some n → peers.limit_of (limited limit o) ≡ Some limit
limited_some limit n None is = absurd cc
limited_some limit n (Some f) is = refl

-- a step goes forward, whatever it answers
pub goes_forward : (s : HoldingState) (player now : PlayerState) (disk left : DiskState) (sink later : SinkState) (r : Result (Unit {0}) PlayFault)
    → StopsAt s (feed player disk sink) (feed now left later) r → player.base ≤ now.base
goes_forward s player now disk left sink later (Ok u) is = is.0.forward
goes_forward s player now disk left sink later (Err Disk) is = is.0.forward
goes_forward s player now disk left sink later (Err Sink) is = is.0.put.forward
goes_forward s player now disk left sink later (Err (Damaged chunk found kept)) is = is.0.forward

-- a wait was heard, on top of turns that were taken and a content that was written so far
module _ (b : Beginning) (taken : ℕ) (first old : Stand) (heard : Post) (goes : GoesOn b taken first old) (advances : Advances (stock_in old.post) (stock_in heard))
    (rooted : IsRooted heard.peer.parts.holding.store.descriptor (entry heard.peer.parts.holding.book)) where
  abbrev s : HoldingState
  s = heard.peer.parts.holding

  played_then : HasPlayed s.store.descriptor (entry s.book) old.player.base first.sink old.sink []
  played_then = written_kept (holding_in old) s old.player.base first.sink old.sink [] advances.descriptor rooted advances.entries goes.gone.written.played

  -- the disk refused something
  pub played_broken : StopsBehind b (taken + 1) first.post old.post heard → PlaysTo b (taken + 1) first (stand heard old.player old.sink) (Err Broken)
  played_broken behind = record {
    of = goes.gone.of;
    stops = behind.stops;
    written = record {
      played = played_then;
      committed = λ i low. advances.committed i (goes.gone.written.committed i low);
      player = goes.gone.written.player;
      within = goes.gone.written.within;
      later = goes.gone.written.later;
    };
    asks = λ before is. behind.below before is (limit_of old.player) goes.limit;
  }

  -- a step
  module _ (player : PlayerState) (disk : DiskState) (sink : SinkState) (written : Result (Unit {0}) PlayFault)
      (valid : IsDescriptor s.store.descriptor) (takes : TakesStep s (feed old.player heard.disk old.sink) (feed player disk sink) written)
      (same_limit : peers.limit_of heard.peer.parts.fetching ≡ peers.limit_of old.post.peer.parts.fetching) where
    abbrev paused : Post
    paused = reading disk heard

    abbrev mid : Stand
    mid = stand paused player sink

    rest : KeepsRest (feed old.player heard.disk old.sink) (feed player disk sink)
    rest = takes.rest

    player_is : player ≡ record first.player { base = player.base }
    player_is = rest.player ∙ ap (λ (q : PlayerState). record q { base = player.base }) goes.gone.written.player

    few : player.chunks ≡ old.player.chunks
    few = ap (λ (q : PlayerState). q.chunks) rest.player

    far : player.window ≡ old.player.window
    far = ap (λ (q : PlayerState). q.window) rest.player

    forward : old.player.base ≤ player.base
    forward = goes_forward s old.player player heard.disk disk old.sink sink written takes.stops

    rises : limit_of old.player ≤ limit_of player
    rises = omega (arith, few, far, forward)

    heard_limit : peers.limit_of heard.peer.parts.fetching ≡ Some (limit_of old.player)
    heard_limit = same_limit ∙ goes.limit

    written_on : (more : List ℕ) → PutsNext s (feed old.player heard.disk old.sink) (feed player disk sink) more → HasWritten first mid more
    written_on more next = record {
      played = played_more s (entry s.book) first.sink (feed old.player heard.disk old.sink) (feed player disk sink) more valid rooted (λ layer offset digest is. is) played_then next;
      committed = λ i low. ⊎_elim (λ lt. advances.committed i (goes.gone.written.committed i lt)) (λ le. next.committed i le low) (cases_lt i old.player.base);
      player = player_is;
      within = rest.within;
      later = omega (arith, goes.gone.written.later, rest.later);
    }

    read_on : (stage : Stage) → HasTurned stage b (taken + 1) first.post heard → HasTurned stage b (taken + 1) first.post paused
    read_on stage q = turned_read disk b first.post heard rest.looks stage (taken + 1) q

    halted : (stage : Stage) → HasTurned stage b (taken + 1) first.post heard → (more : List ℕ)
        → PutsNext s (feed old.player heard.disk old.sink) (feed player disk sink) more → HasGone stage b (taken + 1) first mid more
    halted stage q more next = record {
      of = goes.gone.of;
      turns = read_on stage q;
      written = written_on more next;
      asks = λ before is. requests_less b.d (limit_of old.player) (limit_of player) (read_on stage q).turns.went.added rises
          ((read_on stage q).keeps.below before is (limit_of old.player) heard_limit);
    }

    module _ (waited : HasTurned Came b (taken + 1) first.post heard ⊎ HasTurned Refused b (taken + 1) first.post heard) where
      halts : (more : List ℕ) → PutsNext s (feed old.player heard.disk old.sink) (feed player disk sink) more → Halts b (taken + 1) first mid more
      halts more next = ⊎_elim (λ came. (Came, halted Came came more next)) (λ late. (Refused, halted Refused late more next)) waited

      risen_on : HasRisen heard.disk.faults disk.faults → HasRisen first.post.disk.faults disk.faults
      risen_on risen below =
          let before : first.post.disk.faults ≤ old.post.disk.faults = goes.gone.turns.turns.went.advances.disk.faults in
          let wait : old.post.disk.faults ≤ heard.disk.faults = advances.disk.faults in
          let r : heard.disk.faults < disk.faults = risen below in
          omega (arith, r, before, wait)

      keeping : IsKeeping b.since first.post.peer first.post.disk [] → (added : _) × IsKeeping b.since heard.peer heard.disk added
      keeping first_kept = ⊎_elim (λ came. (came.turns.went.added, came.turns.went.keeps first_kept)) (λ late. (late.turns.went.added, late.turns.went.keeps first_kept)) waited

      -- a fault stopped the writing
      pub played_halted : (fault : PlayFault) → StopsAt s (feed old.player heard.disk old.sink) (feed player disk sink) (Err fault)
          → PlaysTo b (taken + 1) first mid (Err (Unwritten fault))
      played_halted Disk is = (halts [] is.0, is.1, risen_on is.2)
      played_halted Sink is = (
        record {
          piece = is.0.piece;
          chunk = is.0.chunk.backed;
          count = is.0.count;
          short = is.0.short;
          halts = halts (take is.0.count is.0.piece) is.0.put;
          risen = λ below. let r : old.sink.faults < sink.faults = is.2 below in omega (arith, r, goes.gone.written.later);
        },
        is.1,
      )
      played_halted (Damaged chunk found kept) is = (
        halts [] is.0,
        is.1,
        record {
          here = is.2;
          then = heard.disk;
          since = rest.looks;
          damaged = is.3;
          never = λ first_kept. let k = keeping first_kept in is.3.never k.1.kept.known k.1.kept.agrees;
        },
      )

      -- all that was committed was written: another limit, and what was due
      module _ (limit : ℕ) (left : Post) (is : StopsAt s (feed old.player heard.disk old.sink) (feed player disk sink) (Ok tt)) (is_limit : limit ≡ limit_of player)
          (finishes : Finishes (asking_below limit paused) left) (store : left.peer.parts.holding.store ≡ s.store) (book : left.peer.parts.holding.book ≡ s.book)
          (left_limit : peers.limit_of left.peer.parts.fetching ≡ peers.limit_of (asking_below limit paused).peer.parts.fetching) where
        abbrev now : Stand
        now = stand left player sink

        full : FetchesAll b.d first.post.peer.parts → limit_of player ≡ player.chunks
        full all = let was = goes.full all in omega (arith, was, rises, few)

        all_is : FetchesAll b.d first.post.peer.parts → limit ≡ chunks_of b.d
        all_is all =
            let whole = full all in
            let same : player.chunks ≡ first.player.chunks = ap (λ (q : PlayerState). q.chunks) player_is in
            let of = goes.gone.of in
            omega (arith, whole, same, of, is_limit)

        limit_rises : (m : ℕ) → peers.limit_of heard.peer.parts.fetching ≡ Some m → m ≤ limit
        limit_rises m has = let same = same_Some (limit_of old.player) m (sym heard_limit ∙ has) in omega (arith, same, rises, is_limit)

        on : (stage : Stage) → 0 < open_of stage → HasTurned stage b (taken + 1) first.post heard
            → HasTurned stage b (taken + 1) first.post (asking_below limit paused)
        on stage some q = turned_limited limit b first.post paused stage (taken + 1) some all_is limit_rises (read_on stage q)

        turns : HasTurned Ended b (taken + 1) first.post left
        turns = finishes b (taken + 1) first.post (⊎_elim (λ came. inl (on Came (omega arith) came)) (λ late. inr (on Refused (omega arith) late)) waited)

        limit_now : peers.limit_of left.peer.parts.fetching ≡ Some (limit_of player)
        limit_now = left_limit ∙ limited_some limit (limit_of old.player) heard.peer.parts.fetching heard_limit ∙ ap (λ (n : ℕ). Some n) is_limit

        none_on : HasNone s player → HasNone (holding_in now) player
        none_on none = ⊎_elim inl (λ absent. inr (ap (λ (t : StoreState). is_committed t player.base) store ∙ absent)) none

        pub played_on : GoesOn b (taken + 1) first now
        played_on =
            let w = written_on [] is.0 in
            record {
              gone = record {
                of = goes.gone.of;
                turns = turns;
                written = record {
                  played = subst (λ (t : StoreState). HasPlayed t.descriptor (entry left.peer.parts.holding.book) player.base first.sink sink []) (sym store)
                      (subst (λ (k : BookState). HasPlayed s.store.descriptor (entry k) player.base first.sink sink []) (sym book) w.played);
                  committed = λ i low. subst (λ (t : StoreState). is_committed t i ≡ true) (sym store) (w.committed i low);
                  player = w.player;
                  within = w.within;
                  later = w.later;
                };
                asks = λ before is. turns.keeps.below before is (limit_of player) limit_now;
              };
              limit = limit_now;
              full = full;
              none = none_on is.1;
            }
