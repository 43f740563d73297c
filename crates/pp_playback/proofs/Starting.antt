-- What is committed is written before the first turn.
use Rattle.std.proofs.Common.{◌≡◌, ℕ, true, Option, Some, None, List, [], take, Result, Ok, Err, refl, sym, ◌∙◌, ap, subst, arith}
use Rattle.std.specs.Prelude.{is_some}
use Rattle.std.proofs.lemmas.Bool.{false≢true}
use Rattle.std.proofs.lemmas.Option.{same_Some}
use Rattle.pp_terms.specs.tree.Book.{IsRooted}
use Rattle.pp_terms.specs.format.Descriptor.{IsDescriptor, chunks_of}
use Rattle.pp_terms.specs.format.Traffic.{Record}
use Rattle.pp_terms.specs.disk.Disk.{DiskState}
use Rattle.pp_terms.specs.command.Stream.{SinkState}
use Rattle.pp_tree.specs.Book.{entry}
use Rattle.pp_holding.specs.Holding.{HoldingState}
use Rattle.pp_fetching.specs.Fetching.{FetchState}
use Rattle.pp_peer.specs.Standing.{Beginning}
use Rattle.pp_core.specs.Offering as peers
use Rattle.pp_core.specs.Offering.{FetchesAll, RequestsBelow}
use Rattle.pp_turns.specs.Promising.{Ended, HasTurned}
use Rattle.pp_turns.proofs.Between.{asking_below, reading, begun_limited, turned_read, added_read}
use Rattle.pp_turns.proofs.Turned.{turned_none, none_yet}
use Rattle.pp_stream.specs.Played.{HasPlayed}
use Rattle.pp_stream.specs.Player.{PlayerState, limit_of, feed}
use Rattle.pp_stream.specs.Steps.{PutsNext, StopsAt, KeepsRest, TakesStep}
use Rattle.pp_stream.specs.declared.player.PlayFault.{PlayFault}
use Rattle.pp_stream.specs.declared.player.PlayFault.TheVariants.{Disk, Sink, Damaged}
use Rattle.pp_stream.proofs.Played.{played_none, played_more}
use Rattle.pp_playback.specs.Turns.{Stand, stand, holding_in, HasWritten, HasGone, GoesOn, PlaysTo, IsUnplayed}
use Rattle.pp_playback.specs.declared.playing.PlayStop.TheVariants.{Unwritten}
use Rattle.pp_playback.proofs.Played.{limited_some}

-- a peer that fetches has a limit
some_limit : (o : Option FetchState) → is_some o ≡ true → (n : ℕ) × (peers.limit_of o ≡ Some n)
some_limit None is = absurd (false≢true is)
some_limit (Some f) is = (f.want.limit, refl)

module _ (old : Stand) (player : PlayerState) (disk : DiskState) (sink : SinkState) (written : Result (Unit {0}) PlayFault)
    (valid : IsDescriptor (holding_in old).store.descriptor) (rooted : IsRooted (holding_in old).store.descriptor (entry (holding_in old).book))
    (takes : TakesStep (holding_in old) (feed old.player old.post.disk old.sink) (feed player disk sink) written) where
  abbrev s : HoldingState
  s = holding_in old

  rest : KeepsRest (feed old.player old.post.disk old.sink) (feed player disk sink)
  rest = takes.rest

  abbrev mid : Stand
  mid = stand (reading disk old.post) player sink

  module _ (b : Beginning) (is : IsUnplayed b old) where
    written_on : (more : List ℕ) → PutsNext s (feed old.player old.post.disk old.sink) (feed player disk sink) more → HasWritten old mid more
    written_on more next = record {
      played = played_more s (entry s.book) old.sink (feed old.player old.post.disk old.sink) (feed player disk sink) more valid rooted (λ layer offset digest is. is)
          (subst (λ (n : ℕ). HasPlayed s.store.descriptor (entry s.book) n old.sink old.sink []) (sym is.base) (played_none s.store.descriptor (entry s.book) old.sink)) next;
      committed = λ i low. next.committed i (let zero = is.base in omega (arith, zero)) low;
      player = rest.player;
      within = rest.within;
      later = rest.later;
    }

    turns_same : HasTurned Ended b 0 old.post (reading disk old.post)
    turns_same = turned_read disk b old.post old.post rest.looks Ended 0 (turned_none b old.post is.begun)

    halts : (more : List ℕ) → PutsNext s (feed old.player old.post.disk old.sink) (feed player disk sink) more → HasGone Ended b 0 old mid more
    unfolding turns_same
    halts more next = record {
      of = is.of;
      turns = turns_same;
      written = written_on more next;
      asks = λ before tells. subst (λ (rs : List Record). RequestsBelow b.d (limit_of player) rs)
          (sym (added_read disk b old.post old.post rest.looks Ended 0 (turned_none b old.post is.begun) ∙ none_yet b old.post is.begun)) refl;
    }

    -- a fault stopped the writing
    pub started_halted : (fault : PlayFault) → StopsAt s (feed old.player old.post.disk old.sink) (feed player disk sink) (Err fault)
        → PlaysTo b 0 old mid (Err (Unwritten fault))
    started_halted Disk stops = ((Ended, halts [] stops.0), stops.1, stops.2)
    started_halted Sink stops = (
      record {
        piece = stops.0.piece;
        chunk = stops.0.chunk.backed;
        count = stops.0.count;
        short = stops.0.short;
        halts = (Ended, halts (take stops.0.count stops.0.piece) stops.0.put);
        risen = stops.2;
      },
      stops.1,
    )
    started_halted (Damaged chunk found kept) stops = (
      (Ended, halts [] stops.0),
      stops.1,
      record {
        here = stops.2;
        then = old.post.disk;
        since = rest.looks;
        damaged = stops.3;
        never = λ first_kept. stops.3.never first_kept.kept.known first_kept.kept.agrees;
      },
    )

    -- all that was committed was written, and turns may begin
    module _ (limit : ℕ) (stops : StopsAt s (feed old.player old.post.disk old.sink) (feed player disk sink) (Ok tt)) (is_limit : limit ≡ limit_of player) where
      abbrev pub first : Stand
      first = record old { post = asking_below limit old.post }

      abbrev pub now : Stand
      now = stand (reading disk (asking_below limit old.post)) player sink

      turns : HasTurned Ended b 0 first.post now.post
      turns = turned_read disk b first.post first.post rest.looks Ended 0 (turned_none b first.post (begun_limited limit b old.post is.begun))

      limit_now : peers.limit_of now.post.peer.parts.fetching ≡ Some (limit_of player)
      limit_now =
          let was = some_limit old.post.peer.parts.fetching is.fetches in
          limited_some limit was.0 old.post.peer.parts.fetching was.1 ∙ ap (λ (n : ℕ). Some n) is_limit

      pub started_on : GoesOn b 0 first now
      started_on =
          let w = written_on [] stops.0 in
          let few : player.chunks ≡ old.player.chunks = ap (λ (q : PlayerState). q.chunks) rest.player in
          record {
            gone = record {
              of = is.of;
              turns = turns;
              written = record { played = w.played; committed = w.committed; player = w.player; within = w.within; later = w.later };
              asks = λ before tells. turns.keeps.below before tells (limit_of player) limit_now;
            };
            limit = limit_now;
            full = λ all. let same = same_Some (limit_of player) (chunks_of b.d) (sym limit_now ∙ all) in let of = is.of in omega (arith, same, few, of);
            none = stops.1;
          }
