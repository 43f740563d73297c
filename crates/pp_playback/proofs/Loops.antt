-- Many turns in which a content is written.
use Rattle.std.proofs.Common.{◌≡◌, ℕ, ◌+◌, ◌<◌, ◌≤◌, List, ◌++◌, length, take, drop, Ok, Err, ◌∙◌, arith, length-append, length-drop}
use Rattle.std.proofs.lemmas.List.{length-take}
use Rattle.pp_peer.specs.Standing.{Beginning}
use Rattle.pp_playback.specs.Turns.{Stand, GoesOn, PlaysTurn, TakesAll}
use Rattle.pp_playback.specs.declared.playing.PlayStop.{PlayStop}

-- A number of turns were taken, where the writing goes on from the first.
abbrev pub HasPlayedOn : ℕ → (first old now : Stand) → Type 0
HasPlayedOn taken first old now = (b : Beginning) → GoesOn b 0 first old → GoesOn b taken first now

pub takes_none : (first old : Stand) → HasPlayedOn 0 first old old
takes_none first old b goes = goes

module _ (taken most : ℕ) (first old mid new : Stand) (on : HasPlayedOn taken first old mid) where
  pub takes_more : (u : Unit {0}) → PlaysTurn mid new (Ok u) → HasPlayedOn (taken + 1) first old new
  takes_more u turn b goes = turn b taken first (on b goes)

  pub takes_stop : taken < most → (stop : PlayStop) → PlaysTurn mid new (Err stop) → TakesAll most first old new (Err stop)
  takes_stop few stop turn b goes = record { taken = taken + 1; within = omega (arith, few); plays = turn b taken first (on b goes) }

  pub takes_early : taken < most → mid.player.chunks ≤ mid.player.base → TakesAll most first old mid (Ok tt)
  takes_early few all b goes =
      let far = on b goes in
      record { taken = taken; within = omega (arith, few); goes = far; early = λ low. let within = far.gone.written.within in omega (arith, within, all) }

  pub takes_all : taken ≡ most → TakesAll most first old mid (Ok tt)
  takes_all same b goes = record { taken = taken; within = omega (arith, same); goes = on b goes; early = λ low. absurd (omega (arith, same, low)) }

-- a buffer that was lent, and came back as long as it was
pub room_kept : (len : ℕ) (items back : List ℕ) → length items ≡ 65536 → len ≡ length items → length back ≡ length items
    → length (take len (back ++ drop (length back) items)) ≡ 65536
room_kept len items back room same as_long =
    length-take len (back ++ drop (length back) items)
    ∙ omega (arith, room, same, as_long, length-append back (drop (length back) items), length-drop (length back) items)
