use Rattle.std.proofs.Common.{ℕ, ◌≡◌, ◌+◌, ◌*◌, ◌/◌, ◌<◌, ◌≤◌, [], ◌∷◌, length, take, drop, slice_index_or, refl, ◌∙◌, arith, length-drop}
use Rattle.std.proofs.lemmas.List.{length-take-le}
use Rattle.sha2.specs.Sha256.{digest_bytes, hash_after, initial_hash_256, sha256}
use Rattle.sha2.proofs.Absorbing256.{hash_after_next}
use Rattle.pp_lanes.specs.Lanes.{lane}
use Rattle.pp_lanes.proofs.LaneBlocks.{below_four}
use Rattle.pp_lanes.proofs.LaneDigests.{piece_block, piece_digest}
use Rattle.pp_lanes.proofs.digests.digest_four.Goals as goal

pub whole-init : goal.whole-init
unfolding hash_after
whole-init c = λ j lt. c.initial_state-state.ensures j lt

pub whole-preserved : goal.whole-preserved
whole-preserved c = λ j lt.
    let bytes = c.args.bytes.now in
    let size = c.args.size in
    let i = c.whole.i in
    let piece = take size (drop (j * size) bytes) in
    rw (
      c.compress-next.ensures j lt,
      c.whole.invariant j lt,
      piece_block bytes size (j * size) i (omega arith),
      hash_after_next initial_hash_256 piece i,
    )
    refl

pub returns : goal.returns
returns c =
    let bytes = c.args.bytes.now in
    let size = c.args.size in
    let done : c.whole.i ≡ size / 64 = omega arith in
    let digest : (j : ℕ) → j < 4 → j * size + size ≤ length bytes
    → digest_bytes (lane j c.compress-state.result) 8 ≡ sha256 (take size (drop (j * size) bytes)) =
    λ j lt room.
    let apart : 0 + j * 0 ≡ 0 = omega arith in
    let long : length (take size (drop (j * size) bytes)) ≡ size = length-take-le size (drop (j * size) bytes) (omega (arith, length-drop (j * size) bytes)) in
    piece_digest (take size (drop (j * size) bytes)) c.last_block-last.result (lane j c.whole.state) (lane j c.compress-state.result) size c.whole.i long
    c.requires.whole done (c.whole.invariant j lt) c.last_block-last.ensures (rw apart at (c.compress-state.ensures j lt)) in
    below_four
    (λ j. slice_index_or (c.digest_of.result ∷ c.digest_of-2.result ∷ c.digest_of-3.result ∷ c.digest_of-4.result ∷ []) j [] ≡ sha256 (take size (drop (j * size) bytes)))
    (c.digest_of.ensures ∙ digest 0 (omega arith) (omega arith)) (c.digest_of-2.ensures ∙ digest 1 (omega arith) (omega arith))
    (c.digest_of-3.ensures ∙ digest 2 (omega arith) (omega arith)) (c.digest_of-4.ensures ∙ digest 3 (omega arith) (omega arith))
