-- What reads give of a disk in memory is one of its images, at each moment.
use Rattle.std.specs.Prelude.{List, [], ◌∷◌}
use Rattle.std.proofs.Common.{inl, inr, ◌∙◌, arith}
use Rattle.pp_terms.specs.disk.Disk.{History, IsImage, fresh}
use Rattle.pp_terms.specs.disk.Calls.{Did, Wrote, Refused, Synced, Crashed, Calls, after_call, replay, history_of}
use Rattle.pp_terms.proofs.Images.{length-written, written_outside, is_sole}

whole_call : (h : History) (call : Did) → IsImage h.epoch h.reads → IsImage (after_call h call).epoch (after_call h call).reads
whole_call h (Wrote place bytes) whole =
    let long = length-written h.reads place bytes in
    record {
      no_shorter = omega (arith, long, whole.no_shorter);
      no_longer = omega (arith, long, whole.no_longer);
      stays = λ k lt none. written_outside h.reads place bytes k (λ w. none (inl w)) ∙ whole.stays k lt (λ p. none (inr p));
    }
whole_call h (Refused place bytes) whole = record {
  no_shorter = whole.no_shorter;
  no_longer = omega (arith, whole.no_longer);
  stays = λ k lt none. whole.stays k lt (λ p. none (inr p));
}
whole_call h Synced whole = is_sole h.reads
whole_call h (Crashed image) whole = is_sole image

whole_replay : (h : History) (done : List Did) → IsImage h.epoch h.reads → IsImage (replay h done).epoch (replay h done).reads
whole_replay h [] whole = whole
whole_replay h (call ∷ done) whole = whole_replay (after_call h call) done (whole_call h call whole)

pub reads_are_image : (calls : Calls) → IsImage (history_of calls).epoch (history_of calls).reads
reads_are_image calls = whole_replay (fresh calls.image) calls.done (is_sole calls.image)
