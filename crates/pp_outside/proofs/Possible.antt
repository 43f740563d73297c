-- What a crash leaves is one of the images.
use Rattle.std.proofs.Common.{◌≡◌, inl, inr, ℕ, zero, suc, ◌+◌, ◌-◌, ◌<◌, ◌≤◌, List, [], ◌∷◌, length, get_or, replicate, refl, sym, ◌∙◌, subst, arith}
use Rattle.std.specs.Prelude.{reverse, All}
use Rattle.std.proofs.lemmas.List.{length-replicate, length-reverse, get_or-reverse}
use Rattle.pp_terms.specs.disk.Store.{IsWithin}
use Rattle.pp_terms.specs.disk.Disk.{History, Write, Epoch, IsPending, end_of, IsImage, written, settled}
use Rattle.pp_terms.specs.disk.Calls.{Tear, Dropped, Done, Filled, tear, suffer, crash_from, crash_image}
use Rattle.pp_terms.proofs.Images.{length-written, written_outside}

-- a write lies in the pending ranges
record LiesIn (pending : List Write) (place size : ℕ) : Type 0 where
  ends : place + size ≤ end_of pending
  covered : (k : ℕ) → IsWithin place size k → IsPending pending k

abbrev Lies : List Write → Write → Type 0
Lies pending w = LiesIn pending w.place (length w.bytes)

lies_at : (pending : List Write) (k : ℕ) (w : Write) → k < length pending → Lies pending (get_or pending k w)
lies_at [] k w lt = absurd (omega arith)
lies_at (first ∷ rest) zero w lt = record { ends = omega arith; covered = λ k within. inl within }
lies_at (first ∷ rest) (suc k) w lt =
    let later = lies_at rest k w (omega arith) in
    record { ends = omega (arith, later.ends); covered = λ j within. inr (later.covered j within) }

each_lies : (pending : List Write) → All (Lies pending) (reverse pending)
each_lies pending k w lt =
    let long : length (reverse pending) ≡ length pending = length-reverse pending in
    subst (Lies pending) (sym (get_or-reverse pending k w (omega arith))) (lies_at pending (length pending - 1 - k) w (omega arith))

write_keeps : (epoch : Epoch) (image : List ℕ) (place : ℕ) (bytes : List ℕ) → LiesIn epoch.pending place (length bytes) → IsImage epoch image → IsImage epoch (written image place bytes)
write_keeps epoch image place bytes lies is =
    let long = length-written image place bytes in
    record {
      no_shorter = omega (arith, long, is.no_shorter);
      no_longer = omega (arith, long, is.no_longer, lies.ends);
      stays = λ k lt none. written_outside image place bytes k (λ w. none (lies.covered k w)) ∙ is.stays k lt none;
    }

suffer_keeps : (which : Tear) (epoch : Epoch) (w : Write) (image : List ℕ) → Lies epoch.pending w → IsImage epoch image → IsImage epoch (suffer which w image)
suffer_keeps Dropped epoch w image lies is = is
suffer_keeps Done epoch w image lies is = write_keeps epoch image w.place w.bytes lies is
suffer_keeps Filled epoch w image lies is =
    write_keeps epoch image w.place (replicate (length w.bytes) 0xa5)
    (subst (LiesIn epoch.pending w.place) (sym (length-replicate (length w.bytes) 0xa5)) lies) is

crash_keeps : (pick number : ℕ) (ws : List Write) (epoch : Epoch) (image : List ℕ) → All (Lies epoch.pending) ws → IsImage epoch image → IsImage epoch (crash_from pick number ws image)
crash_keeps pick number [] epoch image lies is = is
crash_keeps pick number (w ∷ ws) epoch image lies is =
    crash_keeps pick (number + 1) ws epoch (suffer (tear pick number) w image) (λ k d lt. lies (suc k) d (omega arith))
    (suffer_keeps (tear pick number) epoch w image (lies 0 w (omega arith)) is)

pub crash_possible : (pick : ℕ) (epoch : Epoch) → IsImage epoch (crash_image pick epoch)
crash_possible pick epoch =
    crash_keeps pick 0 (reverse epoch.pending) epoch epoch.durable (each_lies epoch.pending)
    (record { no_shorter = omega arith; no_longer = omega arith; stays = λ k lt none. refl })

-- the same of the history that a crash leaves
pub crashed_possible : (old new : History) (pick : ℕ) → new ≡ settled old (crash_image pick old.epoch) → IsImage old.epoch new.reads
crashed_possible old new pick is =
    subst (λ (h : History). IsImage old.epoch h.reads) (sym is) (crash_possible pick old.epoch)
