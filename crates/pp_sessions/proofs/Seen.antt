-- As what a disk is seen by one to whom it was attached when an opening began.
use Rattle.std.proofs.Common.{◌≡◌, inl, inr, ℕ, zero, suc, ◌≤◌, List, [], ◌∷◌, length, drop, refl, sym, subst, arith}
use Rattle.pp_terms.specs.disk.Disk.{History, Epoch, IsImage, WasImage, MayLeaveSince, Throughout, moment_of}
use Rattle.pp_terms.specs.disk.Image.{StandsIn}
use Rattle.pp_terms.specs.format.Descriptor.{Descriptor}
use Rattle.pp_traffic.specs.Keeping.{StoodThroughout, StandsSince}
use Rattle.pp_turns.specs.Turning.{Post}
use Rattle.pp_sessions.specs.Laws.{Opens, IsAttachedThen}
use Rattle.pp_sessions.specs.Sessions.{IsSeenAs}

past_end : {X : Type 0} (n : ℕ) (xs : List X) → length xs ≤ n → drop n xs ≡ []
past_end zero [] le = refl
past_end (suc n) [] le = refl
past_end zero (x ∷ xs) le = absurd (omega arith)
past_end (suc n) (x ∷ xs) le = past_end n xs (omega arith)

-- since now there is only what a crash now may leave
since_now : (h : History) (image : List ℕ) → MayLeaveSince h (moment_of h) image → IsImage h.epoch image
since_now h image (inl now) = now
since_now h image (inr was) =
    absurd (subst (λ (past : List Epoch). WasImage past image) (past_end (moment_of h) h.past (omega arith)) was)

pub seen_from_opening : (d : Descriptor) (old seen : History) (first last : Post) → Opens d old first
    → IsAttachedThen old last.disk.history seen → IsSeenAs d first last seen
seen_from_opening d old seen first last o a = record {
  reads = a.reads;
  past = a.past;
  epoch = a.epoch;
  started = (let later = o.later in let start = a.start in omega (arith, later, start));
  found = λ i stood. o.found i (stood_then i stood);
  stood = λ i stood. subst (λ (m : ℕ). StandsSince d first.disk.history m i) (sym a.start) (o.goes_on i (stood_then i stood));
  kept = λ began. o.kept (began old.reads (at_first old.reads o.whole));
}
  where
    at_first : (image : List ℕ) → IsImage old.epoch image → IsImage seen.first image
    at_first image is = subst (λ (e : Epoch). IsImage e image) (sym a.first) is

    stood_then : (i : ℕ) → StoodThroughout d seen i → Throughout old (moment_of old) (λ image. StandsIn d image i)
    stood_then i stood image since = stood image (at_first image (since_now old image since))
