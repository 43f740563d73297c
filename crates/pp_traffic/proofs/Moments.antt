-- The moments of a story don't fall.
use Rattle.std.proofs.Common.{◌≡◌, ◌⊎◌, ⊎_elim, inl, inr, ℕ, ◌≤◌, max, ◌==◌, leb, Bool, true, false, cond, ◌&&◌, List, [], ◌∷◌, length, refl, arith}
use Rattle.std.proofs.lemmas.Bool.{false≢true, and_parts, or_cases, le-leb}
use Rattle.std.specs.List.{AllByRecursion}
use Rattle.pp_terms.specs.format.Traffic.{Record, Received, Quiet, Sent}
use Rattle.pp_terms.specs.format.Descriptor.{Descriptor}
use Rattle.pp_terms.specs.format.Messages.{Message}
use Rattle.pp_traffic.specs.Past.{now, is_event, some_since}
use Rattle.pp_traffic.specs.Life.{Life}
use Rattle.pp_traffic.specs.Story.{Line, Heard, Said, Taken, hear, say, heard_in, said_in, told, story}
use Rattle.pp_traffic.specs.Fates.{now_of, clock}
use Rattle.pp_traffic.specs.FatesLaws.{NeverFalls, StoriesNeverFall, ClocksAreNow}
use Rattle.pp_traffic.proofs.Standing.{since_within}

-- no moment of the story is after this one, and none falls
record IsUpTo (top : ℕ) (lines : List Line) : Type 0 where
  below : AllByRecursion (λ line. now_of line ≤ top) lines
  never : NeverFalls lines

below_more : (low top : ℕ) (lines : List Line) → low ≤ top → AllByRecursion (λ line. now_of line ≤ low) lines → AllByRecursion (λ line. now_of line ≤ top) lines
below_more low top [] le all = tt
below_more low top (line ∷ before) le all = (let head = all.0 in omega arith, below_more low top before le all.1)

up_to_more : (low top : ℕ) (lines : List Line) → low ≤ top → IsUpTo low lines → IsUpTo top lines
up_to_more low top lines le is = record { below = below_more low top lines le is.below; never = is.never }

one_line : (top : ℕ) (line : Line) (before : List Line) → now_of line ≡ top → IsUpTo top before → IsUpTo top (line ∷ before)
one_line top line before e is = record {
  below = (omega (arith, e), is.below);
  never = (below_more top (now_of line) before (omega (arith, e)) is.below, is.never);
}

hear_up_to : (top : ℕ) (ms : List Message) (lines : List Line) → IsUpTo top lines → IsUpTo top (hear top ms lines)
hear_up_to top [] lines is = is
hear_up_to top (m ∷ ms) lines is = hear_up_to top ms (Heard top m ∷ lines) (one_line top (Heard top m) lines refl is)

say_up_to : (top : ℕ) (ms : List Message) (lines : List Line) → IsUpTo top lines → IsUpTo top (say top ms lines)
say_up_to top [] lines is = is
say_up_to top (m ∷ ms) lines is = say_up_to top ms (Said top m ∷ lines) (one_line top (Said top m) lines refl is)

told_up_to : (d : Descriptor) (life : Life) (b : Bool) (r : Record) (past : List Record) (lines : List Line) → IsUpTo (now past) lines
    → IsUpTo (now (r ∷ past)) (told d life b (now (r ∷ past)) r lines)
told_up_to d life b (Received at sender bytes) past lines is =
    let top = max at (now past) in
    one_line top (Taken top) (hear top (heard_in d life b (Received at sender bytes)) lines) refl
    (hear_up_to top (heard_in d life b (Received at sender bytes)) lines (up_to_more (now past) top lines (omega arith) is))
told_up_to d life b (Quiet at) past lines is =
    let top = max at (now past) in one_line top (Taken top) lines refl (up_to_more (now past) top lines (omega arith) is)
told_up_to d life b (Sent moment receiver bytes) past lines is = say_up_to (now past) (said_in d life (Sent moment receiver bytes)) lines is

either_up_to : (b : Bool) (top : ℕ) (lines : List Line) → IsUpTo top lines → IsUpTo top (cond b lines [])
either_up_to true top lines is = is
either_up_to false top lines is = record { below = tt; never = tt }

story_up_to : (d : Descriptor) (life : Life) (past : List Record) → IsUpTo (now past) (story d life past)
story_up_to d life [] = record { below = tt; never = tt }
story_up_to d life (r ∷ past) =
    either_up_to (leb life.opening (length past)) (now (r ∷ past)) (told d life (life.opening == length past) (now (r ∷ past)) r (story d life past))
    (told_up_to d life (life.opening == length past) r past (story d life past) (story_up_to d life past))

pub stories_never_fall : StoriesNeverFall
stories_never_fall d life past = (story_up_to d life past).never

-- ---- the greatest of them

clock_below : (top : ℕ) (lines : List Line) → AllByRecursion (λ line. now_of line ≤ top) lines → clock lines ≤ top
clock_below top [] all = omega arith
clock_below top (line ∷ before) all = let rest = clock_below top before all.1 in let head = all.0 in omega arith

-- what is heard or said now leaves the greatest moment, where it is now
hear_clock : (top : ℕ) (ms : List Message) (lines : List Line) → clock lines ≡ top → clock (hear top ms lines) ≡ top
hear_clock top [] lines is = is
hear_clock top (m ∷ ms) lines is = hear_clock top ms (Heard top m ∷ lines) (omega (arith, is))

say_clock : (top : ℕ) (ms : List Message) (lines : List Line) → clock lines ≡ top → clock (say top ms lines) ≡ top
say_clock top [] lines is = is
say_clock top (m ∷ ms) lines is = say_clock top ms (Said top m ∷ lines) (omega (arith, is))

clock_told : (d : Descriptor) (life : Life) (b : Bool) (r : Record) (past : List Record) (lines : List Line) → IsUpTo (now past) lines
    → (is_event r ≡ true) ⊎ (clock lines ≡ now past) → clock (told d life b (now (r ∷ past)) r lines) ≡ now (r ∷ past)
clock_told d life b (Received at sender bytes) past lines up is =
    let top = max at (now past) in
    let heard = hear_up_to top (heard_in d life b (Received at sender bytes)) lines (up_to_more (now past) top lines (omega arith) up) in
    let below = clock_below top (hear top (heard_in d life b (Received at sender bytes)) lines) heard.below in omega (arith, below)
clock_told d life b (Quiet at) past lines up is = let below = clock_below (now past) lines up.below in omega (arith, below)
clock_told d life b (Sent moment receiver bytes) past lines up is = ⊎_elim (λ e. absurd (false≢true e))
    (λ e. say_clock (now past) (said_in d life (Sent moment receiver bytes)) lines e) is

pub clocks_are_now : ClocksAreNow
clocks_are_now d life [] e = absurd cc
clocks_are_now d life (r ∷ past) e = ⊎_elim
    (λ here. let parts = and_parts (leb life.opening (length past)) (is_event r) here in
    rw parts.0 (clock_told d life (life.opening == length past) r past (story d life past) (story_up_to d life past) (inl parts.1)))
    (λ earlier. rw (le-leb life.opening (length past) (since_within is_event life.opening past earlier))
    (clock_told d life (life.opening == length past) r past (story d life past) (story_up_to d life past) (inr (clocks_are_now d life past earlier))))
    (or_cases (leb life.opening (length past) && is_event r) (some_since is_event life.opening past) e)
