-- What is old stays old.
use Rattle.std.proofs.Common.{◌≡◌, ⊎_elim, ℕ, ◌≤◌, max, Bool, true, List, [], ◌∷◌, arith}
use Rattle.std.proofs.lemmas.Bool.{or_cases, or_left, or_right, false≢true}
use Rattle.std.proofs.lemmas.Bool.Decides.{nat_tests}
use Rattle.pp_terms.specs.format.Messages.{Message, Request}
use Rattle.pp_traffic.specs.Story.{Line, Heard, Said, Taken, say}
use Rattle.pp_traffic.specs.Fates.{clock}
use Rattle.pp_promises.specs.OwnSide.{is_old, has_old_request}
use Rattle.pp_requests.specs.declared.asking.Asking.{Asking}
use Rattle.pp_seat.specs.Aspects.{Asks}

old_later : (now then moment : ℕ) (m : Message) → now ≤ then → is_old now moment m ≡ true → is_old then moment m ≡ true
old_later now then moment (Request span) le e = grind (arith, nat_tests)
old_later now then moment _ le e = absurd (false≢true e)

older : (now then : ℕ) (story : List Line) → now ≤ then → has_old_request now story ≡ true → has_old_request then story ≡ true
older now then [] le e = e
older now then (Heard moment m ∷ before) le e = older now then before le e
older now then (Said moment m ∷ before) le e = ⊎_elim
    (λ here. or_left (is_old then moment m) (has_old_request then before) (old_later now then moment m le here))
    (λ there. or_right (is_old then moment m) (has_old_request then before) (older now then before le there))
    (or_cases (is_old now moment m) (has_old_request now before) e)
older now then (Taken moment ∷ before) le e = older now then before le e

-- a line more
pub old_stays : (line : Line) (story : List Line) → has_old_request (clock story) story ≡ true → has_old_request (clock (line ∷ story)) (line ∷ story) ≡ true
old_stays (Heard now m) story e = older (clock story) (max now (clock story)) story (omega arith) e
old_stays (Said now m) story e =
    or_right (is_old (max now (clock story)) now m) (has_old_request (max now (clock story)) story) (older (clock story) (max now (clock story)) story (omega arith) e)
old_stays (Taken now) story e = older (clock story) (max now (clock story)) story (omega arith) e

pub later : (line : Line) (story : List Line) (own : List Asking) (stopped chokes : Bool) (were : (i moment : ℕ) → Bool) (is_choked : Bool)
    → Asks own stopped chokes were (has_old_request (clock story) story) is_choked
    → Asks own stopped chokes were (has_old_request (clock (line ∷ story)) (line ∷ story)) is_choked
later line story own stopped chokes were is_choked a =
    record { named = a.named; expired = λ e. old_stays line story (a.expired e); choked = a.choked }

-- messages that were sent
pub say_clock : (at : ℕ) (ms : List Message) (story : List Line) → clock story ≤ clock (say at ms story)
say_clock at [] story = omega arith
say_clock at (m ∷ ms) story = let more = say_clock at ms (Said at m ∷ story) in omega arith
