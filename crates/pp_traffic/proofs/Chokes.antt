-- While a choke stands nothing is asked for.
use Rattle.std.proofs.Common.{◌≡◌, ℕ, eqb, Bool, true, false, not, ◌&&◌, [], ◌∷◌, refl}
use Rattle.std.proofs.lemmas.Bool.{or_from, and_right, false≢true}
use Rattle.pp_terms.specs.tree.Range.{within}
use Rattle.pp_terms.specs.format.Messages.{Message, Data, Request, Cancel, Choke, Unchoke}
use Rattle.pp_traffic.specs.Story.{Heard, Said, Taken}
use Rattle.pp_traffic.specs.Asking.{choked_by, choked, asked_by, asked_after, asked}
use Rattle.pp_traffic.specs.Laws.{ChokesEndAsking}

pub heard_choked : (i : ℕ) (m : Message) (before : Bool) → before ≡ false → asked_by i true m before ≡ false
heard_choked i (Request span) before none = or_from (within span i && false) before (and_right (within span i) false refl) none
heard_choked i (Cancel span) before none = and_right (not (within span i)) before none
heard_choked i _ before none = none

pub said_none : (i : ℕ) (m : Message) (before : Bool) → before ≡ false → asked_after i m before ≡ false
said_none i (Data chunk sent_at bytes) before none = and_right (not (eqb chunk i)) before none
said_none i Choke before none = refl
said_none i _ before none = none

pub said_choked : (i : ℕ) (is_choked : Bool) (m : Message) (before : Bool) → choked_by m is_choked ≡ true → (is_choked ≡ true → before ≡ false)
    → asked_after i m before ≡ false
said_choked i is_choked (Data chunk sent_at bytes) before stands none = and_right (not (eqb chunk i)) before (none stands)
said_choked i is_choked Choke before stands none = refl
said_choked i is_choked Unchoke before stands none = absurd (false≢true stands)
said_choked i is_choked _ before stands none = none stands

pub chokes_end_asking : ChokesEndAsking
chokes_end_asking i [] e = refl
chokes_end_asking i (Heard now m ∷ before) e = rw e (heard_choked i m (asked i before) (chokes_end_asking i before e))
chokes_end_asking i (Said now m ∷ before) e = said_choked i (choked before) m (asked i before) e (λ c. chokes_end_asking i before c)
chokes_end_asking i (Taken now ∷ before) e = chokes_end_asking i before e
