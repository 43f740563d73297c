-- What a peer owes at the end of each of its turns while nothing fails (RFC 7574, sections 3.1.1 and 3.7).
use Rattle.std.specs.Prelude.{◌≡◌, ℕ, ◌≤◌, ◌==◌, Bool, true, false, not, ◌&&◌, List, ◌∷◌, ◌++◌, drop}
use Rattle.std.specs.List.{list_any}
use Rattle.pp_terms.specs.format.Traffic.{Record, Received, Quiet, Sent}
use Rattle.pp_terms.specs.format.Descriptor.{Descriptor}
use Rattle.pp_terms.specs.format.Messages.{Message, Handshake}
use Rattle.pp_traffic.specs.Past.{read, goes_to, is_number}
use Rattle.pp_traffic.specs.Life.{Life, begins, fits}
use Rattle.pp_traffic.specs.Story.{story}
use Rattle.pp_traffic.specs.Asking.{asked, asks_in, most_asks, is_heard}
use Rattle.pp_traffic.specs.Serving.{Window}
use Rattle.pp_traffic.specs.Plain.{is_handshake, IsPlainNow}

-- the first message is a handshake that fits the swarm, of a source channel other than 0
abbrev pub knocks : Descriptor → List Message → Bool
knocks d (Handshake source options ∷ ms) = fits d false options && not (source == 0)
knocks d _ = false

-- its source channel
abbrev pub first_source : List Message → ℕ
first_source (Handshake source options ∷ ms) = source
first_source _ = 0

-- a datagram came for channel 0 and begins with such a handshake
abbrev pub knocks_in : Descriptor → Record → Bool
knocks_in d (Received at sender bytes) =
    let r = Received at sender bytes in is_number 0 (read d r).channel && knocks d (read d r).messages.read
knocks_in d (Quiet at) = false
knocks_in d (Sent moment receiver bytes) = false

-- no other handshake is in it
abbrev pub knocks_once : Descriptor → Record → Bool
knocks_once d r = not (list_any is_handshake (drop 1 (read d r).messages.read))

-- a handshake was sent to its sender, on its source channel
abbrev pub lets_in : Descriptor → Record → Record → Bool
lets_in d (Received at sender bytes) r =
    let it = read d (Received at sender bytes) in
    goes_to sender r && is_number (first_source it.messages.read) (read d r).channel && begins (read d r).messages.read
lets_in d (Quiet at) r = false
lets_in d (Sent moment receiver bytes) r = false

-- The first such datagram, where it has no other handshake, was replied to.
abbrev pub LetsInFirst : Descriptor → List Record → Type 0
LetsInFirst d past = (after : List Record) (r : Record) (before : List Record) → past ≡ after ++ r ∷ before
    → knocks_in d r ≡ true → knocks_once d r ≡ true → list_any (knocks_in d) before ≡ false → list_any (lets_in d r) after ≡ true

-- On a plain channel on which something came, and no more requests and cancellations than there is room for, the chunk isn't
-- left asked for while the window lets it be sent.
abbrev pub ServesAsked : Descriptor → Window → ℕ → List Record → Type 0
ServesAsked d window i past = (life : Life) → IsPlainNow d life past → is_heard d life past ≡ true
    → asks_in (story d life past) ≤ most_asks → asked i (story d life past) ≡ true → window (story d life past) ≡ false
