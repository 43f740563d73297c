-- What the peer of a channel offers, whether it chokes, and what it was asked for, record by record.
use Rattle.std.specs.Prelude.{ℕ, ◌+◌, ◌==◌, nat_le, nat_lt, Bool, false, not, ◌&&◌, ◌||◌, if◌then◌else◌, List, [], ◌∷◌, length, slice_index_or}
use Rattle.std.specs.List.{list_any, list_all, range_with_len}
use Rattle.pp_terms.specs.format.Traffic.{Record, Received, Quiet, Sent}
use Rattle.pp_terms.specs.format.Descriptor.{Descriptor, chunks_of}
use Rattle.pp_terms.specs.format.Messages.{Message}
use Rattle.pp_traffic.specs.Past.{now}
use Rattle.pp_traffic.specs.Life.{Life}
use Rattle.pp_traffic.specs.Story.{heard_in, said_in, story}
use Rattle.pp_traffic.specs.Asking.{choked_by, is_heard}
use Rattle.pp_promises.specs.OwnSide.{is_choked_by_peer, is_offered, has_old_request, waiting_time, most_outstanding}
use Rattle.pp_promises.specs.Asked.{named_count, asks_for}
use Rattle.pp_recorded.specs.Sorts.{is_request}

-- the messages that a record brought on the channel
abbrev pub brought : Descriptor → Life → Bool → Record → List Message
brought d life is_opening (Received at sender bytes) = heard_in d life is_opening (Received at sender bytes)
brought d life is_opening (Quiet at) = []
brought d life is_opening (Sent moment receiver bytes) = []

-- since the opening, one passes a test
abbrev pub has_heard : (Message → Bool) → Descriptor → Life → List Record → Bool
has_heard test d life [] = false
has_heard test d life (r ∷ before) =
    (nat_le life.opening (length before) && list_any test (brought d life (life.opening == length before) r))
    || has_heard test d life before

-- whether the peer chokes, behind some messages
abbrev pub chokes_after : List Message → Bool → Bool
chokes_after [] is_choked = is_choked
chokes_after (m ∷ ms) is_choked = chokes_after ms (choked_by m is_choked)

abbrev pub chokes_since : Descriptor → Life → List Record → Bool
chokes_since d life [] = false
chokes_since d life (r ∷ before) =
    if nat_le life.opening (length before)
    then chokes_after (brought d life (life.opening == length before) r) (chokes_since d life before)
    else false

-- a REQUEST was sent so long before a moment
abbrev pub asked_long : Descriptor → Life → ℕ → List Record → Bool
asked_long d life latest [] = false
asked_long d life latest (r ∷ before) =
    (nat_le life.opening (length before) && (list_any is_request (said_in d life r) && nat_le (now (r ∷ before) + waiting_time) latest))
    || asked_long d life latest before

-- The channel may be asked for more, where it is plain; and each chunk that it offers was asked for on some channel, or is held.
abbrev pub may_be_asked : Descriptor → List Record → Life → Bool
may_be_asked d past life = is_heard d life past && not (is_choked_by_peer (story d life past))
    && not (has_old_request (now past) (story d life past)) && nat_lt (named_count (chunks_of d) (story d life past)) most_outstanding

abbrev pub is_asked_for : List Bool → Descriptor → List Record → Life → ℕ → Bool
is_asked_for held d past life i =
    not (is_offered i (story d life past)) || (list_any (asks_for d i) past || slice_index_or held i false)

abbrev pub asks_offered : List Bool → Descriptor → List Record → Life → Bool
asks_offered held d past life = list_all (is_asked_for held d past life) (range_with_len 0 (chunks_of d))
