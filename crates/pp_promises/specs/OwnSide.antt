-- This peer's own asking on a channel (RFC 7574, sections 3.7 to 3.9; the times are this profile's): whether the other peer
-- chokes it, what that peer offers, and which requests are outstanding.
use Rattle.std.specs.Prelude.{ℕ, ◌+◌, ◌-◌, ◌==◌, min, nat_le, nat_lt, Bool, true, false, not, ◌&&◌, ◌||◌, if◌then◌else◌, Option, Some, None, List, [], ◌∷◌, ◌++◌, length, filter, map}
use Rattle.std.specs.List.{list_any, range_with_len}
use Rattle.pp_terms.specs.format.Traffic.{Record, Received, Quiet, Sent}
use Rattle.pp_terms.specs.format.Descriptor.{Descriptor}
use Rattle.pp_terms.specs.format.Messages.{Message, Data, Have, Request, Cancel, Choke, Unchoke, only}
use Rattle.pp_terms.specs.tree.Range.{Span, within}
use Rattle.pp_traffic.specs.Life.{Life, comes_on}
use Rattle.pp_traffic.specs.Story.{Line, Heard, Said, Taken}
use Rattle.pp_traffic.specs.Asking.{choked_by}
use Rattle.pp_promises.specs.ReadStory.{is_read, read_story}

-- the other peer sent a CHOKE, and no UNCHOKE since
abbrev pub is_choked_by_peer : List Line → Bool
is_choked_by_peer [] = false
is_choked_by_peer (Heard now m ∷ before) = choked_by m (is_choked_by_peer before)
is_choked_by_peer (Said now m ∷ before) = is_choked_by_peer before
is_choked_by_peer (Taken now ∷ before) = is_choked_by_peer before

-- a HAVE covers the chunk; a REQUEST does
abbrev pub has_in : ℕ → Message → Bool
has_in i (Have span) = within span i
has_in i _ = false

abbrev pub names_in : ℕ → Message → Bool
names_in i (Request span) = within span i
names_in i _ = false

-- the other peer has told by HAVE that it has the chunk
abbrev pub is_offered : ℕ → List Line → Bool
is_offered i [] = false
is_offered i (Heard now m ∷ before) = has_in i m || is_offered i before
is_offered i (Said now m ∷ before) = is_offered i before
is_offered i (Taken now ∷ before) = is_offered i before

-- a REQUEST of the chunk was sent on the channel
abbrev pub is_named : ℕ → List Line → Bool
is_named i [] = false
is_named i (Heard now m ∷ before) = is_named i before
is_named i (Said now m ∷ before) = names_in i m || is_named i before
is_named i (Taken now ∷ before) = is_named i before

-- ten seconds, in microseconds: how long a request is waited for
abbrev pub waiting_time : ℕ
waiting_time = 10000000

-- a REQUEST that was sent at a moment was sent so long ago
abbrev pub is_old : (now moment : ℕ) → Message → Bool
is_old now moment (Request span) = nat_le (moment + waiting_time) now
is_old now moment _ = false

abbrev pub has_old_request : (now : ℕ) → List Line → Bool
has_old_request now [] = false
has_old_request now (Heard moment m ∷ before) = has_old_request now before
has_old_request now (Said moment m ∷ before) = is_old now moment m || has_old_request now before
has_old_request now (Taken moment ∷ before) = has_old_request now before

-- ---- outstanding requests

-- a chunk that was asked for, when, and how many requests overtook it; no more than three are counted
pub record OwnRequest : Type 0 where
  pub chunk : ℕ
  pub asked_at : ℕ
  pub overtaken : ℕ

-- three requests that overtook one show that it, or its answer, was lost on the way
abbrev pub losing_count : ℕ
losing_count = 3

abbrev pub is_lost : OwnRequest → Bool
is_lost q = nat_le losing_count q.overtaken

abbrev pub is_expired : ℕ → OwnRequest → Bool
is_expired now q = nat_le (q.asked_at + waiting_time) now

abbrev pub is_outstanding : ℕ → OwnRequest → Bool
is_outstanding now q = not (is_expired now q) && not (is_lost q)

-- the request of the chunk
abbrev pub request_for : ℕ → List OwnRequest → Option OwnRequest
request_for i [] = None
request_for i (q ∷ qs) = if q.chunk == i then Some q else request_for i qs

-- a request, while it is outstanding
abbrev pub outstanding : ℕ → Option OwnRequest → Option OwnRequest
outstanding now None = None
outstanding now (Some q) = if is_outstanding now q then Some q else None

-- requests of chunks outside a span stay
abbrev pub without_requests : Span → List OwnRequest → List OwnRequest
without_requests span requests = filter (λ q. not (within span q.chunk)) requests

-- A request of a greater chunk that was sent no earlier was answered first: it overtook this one.
abbrev pub overtaken_by : (answered q : OwnRequest) → OwnRequest
overtaken_by answered q =
    if nat_lt q.chunk answered.chunk && nat_le q.asked_at answered.asked_at
    then record q { overtaken = min (q.overtaken + 1) losing_count }
    else q

abbrev pub after_answer : Option OwnRequest → List OwnRequest → List OwnRequest
after_answer None requests = requests
after_answer (Some answered) requests = map (overtaken_by answered) requests

-- A chunk came, whatever it is worth: it is waited for no longer, and where its request was outstanding it overtook others. A CHOKE
-- ends all requests.
abbrev pub after_heard : ℕ → Message → List OwnRequest → List OwnRequest
after_heard now (Data i sent_at bytes) requests =
    after_answer (outstanding now (request_for i requests)) (without_requests (only i) requests)
after_heard now Choke requests = []
after_heard now _ requests = requests

-- the chunks of a REQUEST are asked for at that moment; those of a CANCEL are no longer
abbrev pub after_said : ℕ → Message → List OwnRequest → List OwnRequest
after_said now (Request span) requests =
    map (λ i. record { chunk = i; asked_at = now; overtaken = 0 }) (range_with_len span.first (span.last + 1 - span.first))
    ++ without_requests span requests
after_said now (Cancel span) requests = without_requests span requests
after_said now _ requests = requests

-- The requests of a story. At the end of each wait those go that were sent ten seconds ago or longer, and those that were lost.
abbrev pub own_requests : List Line → List OwnRequest
own_requests [] = []
own_requests (Heard now m ∷ before) = after_heard now m (own_requests before)
own_requests (Said now m ∷ before) = after_said now m (own_requests before)
own_requests (Taken now ∷ before) = filter (is_outstanding now) (own_requests before)

-- ---- whom to ask

-- a request expired at the end of the story's last wait
abbrev pub has_expired : List Line → Bool
has_expired [] = false
has_expired (Heard now m ∷ before) = false
has_expired (Said now m ∷ before) = false
has_expired (Taken now ∷ before) = list_any (is_expired now) (own_requests before)

-- whether a story stops asking, by its last record
abbrev pub stops_asking : Record → List Line → Bool
stops_asking (Received at sender bytes) story = has_expired story
stops_asking (Quiet at) story = has_expired story
stops_asking (Sent moment receiver bytes) story = false

-- A request expired since a datagram came from the other peer, one without a message too.
abbrev pub is_stopped : Descriptor → Life → List Record → Bool
is_stopped d life [] = false
is_stopped d life (r ∷ before) =
    if nat_le life.opening (length before)
    then stops_asking r (read_story d life (r ∷ before))
    || (not (comes_on d life r && is_read d life (r ∷ before)) && is_stopped d life before)
    else false

-- The requests that are outstanding; whether the other peer chokes; and whether asking stopped, so that it is only probed.
pub record Asking : Type 0 where
  pub requests : List OwnRequest
  pub is_choked : Bool
  pub is_stopped : Bool

-- the asking on a channel, of what was read of it
abbrev pub asking : Descriptor → Life → List Record → Asking
asking d life past = record {
  requests = own_requests (read_story d life past);
  is_choked = is_choked_by_peer (read_story d life past);
  is_stopped = is_stopped d life past;
}

-- How many requests may be outstanding on a channel at once: one where asking stopped.
abbrev pub most_outstanding : ℕ
most_outstanding = 32

abbrev pub most_asked : Bool → ℕ
most_asked true = 1
most_asked false = most_outstanding

-- whether the channel may be asked for more
abbrev pub may_ask : Asking → Bool
may_ask a = not a.is_choked && nat_lt (length a.requests) (most_asked a.is_stopped)
