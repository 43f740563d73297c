-- The same in words by places: before, after, between. A record stands in the traffic where the traffic is what came
-- after it, the record, and what was before it.
use Rattle.std.specs.Prelude.{◌≡◌, ◌≢◌, ◌⊎◌, ℕ, zero, suc, ◌+◌, ◌<◌, ◌≤◌, Bool, true, false, ◌||◌, List, ◌∷◌, ◌++◌, length, MatchBool, ◌↔◌}
use Rattle.std.specs.List.{AllByRecursion, list_all}
use Rattle.pp_terms.specs.format.Traffic.{Record}
use Rattle.pp_terms.specs.tree.Tree.{Node, height, peaks, is_peak, leaf_at}
use Rattle.pp_terms.specs.tree.Bins.{parent_of, sibling_of}
use Rattle.pp_terms.specs.format.Descriptor.{Descriptor}
use Rattle.pp_terms.specs.format.Messages.{Data, Request, Cancel, Choke, Unchoke}
use Rattle.pp_terms.specs.tree.Range.{Span, within}
use Rattle.pp_traffic.specs.Past.{now, now_at, comes_from, goes_to, is_event}
use Rattle.pp_traffic.specs.Life.{Life, greets, answers, comes_on, shakes_on, closes_on, IsLife}
use Rattle.pp_traffic.specs.Story.{Line, Heard, Said, Taken}
use Rattle.pp_traffic.specs.Asking.{choked, asked, is_heard}
use Rattle.pp_traffic.specs.Hashes.{completes}
use Rattle.pp_traffic.specs.Plain.{greets_once, asks_anew, concerns, greeting_time, silence_time, IsPlain}

-- One that passes a test stands somewhere, and its place is one of these.
pub record Stands (IsPlace : ℕ → Type 0) (test : Record → Bool) (past : List Record) : Type 0 where
  pub after : List Record
  pub here : Record
  pub before : List Record
  pub split : past ≡ after ++ here ∷ before
  pub place : IsPlace (length before)
  pub passes : test here ≡ true

-- from a place on; behind it; before it; at it
abbrev pub StandsFrom : (Record → Bool) → ℕ → List Record → Type 0
StandsFrom test place past = Stands (λ n. place ≤ n) test past

abbrev pub StandsBefore : (Record → Bool) → ℕ → List Record → Type 0
StandsBefore test place past = Stands (λ n. n < place) test past

abbrev pub StandsAt : (Record → Bool) → ℕ → List Record → Type 0
StandsAt test place past = Stands (λ n. n ≡ place) test past

-- A life: the opening is the first of the two handshakes, both stand from there on, and each closing handshake that came
-- behind it came on a dialled channel, before the peer's first handshake.
pub record IsLifeByPlaces (d : Descriptor) (life : Life) (past : List Record) : Type 0 where
  pub local_some : 0 < life.local
  pub remote_some : 0 < life.remote
  pub greeted : StandsFrom (greets d life) life.opening past
  pub answered : StandsFrom (answers d life) life.opening past
  pub opened : StandsAt (λ r. greets d life r || answers d life r) life.opening past
  pub open_still : (after : List Record) (r : Record) (before : List Record) → past ≡ after ++ r ∷ before
      → life.opening < length before → closes_on d life r ≡ true
      → (life.is_dialled ≡ true) × (shakes_on d life r ≡ false) × (StandsFrom (shakes_on d life) life.opening before → ⊥)

-- Nothing in this line ends a request of the chunk.
abbrev pub LeavesOpen : ℕ → Line → Type 0
LeavesOpen i (Heard now (Cancel span)) = within span i ≡ false
LeavesOpen i (Heard now m) = Unit {0}
LeavesOpen i (Said now (Data chunk sent_at bytes)) = chunk ≢ i
LeavesOpen i (Said now Choke) = ⊥
LeavesOpen i (Said now m) = Unit {0}
LeavesOpen i (Taken now) = Unit {0}

-- A REQUEST came that covers the chunk, while no CHOKE stood, and nothing since then ended it.
pub record IsAskedByPlaces (i : ℕ) (story : List Line) : Type 0 where
  pub after : List Line
  pub now : ℕ
  pub span : Span
  pub before : List Line
  pub split : story ≡ after ++ Heard now (Request span) ∷ before
  pub covered : within span i ≡ true
  pub unchoked : choked before ≡ false
  pub since : AllByRecursion (LeavesOpen i) after

-- This line is no UNCHOKE that was sent.
abbrev pub LeavesChoked : Line → Type 0
LeavesChoked (Heard now m) = Unit {0}
LeavesChoked (Said now Unchoke) = ⊥
LeavesChoked (Said now m) = Unit {0}
LeavesChoked (Taken now) = Unit {0}

-- A CHOKE was sent, and no UNCHOKE after it.
pub record IsChokedByPlaces (story : List Line) : Type 0 where
  pub after : List Line
  pub now : ℕ
  pub before : List Line
  pub split : story ≡ after ++ Said now Choke ∷ before
  pub since : AllByRecursion LeavesChoked after

-- the node so many layers above one
abbrev pub ancestor : ℕ → Node → Node
ancestor zero n = n
ancestor (suc k) n = ancestor k (parent_of n)

-- The first node on the way up that is told or a peak lies within the tree; it is told, or all peaks are brought or told; the
-- sibling of each node before it is brought or told.
pub record CompletesByPlaces (chunks : ℕ) (brought told : Node → Bool) (i : ℕ) : Type 0 where
  pub up : ℕ
  pub within : up ≤ height chunks
  pub ends : (told (ancestor up (leaf_at i)) ≡ true)
      ⊎ ((is_peak chunks (ancestor up (leaf_at i)) ≡ true) × (list_all (λ p. brought p || told p) (peaks chunks) ≡ true))
  pub passed : (k : ℕ) → k < up → (told (ancestor k (leaf_at i)) ≡ false) × (is_peak chunks (ancestor k (leaf_at i)) ≡ false)
  pub siblings : (k : ℕ) → k < up
      → (brought (sibling_of (ancestor k (leaf_at i))) || told (sibling_of (ancestor k (leaf_at i)))) ≡ true

-- The first from a place on that passes one test passes another.
pub record IsFirst (which test : Record → Bool) (place : ℕ) (past : List Record) : Type 0 where
  pub after : List Record
  pub here : Record
  pub before : List Record
  pub split : past ≡ after ++ here ∷ before
  pub since : place ≤ length before
  pub is_one : which here ≡ true
  pub passes : test here ≡ true
  pub first : StandsFrom which place before → ⊥

-- The latest datagram from the peer on the channel.
pub record IsLatest (d : Descriptor) (life : Life) (past : List Record) (heard : ℕ) : Type 0 where
  pub after : List Record
  pub here : Record
  pub before : List Record
  pub split : past ≡ after ++ here ∷ before
  pub behind : life.opening < length before
  pub came : comes_on d life here ≡ true
  pub moment : heard ≡ now (here ∷ before)
  pub latest : AllByRecursion (λ r. comes_on d life r ≡ false) after

-- now, less than ten seconds past the opening while nothing was heard, and less than 180 past the latest datagram since
abbrev pub InTime : Descriptor → Life → ℕ → List Record → Type 0
InTime d life opened past =
    ((Stands (λ n. life.opening < n) (comes_on d life) past → ⊥) × (now past < opened + greeting_time))
    ⊎ ((heard : ℕ) × IsLatest d life past heard × (now past < heard + silence_time))

pub record IsPlainAnswerByPlaces (d : Descriptor) (life : Life) (past : List Record) : Type 0 where
  pub opened : StandsAt (greets_once d life) life.opening past
  pub replied : IsFirst (goes_to life.address) (answers d life) life.opening past
  pub only_one : (after : List Record) (r : Record) (before : List Record) → past ≡ after ++ r ∷ before
      → life.opening < length before → asks_anew d life r ≡ true → StandsFrom (goes_to life.address) life.opening before

pub record IsPlainDialByPlaces (d : Descriptor) (life : Life) (reach past : List Record) : Type 0 where
  pub opened : StandsAt (answers d life) life.opening past
  pub replied : IsFirst (comes_from life.address) (greets d life) 0 reach

pub record IsPlainByPlaces (d : Descriptor) (life : Life) (reach past : List Record) : Type 0 where
  pub local_some : 0 < life.local
  pub remote_some : 0 < life.remote
  pub fresh : StandsBefore (concerns life.address) life.opening past → ⊥
  pub begins : MatchBool life.is_dialled (IsPlainDialByPlaces d life reach past) (IsPlainAnswerByPlaces d life past)
  pub open_still : StandsFrom (closes_on d life) life.opening past → ⊥
  pub timely : (after : List Record) (r : Record) (before : List Record) → past ≡ after ++ r ∷ before
      → life.opening < length before → is_event r ≡ true → InTime d life (now_at life.opening before) (r ∷ before)

-- Each is the same as its test, or its facts.
abbrev pub LivesByPlaces : Type 0
LivesByPlaces = (d : Descriptor) (life : Life) (past : List Record) → IsLife d life past ↔ IsLifeByPlaces d life past

abbrev pub AskedByPlaces : Type 0
AskedByPlaces = (i : ℕ) (story : List Line) → (asked i story ≡ true) ↔ IsAskedByPlaces i story

abbrev pub ChokedByPlaces : Type 0
ChokedByPlaces = (story : List Line) → (choked story ≡ true) ↔ IsChokedByPlaces story

abbrev pub HeardByPlaces : Type 0
HeardByPlaces = (d : Descriptor) (life : Life) (past : List Record)
    → (is_heard d life past ≡ true) ↔ StandsFrom (comes_on d life) life.opening past

abbrev pub PathsByPlaces : Type 0
PathsByPlaces = (chunks : ℕ) (brought told : Node → Bool) (i : ℕ)
    → (completes chunks brought told i ≡ true) ↔ CompletesByPlaces chunks brought told i

abbrev pub PlainByPlaces : Type 0
PlainByPlaces = (d : Descriptor) (life : Life) (reach past : List Record)
    → IsPlain d life reach past ↔ IsPlainByPlaces d life reach past

-- the moment at a place is the one at the record that stands there
abbrev pub MomentsByPlaces : Type 0
MomentsByPlaces = (after : List Record) (r : Record) (before : List Record)
    → now_at (length before) (after ++ r ∷ before) ≡ now (r ∷ before)
