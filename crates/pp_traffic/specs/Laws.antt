-- Laws on these words: what one record more does, and what stays.
use Rattle.std.specs.Prelude.{◌≡◌, ℕ, zero, suc, ◌+◌, ◌^◌, ◌<◌, ◌≤◌, max, Bool, true, false, ◌||◌, Some, is_some, List, [], ◌∷◌, ◌++◌, length, if◌then◌else◌}
use Rattle.std.specs.List.{AllByRecursion, list_any, list_all}
use Rattle.pp_terms.specs.format.Traffic.{Address, same_address, Record, Received, Quiet, Sent}
use Rattle.pp_terms.specs.tree.Tree.{Node, height, is_full, peaks, same_node, is_peak, leaf_at}
use Rattle.pp_terms.specs.tree.Bins.{parent_of, sibling_of}
use Rattle.pp_terms.specs.tree.Book.{LookUp, IsRooted, has_peaks}
use Rattle.pp_terms.specs.format.Descriptor.{Descriptor, chunks_of}
use Rattle.pp_traffic.specs.Past.{now, read, is_number}
use Rattle.pp_traffic.specs.Life.{Life, IsLife, closes_on}
use Rattle.pp_traffic.specs.Story.{Line, Taken, hear, say, heard_in, said_in, story}
use Rattle.pp_traffic.specs.Asking.{choked, asked}
use Rattle.pp_traffic.specs.Hashes.{is_told, completes}
use Rattle.pp_traffic.specs.Serving.{Window, ServesAll}

-- A longer past keeps a life, unless a closing handshake came for it.
abbrev pub LivesStay : Type 0
LivesStay = (d : Descriptor) (life : Life) (r : Record) (past : List Record) → IsLife d life past → closes_on d life r ≡ false
    → IsLife d life (r ∷ past)

-- A life begins in the past.
abbrev pub LivesBegan : Type 0
LivesBegan = (d : Descriptor) (life : Life) (past : List Record) → IsLife d life past → life.opening < length past

-- What one record more does to the story of a life that has begun.
pub record StoriesGrow : Type 0 where
  pub received : (d : Descriptor) (life : Life) (at : ℕ) (sender : Address) (bytes : List ℕ) (past : List Record)
      → life.opening < length past
      → story d life (Received at sender bytes ∷ past)
      ≡ Taken (max at (now past)) ∷ hear (max at (now past)) (heard_in d life false (Received at sender bytes)) (story d life past)
  pub quiet : (d : Descriptor) (life : Life) (at : ℕ) (past : List Record) → life.opening < length past
      → story d life (Quiet at ∷ past) ≡ Taken (max at (now past)) ∷ story d life past
  pub sent : (d : Descriptor) (life : Life) (moment : ℕ) (receiver : Address) (bytes : List ℕ) (past : List Record)
      → life.opening < length past
      → story d life (Sent moment receiver bytes ∷ past) ≡ say (now past) (said_in d life (Sent moment receiver bytes)) (story d life past)
  -- the opening itself is where it begins
  pub opening : (d : Descriptor) (life : Life) (at : ℕ) (sender : Address) (bytes : List ℕ) (past : List Record)
      → life.opening ≡ length past
      → story d life (Received at sender bytes ∷ past)
      ≡ Taken (max at (now past)) ∷ hear (max at (now past)) (heard_in d life true (Received at sender bytes)) []

-- What is told stays told.
abbrev pub ToldStays : Type 0
ToldStays = (chunks : ℕ) (line : Line) (story : List Line) (n : Node)
    → is_told chunks story n ≡ true → is_told chunks (line ∷ story) n ≡ true

-- More hashes that are brought, or told, complete a path too.
abbrev pub PathsGrow : Type 0
PathsGrow = (chunks : ℕ) (brought more told known : Node → Bool) (i : ℕ)
    → ((n : Node) → brought n ≡ true → more n ≡ true) → ((n : Node) → told n ≡ true → known n ≡ true)
    → completes chunks brought told i ≡ true → completes chunks more known i ≡ true

-- The hashes to send before a chunk: the peaks, unless they are told; then, from the highest layer down, the sibling of each
-- node on the way up to the first that is told or a peak, unless it is told.
abbrev pub uncles_from : ℕ → ℕ → (Node → Bool) → Node → List Node
uncles_from zero chunks told n = []
uncles_from (suc layers) chunks told n =
    if told n || is_peak chunks n then [] else
    uncles_from layers chunks told (parent_of n) ++ (if told (sibling_of n) then [] else sibling_of n ∷ [])

abbrev pub plan : ℕ → (Node → Bool) → ℕ → List Node
plan chunks told i =
    (if list_all told (peaks chunks) then [] else peaks chunks) ++ uncles_from (height chunks + 1) chunks told (leaf_at i)

-- These complete the chunk's path, for contents of up to 2 ^ 20 chunks.
abbrev pub PlansComplete : Type 0
PlansComplete = (chunks : ℕ) (told : Node → Bool) (i : ℕ) → chunks ≤ 2 ^ 20 → i < chunks
    → completes chunks (λ n. list_any (same_node n) (plan chunks told i)) told i ≡ true

-- All leaves under the node are chunks, and the book has it.
abbrev pub IsInBook : Descriptor → LookUp → Node → Type 0
IsInBook d book n = (is_full (chunks_of d) n ≡ true) × (is_some (book n.layer n.offset) ≡ true)

-- A rooted book that has all peaks, and the leaf of a chunk, has every node of the chunk's plan.
abbrev pub PlansAreInBooks : Type 0
PlansAreInBooks = (d : Descriptor) (book : LookUp) (told : Node → Bool) (i : ℕ) → 0 < chunks_of d → chunks_of d ≤ 2 ^ 20
    → IsRooted d book → has_peaks book (chunks_of d) ≡ true → i < chunks_of d → is_some (book 0 i) ≡ true
    → AllByRecursion (IsInBook d book) (plan (chunks_of d) told i)

-- What was served by a book was served by a larger one that is rooted.
abbrev pub Extends : LookUp → LookUp → Type 0
Extends book larger = (k j : ℕ) (digest : List ℕ) → book k j ≡ Some digest → larger k j ≡ Some digest

abbrev pub ServedStays : Type 0
ServedStays = (d : Descriptor) (book larger : LookUp) (window : Window) (past : List Record) → Extends book larger → IsRooted d larger
    → ServesAll d book window past → ServesAll d larger window past

-- While a choke stands no chunk is asked for.
abbrev pub ChokesEndAsking : Type 0
ChokesEndAsking = (i : ℕ) (story : List Line) → choked story ≡ true → asked i story ≡ false

-- What a datagram that was sent says on a life: all its messages where it went to the peer's address and number, and none
-- where it went to another address, or to a number that is neither the peer's nor 0.
pub record SentIsSaid : Type 0 where
  pub own : (d : Descriptor) (life : Life) (moment : ℕ) (receiver : Address) (bytes : List ℕ)
      → same_address receiver life.address ≡ true → is_number life.remote (read d (Sent moment receiver bytes)).channel ≡ true
      → said_in d life (Sent moment receiver bytes) ≡ (read d (Sent moment receiver bytes)).messages.read
  pub elsewhere : (d : Descriptor) (life : Life) (moment : ℕ) (receiver : Address) (bytes : List ℕ)
      → same_address receiver life.address ≡ false → said_in d life (Sent moment receiver bytes) ≡ []
  pub other : (d : Descriptor) (life : Life) (moment : ℕ) (receiver : Address) (bytes : List ℕ)
      → is_number life.remote (read d (Sent moment receiver bytes)).channel ≡ false
      → is_number 0 (read d (Sent moment receiver bytes)).channel ≡ false → said_in d life (Sent moment receiver bytes) ≡ []
