-- What each part of a seat has to do with the story of its channel. Each aspect is said of values of the story, so that a
-- line which changes none of them leaves the aspect as it stands.
use Rattle.std.specs.Prelude.{◌≡◌, ◌⊎◌, ℕ, ◌<◌, ◌≤◌, ◌==◌, Bool, true, false, Option, Some, List, [], length}
use Rattle.std.specs.List.{list_any, AllByRecursion}
use Rattle.pp_terms.specs.tree.Range.{Span, has, IsRunsFrom}
use Rattle.pp_terms.specs.tree.Tree.{Node}
use Rattle.pp_traffic.specs.Meter.{Meter}
use Rattle.pp_requests.specs.declared.asking.Asking.{Asking}
use Rattle.pp_requests.specs.Moments.{asked_at}
use Rattle.pp_plan.specs.Told.{ToldNodes, knows}

-- Nothing is on the list but chunks of the content that are asked for, and it has no more ranges than messages came that ask
-- or withdraw.
pub record Lists (chunks : ℕ) (list : List Span) (are_asked : ℕ → Bool) (count : ℕ) : Type 0 where
  pub runs : IsRunsFrom 0 list
  pub inside : (i : ℕ) → has list i ≡ true → i < chunks
  pub asked_for : (i : ℕ) → has list i ≡ true → are_asked i ≡ true
  pub few : length list ≤ count

-- What is asked for by a REQUEST since it was announced is on the list, but for so many chunks that were given up.
pub record Lacks (chunks lost : ℕ) (since : ℕ → Option ℕ) (list : List Span) (are_asked : (place i : ℕ) → Bool) (count : ℕ) : Type 0 where
  pub given : List ℕ
  pub few : length given ≤ lost
  pub listed : (i place : ℕ) → count ≤ 64 → i < chunks → since i ≡ Some place → are_asked place i ≡ true
      → (has list i ≡ true) ⊎ (list_any (λ k. k == i) given ≡ true)

-- Whether the other peer is choked is as it was told. Without a slot there is no list, and a CHOKE was sent or is to be sent;
-- with one none stands.
pub record HasSlot (slot choked owes : Bool) (list : List Span) (is_choked : Bool) : Type 0 where
  pub same : choked ≡ is_choked
  pub unchoked : slot ≡ true → choked ≡ false
  pub empty : slot ≡ false → list ≡ []
  pub due : slot ≡ false → choked ≡ false → owes ≡ true

-- The window is the story's meter, and only chunks of the content fly.
pub record Sends (chunks : ℕ) (window meter : Meter) : Type 0 where
  pub same : window ≡ meter
  pub inside : AllByRecursion (λ e. e.chunk < chunks) window.entries

-- The other peer told that it knows just these nodes of the content.
pub record Knows (chunks : ℕ) (told : ToldNodes) (are_told : Node → Bool) : Type 0 where
  pub content : told.chunks ≡ chunks
  pub known : (n : Node) → knows told n ≡ are_told n

-- Each chunk that this peer waits for is one of the content, and is named by a REQUEST of that moment. Where asking has stopped, some
-- REQUEST is old; where the other peer's CHOKE is noted, it stands.
pub record Asks (own : List Asking) (stopped chokes : Bool) (were : (i moment : ℕ) → Bool) (is_old is_choked : Bool) : Type 0 where
  pub named : (i moment : ℕ) → asked_at own i ≡ Some moment → were i moment ≡ true
  pub expired : stopped ≡ true → is_old ≡ true
  pub choked : chokes ≡ true → is_choked ≡ true

-- Each chunk below the cursor of which the other peer is to know was told of on the channel.
abbrev pub Haves : (cursor : ℕ) → (known_of are_told : ℕ → Bool) → Type 0
Haves cursor known_of are_told = (i : ℕ) → i < cursor → known_of i ≡ true → are_told i ≡ true

-- Of no chunk from the cursor on was a HAVE sent since the channel was proven, where none was refused; and of no chunk at all
-- before that.
pub record Fresh (cursor : ℕ) (is_proven : Bool) (are_told : ℕ → Bool) (refused : ℕ) : Type 0 where
  pub early : is_proven ≡ false → (i : ℕ) → are_told i ≡ false
  pub above : refused ≡ 0 → (i : ℕ) → cursor ≤ i → are_told i ≡ false

-- The moments of the exchange of addresses.
pub record Exchanges (answer question last_answer last_question : Option ℕ) : Type 0 where
  pub answered : answer ≡ last_answer
  pub asked : question ≡ last_question
