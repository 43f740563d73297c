-- What is kept of a channel on the way through the traffic, and what of that a chunk needs.
use Rattle.std.specs.Prelude.{◌≡◌, Bool, true, ◌||◌, List}
use Rattle.pp_terms.specs.tree.Tree.{Node}
use Rattle.pp_terms.specs.format.Traffic.{Record}
use Rattle.pp_terms.specs.format.Descriptor.{Descriptor, chunks_of}
use Rattle.pp_traffic.specs.Past.{now, read, goes_to, is_number, some_since, is_at}
use Rattle.pp_traffic.specs.Life.{Life, greets, answers, shakes_on, is_closed, IsLife}
use Rattle.pp_traffic.specs.Story.{Line, story}
use Rattle.pp_traffic.specs.Asking.{is_heard}
use Rattle.pp_traffic.specs.Hashes.{is_told}
use Rattle.pp_recorded.specs.Paths.{brought}
use Rattle.pp_story.specs.Stories.{StandsFor}
use Rattle.pp_verdict.specs.declared.chunk.SentChunk.{SentChunk}
use Rattle.pp_verdict.specs.declared.signs.Signs.{Signs}
use Rattle.pp_verdict.specs.declared.course.Course.{Course}

-- a node that the messages in front of a chunk bring, or that the peer has told
abbrev pub is_known : Descriptor → SentChunk → List Line → Node → Bool
is_known d c s n = brought d c.datagram.now c.count n || is_told (chunks_of d) s n

-- The signs are those of the channel in the traffic.
pub record Shows (signs : Signs) (d : Descriptor) (life : Life) (past : List Record) : Type 0 where
  pub greeted : signs.greeted ≡ some_since (greets d life) life.opening past
  pub answered : signs.answered ≡ some_since (answers d life) life.opening past
  pub opened : signs.opened ≡ is_at (λ r. greets d life r || answers d life r) life.opening past
  pub heard : signs.heard ≡ is_heard d life past
  pub shaken : signs.shaken ≡ some_since (shakes_on d life) life.opening past
  pub closed : signs.closed ≡ is_closed d life past

-- What is kept is what the channel has come to in the traffic.
pub record Follows (course : Course) (d : Descriptor) (life : Life) (past : List Record) : Type 0 where
  pub clock : course.clock ≡ now past
  pub signs : Shows course.signs d life past
  pub story : StandsFor course.story d (story d life past)

-- The life is open, and the record was sent to its address and the other peer's number.
pub record IsSentOn (d : Descriptor) (life : Life) (past : List Record) (here : Record) : Type 0 where
  pub alive : IsLife d life past
  pub receiver : goes_to life.address here ≡ true
  pub number : is_number life.remote (read d here).channel ≡ true

-- A course is that of some channel.
abbrev pub IsSome : Course → Descriptor → Type 0
IsSome course d = (s : List Line) × StandsFor course.story d s
