-- The search for a channel on which a chunk was served: over every source of a handshake that was sent to its receiver,
-- every place of an opening, and both kinds of opening.
use Rattle.std.specs.Prelude.{◌≡◌, ◌↔◌, ℕ, zero, suc, Bool, true, false, not, ◌&&◌, ◌||◌, Some, List, [], ◌∷◌, length, take}
use Rattle.std.specs.Option.{option_map_or}
use Rattle.pp_terms.specs.format.Traffic.{Address, Record}
use Rattle.pp_terms.specs.format.Descriptor.{Descriptor, chunks_of}
use Rattle.pp_terms.specs.format.Messages.{Message}
use Rattle.pp_traffic.specs.Past.{read, goes_to}
use Rattle.pp_traffic.specs.Life.{Life}
use Rattle.pp_traffic.specs.Story.{story}
use Rattle.pp_traffic.specs.Asking.{choked, asked, is_heard}
use Rattle.pp_traffic.specs.Hashes.{is_told, completes, brings}
use Rattle.pp_traffic.specs.Meter.{lets_send}
use Rattle.pp_traffic.specs.Serving.{Window, AnswersPeer}
use Rattle.pp_promises.specs.Datagrams.{PlansPeer}
use Rattle.pp_recorded.specs.declared.searching.Reply.{Reply}
use Rattle.pp_recorded.specs.Parts.{all, first_shake}
use Rattle.pp_recorded.specs.Plans.{is_planned}
use Rattle.pp_recorded.specs.Tests.{is_life}

-- The chunk, behind some messages, answers the peer on the channel.
abbrev pub answers_on : Descriptor → Window → List Record → ℕ → List Message → Life → Bool
answers_on d window past i front life = is_life d life past && asked i (story d life past) && not (choked (story d life past))
    && is_heard d life past
    && completes (chunks_of d) (brings front) (is_told (chunks_of d) (story d life past)) i && window (story d life past)

-- The chunk answers the peer, and, where that is asked too, the hashes before it are those of its plan.
abbrev pub answers_planned : Bool → Descriptor → Window → List Record → ℕ → List Message → Life → Bool
answers_planned false d window past i front life = answers_on d window past i front life
answers_planned true d window past i front life = answers_on d window past i front life && is_planned d past i front life

-- The chunk of a reply answers the peer on the channel, behind the reply's messages in front of it.
abbrev pub replies_on : Descriptor → List Record → Reply → Life → Bool
replies_on d past reply life =
    answers_planned reply.is_planned d (lets_send d.chunk) past reply.chunk (take reply.count (all d reply.bytes.now)) life

-- the test of some number below one
abbrev pub some_below : (ℕ → Bool) → ℕ → Bool
some_below test zero = false
some_below test (suc n) = test n || some_below test n

-- of the source of a record's first handshake, where it was sent to the address
abbrev pub is_source : (ℕ → Bool) → Descriptor → Address → Record → Bool
is_source test d a r = goes_to a r && option_map_or (λ x. test x.0) (first_shake (read d r).messages.read) false

abbrev pub some_source : (ℕ → Bool) → Descriptor → Address → List Record → Bool
some_source test d a [] = false
some_source test d a (r ∷ before) = is_source test d a r || some_source test d a before

abbrev pub life_at : Address → ℕ → ℕ → Bool → ℕ → Life
life_at a remote local is_dialled opening =
    record { address = a; local = local; remote = remote; is_dialled = is_dialled; opening = opening }

-- an opening of either kind
abbrev pub some_opening : (Life → Bool) → Address → ℕ → ℕ → ℕ → Bool
some_opening test a remote size local =
    some_below (λ opening. test (life_at a remote local false opening) || test (life_at a remote local true opening)) size

-- some channel that this address and number name
abbrev pub some_life : (Life → Bool) → Descriptor → Address → ℕ → List Record → Bool
some_life test d a remote past = some_source (some_opening test a remote (length past)) d a past

-- The search finds a channel exactly where there is one, whether or not the hashes are asked for too.
abbrev pub SearchIsExact : Type 0
SearchIsExact = (d : Descriptor) (window : Window) (past : List Record) (receiver : Address) (remote i : ℕ) (front : List Message)
    → (some_life (answers_on d window past i front) d receiver remote past ≡ true)
    ↔ AnswersPeer d window past receiver (Some remote) i front

abbrev pub PlansAreSought : Type 0
PlansAreSought = (d : Descriptor) (window : Window) (past : List Record) (receiver : Address) (remote i : ℕ) (front : List Message)
    → (some_life (answers_planned true d window past i front) d receiver remote past ≡ true)
    ↔ PlansPeer d window past receiver (Some remote) i front
