-- Tests on records, as they are asked of a channel; and what they decide of it.
use Rattle.std.specs.Prelude.{◌≡◌, ◌↔◌, nat_lt, Bool, true, not, ◌&&◌, ◌||◌, List}
use Rattle.pp_terms.specs.format.Traffic.{Record}
use Rattle.pp_terms.specs.format.Descriptor.{Descriptor}
use Rattle.pp_traffic.specs.Past as terms
use Rattle.pp_traffic.specs.Life as lives
use Rattle.pp_traffic.specs.Plain as plain
use Rattle.pp_recorded.specs.declared.records.Kind.{Kind}
use Rattle.pp_recorded.specs.declared.records.Kind.TheVariants.{ComesFrom, GoesTo, Greets, Answers, ComesOn, ShakesOn, ClosesOn, Concerns, GreetsOnce, AsksAnew}

-- the test of a kind
abbrev pub test_of : Kind → Descriptor → lives.Life → Record → Bool
test_of ComesFrom d life r = terms.comes_from life.address r
test_of GoesTo d life r = terms.goes_to life.address r
test_of Greets d life r = lives.greets d life r
test_of Answers d life r = lives.answers d life r
test_of ComesOn d life r = lives.comes_on d life r
test_of ShakesOn d life r = lives.shakes_on d life r
test_of ClosesOn d life r = lives.closes_on d life r
test_of Concerns d life r = plain.concerns life.address r
test_of GreetsOnce d life r = plain.greets_once d life r
test_of AsksAnew d life r = plain.asks_anew d life r

-- the channel is open, as a test
abbrev pub is_life : Descriptor → lives.Life → List Record → Bool
is_life d life past = nat_lt 0 life.local && nat_lt 0 life.remote
    && terms.some_since (lives.greets d life) life.opening past && terms.some_since (lives.answers d life) life.opening past
    && terms.is_at (λ r. lives.greets d life r || lives.answers d life r) life.opening past && not (lives.is_closed d life past)

-- which it is
abbrev pub LivesAreTested : Type 0
LivesAreTested = (d : Descriptor) (life : lives.Life) (past : List Record) → (is_life d life past ≡ true) ↔ lives.IsLife d life past
