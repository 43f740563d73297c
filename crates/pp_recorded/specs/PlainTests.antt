-- Plain channels, as a test.
use Rattle.std.specs.Prelude.{◌≡◌, ◌↔◌, nat_lt, Bool, true, false, not, ◌&&◌, if◌then◌else◌, List, [], ◌∷◌}
use Rattle.pp_terms.specs.format.Traffic.{Record}
use Rattle.pp_terms.specs.format.Descriptor.{Descriptor}
use Rattle.pp_traffic.specs.Past.{comes_from, goes_to, some_since, some_until, is_at}
use Rattle.pp_traffic.specs.Life.{Life, greets, answers, closes_on}
use Rattle.pp_traffic.specs.Plain.{concerns, greets_once, asks_anew, first_since, none_until_first, is_timely, IsPlain}

-- the peer opened; and this peer, with a reply as far as it is looked for
abbrev pub is_answer : Descriptor → Life → List Record → Bool
is_answer d life past = is_at (greets_once d life) life.opening past
    && first_since (goes_to life.address) (answers d life) life.opening past
    && none_until_first (goes_to life.address) (asks_anew d life) life.opening past

abbrev pub is_dial : Descriptor → Life → (reach past : List Record) → Bool
is_dial d life reach past = is_at (answers d life) life.opening past && first_since (comes_from life.address) (greets d life) 0 reach

abbrev pub is_plain_by : Descriptor → Life → (reach past : List Record) → Bool
is_plain_by d life reach past = nat_lt 0 life.local && nat_lt 0 life.remote
    && not (some_until (concerns life.address) life.opening past)
    && (if life.is_dialled then is_dial d life reach past else is_answer d life past)
    && not (some_since (closes_on d life) life.opening past) && is_timely d life past

-- plain at the end of these records; and up to the newest one
abbrev pub is_plain : Descriptor → Life → List Record → Bool
is_plain d life past = is_plain_by d life past past

abbrev pub is_plain_newest : Descriptor → Life → List Record → Bool
is_plain_newest d life [] = false
is_plain_newest d life (r ∷ before) = is_plain_by d life (r ∷ before) before

-- a channel is plain exactly where this test says so
abbrev pub PlainIsTested : Type 0
PlainIsTested = (d : Descriptor) (life : Life) (reach past : List Record)
    → (is_plain_by d life reach past ≡ true) ↔ IsPlain d life reach past
