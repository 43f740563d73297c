-- The search for plain channels: every handshake opens one, with each handshake as the reply to it.
use Rattle.std.specs.Prelude.{◌≡◌, ◌↔◌, ℕ, Bool, true, false, not, ◌&&◌, ◌||◌, if◌then◌else◌, Option, None, option_map, List, [], ◌∷◌, length}
use Rattle.std.specs.List.{list_all}
use Rattle.std.specs.Option.{option_map_or}
use Rattle.pp_terms.specs.format.Traffic.{Address, Record, Received, Quiet, Sent}
use Rattle.pp_terms.specs.format.Descriptor.{Descriptor}
use Rattle.pp_traffic.specs.Past.{read}
use Rattle.pp_traffic.specs.Life.{Life}
use Rattle.pp_traffic.specs.Plain.{IsPlainNow, IsPlainUpTo}
use Rattle.pp_recorded.specs.Parts.{first_shake}
use Rattle.pp_recorded.specs.PlainTests.{is_plain, is_plain_newest}

-- the channel that a handshake opens at a place, before its reply: it came, or was sent
abbrev pub answered_at : Address → ℕ → ℕ → Life
answered_at a remote place = record { address = a; local = 0; remote = remote; is_dialled = false; opening = place }

abbrev pub dialled_at : Address → ℕ → ℕ → Life
dialled_at a local place = record { address = a; local = local; remote = 0; is_dialled = true; opening = place }

abbrev pub opened_by : Descriptor → ℕ → Record → Option Life
opened_by d place (Received at sender bytes) =
    option_map (λ x. answered_at sender x.0 place) (first_shake (read d (Received at sender bytes)).messages.read)
opened_by d place (Quiet at) = None
opened_by d place (Sent moment receiver bytes) =
    option_map (λ x. dialled_at receiver x.0 place) (first_shake (read d (Sent moment receiver bytes)).messages.read)

-- with the number of the reply
abbrev pub replied_by : Life → ℕ → Life
replied_by life number = record {
  address = life.address;
  local = if life.is_dialled then life.local else number;
  remote = if life.is_dialled then number else life.remote;
  is_dialled = life.is_dialled;
  opening = life.opening;
}

-- a channel passes the test, whichever handshake replies
abbrev pub passes_reply : (Life → Bool) → Descriptor → Life → Record → Bool
passes_reply test d life r = option_map_or (λ x. test (replied_by life x.0)) (first_shake (read d r).messages.read) true

abbrev pub passes_replies : (Life → Bool) → Descriptor → Life → List Record → Bool
passes_replies test d life past = list_all (passes_reply test d life) past

-- a channel passes the test, whichever handshake opens it, and whichever replies
abbrev pub passes_opening : (Life → Bool) → Descriptor → List Record → ℕ → Record → Bool
passes_opening test d past place r = option_map_or (λ life. passes_replies test d life past) (opened_by d place r) true

abbrev pub passes_openings : (Life → Bool) → Descriptor → List Record → List Record → Bool
passes_openings test d past [] = true
passes_openings test d past (r ∷ before) = passes_opening test d past (length before) r && passes_openings test d past before

-- Each plain channel passes the test.
abbrev pub each_plain : (Life → Bool) → Descriptor → List Record → Bool
each_plain test d past = passes_openings (λ life. not (is_plain d life past) || test life) d past past

-- The search says that each plain channel passes exactly where none of them fails the test.
abbrev pub SearchFindsAll : Type 0
SearchFindsAll = (test : Life → Bool) (d : Descriptor) (past : List Record)
    → (each_plain test d past ≡ true) ↔ ((life : Life) → IsPlainNow d life past → test life ≡ true)

-- The search says the same of each channel that is plain up to the newest record exactly where none of these fails.
abbrev pub NewestFindsAll : Type 0
NewestFindsAll = (test : Life → Bool) (d : Descriptor) (r : Record) (before : List Record)
    → (passes_openings (λ life. not (is_plain_newest d life (r ∷ before)) || test life) d (r ∷ before) (r ∷ before) ≡ true)
    ↔ ((life : Life) → IsPlainUpTo d life before r → test life ≡ true)
