-- What a link in memory is still to hand out, in the words on traffic.
use Rattle.std.specs.Prelude.{◌≡◌, ℕ, ◌≤◌, [], ◌∷◌, List, length, drop}
use Rattle.pp_terms.specs.format.Traffic as traffic
use Rattle.pp_terms.specs.format.Traffic.{Record, Received, Sent}
use Rattle.pp_outside.specs.declared.link.Event.{Event}
use Rattle.pp_outside.specs.declared.link.Event.TheVariants.{Datagram, Quiet}

-- the records to come, in order, and the last moment handed out, 0 before the first
pub record Arrivals : Type 0 where
  pub coming : List Record
  pub last : ℕ

-- An event with its bytes: a datagram has as many as it says, and fits any buffer; a quiet wait has none.
abbrev pub IsEvent : Event → List ℕ → Type 0
IsEvent (Datagram sender len at) bytes = (len ≡ length bytes) × (length bytes ≤ 65536)
IsEvent (Quiet at) bytes = bytes ≡ []

-- the moment of a record
abbrev pub at_of : Record → ℕ
at_of (Received at sender bytes) = at
at_of (traffic.Quiet at) = at
at_of (Sent moment receiver bytes) = moment

abbrev pub first_or : Record → List Record → Record
first_or other [] = other
first_or other (r ∷ rs) = r

-- what the next wait brings: after the last event none comes, at the last moment handed out
abbrev pub next_of : Arrivals → Record
next_of a = first_or (traffic.Quiet a.last) a.coming

abbrev pub after_next : Arrivals → Arrivals
after_next a = record { coming = drop 1 a.coming; last = at_of (next_of a) }
