-- Peer exchange (RFC 7574, section 3.10): the addresses that were heard, and those that peers suggested. Moments are in
-- microseconds.
use Rattle.std.specs.Prelude.{◌≡◌, ◌⊎◌, ℕ, ◌-◌, ◌<◌, ◌≤◌, ◌==◌, ◌&&◌, ◌||◌, nat_lt, nat_le, not, Bool, false, cond, Option, Some, None, IfSome, List, [], ◌∷◌, ◌++◌, length, map, take, position, slice_get, slice_set}
use Rattle.std.specs.List.{filter, list_any}
use Rattle.pp_outside.specs.Outside.{is_same}
use Rattle.pp_outside.specs.declared.link.Address.{Address}
use Rattle.pp_outside.specs.declared.link.Address.TheVariants.{V4, V6}
use Rattle.pp_pex.specs.declared.table.Contact.{Contact}

-- The table of the addresses that were heard, and the queue of those that were suggested, the next to be dialled first.
pub record Exchange : Type 0 where
  pub table : List Contact
  pub queue : List Address

-- an address is in a list
abbrev pub is_in : List Address → Address → Bool
is_in list a = list_any (λ other. is_same other a) list

-- Each address of a list stands there once.
abbrev pub IsOnce : List Address → Type 0
IsOnce [] = Unit {0}
IsOnce (a ∷ list) = (is_in list a ≡ false) × IsOnce list

-- ---- the table

-- the addresses, in order
abbrev pub addresses : List Contact → List Address
addresses table = map (λ contact. contact.address) table

-- an address that was heard at a moment
abbrev pub contact_of : Address → ℕ → Contact
contact_of a now = record { address = a; moment = now }

-- the place of an address in the table
abbrev pub place_of : List Contact → Address → Option ℕ
place_of table a = position (λ contact. is_same contact.address a) table

-- the place of the one that was heard longest ago; of those that were heard at one moment it is the earliest
pub record IsOldest (table : List Contact) (place : ℕ) : Type 0 where
  pub contact : Contact
  pub is_there : slice_get table place ≡ Some contact
  pub first : (k : ℕ) (other : Contact) → slice_get table k ≡ Some other
      → (contact.moment < other.moment) ⊎ ((contact.moment ≡ other.moment) × (place ≤ k))

-- An address is heard. One that is in the table keeps its place; a new one comes behind the others, and in a full table to
-- the place of the one that was heard longest ago.
pub record Hears (old : List Contact) (a : Address) (now : ℕ) (new : List Contact) : Type 0 where
  pub again : IfSome (place_of old a) (λ place. new ≡ slice_set old place (contact_of a now))
  pub added : place_of old a ≡ None → length old < 64 → new ≡ old ++ contact_of a now ∷ []
  pub full : place_of old a ≡ None → 64 ≤ length old
      → (place : ℕ) × IsOldest old place × (new ≡ slice_set old place (contact_of a now))

-- The contact was heard in the last 60 seconds, and is not the asker.
abbrev pub is_told : Address → ℕ → Contact → Bool
is_told asker now contact = nat_lt (now - contact.moment) 60_000_000 && not (is_same contact.address asker)

-- the first 16 of those, in the table's order
abbrev pub answers : List Contact → Address → ℕ → List Address
answers table asker now = take 16 (addresses (filter (is_told asker now) table))

-- ---- the queue

-- the port of an address
abbrev pub port_of : Address → ℕ
port_of (V4 bytes port) = port
port_of (V6 bytes port) = port

-- Each address of a list has a port that is not 0.
abbrev pub HavePorts : List Address → Type 0
HavePorts [] = Unit {0}
HavePorts (a ∷ list) = (0 < port_of a) × HavePorts list

-- An address with port 0, one that is in the queue already, and any while 64 are there.
abbrev pub is_ignored : List Address → Address → Bool
is_ignored queue a = (port_of a == 0) || is_in queue a || nat_le 64 (length queue)

-- The queue after an address was suggested: one that isn't ignored stands behind the others.
abbrev pub suggested : List Address → Address → List Address
suggested queue a = cond (is_ignored queue a) queue (queue ++ a ∷ [])
