-- The datagrams of one link, as plain data (RFC 7574, section 8: UDP encapsulation).
use Rattle.std.specs.Prelude.{◌≡◌, ℕ, ◌==◌, nat_eq, Bool, false, ◌&&◌, Option, Some, None, List, ◌∷◌, ◌++◌}
use Rattle.std.specs.Cmp.Lexicographic.{pointwise}

-- An IPv4 address of 4 bytes or an IPv6 address of 16, and a port.
pub data Address : Type 0 where
  V4 : (bytes : List ℕ) (port : ℕ) → Address
  V6 : (bytes : List ℕ) (port : ℕ) → Address

-- one address: of one family, with the same bytes and the same port
abbrev pub same_address : Address → Address → Bool
same_address (V4 a p) (V4 b q) = pointwise nat_eq a b && p == q
same_address (V4 a p) (V6 b q) = false
same_address (V6 a p) (V4 b q) = false
same_address (V6 a p) (V6 b q) = pointwise nat_eq a b && p == q

-- One record: a datagram that came, a wait in which none came, both at a moment of the link in microseconds; or a
-- datagram that was sent, with the disk's moment then.
pub data Record : Type 0 where
  Received : (at : ℕ) (sender : Address) (bytes : List ℕ) → Record
  Quiet : (at : ℕ) → Record
  Sent : (moment : ℕ) (receiver : Address) (bytes : List ℕ) → Record

-- What is meant by a link: its records, the newest first, where it tells them; how often a call of it was refused;
-- how many calls of `next` have returned; and the addresses to which it was bound, the newest first, where it tells
-- them.
pub record LinkState : Type 0 where
  pub traffic : Option (List Record)
  pub faults : ℕ
  pub nexts : ℕ
  pub bound : Option (List Address)

-- the link gained these records, the newest first; one that doesn't tell says nothing of them
abbrev pub GainsRecords : Option (List Record) → List Record → Option (List Record) → Type 0
GainsRecords None added new = new ≡ None
GainsRecords (Some old) added new = new ≡ Some (added ++ old)

-- the link was bound to an address more, the newest first; one that tells no addresses goes on telling none
abbrev pub GainsAddress : Option (List Address) → Address → Option (List Address) → Type 0
GainsAddress None address new = new ≡ None
GainsAddress (Some old) address new = new ≡ Some (address ∷ old)
