-- How a datagram's first message and number are read, as the way to its swarm.
use Rattle.std.proofs.Common.{◌≡◌, ℕ, zero, suc, ◌+◌, Bool, true, false, List, [], ◌∷◌, length, take, drop, Option, None, Result, Ok, Err, refl, sym, ◌∙◌, ap}
use Rattle.std.specs.Prelude.{◌==◌, nat_lt, if◌then◌else◌, position}
use Rattle.std.proofs.lemmas.Bool.{ne_eqb}
use Rattle.std.specs.Int.{w32, from_be_bytes}
use Rattle.pp_terms.specs.format.Descriptor.{Range32}
use Rattle.pp_terms.specs.format.Messages.{Message, Handshake, Data, Ack, Have, Integrity, Pex4, PexReq, Request, Cancel, Choke, Unchoke, Pex6, WireKind, Step, Read, End, Cut, step_over, moved, message_at, next_message, handshake_at, BeginsWith}
use Rattle.pp_outside.specs.declared.link.Address.{Address}
use Rattle.pp_core.specs.Peers.{PeerState}
use Rattle.pp_swarms.specs.Routing.{identifier_in, identifier_of, named_first, place_of_root, owns, route_by, route_of}

-- ---- the first message

-- the identifier of what stands first
abbrev pub identifier_at : Step → Option (List ℕ)
identifier_at (Read m next) = identifier_in m
identifier_at End = None
identifier_at (Cut at kind) = None

moved_same : (n : ℕ) (s : Step) → identifier_at (moved n s) ≡ identifier_at s
moved_same n (Read m next) = refl
moved_same n End = refl
moved_same n (Cut at kind) = refl

over_same : (size : ℕ) (r : Result (Message × List ℕ) WireKind) → identifier_at (step_over size r) ≡ identifier_of r
over_same size (Ok x) = refl
over_same size (Err kind) = refl

-- a handshake's type is 0
first_zero : (n count : ℕ) (rest tail : List ℕ) → take count (suc n ∷ rest) ≡ 0 ∷ tail → ⊥
first_zero n zero rest tail e = cc
first_zero n (suc k) rest tail e = let never : suc n ≡ 0 = ap (λ (xs : List ℕ). unwrap_first xs) e in cc
  where
    unwrap_first : List ℕ → ℕ
    unwrap_first [] = 0
    unwrap_first (x ∷ xs) = x

other_first : (n : ℕ) (rest : List ℕ) (s : Step) → ((m : Message) (count : ℕ) → s ≡ Read m count → BeginsWith Range32 1024 m count (suc n ∷ rest))
    → identifier_at s ≡ None
other_first n rest End begins = refl
other_first n rest (Cut at kind) begins = refl
other_first n rest (Read (Handshake source options) count) begins =
    let spelt = (begins (Handshake source options) count refl).spelt in absurd (first_zero n count rest _ spelt.3)
other_first n rest (Read (Data chunk sent_at bytes) count) begins = refl
other_first n rest (Read (Ack span delay) count) begins = refl
other_first n rest (Read (Have span) count) begins = refl
other_first n rest (Read (Integrity span digest) count) begins = refl
other_first n rest (Read (Pex4 address port) count) begins = refl
other_first n rest (Read PexReq count) begins = refl
other_first n rest (Read (Request span) count) begins = refl
other_first n rest (Read (Cancel span) count) begins = refl
other_first n rest (Read Choke count) begins = refl
other_first n rest (Read Unchoke count) begins = refl
other_first n rest (Read (Pex6 address port) count) begins = refl

named_none : (n : ℕ) (rest : List ℕ) → named_first (suc n ∷ rest) ≡ None
named_none n rest = ap (λ (b : Bool). if b then identifier_of (handshake_at rest) else None) (not_zero n)
  where
    not_zero : (n : ℕ) → (suc n == 0) ≡ false
    not_zero n = ne_eqb (suc n) 0 (λ e. cc)

read_first : (bytes : List ℕ) → ((m : Message) (count : ℕ) → next_message Range32 1024 bytes ≡ Read m count → BeginsWith Range32 1024 m count bytes)
    → identifier_at (next_message Range32 1024 bytes) ≡ named_first bytes
unfolding next_message message_at
read_first [] begins = refl
read_first (zero ∷ rest) begins = over_same (1 + length rest) (handshake_at rest)
read_first (suc n ∷ rest) begins = other_first n rest (next_message Range32 1024 (suc n ∷ rest)) begins ∙ sym (named_none n rest)

-- what stands first in a datagram, where it is read behind the number
pub named_by : (bytes : List ℕ) (s : Step) → s ≡ moved 4 (next_message Range32 1024 bytes)
    → ((m : Message) (count : ℕ) → s ≡ Read m (4 + count) → BeginsWith Range32 1024 m count bytes) → identifier_at s ≡ named_first bytes
named_by bytes s exact begins =
    ap identifier_at exact ∙ moved_same 4 (next_message Range32 1024 bytes)
    ∙ read_first bytes (λ m count e. begins m count (exact ∙ ap (moved 4) e))

-- ---- the number

module _ (peers : List PeerState) (sender : Address) (bytes : List ℕ) where
  long_is : (short : Bool) → nat_lt (length bytes) 4 ≡ short → route_of peers sender bytes
      ≡ (if short then None else route_by (from_be_bytes w32 (take 4 bytes)) sender (drop 4 bytes) peers)
  unfolding route_of
  long_is short e = ap (λ (b : Bool). if b then None else route_by (from_be_bytes w32 (take 4 bytes)) sender (drop 4 bytes) peers) e

  pub route_short : nat_lt (length bytes) 4 ≡ true → route_of peers sender bytes ≡ None
  route_short e = long_is true e

  pub route_zero : nat_lt (length bytes) 4 ≡ false → from_be_bytes w32 (take 4 bytes) ≡ 0
      → route_of peers sender bytes ≡ place_of_root (named_first (drop 4 bytes)) peers
  route_zero e zero_is = long_is false e ∙ ap (λ (n : ℕ). route_by n sender (drop 4 bytes) peers) zero_is

  pub route_other : nat_lt (length bytes) 4 ≡ false → (from_be_bytes w32 (take 4 bytes) == 0) ≡ false
      → route_of peers sender bytes ≡ position (owns (from_be_bytes w32 (take 4 bytes)) sender) peers
  route_other e other = long_is false e
      ∙ ap (λ (b : Bool). if b then place_of_root (named_first (drop 4 bytes)) peers
      else position (owns (from_be_bytes w32 (take 4 bytes)) sender) peers) other
