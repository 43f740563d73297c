-- In what the options of a handshake differ from a swarm (RFC 7574, sections 3.1.1 and 7; the defaults for absent
-- options are this profile's).
use Rattle.std.specs.Prelude.{◌≡◌, ◌≢◌, ◌↔◌, ◌≤◌, MatchOption, true, ℕ, ◌==◌, nat_eq, nat_lt, Bool, not, if◌then◌else◌, List, Option, Some, None, unwrap_or}
use Rattle.std.specs.Cmp.Lexicographic.{pointwise}
use Rattle.pp_terms.specs.format.Options.{Options}
use Rattle.pp_terms.specs.format.Descriptor.{Descriptor, method_number}

-- The option that differs, with the number that it has, or is taken as where it is absent.
pub data Mismatch : Type 0 where
  Version : (number : ℕ) → Mismatch
  Minimum : (number : ℕ) → Mismatch
  Swarm : Mismatch
  Integrity : (number : ℕ) → Mismatch
  Hash : (number : ℕ) → Mismatch
  Addressing : (number : ℕ) → Mismatch
  Chunk : (size : ℕ) → Mismatch

-- The swarm's identifier is its root. A reply may leave it out.
abbrev pub is_swarm : Descriptor → Bool → Option (List ℕ) → Bool
is_swarm d reply None = reply
is_swarm d reply (Some bytes) = pointwise nat_eq bytes d.root

-- the first option that differs, of a handshake that is a reply or isn't
unfoldable pub mismatch_of : Descriptor → Bool → Options → Option Mismatch
mismatch_of d reply o =
    let version = unwrap_or o.version 1 in
    let minimum = unwrap_or o.minimum 1 in
    let integrity = unwrap_or o.integrity 1 in
    let hash = unwrap_or o.hash 2 in
    let addressing = unwrap_or o.addressing 2 in
    let chunk = unwrap_or o.chunk 1024 in
    if version == 0 then Some (Version version) else
    (if nat_lt 1 minimum then Some (Minimum minimum) else
    (if not (is_swarm d reply o.swarm) then Some Swarm else
    (if not (integrity == 1) then Some (Integrity integrity) else
    (if not (hash == 2) then Some (Hash hash) else
    (if not (addressing == method_number d.method) then Some (Addressing addressing) else
    (if not (chunk == d.chunk) then Some (Chunk chunk) else None))))))

-- The options fit the swarm: each that is present, or what it is taken as where it is absent.
pub record Agrees (d : Descriptor) (reply : Bool) (o : Options) : Type 0 where
  pub version : unwrap_or o.version 1 ≢ 0
  pub minimum : unwrap_or o.minimum 1 ≤ 1
  pub swarm : MatchOption o.swarm (reply ≡ true) (λ bytes. bytes ≡ d.root)
  pub integrity : unwrap_or o.integrity 1 ≡ 1
  pub hash : unwrap_or o.hash 2 ≡ 2
  pub addressing : unwrap_or o.addressing 2 ≡ method_number d.method
  pub chunk : unwrap_or o.chunk 1024 ≡ d.chunk

-- No difference is found exactly where they fit.
abbrev pub NoneDiffers : Type 0
NoneDiffers = (d : Descriptor) (reply : Bool) (o : Options) → (mismatch_of d reply o ≡ None) ↔ Agrees d reply o
