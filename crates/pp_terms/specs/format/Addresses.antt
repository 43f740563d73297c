-- Addresses as people write them, with a port: `A.B.C.D:PORT`, and `[G:G:G:G:G:G:G:G]:PORT` in which one `::` may stand
-- for groups of zeros (RFC 4291, section 2.2).
use Rattle.std.specs.Prelude.{◌≡◌, ◌⊎◌, ℕ, ◌+◌, ◌-◌, ◌^◌, ◌<◌, List, ◌++◌, length, replicate, codes, decimal, false}
use Rattle.std.specs.Net.Addr.{octets_of}
use Rattle.std.specs.Net.Grammar.{IsDotted, IsGroups}
use Rattle.pp_terms.specs.format.Traffic.{Address, V4, V6}

-- Groups before and after `::`, which stands for the groups of zeros that are left out, at least one. A group is one to
-- four hexadecimal digits of either case.
pub record IsShortened (text groups : List ℕ) : Type 0 where
  pub before_text : List ℕ
  pub after_text : List ℕ
  pub before : List ℕ
  pub after : List ℕ
  pub text_is : text ≡ before_text ++ codes "::" ++ after_text
  pub before_is : IsGroups false before_text before
  pub after_is : IsGroups false after_text after
  pub fewer : length before + length after < 8
  pub groups_are : groups ≡ before ++ replicate (8 - length before - length after) 0 ++ after

-- all eight groups, with colons between them, or some of them and `::`
abbrev pub AreEightGroups : List ℕ → List ℕ → Type 0
AreEightGroups text groups = (IsGroups false text groups × (length groups ≡ 8)) ⊎ IsShortened text groups

-- An IPv6 address in brackets; its bytes are those of the groups, the high one first.
pub record IsBracketed (text bytes : List ℕ) : Type 0 where
  pub inner : List ℕ
  pub groups : List ℕ
  pub text_is : text ≡ codes "[" ++ inner ++ codes "]"
  pub inner_is : AreEightGroups inner groups
  pub bytes_are : bytes ≡ octets_of groups

-- the text before the port: four numbers below 256 with points between them, or an IPv6 address in brackets
abbrev pub IsHost : List ℕ → Address → Type 0
IsHost text (V4 bytes port) = IsDotted text bytes
IsHost text (V6 bytes port) = IsBracketed text bytes

abbrev pub port_of : Address → ℕ
port_of (V4 bytes port) = port
port_of (V6 bytes port) = port

-- The text is the host's, a colon, and the port, from 1 to 65535 in decimal digits.
pub record IsAddress (text : List ℕ) (address : Address) : Type 0 where
  pub host : List ℕ
  pub host_is : IsHost host address
  pub port_low : 0 < port_of address
  pub port_high : port_of address < 2 ^ 16
  pub text_is : text ≡ host ++ codes ":" ++ decimal (port_of address)
