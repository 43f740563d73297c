-- What a line of a recording says, behind its second one.
use Rattle.std.specs.Prelude.{◌≡◌, ℕ, ◌^◌, ◌<◌, ◌≤◌, List, [], ◌++◌, length, codes}
use Rattle.hex.specs.Hex.{IsBytes}
use Rattle.pp_terms.specs.format.Traffic as terms
use Rattle.pp_outside.specs.Outside.{address_of}
use Rattle.pp_recording.specs.Spelling.{KnownNode, hex_text, node_line, datagram_line, record_line}
use Rattle.pp_recording.specs.Recording.{IsPeerAddress, most_bytes, IsDatagram, IsKeptRecord}
use Rattle.pp_recording.specs.declared.lines.Line.{Line}
use Rattle.pp_recording.specs.declared.lines.Line.TheVariants.{Node, Received, Quiet, Sent, Wrong}

-- bytes of a datagram in hexadecimal digits
pub record IsHex (word : List ℕ) : Type 0 where
  pub bytes : List ℕ
  pub text : word ≡ hex_text bytes
  pub few : length bytes ≤ most_bytes
  pub all : IsBytes bytes

-- a node of some tree, with a digest of 32 bytes
pub record IsSomeNode (n : KnownNode) : Type 0 where
  pub layer : n.layer ≤ 20
  pub offset : n.offset ≤ 1048575
  pub size : length n.digest ≡ 32
  pub bytes : IsBytes n.digest

-- the words behind `node ` are no node's
abbrev pub NoNode : List ℕ → Type 0
NoNode words = (n : KnownNode) → IsSomeNode n → codes "node " ++ words ++ codes "\n" ≡ node_line n → ⊥

-- the words behind the first are no datagram's
abbrev pub NoDatagram : List ℕ → Type 0
NoDatagram words = (n : ℕ) (a : terms.Address) (bytes : List ℕ) → IsDatagram n a bytes
    → words ++ codes "\n" ≡ datagram_line [] n a bytes → ⊥

-- The line is no node's and no record's.
pub record SaysNothing (row : List ℕ) : Type 0 where
  pub node : (n : KnownNode) → IsSomeNode n → row ++ codes "\n" ≡ node_line n → ⊥
  pub record_of : (r : terms.Record) → IsKeptRecord r → row ++ codes "\n" ≡ record_line r → ⊥

abbrev pub Says : List ℕ → Line → Type 0
Says row (Node node digest) =
    (row ++ codes "\n" ≡ node_line (record { layer = node.layer; offset = node.offset; digest = digest }))
    × IsSomeNode (record { layer = node.layer; offset = node.offset; digest = digest })
Says row (Received at sender digits) =
    ((bytes : List ℕ) → digits.now ≡ hex_text bytes → row ++ codes "\n" ≡ record_line (terms.Received at (address_of sender) bytes))
    × IsPeerAddress (address_of sender) × IsHex digits.now × (at < 2 ^ 64)
Says row (Quiet at) = (row ++ codes "\n" ≡ record_line (terms.Quiet at)) × (at < 2 ^ 64)
Says row (Sent moment receiver digits) =
    ((bytes : List ℕ) → digits.now ≡ hex_text bytes → row ++ codes "\n" ≡ record_line (terms.Sent moment (address_of receiver) bytes))
    × IsPeerAddress (address_of receiver) × IsHex digits.now × (moment < 2 ^ 64)
Says row Wrong = SaysNothing row
