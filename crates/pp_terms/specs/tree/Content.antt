-- Static content, as its swarm cuts it: chunks of one size, the last one possibly shorter
-- (RFC 7574, section 1.3, "chunk"; section 4).
use Rattle.std.specs.Prelude.{◌≡◌, ℕ, ◌+◌, ◌-◌, ◌*◌, ◌/◌, ◌^◌, ◌<◌, ◌≤◌, min, List, take, drop}

-- chunk i of a content cut into pieces of `chunk` bytes
abbrev pub chunk_of : List ℕ → ℕ → ℕ → List ℕ
chunk_of content chunk i = take chunk (drop (i * chunk) content)

-- how many chunks so many bytes are cut into
abbrev pub chunk_count : ℕ → ℕ → ℕ
chunk_count bytes chunk = (bytes + chunk - 1) / chunk

-- the length of chunk i
abbrev pub chunk_length : ℕ → ℕ → ℕ → ℕ
chunk_length bytes chunk i = min chunk (bytes - i * chunk)

-- A chunk size is a power of two from 256 to 8192 (this profile's).
pub record IsChunkSize (chunk : ℕ) : Type 0 where
  pub exponent : ℕ
  pub least : 8 ≤ exponent
  pub greatest : exponent ≤ 13
  pub power : chunk ≡ 2 ^ exponent

-- A content has at least one byte and at most 2 ^ 20 chunks (this profile's).
pub record IsContentSize (chunk bytes : ℕ) : Type 0 where
  pub some : 0 < bytes
  pub within : bytes ≤ 2 ^ 20 * chunk
