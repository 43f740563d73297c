-- A channel in the traffic: between this peer and another one at an address, under a number of each (RFC 7574, sections
-- 3.1.1 and 8.2 to 8.4). It is opened by a handshake of each of the two. A record can lie on several lives, since a handshake can
-- come again and numbers can be used again.
use Rattle.std.specs.Prelude.{◌≡◌, ℕ, ◌<◌, ◌==◌, nat_lt, Bool, true, false, not, ◌&&◌, ◌||◌, if◌then◌else◌, is_none, List, [], ◌∷◌, length}
use Rattle.pp_terms.specs.format.Traffic.{Address, Record}
use Rattle.pp_terms.specs.format.Descriptor.{Descriptor}
use Rattle.pp_terms.specs.format.Options.{Options}
use Rattle.pp_terms.specs.format.Mismatch.{mismatch_of}
use Rattle.pp_terms.specs.format.Messages.{Message, Handshake}
use Rattle.pp_traffic.specs.Past.{read, comes_from, goes_to, is_number, some_since, is_at}

-- The peer's address; this peer's number for the channel, to which the other one sends, and the other one's, to which this
-- one sends; whether this peer opened it; and the place of the first of the two handshakes.
pub record Life : Type 0 where
  pub address : Address
  pub local : ℕ
  pub remote : ℕ
  pub is_dialled : Bool
  pub opening : ℕ

-- a handshake's options fit the swarm; one that isn't a reply names the swarm
abbrev pub fits : Descriptor → Bool → Options → Bool
fits d is_reply o = is_none (mismatch_of d is_reply o)

-- the first message is a handshake
abbrev pub begins : List Message → Bool
begins (Handshake source options ∷ ms) = true
begins _ = false

-- the first message is a handshake of that source channel
abbrev pub begins_as : ℕ → List Message → Bool
begins_as number (Handshake source options ∷ ms) = source == number
begins_as number _ = false

-- a handshake of that source channel comes first, and its options fit
abbrev pub begins_fitting : Descriptor → Bool → ℕ → List Message → Bool
begins_fitting d is_reply number (Handshake source options ∷ ms) = source == number && fits d is_reply options
begins_fitting d is_reply number _ = false

-- a handshake of source channel 0 is among them, which closes a channel
abbrev pub closes : List Message → Bool
closes [] = false
closes (Handshake source options ∷ ms) = source == 0 || closes ms
closes (_ ∷ ms) = closes ms

-- the peer's handshake: for channel 0 where the peer opens, for this peer's number where it replies
abbrev pub greets : Descriptor → Life → Record → Bool
greets d life r = comes_from life.address r
    && is_number (if life.is_dialled then life.local else 0) (read d r).channel
    && begins_fitting d life.is_dialled life.remote (read d r).messages.read

-- this peer's handshake: for channel 0 where it opens, for the peer's number where it replies
abbrev pub answers : Descriptor → Life → Record → Bool
answers d life r = goes_to life.address r
    && is_number (if life.is_dialled then 0 else life.remote) (read d r).channel
    && begins_as life.local (read d r).messages.read

-- a datagram from the peer to this peer's number
abbrev pub comes_on : Descriptor → Life → Record → Bool
comes_on d life r = comes_from life.address r && is_number life.local (read d r).channel

-- a record of the life that begins with a handshake
abbrev pub shakes_on : Descriptor → Life → Record → Bool
shakes_on d life r = comes_on d life r && begins (read d r).messages.read

-- a record of the life that has a closing handshake
abbrev pub closes_on : Descriptor → Life → Record → Bool
closes_on d life r = comes_on d life r && closes (read d r).messages.read

-- A closing handshake came since the opening. Where this peer opened, datagrams that come before the peer's first handshake
-- are left unread.
abbrev pub is_closed : Descriptor → Life → List Record → Bool
is_closed d life [] = false
is_closed d life (r ∷ before) =
    (nat_lt life.opening (length before) && closes_on d life r
    && (not life.is_dialled || shakes_on d life r || some_since (shakes_on d life) life.opening before))
    || is_closed d life before

-- The channel is open: each handshake was seen, the opening is the first of the two, and none closed it since.
pub record IsLife (d : Descriptor) (life : Life) (past : List Record) : Type 0 where
  pub local_some : 0 < life.local
  pub remote_some : 0 < life.remote
  pub greeted : some_since (greets d life) life.opening past ≡ true
  pub answered : some_since (answers d life) life.opening past ≡ true
  pub opened : is_at (λ r. greets d life r || answers d life r) life.opening past ≡ true
  pub open_still : is_closed d life past ≡ false
