-- Plain channels: those that both sides opened afresh, by one handshake each, and that neither closed nor left silent for too
-- long (RFC 7574, sections 3.1.1, 8.3 and 8.4; the times are this profile's). To these the promises of completeness are made.
use Rattle.std.specs.Prelude.{◌≡◌, ℕ, ◌+◌, ◌<◌, nat_lt, nat_le, Bool, true, false, not, ◌&&◌, ◌||◌, if◌then◌else◌, Option, Some, None, List, [], ◌∷◌, length, drop, MatchBool}
use Rattle.std.specs.List.{list_any}
use Rattle.pp_terms.specs.format.Traffic.{Address, Record}
use Rattle.pp_terms.specs.format.Descriptor.{Descriptor}
use Rattle.pp_terms.specs.format.Messages.{Message, Handshake}
use Rattle.pp_traffic.specs.Past.{now, now_at, read, comes_from, goes_to, is_event, is_number, some_since, some_until, is_at}
use Rattle.pp_traffic.specs.Life.{Life, greets, answers, comes_on, closes_on}

abbrev pub is_handshake : Message → Bool
is_handshake (Handshake source options) = true
is_handshake _ = false

-- a record from or to an address
abbrev pub concerns : Address → Record → Bool
concerns a r = comes_from a r || goes_to a r

-- the peer's handshake, and no other in its datagram
abbrev pub greets_once : Descriptor → Life → Record → Bool
greets_once d life r = greets d life r && not (list_any is_handshake (drop 1 (read d r).messages.read))

-- a handshake for channel 0 from the peer's address
abbrev pub asks_anew : Descriptor → Life → Record → Bool
asks_anew d life r = comes_from life.address r && is_number 0 (read d r).channel && list_any is_handshake (read d r).messages.read

-- the first record from a place on that passes one test passes another
abbrev pub first_since : (which test : Record → Bool) → ℕ → List Record → Bool
first_since which test place [] = false
first_since which test place (r ∷ before) =
    if some_since which place before then first_since which test place before
    else nat_le place (length before) && which r && test r

-- no record after a place passes a test, but behind one from there on that passes another
abbrev pub none_until_first : (which test : Record → Bool) → ℕ → List Record → Bool
none_until_first which test place [] = true
none_until_first which test place (r ∷ before) =
    (not (nat_lt place (length before) && test r) || some_since which place before) && none_until_first which test place before

-- now, as it was when the latest datagram from the peer came on the channel
abbrev pub heard_at : Descriptor → Life → List Record → Option ℕ
heard_at d life [] = None
heard_at d life (r ∷ before) =
    if nat_lt life.opening (length before) && comes_on d life r then Some (now (r ∷ before)) else heard_at d life before

-- ten seconds, and 180, in microseconds
abbrev pub greeting_time : ℕ
greeting_time = 10000000

abbrev pub silence_time : ℕ
silence_time = 180000000

-- less than ten seconds since the opening where nothing was heard, and less than 180 since something was
abbrev pub is_in_time : ℕ → Option ℕ → ℕ → Bool
is_in_time opened None now = nat_lt now (opened + greeting_time)
is_in_time opened (Some heard) now = nat_lt now (heard + silence_time)

-- the life was in time at every event since the opening
abbrev pub is_timely : Descriptor → Life → List Record → Bool
is_timely d life [] = true
is_timely d life (r ∷ before) =
    (not (is_event r && nat_lt life.opening (length before))
    || is_in_time (now_at life.opening before) (heard_at d life (r ∷ before)) (now (r ∷ before)))
    && is_timely d life before

-- The peer opened: with one handshake, which was the first that this peer sent to it afterwards, and none for channel 0 in between.
pub record IsPlainAnswer (d : Descriptor) (life : Life) (past : List Record) : Type 0 where
  pub opened : is_at (greets_once d life) life.opening past ≡ true
  pub replied : first_since (goes_to life.address) (answers d life) life.opening past ≡ true
  pub only_one : none_until_first (goes_to life.address) (asks_anew d life) life.opening past ≡ true

-- This peer opened, and the first record from the peer's address, as far as it is looked for, is the reply.
pub record IsPlainDial (d : Descriptor) (life : Life) (reach past : List Record) : Type 0 where
  pub opened : is_at (answers d life) life.opening past ≡ true
  pub replied : first_since (comes_from life.address) (greets d life) 0 reach ≡ true

-- Nothing came from or went to the address before the opening, nothing closed the channel, and it was in time. A reply is
-- looked for in `reach`: the records so far, or also the record up to which the channel is to be plain.
pub record IsPlain (d : Descriptor) (life : Life) (reach past : List Record) : Type 0 where
  pub local_some : 0 < life.local
  pub remote_some : 0 < life.remote
  pub fresh : some_until (concerns life.address) life.opening past ≡ false
  pub begins : MatchBool life.is_dialled (IsPlainDial d life reach past) (IsPlainAnswer d life past)
  pub open_still : some_since (closes_on d life) life.opening past ≡ false
  pub timely : is_timely d life past ≡ true

-- plain at the end of these records, as of a turn; and up to the next record
abbrev pub IsPlainNow : Descriptor → Life → List Record → Type 0
IsPlainNow d life past = IsPlain d life past past

abbrev pub IsPlainUpTo : Descriptor → Life → List Record → Record → Type 0
IsPlainUpTo d life past r = IsPlain d life (r ∷ past) past
