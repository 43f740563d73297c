-- Plain channels that await their reply (RFC 7574, sections 3.1.1 and 8.4), and what one record more does to a plain channel.
use Rattle.std.specs.Prelude.{◌≡◌, ◌⊎◌, ◌↔◌, ℕ, ◌<◌, Bool, true, false, List, ◌∷◌, length, MatchBool}
use Rattle.pp_terms.specs.format.Traffic.{Address, Record, Received, Quiet, Sent}
use Rattle.pp_terms.specs.format.Descriptor.{Descriptor}
use Rattle.pp_traffic.specs.Past.{now, now_at, comes_from, goes_to, some_since, some_until, is_at}
use Rattle.pp_traffic.specs.Life.{Life, greets, answers, closes_on}
use Rattle.pp_traffic.specs.Plain.{concerns, greets_once, asks_anew, none_until_first, heard_at, is_in_time, is_timely, IsPlain, IsPlainNow, IsPlainUpTo}

-- The peer opened with one handshake, and since then nothing was sent to it, and no handshake for channel 0 came from it.
pub record AwaitsAnswer (d : Descriptor) (life : Life) (past : List Record) : Type 0 where
  pub opened : is_at (greets_once d life) life.opening past ≡ true
  pub none_sent : some_since (goes_to life.address) life.opening past ≡ false
  pub only_one : none_until_first (goes_to life.address) (asks_anew d life) life.opening past ≡ true

-- This peer opened, and nothing came from the peer's address.
pub record AwaitsDial (d : Descriptor) (life : Life) (past : List Record) : Type 0 where
  pub opened : is_at (answers d life) life.opening past ≡ true
  pub none_came : some_since (comes_from life.address) 0 past ≡ false

-- The channel is plain but for its reply, which can still be the next record.
pub record Awaits (d : Descriptor) (life : Life) (past : List Record) : Type 0 where
  pub local_some : 0 < life.local
  pub remote_some : 0 < life.remote
  pub fresh : some_until (concerns life.address) life.opening past ≡ false
  pub begins : MatchBool life.is_dialled (AwaitsDial d life past) (AwaitsAnswer d life past)
  pub open_still : some_since (closes_on d life) life.opening past ≡ false
  pub timely : is_timely d life past ≡ true

-- the record is this peer's reply, or the peer's
abbrev pub IsReply : Descriptor → Life → Record → List Record → Type 0
IsReply d life r past = (life.is_dialled ≡ false) × Awaits d life past × (answers d life r ≡ true)

abbrev pub IsReplyOfPeer : Descriptor → Life → Record → List Record → Type 0
IsReplyOfPeer d life r past = (life.is_dialled ≡ true) × Awaits d life past × (greets d life r ≡ true)

-- at the record the channel is in time
abbrev pub is_in_time_at : Descriptor → Life → Record → List Record → Bool
is_in_time_at d life r past = is_in_time (now_at life.opening past) (heard_at d life (r ∷ past)) (now (r ∷ past))

-- A channel is plain after one record more exactly where it was plain before, or awaited this reply, and the record neither
-- closed it nor came too late.
pub record PlainGrows : Type 0 where
  pub received : (d : Descriptor) (life : Life) (at : ℕ) (sender : Address) (bytes : List ℕ) (past : List Record)
      → let r = Received at sender bytes in
      IsPlainNow d life (r ∷ past)
      ↔ ((closes_on d life r ≡ false) × ((IsPlainNow d life past × (is_in_time_at d life r past ≡ true)) ⊎ IsReplyOfPeer d life r past))
  pub quiet : (d : Descriptor) (life : Life) (at : ℕ) (past : List Record)
      → IsPlainNow d life (Quiet at ∷ past) ↔ (IsPlainNow d life past × (is_in_time_at d life (Quiet at) past ≡ true))
  pub sent : (d : Descriptor) (life : Life) (moment : ℕ) (receiver : Address) (bytes : List ℕ) (past : List Record)
      → let r = Sent moment receiver bytes in
      IsPlainNow d life (r ∷ past) ↔ (IsPlainNow d life past ⊎ IsReply d life r past)
  -- up to the next record: a dial's reply may be that one
  pub up_to : (d : Descriptor) (life : Life) (r : Record) (past : List Record)
      → IsPlainUpTo d life past r ↔ (IsPlainNow d life past ⊎ IsReplyOfPeer d life r past)
  -- so it is wherever a dial's reply is looked for: it was plain before, or the record is this peer's reply or its dial
  pub earlier : (d : Descriptor) (life : Life) (reach : List Record) (r : Record) (past : List Record) → IsPlain d life reach (r ∷ past)
      → IsPlain d life reach past
      ⊎ (IsReply d life r past ⊎ ((life.is_dialled ≡ true) × (life.opening ≡ length past) × (answers d life r ≡ true)))
  -- one that awaits its reply did so before, or this record opened it
  pub awaited : (d : Descriptor) (life : Life) (r : Record) (past : List Record) → Awaits d life (r ∷ past)
      → Awaits d life past
      ⊎ ((life.opening ≡ length past) × (MatchBool life.is_dialled (answers d life r ≡ true) (greets_once d life r ≡ true)))
