-- What contracts see of a seat: all that a peer keeps of one channel's messages.
use Rattle.std.specs.Prelude.{◌≡◌, ℕ, Bool, false, not, Option, List, []}
use Rattle.pp_terms.specs.tree.Claims.{Claim}
use Rattle.pp_terms.specs.tree.Range.{Span}
use Rattle.pp_traffic.specs.Meter.{Meter}
use Rattle.pp_requests.specs.declared.asking.Asking.{Asking}
use Rattle.pp_plan.specs.Told.{ToldNodes}

pub record SeatState : Type 0 where
  -- the chunks that the other peer asked for and may still be sent, and what flies
  pub list : List Span
  pub window : Meter
  -- what it told and claimed
  pub told : ToldNodes
  pub claims : List Claim
  -- something came for this peer's number
  pub proven : Bool
  -- the channel has a slot; a CHOKE was sent and no UNCHOKE since; one of the two is to be sent
  pub slot : Bool
  pub choked : Bool
  pub owes : Bool
  -- the chunks that this peer asked for; the other peer chokes; nothing is asked until a datagram comes
  pub own : List Asking
  pub chokes : Bool
  pub stopped : Bool
  -- the HAVE cursor: what had been committed below it was told of on the channel, and since it is proven nothing else was
  pub cursor : ℕ
  -- when addresses of other peers were last sent, and last asked for
  pub answer : Option ℕ
  pub question : Option ℕ

-- Nothing was asked for, told or claimed on the channel yet, whose other peer isn't proven to be at its address. A CHOKE is to be sent
-- just where there is no slot.
pub record IsFresh (slot : Bool) (s : SeatState) : Type 0 where
  pub slot_is : s.slot ≡ slot
  pub owes_is : s.owes ≡ not slot
  pub unproven : s.proven ≡ false
  pub list : s.list ≡ []
  pub own : s.own ≡ []
  pub claims : s.claims ≡ []
  pub cursor : s.cursor ≡ 0
