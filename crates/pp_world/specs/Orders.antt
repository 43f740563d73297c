-- The calls of a peer's devices that are ordered to fail: of each kind the next one, or none.
use Rattle.std.specs.Prelude.{ℕ, Bool, true, false, not, ◌&&◌, if◌then◌else◌}
use Rattle.pp_world.specs.Schedule.{Device, Read, Write, Sync, Send, Receive}

pub record Orders : Type 0 where
  pub read : Bool
  pub write : Bool
  pub sync : Bool
  pub send : Bool
  pub receive : Bool

abbrev pub no_orders : Orders
no_orders = record { read = false; write = false; sync = false; send = false; receive = false }

abbrev pub has_order : Orders → Device → Bool
has_order orders Read = orders.read
has_order orders Write = orders.write
has_order orders Sync = orders.sync
has_order orders Send = orders.send
has_order orders Receive = orders.receive

-- An order that stands already stays one order.
abbrev pub with_order : Orders → Device → Orders
with_order orders Read = record orders { read = true }
with_order orders Write = record orders { write = true }
with_order orders Sync = record orders { sync = true }
with_order orders Send = record orders { send = true }
with_order orders Receive = record orders { receive = true }

-- how often an order was used up between two times: once or never
abbrev pub times_used : Device → (old new : Orders) → ℕ
times_used call old new = if has_order old call && not (has_order new call) then 1 else 0
