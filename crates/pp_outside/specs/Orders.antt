-- The calls that a device in memory is ordered to refuse, and how many of their kind pass before.
use Rattle.std.specs.Prelude.{ℕ, zero, suc, Bool, true, false, not, Option, None, Some}
use Rattle.pp_outside.specs.declared.call.Call.{Call}
use Rattle.pp_outside.specs.declared.call.Call.TheVariants.{Attach, Len, Read, Write, Sync, Bind, Next, Send}
use Rattle.pp_outside.specs.declared.orders.Orders.{Orders}

-- of the order of a call, if one stands, how many calls of its kind pass before the one that is refused
abbrev pub order_of : Orders → Call → Option ℕ
order_of orders Attach = orders.attach
order_of orders Len = orders.len
order_of orders Read = orders.read
order_of orders Write = orders.write
order_of orders Sync = orders.sync
order_of orders Bind = orders.bind
order_of orders Next = orders.next
order_of orders Send = orders.send

abbrev pub with_order : Orders → Call → Option ℕ → Orders
with_order orders Attach to = record orders { attach = to }
with_order orders Len to = record orders { len = to }
with_order orders Read to = record orders { read = to }
with_order orders Write to = record orders { write = to }
with_order orders Sync to = record orders { sync = to }
with_order orders Bind to = record orders { bind = to }
with_order orders Next to = record orders { next = to }
with_order orders Send to = record orders { send = to }

-- the next call of its kind is to be refused
abbrev pub is_due : Option ℕ → Bool
is_due None = false
is_due (Some zero) = true
is_due (Some (suc n)) = false

-- an order after one call of its kind: the one that is refused uses it up
abbrev pub after_one : Option ℕ → Option ℕ
after_one None = None
after_one (Some zero) = None
after_one (Some (suc n)) = Some n

abbrev pub is_disk_call : Call → Bool
is_disk_call Attach = true
is_disk_call Len = true
is_disk_call Read = true
is_disk_call Write = true
is_disk_call Sync = true
is_disk_call Bind = false
is_disk_call Next = false
is_disk_call Send = false

abbrev pub is_link_call : Call → Bool
is_link_call call = not (is_disk_call call)
