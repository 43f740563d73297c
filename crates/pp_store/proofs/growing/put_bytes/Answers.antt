use Rattle.std.proofs.Common.{arith, refl}
use Rattle.pp_store.proofs.Writings.{write_puts}
use Rattle.pp_store.proofs.Layering.{bytes_put}
use Rattle.pp_store.proofs.growing.put_bytes.Goals as goal

pub returns-in-Ok-clause-does : goal.returns-in-Ok-clause-does
returns-in-Ok-clause-does g c =
    (bytes_put c.args.chunk c.args.slot _ _ c.args.bytes.now _ _ _ _ _ _ c.slot_place.ensures c.gate_place.ensures refl c.in-Ok.ensures c.write_at-in-Ok.ensures).0

pub returns-in-Ok-clause-put : goal.returns-in-Ok-clause-put
returns-in-Ok-clause-put g c =
    (bytes_put c.args.chunk c.args.slot _ _ c.args.bytes.now _ _ _ _ _ _ c.slot_place.ensures c.gate_place.ensures refl c.in-Ok.ensures c.write_at-in-Ok.ensures).1

pub returns-in-Err-clause-does : goal.returns-in-Err-clause-does
returns-in-Err-clause-does g c = (write_puts _ _ _ _ _ (omega (arith, c.slot_place.ensures)) c.in-Err.ensures).does
