use Rattle.std.proofs.Common.{◌≡◌, ◌+◌, ◌++◌, length, length-append, arith}
use Rattle.pp_wire.proofs.Puts.{four_put}
use Rattle.pp_wire.proofs.writing.put_fields.Goals as goal

pub returns : goal.returns
returns c =
    let size : length (c.args.place.now ++ (c.args.number.now ++ c.args.tail.now)) ≡ length c.args.place.now + (length c.args.number.now + length c.args.tail.now) =
    omega (arith, length-append c.args.place.now (c.args.number.now ++ c.args.tail.now), length-append c.args.number.now c.args.tail.now) in (
      tt,
      omega (arith, size),
      omega (arith, size),
      four_put c.args.out.now c.put_bytes-end.new.out c.put_bytes-end-2.new.out c.put_bytes-end-3.new.out c.put_bytes.new.out
          c.args.at c.put_bytes-end.result c.put_bytes-end-2.result c.put_bytes-end-3.result c.args.kind
          c.args.place.now c.args.number.now c.args.tail.now
          c.put_bytes-end.ensures.after c.put_bytes-end.ensures.end c.put_bytes-end-2.ensures.after c.put_bytes-end-2.ensures.end
          c.put_bytes-end-3.ensures.after c.put_bytes-end-3.ensures.end c.put_bytes.ensures.after (omega arith),
    )
