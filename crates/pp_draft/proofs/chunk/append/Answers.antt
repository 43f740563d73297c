use Rattle.std.proofs.Common.{ap}
use Rattle.std.specs.Prelude.{is_some}
use Rattle.pp_wire.specs.Views.{message_of}
use Rattle.pp_draft.proofs.Hashes.{room_some}
use Rattle.pp_draft.proofs.chunk.append.Goals as goal

pub unwrap-requires : goal.unwrap-requires
unwrap-requires c =
    ap is_some (room_some c.args.descriptor.now (message_of c.args.message.now) c.args.out.now c.put_message.new.out c.args.at c.put_message.result c.requires.room c.put_message.ensures).1

pub returns : goal.returns
returns c = rw c.unwrap.ensures at c.put_message.ensures
