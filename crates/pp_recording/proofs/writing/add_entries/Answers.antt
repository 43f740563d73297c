use Rattle.std.proofs.Common.{length}
use Rattle.pp_recording.proofs.Fillings.{lies_in}
use Rattle.pp_recording.proofs.writing.add_entries.Goals as goal

pub add_entry-requires : goal.add_entry-requires
add_entry-requires c = lies_in c.args.entries.now 0 (length c.args.bytes.now) c.loop-n.n _ c.requires c.loop-n-test.true
