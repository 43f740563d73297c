use Rattle.std.proofs.Common.{◌∙◌}
use Rattle.pp_draft.proofs.Filling.{begun}
use Rattle.pp_draft.proofs.packing.begin.Goals as goal

pub returns-clause-front : goal.returns-clause-front
returns-clause-front c d = begun d c.copy_from_slice.new.self c.args.out.now c.args.channel (c.copy_from_slice.ensures.after ∙ c.to_be_bytes.ensures) c.requires
