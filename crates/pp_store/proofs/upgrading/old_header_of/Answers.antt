use Rattle.std.proofs.Common.{ℕ, List, set, ◌∙◌, ap}
use Rattle.pp_store.proofs.Upgrades.{old_header_is}
use Rattle.pp_store.proofs.upgrading.old_header_of.Goals as goal

pub returns : goal.returns
returns c = ap (λ (bytes : List ℕ). set bytes 7 49) c.header_of-bytes.ensures ∙ old_header_is c.args.descriptor.now
