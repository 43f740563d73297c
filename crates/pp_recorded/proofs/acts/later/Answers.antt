use Rattle.std.proofs.Common.{[], ◌∷◌, sym, ◌∙◌}
use Rattle.pp_terms.specs.format.Traffic.{Quiet}
use Rattle.pp_recorded.specs.Entries.{record_of}
use Rattle.pp_recorded.proofs.Actings.{at_least, now_more}
use Rattle.pp_recorded.proofs.acts.later.Goals as goal

pub returns : goal.returns
returns c = c.now_after.ensures (Quiet c.args.before ∷ []) (sym (at_least c.args.before)) ∙ now_more c.args.before (record_of c.args.entry.now)
