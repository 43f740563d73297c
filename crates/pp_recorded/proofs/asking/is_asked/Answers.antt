use Rattle.std.proofs.Common.{List, ◌∙◌, ap}
use Rattle.pp_traffic.specs.Asking as asking
use Rattle.pp_traffic.specs.Story.{Line}
use Rattle.pp_recorded.specs.declared.standing.Standing.{Standing}
use Rattle.pp_recorded.specs.Entries.{past, life_of}
use Rattle.pp_recorded.proofs.Standings.{since_opening}
use Rattle.pp_recorded.proofs.asking.is_asked.Goals as goal

pub returns : goal.returns
returns c =
    ap (λ (s : Standing). s.found) c.standing_since.ensures
    ∙ ap (λ (lines : List Line). asking.asked c.args.chunk lines) (since_opening c.args.descriptor.now (life_of c.args.life) (past c.args.entries.now))
