use Rattle.pp_words.specs.CommandLine.{commands}
use Rattle.pp_words.specs.Views.{texts}
use Rattle.pp_words.proofs.OneCommand.{none_named, no_name}
use Rattle.pp_words.proofs.reading.read_named.Goals as goal

pub returns-in_default-clause-err : goal.returns-in_default-clause-err
returns-in_default-clause-err c =
    let name = c.in_ok-word.field-0.now in
    let is_not = c.in_default in
    no_name (texts c.args.words.now) name _ commands c.in_ok-word.ensures.ok
    (none_named name is_not.not-import is_not.not-seed is_not.not-fetch is_not.not-check is_not.not-export is_not.not-upgrade is_not.not-replay is_not.not-rehearse is_not.not-play is_not.not-record is_not.not-audit)
