use Rattle.pp_words.specs.Views.{texts, command_of, usage_of}
use Rattle.pp_words.proofs.OneCommand.{each_command, each_wrong}
use Rattle.pp_words.proofs.reading.read_words.Goals as goal

pub returns-clause-each : goal.returns-clause-each
returns-clause-each c =
    each_command command_of usage_of (texts c.args.words.now) c.read_named.result c.read_named.ensures.ok c.read_named.ensures.err

pub returns-clause-each_err : goal.returns-clause-each_err
returns-clause-each_err c =
    each_wrong command_of usage_of (texts c.args.words.now) c.read_named.result c.read_named.ensures.ok c.read_named.ensures.err
