use Rattle.std.proofs.Common.{rules}
use Rattle.pp_words.specs.CommandLine.{AnAddress}
use Rattle.pp_words.specs.Views.{texts, usage_of}
use Rattle.pp_words.proofs.WordSteps.{stop, no_address}
use Rattle.pp_words.proofs.slots.address.Goals as goal

pub returns-in-None-clause-err : goal.returns-in-None-clause-err
returns-in-None-clause-err c = λ slots peers.
    stop AnAddress slots peers c.args.at (texts c.args.words.now) c.in_ok-word.word.now (usage_of c.wrong.result) c.in_ok-word.ensures.ok
    (no_address c.in_ok-word.word.now c.as_bytes.result.now c.as_bytes.ensures.value c.in-None.ensures.each, search rules)
