use Rattle.pp_words.proofs.WordSteps.{takes_at}
use Rattle.pp_words.proofs.slots.word.Goals as goal

pub returns-in-Some-clause-ok : goal.returns-in-Some-clause-ok
returns-in-Some-clause-ok c =
    let found = c.in-Some.ensures.lookup in
    takes_at c.args.words.now c.args.at c.in-Some.word.now c.as_str.result.now found.3.0 found.1 c.as_str.ensures.value
