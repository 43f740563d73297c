use Rattle.std.proofs.Common.{◌<◌, length, rules}
use Rattle.std.proofs.lemmas.List.{length-map}
use Rattle.pp_words.specs.Views.{texts, usage_of}
use Rattle.pp_words.proofs.WordSteps.{extra}
use Rattle.pp_words.proofs.slots.end.Goals as goal

pub returns-then-at-words-clause-err : goal.returns-then-at-words-clause-err
returns-then-at-words-clause-err c =
    let lt = c.if-at-words.true in
    let long : c.args.at < length (texts c.args.words.now) = rw length-map lt in
    extra (texts c.args.words.now) c.args.at (usage_of c.wrong.result) long (search rules)
