use Rattle.std.proofs.Common.{codes, ◌∙◌}
use Rattle.pp_replay.specs.Lines.{words_left}
use Rattle.pp_replay.proofs.ContentWords.{content_words, not_different}
use Rattle.pp_replay.proofs.content.content_in.Goals as goal

pub returns : goal.returns
returns c =
    let named = not_different c.first_word.result.0.now c.as_slice.result.now (codes "content") c.ne.result c.ne.ensures c.if-ne.false
    c.as_slice.ensures in
    c.content_with.ensures
    ∙ content_words _ (words_left c.first_word.result.1) c.first_word.result.0.now c.in-Ok.chunk.now c.in-Ok.size.now c.in-Ok.shift.now
    c.first_word.ensures named c.in-Ok.ensures
