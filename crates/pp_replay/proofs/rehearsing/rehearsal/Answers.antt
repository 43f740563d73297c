use Rattle.std.proofs.Common.{◌∙◌, ap}
use Rattle.pp_world.specs.Rehearsal.{first_words, rehearsal_text}
use Rattle.pp_replay.proofs.DrawnLines.{rehearsal_text-drawn}
use Rattle.pp_replay.proofs.rehearsing.rehearsal.Goals as goal

pub returns : goal.returns
returns c =
    rw (c.in_ok-add_steps.ensures, c.in_ok-add_beginning.ensures, c.new-text.ensures.items)
    (rehearsal_text-drawn c.rehearsal_key.result 2000 c.next_word-first.result c.next_word-second.result c.from_seed-words.result
    c.next_word-first.new.self c.next_word-second.new.self c.from_seed-words.ensures c.next_word-first.ensures
    c.next_word-second.ensures
    ∙ ap (λ key. rehearsal_text (first_words 2002 key)) c.rehearsal_key.ensures)
