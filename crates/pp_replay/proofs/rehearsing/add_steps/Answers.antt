use Rattle.std.proofs.Common.{◌∙◌, ap, sym, ◌++◌, arith}
use Rattle.pp_replay.proofs.DrawnLines.{drawn_lines-more, drawn_lines-none}
use Rattle.pp_replay.proofs.rehearsing.add_steps.Goals as goal

pub loop-preserved : goal.loop-preserved
loop-preserved c =
    drawn_lines-more c.loop.text.items c.add_word.new.text.items c.loop.counter c.args.count c.next_word.result
    c.loop.words c.next_word.new.self (omega arith) c.next_word.ensures c.in_ok-add_word.ensures
    ∙ c.loop.invariant

pub returns : goal.returns
returns c =
    c.in_ok-add_rounds.ensures
    ∙ ap (λ last. c.loop.text.items ++ last) (sym (drawn_lines-none c.loop.counter c.args.count c.loop.words (omega arith)))
    ∙ c.loop.invariant
