-- With the lines of the words that are left the text is what it is to be.
use Rattle.std.proofs.Common.{◌≡◌, ◌-◌, ◌++◌}
use Rattle.pp_replay.specs.DrawnLines.{drawn_lines}
use Rattle.pp_replay.proofs.rehearsing.add_steps.Given as goal

abbrev pub invariant-loop : goal.invariant-loop
invariant-loop l =
    l.text.items ++ drawn_lines (l.count - l.counter) l.words ≡ l.initial.text.items ++ drawn_lines l.count l.initial.words
