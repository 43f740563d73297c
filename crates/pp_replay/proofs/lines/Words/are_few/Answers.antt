use Rattle.std.proofs.Common.{ℕ, nat_lt, nat_le, length, ap, ◌∙◌, sym}
use Rattle.pp_replay.specs.Lines.{words_in}
use Rattle.pp_replay.proofs.RowsAndWords.{are_few_words}
use Rattle.pp_replay.proofs.lines.Words.are_few.Goals as goal

pub returns-in-Some : goal.returns-in-Some
returns-in-Some c =
    ap (λ (n : ℕ). nat_lt n 15) c.spaces.ensures ∙ are_few_words c.in-Some.line.now
    ∙ sym (ap (λ rest. nat_le (length (words_in rest)) 15) c.in-Some.is)
