use Rattle.std.proofs.Common.{ℕ, ◌%◌, ◌==◌, Bool, ◌&&◌, length, ap, sym, ◌∙◌}
use Rattle.std.specs.List.{list_all}
use Rattle.std.proofs.lemmas.Bool.{ne_eqb}
use Rattle.pp_terms.specs.format.DescriptorRead.{is_lower_hex}
use Rattle.pp_replay.proofs.Pairs.{pairs_are}
use Rattle.pp_replay.proofs.datagram.are_pairs.Goals as goal

pub returns-then-word-eq0 : goal.returns-then-word-eq0
returns-then-word-eq0 c =
    let word = c.args.word.now in
    c.are_digits.ensures ∙ sym (pairs_are word ∙ ap (λ (n : ℕ). (n == 0) && list_all is_lower_hex word) c.if-word-eq0.true)

pub returns-else-word-eq0 : goal.returns-else-word-eq0
returns-else-word-eq0 c =
    let word = c.args.word.now in
    let odd = ne_eqb (length word % 2) 0 c.if-word-eq0.false in
    odd ∙ sym (pairs_are word ∙ ap (λ (b : Bool). b && list_all is_lower_hex word) odd)
