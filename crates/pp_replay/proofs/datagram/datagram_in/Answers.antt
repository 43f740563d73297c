use Rattle.std.proofs.Common.{◌<◌, length, inl, inr, sym, ◌∙◌, arith}
use Rattle.std.proofs.lemmas.Bool.{eqb-true}
use Rattle.std.proofs.lemmas.Grind.{common_steps}
use Rattle.pp_replay.proofs.Pairs.{no_pairs, no_size, datagram_read}
use Rattle.pp_replay.proofs.datagram.datagram_in.Goals as goal

pub returns-then-is_empty : goal.returns-then-is_empty
returns-then-is_empty c =
    let word = c.args.word.now in
    elim c.then-is_empty.either [
      | inl empty ↦ sym (no_size word (inl (eqb-true (length word) 0 (sym c.is_empty.ensures ∙ empty))))
      | inr (some, many) ↦ sym (no_size word (inr many))
    ]

pub returns-then-not-are_pairs : goal.returns-then-not-are_pairs
returns-then-not-are_pairs c = sym (no_pairs c.args.word.now (sym c.are_pairs.ensures ∙ c.if-not-are_pairs.true))

pub returns : goal.returns
returns c =
    let some : 0 < length c.args.word.now = grind (arith, common_steps) in
    sym (datagram_read c.args.word.now (sym c.are_pairs.ensures ∙ c.if-not-are_pairs.false) some (omega arith))
