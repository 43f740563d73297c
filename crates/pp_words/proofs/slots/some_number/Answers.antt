use Rattle.std.proofs.Common.{◌≡◌, ℕ, ◌^◌, ◌<◌, ◌≤◌, List, decimal, sym, ◌∙◌, arith, rules}
use Rattle.std.proofs.lemmas.Fmt.{decimal_injective}
use Rattle.pp_words.specs.CommandLine.{ANumber}
use Rattle.pp_words.specs.Views.{texts, usage_of}
use Rattle.pp_words.proofs.WordSteps.{stop}
use Rattle.pp_words.proofs.slots.some_number.Goals as goal

-- what writes 0 writes no number from 1 on
none_written : (word text : List ℕ) (limit value n : ℕ) → limit ≤ 2 ^ 32 → text ≡ word → value ≡ 0 → text ≡ decimal value → word ≡ decimal n → 1 ≤ n → n < limit → ⊥
none_written word text limit value n bound same none written is some low =
    let value_is : value ≡ n = decimal_injective value n (omega arith) (omega arith) (sym written ∙ same ∙ is) in omega arith

pub returns-in-Some-eq0-clause-err : goal.returns-in-Some-eq0-clause-err
returns-in-Some-eq0-clause-err c = λ slots peers.
    stop (ANumber 1 c.args.limit) slots peers c.args.at (texts c.args.words.now) c.in_ok-word.word.now (usage_of c.wrong.result) c.in_ok-word.ensures.ok (
      λ (n, is, some, low). none_written c.in_ok-word.word.now c.as_bytes.result.now c.args.limit c.in-Some-eq0.field-0 n c.requires.low c.as_bytes.ensures.value c.in-Some-eq0.field-0-test
          c.in-Some-eq0.ensures.1 is some low,
      search rules,
    )
