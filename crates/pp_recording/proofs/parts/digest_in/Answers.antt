use Rattle.std.proofs.Common.{arith}
use Rattle.pp_recording.proofs.LineFaults.{encoded_digits, encoded_length}
use Rattle.pp_recording.proofs.parts.digest_in.Goals as goal
use Rattle.pp_recording.proofs.parts.digest_in.Goals.{then-word-ne64-via-then-word-ne64, then-word-ne64-via-else-word-ne64+then-not-are_digits}

pub returns-then-word-ne64 : goal.returns-then-word-ne64
returns-then-word-ne64 c bytes size all e =
    let long = encoded_length bytes c.args.word.now e in
    let lower = encoded_digits bytes c.args.word.now all e in
    elim c.then-word-ne64.branch [
      | then-word-ne64-via-then-word-ne64 w ↦ w.if-word-ne64.true (omega (arith, long, size))
      | then-word-ne64-via-else-word-ne64+then-not-are_digits w ↦ (let told = w.are_digits.ensures in let no = w.if-not-are_digits.true in cc)
    ]
