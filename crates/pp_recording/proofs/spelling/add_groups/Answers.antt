use Rattle.std.proofs.Common.{◌≡◌, ◌∙◌, ap, ℕ, List, ◌++◌, arith}
use Rattle.pp_recording.specs.Groups.{first_groups}
use Rattle.pp_recording.proofs.Groups.{all_groups}
use Rattle.pp_recording.proofs.spelling.add_groups.Goals as goal

pub returns : goal.returns
returns c =
    let end : c.loop-at.at ≡ 8 = omega arith in
    c.loop-at.invariant
    ∙ ap (λ (n : ℕ). c.args.text.now.items ++ first_groups c.args.bytes.now n) end
    ∙ ap (λ (groups : List ℕ). c.args.text.now.items ++ groups) (all_groups c.args.bytes.now c.told-bytes)
