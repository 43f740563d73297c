use Rattle.std.proofs.Common.{◌≡◌, ◌+◌, ◌-◌, ◌<◌, ◌≤◌, ◌++◌, List, ℕ, length, take, replicate, ap, ◌∙◌, arith, rules}
use Rattle.pp_terms.specs.disk.Disk.{written}
use Rattle.pp_terms.proofs.Images.{length-written}
use Rattle.pp_outside.proofs.Written.{written_padded, unspilled}
use Rattle.pp_outside.proofs.bytes.write_over.Goals as goal
use Rattle.pp_outside.proofs.bytes.write_over.Goals.{then-len-end+in_ok-resize, else-len-end}

pub returns-clause-ok : goal.returns-clause-ok
returns-clause-ok c =
    let old = c.args.bytes.now in
    let place = c.args.place in
    let piece = c.args.piece.now in
    let joined = c.if-len-end.bytes in
    let after : c.overwrite.new.bytes ≡ written joined.items place piece = search rules in
    let long : length joined.items ≡ joined.len = omega arith in
    let room : place + length piece ≤ joined.len = elim c.if-len-end.branch [
      | then-len-end+in_ok-resize w ↦ let size : joined.len ≡ w.resize.new.self.len = ap (λ v. v.len) w.bytes-is in omega (arith, w.in_ok-resize.ensures.len)
      | else-len-end w ↦ let size : joined.len ≡ old.len = ap (λ v. v.len) w.bytes-is in omega arith
    ] in
    let same : length c.overwrite.new.bytes ≡ joined.len = ap length after ∙ length-written joined.items place piece ∙ omega (arith, room) in
    let padded : written joined.items place piece ≡ written old.items place piece =
    elim c.if-len-end.branch [
      | then-len-end+in_ok-resize w ↦
          let end = place + length piece in
          let size : old.len ≡ length old.items = omega arith in
          let short : length old.items < end = omega arith in
          let grown : joined.items ≡ take end old.items ++ replicate (end - old.len) 0 = ap (λ v. v.items) w.bytes-is ∙ w.in_ok-resize.ensures.items in
          ap (λ (l : List ℕ). written l place piece) (grown ∙ ap (λ (n : ℕ). take end old.items ++ replicate (end - n) 0) size) ∙ written_padded old.items place piece short
      | else-len-end w ↦ search rules
    ] in
    unspilled c.overwrite.new.bytes joined.items joined.len same long ∙ after ∙ padded
