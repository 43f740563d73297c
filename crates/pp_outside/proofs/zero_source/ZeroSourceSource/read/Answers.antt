use Rattle.std.proofs.Common.{rules, ◌≡◌, ℕ, List, drop, replicate, arith}
use Rattle.std.proofs.lemmas.List.{length-take, length-drop, length-append}
use Rattle.pp_outside.proofs.Zeros.{gives_zeros}
use Rattle.pp_outside.proofs.zero_source.ZeroSourceSource.read.Goals as goal

pub returns-clause-does : goal.returns-clause-does
returns-clause-does c =
    let n : ℕ = c.min-count.result in
    let filled : List ℕ = c.fill.new.self in
    let rest : List ℕ = drop n c.args.into.now in
    let full : filled ≡ replicate n 0 = search rules in
    let taken = length-take n c.args.into.now in
    let left = length-drop n c.args.into.now in
    record {
      within = omega (arith, taken, left, c.fill.ensures.len, c.min-count.ensures, length-append filled rest);
      given = gives_zeros c.args.self.now.left n filled rest (omega (arith, taken, left, c.fill.ensures.len, c.min-count.ensures)) full;
      refused = search rules;
      cause = search rules;
    }
