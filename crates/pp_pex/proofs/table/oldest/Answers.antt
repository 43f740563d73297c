use Rattle.std.proofs.Common.{◌≡◌, ℕ, [], length, arith, subst}
use Rattle.pp_outside.specs.declared.link.Address.TheVariants.{V4}
use Rattle.pp_pex.proofs.Tables.{IsOldestBelow, oldest_of_all}
use Rattle.pp_pex.proofs.table.oldest.Goals as goal

pub returns : goal.returns
returns c =
    let all : c.loop-place.place ≡ length c.args.table.now = omega arith in
    oldest_of_all c.args.table.now c.loop-place.best
    (subst (λ (n : ℕ). IsOldestBelow c.args.table.now n c.loop-place.best) all c.loop-place.invariant)
    (record { address = V4 [] 0; moment = 0 })
