use Rattle.std.proofs.Common.{◌≡◌, [], ◌∷◌, length, arith}
use Rattle.std.proofs.lemmas.Bool.Decides.{nat_tests}
use Rattle.pp_pex.specs.Exchange.{is_told}
use Rattle.pp_pex.proofs.Tables.{full_stays}
use Rattle.pp_pex.proofs.table.tell.Goals as goal

pub returns-then-is_full : goal.returns-then-is_full
returns-then-is_full c =
    let full : length c.args.told.now.items ≡ 16 = grind (arith, nat_tests, c.is_full.ensures.value, c.if-is_full.true) in
    full_stays (is_told c.args.asker c.args.now c.args.contact) 16 c.args.told.now.items (c.args.contact.address ∷ []) full
