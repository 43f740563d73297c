use Rattle.std.proofs.Common.{◌-◌, length, ◌∙◌, arith}
use Rattle.pp_recorded.specs.Entries.{past, life_of, record_of}
use Rattle.pp_recorded.proofs.Pasts.{first, newest_split}
use Rattle.pp_recorded.proofs.PlainParts.{plain_newest}
use Rattle.pp_recorded.proofs.plain.is_plain_newest.Goals as goal

pub returns : goal.returns
returns c =
    let some = c.if-count-eq0.false in
    let x = newest_split c.args.entries.now (omega (arith, some)) in
    c.is_plain_by.ensures
    ∙ plain_newest c.args.descriptor.now (life_of c.args.life) (past c.args.entries.now) (first (length c.args.entries.now - 1) c.args.entries.now) (record_of x.0) x.1
