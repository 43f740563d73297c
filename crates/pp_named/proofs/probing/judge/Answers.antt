use Rattle.std.proofs.Common.{◌∙◌, ap, get_or}
use Rattle.pp_targets.specs.Names.{name_of}
use Rattle.pp_named.proofs.Fronts.{first_other, header_told, judged}
use Rattle.pp_named.proofs.probing.judge.Goals as goal

pub returns-in-Some : goal.returns-in-Some
returns-in-Some c =
    first_other (name_of c.args.name.now) c.args.bytes.now c.header_of_name.result _ _ _ c.header_of_name.ensures c.in-Some.ensures

pub returns-in-None : goal.returns-in-None
returns-in-None c =
    judged (name_of c.args.name.now) c.args.bytes.now c.size_in.result c.with_size.result c.size_in.ensures
    (header_told (name_of c.args.name.now) c.args.bytes.now c.told-bytes c.fits-bytes
    (λ k lt fixed. c.in-None.ensures k lt fixed ∙ ap (λ xs. get_or xs k 0) c.header_of_name.ensures))
    c.with_size.ensures
