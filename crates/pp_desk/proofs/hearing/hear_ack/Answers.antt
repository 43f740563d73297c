use Rattle.std.proofs.Common.{refl}
use Rattle.pp_desk.proofs.Heard.{part_goes, part_hears, outside_goes}
use Rattle.pp_desk.proofs.hearing.hear_ack.Goals as goal

pub returns-in-Some-clause-hears : goal.returns-in-Some-clause-hears
returns-in-Some-clause-hears c = part_hears _ _ _ _ _ _ _ c.chunks.ensures c.in-Some.ensures
    (record { quiet = refl; rest = c.heard_ack.ensures.rest; room = c.heard_ack.ensures.chunks; learns = c.heard_ack.ensures.told })

pub returns-in-Some-clause-goes : goal.returns-in-Some-clause-goes
returns-in-Some-clause-goes c = part_goes _ _ _ _ _ _ c.chunks.ensures c.in-Some.ensures (c.heard_ack.ensures.goes _)

pub returns-in-None-clause-goes : goal.returns-in-None-clause-goes
returns-in-None-clause-goes c = outside_goes c.args.now _ _ _ _ c.chunks.ensures c.in-None.ensures (λ n e. e)
