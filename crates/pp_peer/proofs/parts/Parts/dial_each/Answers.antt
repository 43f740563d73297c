use Rattle.std.proofs.Common.{[], get_or, arith}
use Rattle.std.proofs.lemmas.List.{get_or_default}
use Rattle.pp_outside.specs.declared.link.Address.TheVariants.{V4}
use Rattle.pp_peer.specs.declared.dialling.Dial.{Dial}
use Rattle.pp_peer.specs.declared.dialling.DialState.TheVariants.{New}
use Rattle.pp_peer.proofs.Dialled.{up_to_none, up_to_more, up_to_all}
use Rattle.pp_peer.proofs.parts.Parts.dial_each.Goals as goal

pub loop-dial-init : goal.loop-dial-init
loop-dial-init g c = up_to_none _ _

pub loop-dial-preserved : goal.loop-dial-preserved
loop-dial-preserved g c =
    let none : Dial = record { address = V4 [] 0; state = New } in
    let dial = get_or c.loop-dial.dials c.loop-dial.dial-index none in
    let within = c.loop-dial-test.true in
    let same = c.loop-dial.auto.dials in
    up_to_more c.loop-dial.dial-index _ c.loop-dial.dials dial c.dial_due-dial.result _ _ _ (omega (arith, within, same))
    (get_or_default c.loop-dial.dials c.loop-dial.dial-index none dial (omega (arith, within, same)))
    c.loop-dial.invariant c.dial_due-dial.ensures

pub returns : goal.returns
returns g c = up_to_all c.loop-dial.dial-index _ _ _ _ c.loop-dial-test.false c.loop-dial.invariant
