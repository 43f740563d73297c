use Rattle.std.proofs.Common.{refl, sym, ◌∙◌}
use Rattle.pp_watch.proofs.Orders.{due_if}
use Rattle.pp_stage.proofs.Taken.{turned, ready}
use Rattle.pp_stage.proofs.turning.take_turn.Goals as goal

pub wait-requires-clause-deaf : goal.wait-requires-clause-deaf
wait-requires-clause-deaf c = due_if _ _ c.requires.ready.deaf

pub returns-clause-turns : goal.returns-clause-turns
returns-clause-turns c =
    turned c.args.cue c.args.disk c.args.running _ c.wait.new.link c.wait.new.buffer c.in_ok-event.event c.in_ok-event.ensures.waited c.act-devices.ensures.acted
    (sym c.short.ensures ∙ (c.in_ok-enough.ensures).0 refl) (sym c.short-2.ensures ∙ (c.in_ok-enough-2.ensures).0 refl) refl

pub returns-clause-ready : goal.returns-clause-ready
returns-clause-ready c goes =
    ready c.args.cue c.args.disk c.args.running _ c.wait.new.link c.wait.new.buffer c.in_ok-event.event c.in_ok-event.ensures.waited c.act-devices.ensures.acted
    (sym c.short.ensures ∙ (c.in_ok-enough.ensures).0 refl) (sym c.short-2.ensures ∙ (c.in_ok-enough-2.ensures).0 refl) refl c.requires.ready.deaf (c.act-devices.ensures.live goes)

pub returns-clause-promises : goal.returns-clause-promises
returns-clause-promises c = c.act-devices.ensures.promises _ c.in_ok-event.ensures.waited.does
