use Rattle.std.proofs.Common.{Some, true, refl, sym, ◌∙◌, ap, subst}
use Rattle.pp_outside.specs.Arrivals.{Arrivals}
use Rattle.pp_outside.specs.declared.call.Call.TheVariants as calls
use Rattle.pp_stage.specs.declared.turning.Running.{Running}
use Rattle.pp_replay.specs.declared.types.Device.{Device}
use Rattle.pp_replay.specs.Views.{as_device}
use Rattle.pp_world.specs.Change.{while_running, with_failing}
use Rattle.pp_actor.specs.Actor.{ShowsActor}
use Rattle.pp_actor.proofs.Orders.{fails_read, fails_write, fails_sync, fails_send, fails_receive}
use Rattle.pp_actor.proofs.actor.order.Goals as goal

pub returns-in-Read-clause-fails : goal.returns-in-Read-clause-fails
returns-in-Read-clause-fails c d most number start lives x shows =
    subst (λ (call : Device). ShowsActor d most (record { number = number; start = start; disk = c.fail_next.new.self; lives = lives; running = Some c.args.running.now }) (while_running (with_failing (as_device call)) x))
    (sym c.in-Read.is) (fails_read d most number start c.args.disk.now c.fail_next.new.self lives c.args.running.now x c.fail_next.ensures.state shows c.fail_next.ensures.ordered
    c.fail_next.ensures.others)

pub returns-in-Write-clause-fails : goal.returns-in-Write-clause-fails
returns-in-Write-clause-fails c d most number start lives x shows =
    subst (λ (call : Device). ShowsActor d most (record { number = number; start = start; disk = c.fail_next-in-Write.new.self; lives = lives; running = Some c.args.running.now }) (while_running (with_failing (as_device call)) x))
    (sym c.in-Write.is) (fails_write d most number start c.args.disk.now c.fail_next-in-Write.new.self lives c.args.running.now x c.fail_next-in-Write.ensures.state shows c.fail_next-in-Write.ensures.ordered
    c.fail_next-in-Write.ensures.others)

pub returns-in-Sync-clause-fails : goal.returns-in-Sync-clause-fails
returns-in-Sync-clause-fails c d most number start lives x shows =
    subst (λ (call : Device). ShowsActor d most (record { number = number; start = start; disk = c.fail_next-in-Sync.new.self; lives = lives; running = Some c.args.running.now }) (while_running (with_failing (as_device call)) x))
    (sym c.in-Sync.is) (fails_sync d most number start c.args.disk.now c.fail_next-in-Sync.new.self lives c.args.running.now x c.fail_next-in-Sync.ensures.state shows c.fail_next-in-Sync.ensures.ordered
    c.fail_next-in-Sync.ensures.others)

pub returns-in-Send-clause-fails : goal.returns-in-Send-clause-fails
returns-in-Send-clause-fails c d most number start lives x shows =
    let r : Running = record { peer = c.args.running.now.peer; link = c.fail_next-in-Send.new.self; is_deaf = c.args.running.now.is_deaf } in
    subst (λ (call : Device). ShowsActor d most (record { number = number; start = start; disk = c.args.disk.now; lives = lives; running = Some r }) (while_running (with_failing (as_device call)) x))
    (sym c.in-Send.is) (fails_send d most number start c.args.disk.now lives c.args.running.now r x c.fail_next-in-Send.ensures.state c.fail_next-in-Send.ensures.events refl shows
    c.fail_next-in-Send.ensures.ordered c.fail_next-in-Send.ensures.others refl)

pub returns-in-Receive-clause-fails : goal.returns-in-Receive-clause-fails
returns-in-Receive-clause-fails c d most number start lives x shows =
    let r : Running = record { peer = c.args.running.now.peer; link = c.fail_next-in-Receive.new.self; is_deaf = true } in
    subst (λ (call : Device). ShowsActor d most (record { number = number; start = start; disk = c.args.disk.now; lives = lives; running = Some r }) (while_running (with_failing (as_device call)) x))
    (sym c.in-Receive.is) (fails_receive d most number start c.args.disk.now lives c.args.running.now r x c.fail_next-in-Receive.ensures.state c.fail_next-in-Receive.ensures.events refl shows
    c.fail_next-in-Receive.ensures.ordered c.fail_next-in-Receive.ensures.others refl)

pub returns-in-Send-clause-ready : goal.returns-in-Send-clause-ready
returns-in-Send-clause-ready c ready = record {
  idle = ap (λ (a : Arrivals). a.coming) c.fail_next-in-Send.ensures.events ∙ ready.idle;
  deaf = c.fail_next-in-Send.ensures.others calls.Next (λ e. cc) ∙ ready.deaf;
  live = ready.live;
}
