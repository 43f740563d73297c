use Rattle.pp_store.proofs.Steps.{not_synced, front_kept_by}
use Rattle.pp_store.proofs.durable.keep_front.Goals as goal

pub returns-in-Ok : goal.returns-in-Ok
returns-in-Ok g c =
    front_kept_by c.args.bytes.now (g.D.Disk.state c.args.disk.now) (g.D.Disk.state c.sync.new.self) (g.D.Disk.state c.keep.new.disk)
    _ c.in-Ok.ensures c.keep.result c.keep.ensures

pub returns-in-Err : goal.returns-in-Err
returns-in-Err g c = not_synced _ _ _ _ c.in-Err.ensures
