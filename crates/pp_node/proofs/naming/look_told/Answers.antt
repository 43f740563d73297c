use Rattle.std.proofs.Common.{Err, ◌∙◌, ap}
use Rattle.pp_node.proofs.ByName.{shaped_found, changed_found, unread_found, short_found}
use Rattle.pp_node.proofs.naming.look_told.Goals as goal

pub returns-in-Ok-clause-found : goal.returns-in-Ok-clause-found
returns-in-Ok-clause-found g c name tells =
    shaped_found name c.args.descriptor (g.D.Disk.state c.args.disk.now) (g.D.Disk.state c.look_into.new.disk) tells c.look_into.ensures.kept
    c.look_into.new.book c.in-Ok.set c.in_shape.result c.in-Ok.ensures.found c.in-Ok.ensures.looked c.in_shape.ensures

pub returns-in-Err-NotAStore-clause-found : goal.returns-in-Err-NotAStore-clause-found
returns-in-Err-NotAStore-clause-found g c name tells = rw (c.in-Err-NotAStore.at-is, c.in-Err-NotAStore.found-is, c.in-Err-NotAStore.want-is)
    (changed_found name c.args.descriptor (g.D.Disk.state c.args.disk.now) (g.D.Disk.state c.look_into.new.disk) tells c.look_into.ensures.kept
    c.look_into.new.book c.look_into.result _ _ _ (c.in-Err-NotAStore.is ∙ ap Err c.in-Err-NotAStore.field-0-is) c.look_into.ensures.looked)

pub returns-in-Err-Disk-clause-found : goal.returns-in-Err-Disk-clause-found
returns-in-Err-Disk-clause-found g c name tells =
    unread_found name c.args.descriptor (g.D.Disk.state c.args.disk.now) (g.D.Disk.state c.look_into.new.disk) tells c.look_into.ensures.kept
    c.look_into.new.book c.look_into.result (c.in-Err-Disk.is ∙ ap Err c.in-Err-Disk.field-0-is) c.look_into.ensures.looked

pub returns-in-Err-Memory-clause-found : goal.returns-in-Err-Memory-clause-found
returns-in-Err-Memory-clause-found g c name tells =
    short_found name c.args.descriptor (g.D.Disk.state c.args.disk.now) (g.D.Disk.state c.look_into.new.disk) tells c.look_into.ensures.kept c.look_into.new.book
