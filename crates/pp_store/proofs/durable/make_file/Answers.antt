use Rattle.pp_terms.proofs.Knowing.{known_on}
use Rattle.pp_store.proofs.Ends.{front_keeps}
use Rattle.pp_store.proofs.Freshening.{front_sound, sound_more}
use Rattle.pp_store.proofs.durable.make_file.Goals as goal

pub returns-in-Err-clause-disk : goal.returns-in-Err-clause-disk
returns-in-Err-clause-disk g c = front_keeps _ _ _ _ c.in-Err.ensures

pub returns-in-Err-clause-sound : goal.returns-in-Err-clause-sound
returns-in-Err-clause-sound g c valid known empty =
    front_sound c.args.descriptor.now (g.D.Disk.state c.args.disk.now).history valid empty (g.D.Disk.state c.keep_front.new.disk).history (c.keep_front.ensures.leaves known)

pub returns-in-Ok-clause-sound : goal.returns-in-Ok-clause-sound
returns-in-Ok-clause-sound g c valid known empty =
    let d = c.args.descriptor.now in
    let old = g.D.Disk.state c.args.disk.now in
    let mid = g.D.Disk.state c.keep_front.new.disk in
    sound_more d old.history mid.history (g.D.Disk.state c.fill_file.new.disk).history c.keep_front.ensures.later
    (front_sound d old.history valid empty mid.history (c.keep_front.ensures.leaves known))
    (c.fill_file.ensures.sound valid (known_on old mid c.keep_front.ensures.tells c.keep_front.ensures.honest known) old.history empty (c.in-Ok.ensures.done known))
