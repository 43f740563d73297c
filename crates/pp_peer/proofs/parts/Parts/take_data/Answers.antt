use Rattle.std.proofs.Common.{refl, [], sym, subst}
use Rattle.pp_counts.specs.declared.counts.Counts.{Counts}
use Rattle.pp_counts.specs.declared.note.Note.TheVariants as notes
use Rattle.pp_peer.specs.Taking.{KeepsCounts}
use Rattle.pp_peer.proofs.Counted.{message_counts}
use Rattle.pp_peer.proofs.Content.{ends_content}
use Rattle.pp_peer.proofs.Heard.{keeps_same, stores_none, data_takes, ok_then}
use Rattle.pp_peer.proofs.parts.Parts.take_data.Goals as goal

pub returns-then-incoming-from-clause-takes : goal.returns-then-incoming-from-clause-takes
returns-then-incoming-from-clause-takes g c = data_takes c.args.seat _ c.args.self.now c.hear_chunk.new.self _ (g.D.Disk.state c.args.disk.now) (g.D.Disk.state c.args.disk.now)
    (c.hear_chunk.ensures.heard _ _) c.hear_chunk.ensures.rest c.hear_chunk.ensures.fetches
    (ends_content c.args.seat c.args.incoming.now.chunk c.args.self.now c.hear_chunk.new.self c.hear_chunk.ensures.exact)
    (keeps_same c.hear_chunk.new.self _ (g.D.Disk.state c.args.disk.now) refl
    (subst (λ (k : Counts). KeepsCounts c.hear_chunk.new.self.counts k) (sym c.note.ensures.counts) (message_counts notes.Outside c.hear_chunk.new.self.counts tt)) (record { swarm = refl; size = refl }))
    refl refl ([], stores_none c.hear_chunk.new.self _ refl)

pub returns-clause-takes : goal.returns-clause-takes
returns-clause-takes g c = ok_then c.put.result (λ stored. data_takes c.args.seat _ c.args.self.now c.hear_chunk.new.self c.put.new.self (g.D.Disk.state c.args.disk.now) (g.D.Disk.state c.put.new.disk)
    (c.hear_chunk.ensures.heard _ _) c.hear_chunk.ensures.rest c.hear_chunk.ensures.fetches
    (ends_content c.args.seat c.args.incoming.now.chunk c.args.self.now c.hear_chunk.new.self c.hear_chunk.ensures.exact) c.put.ensures.keeps c.put.ensures.seats c.put.ensures.asked stored) c.put.ensures.stores
