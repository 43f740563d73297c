use Rattle.std.proofs.Common.{◌∙◌, ap}
use Rattle.pp_counts.specs.declared.counts.Counts.{Counts}
use Rattle.pp_core.proofs.Keeping.{refused_stands}
use Rattle.pp_core.proofs.peer.Peer.refused.Goals as goal

pub returns-clause-stands : goal.returns-clause-stands
returns-clause-stands c = rw (← c.self.view_is) (λ b most past s. refused_stands b most c.self.inside.parts c.note-2.new.self past
    (ap (λ (k : Counts). k.datagrams) c.note-2.ensures.counts ∙ ap (λ (k : Counts). k.datagrams) c.note.ensures.counts)
    (ap (λ (k : Counts). k.short) c.note-2.ensures.counts ∙ ap (λ (k : Counts). k.short) c.note.ensures.counts)
    (ap (λ (k : Counts). k.sent) c.note-2.ensures.counts ∙ ap (λ (k : Counts). k.sent) c.note.ensures.counts) s)
