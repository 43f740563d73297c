use Rattle.std.proofs.Common.{◌-◌, ℕ, [], ◌∷◌, List, ◌∙◌, ap, subst}
use Rattle.pp_terms.specs.disk.Disk.{History}
use Rattle.pp_terms.specs.disk.Store.{file_size}
use Rattle.pp_terms.proofs.Knowing.{known_on}
use Rattle.pp_store.specs.Keep.{kept, DoesKeep}
use Rattle.pp_store.proofs.Freshening.{stretch_sound, header_sound, sound_more}
use Rattle.pp_store.proofs.durable.fill_file.Goals as goal

pub returns-in-Err-clause-sound : goal.returns-in-Err-clause-sound
returns-in-Err-clause-sound g c valid known begun empty at =
    stretch_sound c.args.descriptor.now begun (g.D.Disk.state c.args.disk.now) (g.D.Disk.state c.keep.new.disk) _ valid empty at
    (subst (λ (n : ℕ). DoesKeep (g.D.Disk.state c.args.disk.now) (n - 1) (0 ∷ []) c.keep.result (g.D.Disk.state c.keep.new.disk)) c.file_size.ensures.size c.keep.ensures) known

pub returns-in-Ok-clause-sound : goal.returns-in-Ok-clause-sound
returns-in-Ok-clause-sound g c valid known begun empty at =
    let d = c.args.descriptor.now in
    let old = g.D.Disk.state c.args.disk.now in
    let mid = g.D.Disk.state c.keep.new.disk in
    let new = g.D.Disk.state c.keep-in-Ok.new.disk in
    let one = subst (λ (n : ℕ). DoesKeep old (n - 1) (0 ∷ []) c.keep.result mid) c.file_size.ensures.size c.keep.ensures in
    let two = subst (λ (bytes : List ℕ). DoesKeep mid 0 bytes c.keep-in-Ok.result new) c.header_of.ensures c.keep-in-Ok.ensures in
    sound_more d old.history mid.history new.history one.later
    (stretch_sound d begun old mid c.keep.result valid empty at one known)
    (header_sound d begun mid new c.keep-in-Ok.result valid empty
    (c.in-Ok.ensures.done known ∙ ap (λ (n : ℕ). kept old.history (n - 1) (0 ∷ [])) c.file_size.ensures.size
    ∙ ap (λ (h : History). kept h (file_size d - 1) (0 ∷ [])) at) two (known_on old mid one.tells one.honest known))
