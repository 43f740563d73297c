use Rattle.std.proofs.Common.{◌≡◌, true, false, refl, sym, ◌∙◌, ap, subst}
use Rattle.pp_terms.specs.command.Stream.{SourceState}
use Rattle.pp_outside.specs.MemoryDisk as disks
use Rattle.pp_outside.specs.Whole.{reads_are_image}
use Rattle.pp_outside.specs.declared.memory_disk.MemoryDisk.{MemoryDisk}
use Rattle.pp_store.specs.Imported.{imported}
use Rattle.pp_stage.specs.Filling.{HasStore}
use Rattle.pp_stage.proofs.Fills.{stored}
use Rattle.pp_stage.proofs.filling.fill_watched.Goals as goal
use Rattle.pp_stage.proofs.filling.fill_watched.Goals.{then-imported, else-imported}

pub returns-clause-store : goal.returns-clause-store
returns-clause-store g c done = elim c.if-imported.branch [
  | then-imported w ↦
      subst (λ (m : MemoryDisk). HasStore (imported c.args.content.now c.args.chunk) c.args.content.now (disks.state_of m).history)
      (sym w.disk-is ∙ sym c.into_inner.ensures.is)
      (stored c.args.chunk c.args.content.now _ _ _ (disks.state_of c.import.new.disk) (disks.state_of w.sync.new.self) c.import.result w.sync.result
      c.import.ensures.answer (ap (λ (s : SourceState). s.left) c.new.ensures.state) refl refl (sym c.is_ok-imported.ensures.value ∙ w.if-imported.true)
      w.sync.ensures.does (sym w.is_ok-is_done.ensures.value ∙ sym w.is_done-is ∙ done) (reads_are_image c.import.new.disk.log))
  | else-imported w ↦ (let never : true ≡ false = sym done ∙ w.is_done-is ∙ w.if-imported.false in cc)
]
