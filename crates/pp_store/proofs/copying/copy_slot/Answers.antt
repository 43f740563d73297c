use Rattle.std.proofs.Common.{ℕ, ◌∙◌, ap, arith}
use Rattle.pp_terms.specs.disk.Disk.{History, written}
use Rattle.pp_store.proofs.Copies.{slot_copied}
use Rattle.pp_store.proofs.Writings.{write_puts}
use Rattle.pp_store.proofs.copying.copy_slot.Goals as goal

pub returns-in-Ok-write_at-clause-copies : goal.returns-in-Ok-write_at-clause-copies
returns-in-Ok-write_at-clause-copies g c known =
    slot_copied c.args.chunk c.args.slot c.in-Ok.count (g.S.Source.state c.args.source.now).left (g.S.Source.state c.read_slot.new.source).left
    (g.D.Disk.state c.args.disk.now).history.reads (g.D.Disk.state c.write_at.new.self).history.reads c.read_slot.new.slot
    (omega (arith, c.read_slot.auto.slot, c.told-buffer))
    (ap (λ (h : History). h.reads) (c.in-Ok-write_at.ensures.done known) ∙ ap (λ (p : ℕ). written (g.D.Disk.state c.args.disk.now).history.reads p c.read_slot.new.slot) c.slot_place.ensures)
    c.in-Ok.ensures.closed c.in-Ok.ensures.read c.in-Ok.ensures.bytes

pub returns-in-Ok-write_at-clause-behind : goal.returns-in-Ok-write_at-clause-behind
returns-in-Ok-write_at-clause-behind g c = (write_puts _ _ _ _ _ (omega (arith, c.slot_place.ensures)) c.in-Ok-write_at.ensures).does.keeps

pub returns-in-Err-write_at-clause-behind : goal.returns-in-Err-write_at-clause-behind
returns-in-Err-write_at-clause-behind g c = (write_puts _ _ _ _ _ (omega (arith, c.slot_place.ensures)) c.in-Err-write_at.ensures).does.keeps
