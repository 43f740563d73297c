use Rattle.std.proofs.Common.{◌+◌, ℕ, take, refl, sym, ◌∙◌, ap, subst, arith}
use Rattle.pp_terms.specs.disk.Store.{gate_place, open_gate}
use Rattle.pp_terms.specs.disk.Disk.{History, IsRefusedWrite, after_write}
use Rattle.pp_terms.proofs.Knowing.{known_on}
use Rattle.pp_store.specs.Gates.{gates_opened}
use Rattle.pp_store.proofs.Writings.{write_puts, keeps_more, does_later}
use Rattle.pp_store.proofs.GateWrites.{gates_step, gates_end, gates_between}
use Rattle.pp_store.proofs.gates.open_gates.Goals as goal

pub loop-i-preserved : goal.loop-i-preserved
loop-i-preserved g c =
    let next = c.in-Some.ensures in
    let start = g.D.Disk.state c.args.disk.now in
    let before = g.D.Disk.state c.loop-i.disk in
    let after = g.D.Disk.state c.write_at.new.self in
    let inv = c.loop-i.invariant in
    record {
      within = omega (arith, next.1);
      keeps = keeps_more start before after inv.keeps (write_puts before after _ _ _ (omega (arith, c.gate_place.ensures)) c.in-Ok.ensures).does.keeps;
      opened = λ known.
          c.in-Ok.ensures.done (known_on start before inv.keeps.tells inv.keeps.honest known)
          ∙ (λ t. after_write (inv.opened known t) ((c.gate_place.ensures ∙ ap (λ (n : ℕ). gate_place n c.in-Some.i) c.chunk.ensures.chunk) t) open_gate)
          ∙ sym (gates_step c.args.descriptor.now c.args.pending.now c.loop-i.from c.in-Some.i (c.in-Some.i + 1) start.history refl next.0 next.1 next.2 next.3);
    }

pub returns-in-Err-clause-refused : goal.returns-in-Err-clause-refused
returns-in-Err-clause-refused g c known =
    let next = c.in-Some.ensures in
    let start = g.D.Disk.state c.args.disk.now in
    let before = g.D.Disk.state c.loop-i.disk in
    let after = g.D.Disk.state c.write_at.new.self in
    let inv = c.loop-i.invariant in
    record {
      chunk = c.in-Some.i;
      among = next.2;
      refused = subst (λ (p : ℕ). IsRefusedWrite (gates_opened c.args.descriptor.now (take c.in-Some.i c.args.pending.now) start.history) p open_gate after.history) (c.gate_place.ensures ∙ ap (λ (n : ℕ). gate_place n c.in-Some.i) c.chunk.ensures.chunk)
          (subst (λ (h : History). IsRefusedWrite h c.gate_place.result open_gate after.history)
          (inv.opened known ∙ sym (gates_between c.args.descriptor.now c.args.pending.now c.loop-i.from c.in-Some.i start.history next.0 next.3))
          (c.in-Err.ensures.refused (known_on start before inv.keeps.tells inv.keeps.honest known)));
    }

pub returns-in-Err-clause-does : goal.returns-in-Err-clause-does
returns-in-Err-clause-does g c =
    does_later _ _ _ _ c.loop-i.invariant.keeps (write_puts _ _ _ _ _ (omega (arith, c.gate_place.ensures)) c.in-Err.ensures).does

pub returns-clause-done : goal.returns-clause-done
returns-clause-done g c known =
    c.loop-i.invariant.opened known ∙ sym (gates_end c.args.descriptor.now c.args.pending.now c.loop-i.from (g.D.Disk.state c.args.disk.now).history c.loop-i.invariant.within c.in_default.ensures)
