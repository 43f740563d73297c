use Rattle.std.proofs.Common.{◌≡◌, inl, inr, ℕ, ◌+◌, ◌*◌, ◌^◌, ◌≤◌, Some, length, drop, ◌∙◌, ap, subst, arith}
use Rattle.pp_terms.specs.format.Descriptor.{height_of}
use Rattle.pp_terms.proofs.Knowing.{known_on}
use Rattle.pp_store.specs.Old.{old_slot_size}
use Rattle.pp_store.proofs.Copies.{IsCopying, copying_first, copying_more, taken_more, told_short, copied_all, takes_both, slots_fault, slot_low, all_slots}
use Rattle.pp_store.proofs.Ends.{takes_at_most}
use Rattle.pp_store.proofs.Pieces.{slot_order}
use Rattle.pp_store.proofs.Writings.{keeps_same, keeps_more}
use Rattle.pp_store.proofs.copying.copy_slots.Goals as goal

pub slots-init : goal.slots-init
slots-init g c = record {
  keeps = keeps_same (g.D.Disk.state c.args.disk.now);
  later = omega arith;
  takes = λ content told. (0, omega arith, told);
  left = λ known told at. at ∙ ap (λ (n : ℕ). Some (drop n told)) (let z : 0 ≡ 0 * old_slot_size c.chunk-chunk.result = omega arith in z);
  copied = λ known short. copying_first c.chunk-chunk.result (g.S.Source.state c.args.source.now).left (g.D.Disk.state c.args.disk.now).history.reads short;
}

pub copy_slot-requires-clause-few : goal.copy_slot-requires-clause-few
copy_slot-requires-clause-few g c = (slot_low c.height.result c.slots.slot c.height.ensures.range c.slots-test.true).1

pub returns-in-Ok-false-clause-copied : goal.returns-in-Ok-false-clause-copied
returns-in-Ok-false-clause-copied g c known =
    let start = g.D.Disk.state c.args.disk.now in
    let before = g.D.Disk.state c.slots.disk in
    let after = g.D.Disk.state c.copy_slot.new.disk in
    let left = (g.S.Source.state c.args.source.now).left in
    let mid = (g.S.Source.state c.slots.source).left in
    let next = (g.S.Source.state c.copy_slot.new.source).left in
    let inv = c.slots.invariant in
    let one = c.in-Ok-false.ensures.copies (known_on start before inv.keeps.tells inv.keeps.honest known) in
    let so_far = inv.copied known (c.requires.short known) in
    let chunk = c.chunk-chunk.result in
    let count = c.slots.slot in
    let more = copying_more chunk count c.in-Ok-false.field-0 left mid next before.history.reads after.history.reads so_far (inv.left known) one in
    let low = (slot_low c.height.result count c.height.ensures.range c.slots-test.true).0 in
    let height = ap (λ (h : ℕ). 2 ^ h) c.height.ensures.height in
    copied_all c.args.descriptor.now left (count + 1) after.history.reads
    (subst (λ (n : ℕ). IsCopying n (count + 1) left after.history.reads) c.chunk-chunk.ensures.chunk more)
    (omega (arith, low, height))
    (inr (λ told at. subst (λ (n : ℕ). length told ≤ (count + 1) * old_slot_size n) c.chunk-chunk.ensures.chunk
    (told_short chunk count c.in-Ok-false.field-0 left mid next before.history.reads after.history.reads so_far (inv.left known) one c.in-Ok-false.field-0-test told at)))

pub returns-in-Ok-false-clause-behind : goal.returns-in-Ok-false-clause-behind
returns-in-Ok-false-clause-behind g c = keeps_more _ _ _ c.slots.invariant.keeps c.in-Ok-false.ensures.behind

pub returns-in-Ok-false-clause-takes : goal.returns-in-Ok-false-clause-takes
returns-in-Ok-false-clause-takes g c =
    let low = (slot_low c.height.result c.slots.slot c.height.ensures.range c.slots-test.true).0 in
    takes_both (g.S.Source.state c.args.source.now) (g.S.Source.state c.slots.source) (g.S.Source.state c.copy_slot.new.source)
    (c.slots.slot * old_slot_size c.chunk-chunk.result) (old_slot_size c.chunk-chunk.result) _
    (subst (λ (h : ℕ). c.slots.slot * old_slot_size c.chunk-chunk.result + old_slot_size c.chunk-chunk.result ≤ 2 ^ h * old_slot_size c.args.descriptor.now.chunk) c.height.ensures.height
    (subst (λ (n : ℕ). c.slots.slot * old_slot_size c.chunk-chunk.result + old_slot_size c.chunk-chunk.result ≤ 2 ^ c.height.result * old_slot_size n) c.chunk-chunk.ensures.chunk
    (slot_order (old_slot_size c.chunk-chunk.result) c.slots.slot (2 ^ c.height.result) low)))
    c.slots.invariant.takes c.in-Ok-false.ensures.takes

pub returns-in-Ok-false-clause-source : goal.returns-in-Ok-false-clause-source
returns-in-Ok-false-clause-source g c = omega (arith, c.slots.invariant.later, c.in-Ok-false.ensures.source)

pub returns-in-Err-clause-behind : goal.returns-in-Err-clause-behind
returns-in-Err-clause-behind g c = keeps_more _ _ _ c.slots.invariant.keeps c.in-Err.ensures.behind

pub returns-in-Err-clause-fault : goal.returns-in-Err-clause-fault
returns-in-Err-clause-fault g c =
    slots_fault c.in-Err.fault _ _ _ _ _ _ c.slots.invariant.later c.slots.invariant.keeps.faults c.in-Err.ensures.fault

pub returns-in-Err-clause-takes : goal.returns-in-Err-clause-takes
returns-in-Err-clause-takes g c =
    let low = (slot_low c.height.result c.slots.slot c.height.ensures.range c.slots-test.true).0 in
    takes_both (g.S.Source.state c.args.source.now) (g.S.Source.state c.slots.source) (g.S.Source.state c.copy_slot.new.source)
    (c.slots.slot * old_slot_size c.chunk-chunk.result) (old_slot_size c.chunk-chunk.result) _
    (subst (λ (h : ℕ). c.slots.slot * old_slot_size c.chunk-chunk.result + old_slot_size c.chunk-chunk.result ≤ 2 ^ h * old_slot_size c.args.descriptor.now.chunk) c.height.ensures.height
    (subst (λ (n : ℕ). c.slots.slot * old_slot_size c.chunk-chunk.result + old_slot_size c.chunk-chunk.result ≤ 2 ^ c.height.result * old_slot_size n) c.chunk-chunk.ensures.chunk
    (slot_order (old_slot_size c.chunk-chunk.result) c.slots.slot (2 ^ c.height.result) low)))
    c.slots.invariant.takes c.in-Err.ensures.takes

pub returns-in-Err-clause-source : goal.returns-in-Err-clause-source
returns-in-Err-clause-source g c = omega (arith, c.slots.invariant.later, c.in-Err.ensures.source)

pub slots-preserved : goal.slots-preserved
slots-preserved g c =
    let start = g.D.Disk.state c.args.disk.now in
    let before = g.D.Disk.state c.slots.disk in
    let after = g.D.Disk.state c.copy_slot.new.disk in
    let left = (g.S.Source.state c.args.source.now).left in
    let mid = (g.S.Source.state c.slots.source).left in
    let next = (g.S.Source.state c.copy_slot.new.source).left in
    let chunk = c.chunk-chunk.result in
    let count = c.slots.slot in
    let inv = c.slots.invariant in
    record {
      keeps = keeps_more _ _ _ inv.keeps c.in-Ok-true.ensures.behind;
      later = omega (arith, inv.later, c.in-Ok-true.ensures.source);
      takes = takes_both (g.S.Source.state c.args.source.now) (g.S.Source.state c.slots.source) (g.S.Source.state c.copy_slot.new.source)
          (count * old_slot_size chunk) (old_slot_size chunk) ((count + 1) * old_slot_size chunk)
          (omega arith) inv.takes c.in-Ok-true.ensures.takes;
      left = λ known told at.
          let one = c.in-Ok-true.ensures.copies (known_on start before inv.keeps.tells inv.keeps.honest known) in
          taken_more chunk count c.in-Ok-true.field-0 left mid next before.history.reads after.history.reads (inv.copied known (c.requires.short known)) (inv.left known) one told at;
      copied = λ known short.
          let one = c.in-Ok-true.ensures.copies (known_on start before inv.keeps.tells inv.keeps.honest known) in
          copying_more chunk count c.in-Ok-true.field-0 left mid next before.history.reads after.history.reads (inv.copied known short) (inv.left known) one;
    }

pub returns-clause-copied : goal.returns-clause-copied
returns-clause-copied g c known =
    let all = all_slots c.height.result c.slots.slot c.height.ensures.range c.slots.auto.slot-end (omega (arith, c.slots-test.false)) in
    let whole = all ∙ ap (λ (h : ℕ). 2 ^ h) c.height.ensures.height in
    let left = (g.S.Source.state c.args.source.now).left in
    copied_all c.args.descriptor.now left c.slots.slot (g.D.Disk.state c.slots.disk).history.reads
    (subst (λ (n : ℕ). IsCopying n c.slots.slot left (g.D.Disk.state c.slots.disk).history.reads) c.chunk-chunk.ensures.chunk (c.slots.invariant.copied known (c.requires.short known)))
    (omega (arith, whole)) (inl whole)

pub returns-clause-behind : goal.returns-clause-behind
returns-clause-behind g c = c.slots.invariant.keeps

pub returns-clause-takes : goal.returns-clause-takes
returns-clause-takes g c =
    let all = all_slots c.height.result c.slots.slot c.height.ensures.range c.slots.auto.slot-end (omega (arith, c.slots-test.false)) in
    let whole = all ∙ ap (λ (h : ℕ). 2 ^ h) c.height.ensures.height in
    let same : c.slots.slot * old_slot_size c.chunk-chunk.result ≡ 2 ^ height_of c.args.descriptor.now * old_slot_size c.args.descriptor.now.chunk =
    (λ t. whole t * old_slot_size (c.chunk-chunk.ensures.chunk t)) in
    takes_at_most (g.S.Source.state c.args.source.now) (g.S.Source.state c.slots.source) (c.slots.slot * old_slot_size c.chunk-chunk.result) _ (omega (arith, same)) c.slots.invariant.takes

pub returns-clause-source : goal.returns-clause-source
returns-clause-source g c = c.slots.invariant.later
