use Rattle.std.proofs.Common.{◌≡◌, true, false, refl, sym, ◌∙◌}
use Rattle.std.proofs.lemmas.Bool.{both_ways}
use Rattle.pp_promises.specs.Batches as promises
use Rattle.pp_audit.specs.Batches.{batch_of}
use Rattle.pp_audit.proofs.BatchTests.{due_by, full_pending, same_bools, bools_same}
use Rattle.pp_audit.proofs.batches.waits.Goals as goal

pub returns-then-is_due : goal.returns-then-is_due
returns-then-is_due c =
    let old = batch_of c.args.old.now in
    let due : promises.is_due c.args.is_quiet c.args.now (promises.with_all_pending c.args.stored.now c.args.now old) ≡ true =
    due_by c.args.is_quiet c.args.now c.args.stored.now old ∙ sym c.is_due.ensures ∙ c.if-is_due.true in
    (λ t none full. absurd (both_ways _ none due), λ f. refl)

pub returns-then-is_full : goal.returns-then-is_full
returns-then-is_full c =
    let old = batch_of c.args.old.now in
    let full : promises.is_full (promises.with_all_pending c.args.stored.now c.args.now old) ≡ true =
    full_pending c.args.stored.now c.args.now old _ c.is_full.ensures ∙ c.if-is_full.true in
    (λ t none few. absurd (both_ways _ few full), λ f. refl)

pub returns : goal.returns
returns c =
    let old = batch_of c.args.old.now in
    let due : promises.is_due c.args.is_quiet c.args.now (promises.with_all_pending c.args.stored.now c.args.now old) ≡ false =
    due_by c.args.is_quiet c.args.now c.args.stored.now old ∙ sym c.is_due.ensures ∙ c.if-is_due.false in
    let full : promises.is_full (promises.with_all_pending c.args.stored.now c.args.now old) ≡ false =
    full_pending c.args.stored.now c.args.now old _ c.is_full.ensures ∙ c.if-is_full.false in
    let new = c.args.new.now.committed.now in (
      λ e none few. same_bools new old.committed (sym c.eq.ensures ∙ e),
      λ f. c.eq.ensures ∙ bools_same new old.committed (f due full),
    )
