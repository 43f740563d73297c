use Rattle.std.proofs.Common.{inl, inr, sym, ◌∙◌, subst}
use Rattle.pp_watch.specs.Waiting.{HasExpected}
use Rattle.pp_watch.proofs.Waits.{waited_by}
use Rattle.pp_watch.proofs.waiting.wait.Goals as goal
use Rattle.pp_watch.proofs.waiting.wait.Goals.{then-not-is_deaf+in_ok-expect, else-not-is_deaf}

pub returns-clause-waited : goal.returns-clause-waited
returns-clause-waited c = waited_by c.args.is_deaf c.args.clock c.args.came c.args.link.now c.if-not-is_deaf.link c.next-event.new.self c.next-event.new.buffer
    c.next-event.result _ c.requires.idle c.requires.deaf
    (elim c.if-not-is_deaf.branch [
      | then-not-is_deaf+in_ok-expect w ↦ inl (
        w.if-not-is_deaf.true,
        subst (HasExpected c.args.clock c.args.came c.args.link.now) (sym w.link-is)
            w.in_ok-expect.ensures.ok,
      )
      | else-not-is_deaf w ↦ inr (w.if-not-is_deaf.false, w.link-is)
    ])
    (record {
      does = c.next-event.ensures.does;
      record_is = c.next-event.ensures.event;
      taken = c.next-event.ensures.taken;
      refused = c.next-event.ensures.refused;
      cause = c.next-event.ensures.cause;
      spends = c.next-event.ensures.spends;
      enough = sym c.short.ensures ∙ c.if-short.false;
    })
