use Rattle.std.proofs.Common.{sym, subst, List}
use Rattle.std.proofs.lemmas.List.{get_or_default}
use Rattle.pp_verdict.specs.Reaches.{HasSent}
use Rattle.pp_verdict.specs.declared.reaches.SentTo.{SentTo}
use Rattle.pp_verdict.proofs.Reaching.{covered_more, reached_more}
use Rattle.pp_verdict.proofs.reaches.reaches_of.Goals as goal

pub loop-life-preserved : goal.loop-life-preserved
loop-life-preserved c =
    let d = c.args.descriptor.now in
    let entries = c.args.entries.now in
    let lives = c.deref-life-items.result.now in
    let sent = subst (λ (xs : List SentTo). HasSent d entries xs) (sym c.deref.ensures.value) c.in_ok-sent.ensures in
    record {
      same = reached_more lives c.loop-life.life-index c.loop-life.reaches.items c.push.new.self.items _ c.in_ok-push.ensures.items c.loop-life.invariant.same
          c.loop-life-test.true (get_or_default lives c.loop-life.life-index _ _ c.loop-life-test.true);
      covered = covered_more d entries c.deref.result.now c.loop-life.reaches.items c.push.new.self.items _ c.in_ok-push.ensures.items
          c.loop-life.invariant.covered sent c.end_of-end.ensures;
    }
