use Rattle.std.proofs.Common.{◌≡◌, ◌∙◌, refl, sym, arith, rules, length}
use Rattle.std.proofs.lemmas.List.{length-map}
use Rattle.pp_outside.specs.Steps.{did_of}
use Rattle.pp_outside.proofs.Replays.{did_push, keeps_settled, history_synced}
use Rattle.pp_outside.proofs.log.Log.sync.Goals as goal

pub invariant_of-self-2 : goal.invariant_of-self-2
invariant_of-self-2 c =
    let copied : c.in_ok-durable.durable.items ≡ c.self.inside.bytes.items = search rules in
    let steps = c.push.new.self in
    let long : c.len-self-inside.result ≡ length steps.items = omega arith in
    keeps_settled _ _ _ _ _ _ _ _ c.self.invariant _ _ _ _ _ (did_push _ _ _ c.in_ok-push.ensures.items) refl tt
    c.self.invariant.reads_are (copied ∙ c.self.invariant.reads_are) (long ∙ sym (length-map steps.items did_of))

pub returns-clause-ok : goal.returns-clause-ok
returns-clause-ok c =
    history_synced _ _ _ _ _ _ _ _ c.self.invariant _ c.self.view_is (did_push _ _ _ c.in_ok-push.ensures.items)
