use Rattle.std.proofs.Common.{◌≡◌, ◌∙◌, ap, refl, sym, arith, rules, length}
use Rattle.std.proofs.lemmas.List.{length-map}
use Rattle.pp_terms.specs.disk.Disk.{settled}
use Rattle.pp_terms.specs.disk.Calls.{Calls, history_of, crash_image}
use Rattle.pp_outside.specs.Steps.{did_of}
use Rattle.pp_outside.proofs.Replays.{did_push, keeps_settled, history_crashed}
use Rattle.pp_outside.proofs.Crashes.{part_placed, crash_is}
use Rattle.pp_outside.proofs.log.Log.crash.Goals as goal

pub crashed-requires : goal.crashed-requires
crashed-requires c = part_placed _ _ _ _ _ _ _ _ c.self.invariant c.deref-2.ensures.value

pub invariant_of-self-2 : goal.invariant_of-self-2
invariant_of-self-2 c =
    let durable : c.in_ok-durable.durable.items ≡ c.in_ok-image.image.items = search rules in
    let bytes : c.in_ok-bytes.bytes.items ≡ c.in_ok-image.image.items = search rules in
    let steps = c.push.new.self in
    let long : c.len-self-inside.result ≡ length steps.items = omega arith in
    keeps_settled _ _ _ _ _ _ _ _ c.self.invariant _ _ _ _ _ (did_push _ _ _ c.in_ok-push.ensures.items) refl tt
    bytes durable (long ∙ sym (length-map steps.items did_of))

pub returns-clause-ok : goal.returns-clause-ok
returns-clause-ok c =
    let made = crash_is _ _ _ _ _ _ _ _ c.self.invariant c.deref-2.ensures.value c.args.pick _ _ c.deref.ensures.value c.in_ok-image.ensures in
    history_crashed _ _ _ _ _ _ _ _ c.self.invariant _ c.self.view_is _ (did_push _ _ _ c.in_ok-push.ensures.items)
    ∙ ap (settled (history_of c.args.self.now)) made
    ∙ ap (λ (calls : Calls). settled (history_of c.args.self.now) (crash_image c.args.pick (history_of calls).epoch)) c.self.view_is
