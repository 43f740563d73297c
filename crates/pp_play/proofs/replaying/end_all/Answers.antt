use Rattle.std.proofs.Common.{◌≡◌, List, [], ◌∷◌, ◌++◌, length, sym, ◌∙◌, ap, subst}
use Rattle.std.proofs.lemmas.Iterator.Adapters.{YieldsList-from_vec}
use Rattle.std.proofs.lemmas.Iterator.Consumers.{YieldsList-end}
use Rattle.pp_actor.specs.Actor.{ActorState}
use Rattle.pp_play.specs.Playing.{EndAs}
use Rattle.pp_play.proofs.Endings.{ends_more, ends_none, map_same}
use Rattle.pp_play.proofs.replaying.end_all.Goals as goal

pub loop-actor-init : goal.loop-actor-init
loop-actor-init c = subst (EndAs c.args.descriptor.now []) (sym c.in_ok-ends.ensures.items) (ends_none c.args.descriptor.now)

pub loop-actor-preserved : goal.loop-actor-preserved
loop-actor-preserved c =
    subst (EndAs c.args.descriptor.now (c.loop-actor.yielded ++ c.in-Some.actor ∷ [])) (sym c.in_ok-push.ensures.items)
    (ends_more c.args.descriptor.now c.loop-actor.yielded c.loop-actor.ends.items c.in-Some.actor c.in_ok-into_remains.field-0 c.in_ok-end_of.field-0
    c.loop-actor.invariant c.in_ok-into_remains.ensures.remains c.in_ok-into_remains.ensures.survives c.in_ok-into_remains.ensures.runs c.in_ok-end_of.ensures)

pub returns : goal.returns
returns c =
    let gives : c.into_iter-actor-iterator.result.rest.items ≡ c.args.actors.items = c.into_iter-actor-iterator.ensures.into_iter_gives.0 in
    let size : c.into_iter-actor-iterator.result.rest.len ≡ length c.args.actors.items =
    c.into_iter-actor-iterator.result.rest.ok.0 ∙ ap (λ (l : List ActorState). length l) gives in
    let seen = YieldsList-end (YieldsList-from_vec {s = c.into_iter-actor-iterator.result} c.args.actors.items gives size)
    c.loop-actor.yielded c.loop-actor.actor-iterator c.loop-actor.yielded_by c.next.result c.next.new.self c.in-None.is c.next.ensures.steps in
    subst (λ (l : List ActorState). EndAs c.args.descriptor.now l c.loop-actor.ends.items) (sym (map_same c.loop-actor.yielded) ∙ seen.0) c.loop-actor.invariant
