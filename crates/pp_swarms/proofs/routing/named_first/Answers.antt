use Rattle.std.proofs.Common.{drop, sym, ◌∙◌, ap, ⊎_elim}
use Rattle.pp_wire.specs.Views.{step_of}
use Rattle.pp_wire.specs.declared.message.Step.{Step}
use Rattle.pp_swarms.proofs.Routes.{identifier_at, named_by}
use Rattle.pp_swarms.proofs.routing.named_first.Goals as goal

pub returns-in-Message : goal.returns-in-Message
returns-in-Message c =
    c.identifier.ensures ∙ ap (λ (s : Step). identifier_at (step_of s)) (sym c.in-Message.is)
    ∙ named_by (drop 4 c.args.bytes.now) (step_of c.next.result) c.next.ensures.exact (λ m count e. (c.next.ensures.message m count).0 e)

pub returns-in-Cut : goal.returns-in-Cut
returns-in-Cut c =
    let named = named_by (drop 4 c.args.bytes.now) (step_of c.next.result) c.next.ensures.exact (λ m count e. (c.next.ensures.message m count).0 e) in
    ⊎_elim
    (λ cut. ap (λ (s : Step). identifier_at (step_of s)) (sym cut.1) ∙ named)
    (λ is. ap (λ (s : Step). identifier_at (step_of s)) (sym is) ∙ named)
    c.in-Cut.is
