use Rattle.std.proofs.Common.{ℕ, List, sym, ◌∙◌, ap, subst}
use Rattle.std.specs.Prelude.{replicate}
use Rattle.pp_store.specs.Imported.{imported}
use Rattle.pp_play.specs.First.{BeginAs}
use Rattle.pp_play.proofs.Firsts.{no_mail, readied, set_up}
use Rattle.pp_play.proofs.stage.Stage.new.Goals as goal

pub returns : goal.returns
returns c =
    let chunk = c.chunk.ensures in
    let described = c.in_ok-describe.ensures ∙ ap (λ (bytes : List ℕ). imported bytes c.chunk.result) c.deref.ensures.value
    ∙ ap (imported c.in_ok-content.content.items) c.chunk.ensures in
    let begun = subst (λ (n : ℕ). BeginAs (imported c.in_ok-content.content.items n) c.in_ok-content.content.items c.roles.result.now c.in_ok-actors_of.field-0.items)
    c.chunk-2.ensures (subst (λ (bytes : List ℕ). BeginAs (imported bytes c.chunk-2.result) bytes c.roles.result.now c.in_ok-actors_of.field-0.items)
    c.deref-2.ensures.value c.in_ok-actors_of.ensures) in
    readied c.args.schedule.now c.in_ok-describe.field-0 c.in_ok-content.content.items c.roles.result.now c.in_ok-actors_of.field-0.items c.in_ok-new.field-0
    c.in_ok-content.ensures described c.roles.ensures (c.in_ok-new.ensures ∙ ap (λ (n : ℕ). replicate n no_mail) c.peers.ensures) begun

pub invariant_of-result : goal.invariant_of-result
invariant_of-result c =
    let described = c.in_ok-describe.ensures ∙ ap (λ (bytes : List ℕ). imported bytes c.chunk.result) c.deref.ensures.value
    ∙ ap (imported c.in_ok-content.content.items) c.chunk.ensures in
    let begun = subst (λ (n : ℕ). BeginAs (imported c.in_ok-content.content.items n) c.in_ok-content.content.items c.roles.result.now c.in_ok-actors_of.field-0.items)
    c.chunk-2.ensures (subst (λ (bytes : List ℕ). BeginAs (imported bytes c.chunk-2.result) bytes c.roles.result.now c.in_ok-actors_of.field-0.items)
    c.deref-2.ensures.value c.in_ok-actors_of.ensures) in (
      set_up c.args.schedule.now c.in_ok-describe.field-0 c.in_ok-content.content.items c.roles.result.now c.in_ok-actors_of.field-0.items c.in_ok-new.field-0
          c.in_ok-content.ensures described c.roles.ensures (c.in_ok-new.ensures ∙ ap (λ (n : ℕ). replicate n no_mail) c.peers.ensures) begun,
      sym c.in_ok-vec.field-0.ok.0 ∙ c.in_ok-vec.ensures.len,
    )
