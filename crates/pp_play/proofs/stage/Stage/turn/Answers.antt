use Rattle.std.proofs.Common.{◌≡◌, ◌<◌, Bool, Some, List, length, sym, ◌∙◌, ap, subst}
use Rattle.std.proofs.lemmas.List.{length-set}
use Rattle.std.specs.Prelude.{drop, reverse, slice_get}
use Rattle.pp_outside.specs.MemoryLink.{in_order}
use Rattle.pp_world.specs.Move.{Make}
use Rattle.pp_world.specs.Schedule.{Turn}
use Rattle.pp_world.specs.World.{Queued}
use Rattle.pp_mail.specs.Mail.{with_queue}
use Rattle.pp_actor.specs.Actor.{ActorState}
use Rattle.pp_play.specs.declared.stage.Stage.TheInside.{Inside}
use Rattle.pp_play.specs.Stage.{StageState, MovesAs, mail_after}
use Rattle.pp_play.specs.contracts.stage.Stage.{the_view}
use Rattle.pp_play.proofs.Stages.{ok_then}
use Rattle.pp_play.proofs.Turned.{behind, heard_within, stands, turn_off, turn_on, turns_none}
use Rattle.pp_play.proofs.stage.Stage.turn.Goals as goal
use Rattle.pp_play.proofs.stage.Stage.turn.Goals.{then-not-is_deaf, else-not-is_deaf}

pub returns-in_default : goal.returns-in_default
returns-in_default c =
    let was : slice_get c.args.self.now.actors c.args.peer ≡ Some c.index-actor.result.now =
    subst (λ (s : StageState). slice_get s.actors c.args.peer ≡ Some c.index-actor.result.now) c.self.view_is
    (stands (the_view c.self.inside).actors c.from.result c.args.peer c.index-actor.result.now c.from.ensures
    (subst (λ (s : StageState). c.args.peer < length s.actors) (sym c.self.view_is) c.requires) c.index-actor.ensures) in
    turns_none c.args.peer c.index-actor.result.now c.args.self.now was c.in_default.ensures.none

pub returns-in-Some-link : goal.returns-in-Some-link
returns-in-Some-link c =
    let old : StageState = c.args.self.now in
    let mid : StageState = c.hear.new.self in
    let from_is : c.from.result ≡ c.args.peer = c.from.ensures in
    let was : slice_get old.actors c.args.peer ≡ Some c.index-actor.result.now =
    subst (λ (s : StageState). slice_get s.actors c.args.peer ≡ Some c.index-actor.result.now) c.self.view_is
    (stands (the_view c.self.inside).actors c.from.result c.args.peer c.index-actor.result.now c.from.ensures
    (subst (λ (s : StageState). c.args.peer < length s.actors) (sym c.self.view_is) c.requires) c.index-actor.ensures) in
    let waits : the_view c.if-not-is_deaf.self-inside ≡ behind c.hear.new.self c.args.peer c.is_deaf-is_deaf.result =
    elim c.if-not-is_deaf.branch [
      | then-not-is_deaf w ↦
          ap the_view w.self-inside-is ∙ ap (λ (mail : List (List Queued)). record (the_view c.self-2.inside) { mail = mail }) w.lose.ensures
          ∙ ap (λ (s : StageState). record s { mail = with_queue c.args.peer (drop 1) s.mail }) c.self-2.view_is
          ∙ sym (ap (λ (b : Bool). behind c.hear.new.self c.args.peer b) w.if-not-is_deaf.true)
      | else-not-is_deaf w ↦
          ap the_view w.self-inside-is ∙ c.self-2.view_is ∙ sym (ap (λ (b : Bool). behind c.hear.new.self c.args.peer b) w.if-not-is_deaf.false)
    ] in
    let behind_actors : (the_view c.if-not-is_deaf.self-inside).actors ≡ mid.actors = ap (λ (s : StageState). s.actors) waits in
    let within : c.args.peer < length mid.actors = heard_within c.args.peer old mid c.in_ok-hear.ensures c.requires in
    let is : slice_get mid.actors c.args.peer ≡ Some c.index.result.now =
    subst (λ (l : List ActorState). slice_get l c.args.peer ≡ Some c.index.result.now) behind_actors
    (stands (the_view c.if-not-is_deaf.self-inside).actors c.from-2.result c.args.peer c.index.result.now c.from-2.ensures
    (subst (λ (l : List ActorState). c.args.peer < length l) (sym behind_actors) within) c.index.ensures) in
    let new : StageState = behind mid c.args.peer c.is_deaf-is_deaf.result in
    ok_then c.deliver.result (λ sent.
    subst (λ (s : StageState). MovesAs (Make (Turn c.args.peer)) old (record s { mail = c.deliver.new.mail })) (sym waits)
    (subst (λ (mail : List (List Queued)). MovesAs (Make (Turn c.args.peer)) old (record new { mail = mail }))
    (ap (λ (s : StageState). mail_after c.args.peer (reverse (drop c.marks-records.result (in_order c.in-Some-link.link.now))) s.mail) (sym waits) ∙ sym sent)
    (turn_on c.args.peer old mid c.in_ok-hear.ensures c.requires c.index-actor.result.now c.index.result.now was is c.in-Some.link.now c.in-Some.ensures.some
    c.in-Some-link.link.now c.is_deaf-is_deaf.result c.marks-records.result c.in-Some-link.ensures.some c.is_deaf-is_deaf.ensures c.marks-records.ensures)))
    c.deliver.ensures.sent

pub returns-in-None : goal.returns-in-None
returns-in-None c =
    let old : StageState = c.args.self.now in
    let mid : StageState = c.hear.new.self in
    let from_is : c.from.result ≡ c.args.peer = c.from.ensures in
    let was : slice_get old.actors c.args.peer ≡ Some c.index-actor.result.now =
    subst (λ (s : StageState). slice_get s.actors c.args.peer ≡ Some c.index-actor.result.now) c.self.view_is
    (stands (the_view c.self.inside).actors c.from.result c.args.peer c.index-actor.result.now c.from.ensures
    (subst (λ (s : StageState). c.args.peer < length s.actors) (sym c.self.view_is) c.requires) c.index-actor.ensures) in
    let waits : the_view c.if-not-is_deaf.self-inside ≡ behind c.hear.new.self c.args.peer c.is_deaf-is_deaf.result =
    elim c.if-not-is_deaf.branch [
      | then-not-is_deaf w ↦
          ap the_view w.self-inside-is ∙ ap (λ (mail : List (List Queued)). record (the_view c.self-2.inside) { mail = mail }) w.lose.ensures
          ∙ ap (λ (s : StageState). record s { mail = with_queue c.args.peer (drop 1) s.mail }) c.self-2.view_is
          ∙ sym (ap (λ (b : Bool). behind c.hear.new.self c.args.peer b) w.if-not-is_deaf.true)
      | else-not-is_deaf w ↦
          ap the_view w.self-inside-is ∙ c.self-2.view_is ∙ sym (ap (λ (b : Bool). behind c.hear.new.self c.args.peer b) w.if-not-is_deaf.false)
    ] in
    let behind_actors : (the_view c.if-not-is_deaf.self-inside).actors ≡ mid.actors = ap (λ (s : StageState). s.actors) waits in
    let within : c.args.peer < length mid.actors = heard_within c.args.peer old mid c.in_ok-hear.ensures c.requires in
    let is : slice_get mid.actors c.args.peer ≡ Some c.index.result.now =
    subst (λ (l : List ActorState). slice_get l c.args.peer ≡ Some c.index.result.now) behind_actors
    (stands (the_view c.if-not-is_deaf.self-inside).actors c.from-2.result c.args.peer c.index.result.now c.from-2.ensures
    (subst (λ (l : List ActorState). c.args.peer < length l) (sym behind_actors) within) c.index.ensures) in
    subst (MovesAs (Make (Turn c.args.peer)) old) (sym waits)
    (turn_off c.args.peer old mid c.in_ok-hear.ensures c.requires c.index-actor.result.now c.index.result.now was is c.in-Some.link.now c.in-Some.ensures.some
    c.is_deaf-is_deaf.result c.in-None.ensures.none c.is_deaf-is_deaf.ensures)

pub invariant_of-self : goal.invariant_of-self
invariant_of-self c =
    let sizes : length c.if-not-is_deaf.self-inside.mail ≡ length c.if-not-is_deaf.self-inside.actors.items = elim c.if-not-is_deaf.branch [
      | then-not-is_deaf w ↦
          ap (λ (i : Inside). length i.mail) w.self-inside-is ∙ ap (λ (m : List (List Queued)). length m) w.lose.ensures
          ∙ length-set c.self-2.inside.mail c.args.peer _ ∙ c.self-2.invariant.0 ∙ sym (ap (λ (i : Inside). length i.actors.items) w.self-inside-is)
      | else-not-is_deaf w ↦
          ap (λ (i : Inside). length i.mail) w.self-inside-is ∙ c.self-2.invariant.0 ∙ sym (ap (λ (i : Inside). length i.actors.items) w.self-inside-is)
    ] in
    let room : length c.if-not-is_deaf.self-inside.buffer.items ≡ 65536 = elim c.if-not-is_deaf.branch [
      | then-not-is_deaf w ↦ ap (λ (i : Inside). length i.buffer.items) w.self-inside-is ∙ c.self-2.invariant.1
      | else-not-is_deaf w ↦ ap (λ (i : Inside). length i.buffer.items) w.self-inside-is ∙ c.self-2.invariant.1
    ] in
    (c.deliver.ensures.count ∙ sizes, room)
