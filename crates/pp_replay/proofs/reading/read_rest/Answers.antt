use Rattle.std.proofs.Common.{◌≡◌, ℕ, ◌+◌, List, Ok, length, map, rules, sym, ◌∙◌, ap, subst}
use Rattle.std.specs.Prelude.{IsOk}
use Rattle.std.proofs.lemmas.List.{length-map}
use Rattle.pp_world.specs.ScheduleRead.{rows_of, all_declared, steps_in}
use Rattle.pp_replay.specs.declared.types.Role.{Role}
use Rattle.pp_replay.specs.Begun.{as_begun}
use Rattle.pp_replay.specs.Left.{steps_left}
use Rattle.pp_replay.specs.Views.{as_role}
use Rattle.pp_replay.proofs.StepLines.{read_from, rest_is}
use Rattle.pp_replay.proofs.reading.read_rest.Goals as goal

pub invariant_of-result : goal.invariant_of-result
invariant_of-result c =
    let peers = c.len-peers.result in
    let left = c.read_roles-roles.result.1.now in
    let size : peers ≡ length c.read_roles-roles.result.0.items = search rules in
    record {
      few = search rules;
      steps = subst (λ (n : ℕ). IsOk (steps_in n 0 (rows_of left))) size (read_from peers (peers + 3) left c.in_ok-check_steps.ensures).1;
    }

pub returns : goal.returns
returns c =
    let peers = c.len-peers.result in
    let left = c.read_roles-roles.result.1.now in
    let roles = c.read_roles-roles.result.0.items in
    let content = as_begun c.args.content in
    let size : peers ≡ length roles = search rules in
    let all = c.in_ok-all_declared.ensures
    ∙ ap (λ (xs : List Role). all_declared (length xs) 3 (map as_role xs)) c.as_slice.ensures.value
    ∙ ap (λ (n : ℕ). all_declared n 3 (map as_role roles)) (sym size) in
    ap (λ (n : ℕ). Ok (record content { roles = map as_role roles; steps = steps_left n left })) (sym size)
    ∙ rest_is content (rows_of c.args.text.now) left (map as_role roles) peers c.read_roles-roles.ensures
    (size ∙ sym (length-map roles as_role)) all c.in_ok-peers_end.ensures c.in_ok-check_steps.ensures
