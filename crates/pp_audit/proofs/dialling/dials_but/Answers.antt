use Rattle.std.proofs.Common.{◌≡◌, ℕ, ◌≤◌, length, map, List, ◌∙◌, sym, ap, subst}
use Rattle.std.proofs.lemmas.Bool.{leb-true, le-leb}
use Rattle.pp_terms.specs.format.Traffic.{Record}
use Rattle.pp_traffic.specs.Turns.{in_turns}
use Rattle.pp_promises.specs.LastTurn.{first_turn}
use Rattle.pp_outside.specs.Outside.{address_of}
use Rattle.pp_recorded.specs.Entries.{past}
use Rattle.pp_audit.specs.Dials.{misses}
use Rattle.pp_audit.proofs.Misses.{dials_decided}
use Rattle.pp_audit.proofs.dialling.dials_but.Goals as goal

pub returns : goal.returns
returns c =
    let d = c.args.descriptor.now in
    let xs = map address_of c.args.addresses.now in
    let first : past c.first_turn-first.result.now ≡ first_turn (in_turns d (past c.args.entries.now)) =
    c.first_turn-first.ensures ∙ ap (λ (rs : List Record). first_turn rs) c.in_turns.ensures in
    let count : c.misses.result ≡ length (misses d (first_turn (in_turns d (past c.args.entries.now))) xs) =
    c.misses.ensures ∙ ap (λ (rs : List Record). length (misses d rs xs)) first in
    let exact = dials_decided c.args.refusals d xs (past c.args.entries.now) in (
      λ e. exact.0 (subst (λ (n : ℕ). n ≤ c.args.refusals) count (leb-true c.misses.result c.args.refusals e)),
      λ but. le-leb c.misses.result c.args.refusals (subst (λ (n : ℕ). n ≤ c.args.refusals) (sym count) (exact.1 but)),
    )
