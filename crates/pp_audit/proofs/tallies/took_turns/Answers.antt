use Rattle.std.proofs.lemmas.Bool.{both_ways}
use Rattle.pp_recorded.specs.Entries.{past}
use Rattle.pp_audit.specs.Tallies.{link_of}
use Rattle.pp_audit.proofs.TallyCounts.{turns_taken, waited_of, refused_of}
use Rattle.pp_audit.proofs.tallies.took_turns.Goals as goal

pub returns-then-waited : goal.returns-then-waited
returns-then-waited c =
    let seen = link_of c.args.before in
    let seen' = link_of c.args.after in (
      λ e. turns_taken c.args.taken seen seen' (past c.args.entries.now) (c.waited.ensures.0 c.if-waited.true) (c.refused_some.ensures.0 e),
      λ s. c.refused_some.ensures.1 (refused_of c.args.taken seen seen' (past c.args.entries.now) s),
    )

pub returns-else-waited : goal.returns-else-waited
returns-else-waited c =
    let seen = link_of c.args.before in
    let seen' = link_of c.args.after in (
      λ e. absurd cc,
      λ s. absurd (both_ways _ c.if-waited.false (c.waited.ensures.1 (waited_of c.args.taken seen seen' (past c.args.entries.now) s))),
    )
