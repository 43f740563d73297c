use Rattle.std.proofs.lemmas.Bool.{both_ways}
use Rattle.pp_counts.specs.Counts.{tally_of}
use Rattle.pp_recorded.specs.Entries.{past}
use Rattle.pp_audit.proofs.TallyCounts.{tallied, turns_of, datagrams_of}
use Rattle.pp_audit.proofs.tallies.is_tallied.Goals as goal

pub returns-then-counts_turns : goal.returns-then-counts_turns
returns-then-counts_turns c =
    let tally = tally_of c.args.counts.now in
    let before = past c.args.entries.now in (
      λ e. tallied tally c.args.taken before (c.counts_turns.ensures.0 c.if-counts_turns.true) (c.counts_datagrams.ensures.0 e),
      λ s. c.counts_datagrams.ensures.1 (datagrams_of tally c.args.taken before s),
    )

pub returns-else-counts_turns : goal.returns-else-counts_turns
returns-else-counts_turns c =
    let tally = tally_of c.args.counts.now in
    let before = past c.args.entries.now in (
      λ e. absurd cc,
      λ s. absurd (both_ways _ c.if-counts_turns.false (c.counts_turns.ensures.1 (turns_of tally c.args.taken before s))),
    )
