use Rattle.std.proofs.Common.{◌≡◌, ◌<◌, ◌≤◌, refl, arith}
use Rattle.std.proofs.lemmas.Bool.{ltb-true}
use Rattle.pp_traffic.specs.Turns.{events}
use Rattle.pp_recorded.specs.Entries.{past}
use Rattle.pp_audit.proofs.TallyCounts.{events_counted, none_refused, some_refused, risen_of, few_of}
use Rattle.pp_audit.proofs.tallies.refused_some.Goals as goal

pub returns-then-events-taken : goal.returns-then-events-taken
returns-then-events-taken c =
    let before = past c.args.entries.now in
    let n = c.number_of-events.result in
    let counted : n ≡ events before = events_counted before n c.number_of-events.ensures.count in (
      λ t. none_refused c.args.taken c.args.before c.args.after n before counted c.if-events-taken.true,
      λ s. refl,
    )

pub returns-then-events-taken-2 : goal.returns-then-events-taken-2
returns-then-events-taken-2 c =
    let before = past c.args.entries.now in
    let n = c.number_of-events.result in
    let counted : n ≡ events before = events_counted before n c.number_of-events.ensures.count in (
      λ e. some_refused c.args.taken c.args.before c.args.after n before counted c.if-events-taken-2.true (c.has_risen.ensures.0 e),
      λ s. c.has_risen.ensures.1 (risen_of c.args.taken c.args.before c.args.after n before counted c.if-events-taken.false s),
    )

pub returns-else-events-taken-2 : goal.returns-else-events-taken-2
returns-else-events-taken-2 c =
    let before = past c.args.entries.now in
    let n = c.number_of-events.result in
    let counted : n ≡ events before = events_counted before n c.number_of-events.ensures.count in
    let other = c.if-events-taken.false in
    let none = c.if-events-taken-2.false in (
      λ e. absurd (let lt : n < c.args.taken = ltb-true n c.args.taken e in omega (arith, none, lt)),
      λ s. absurd (let few : n ≤ c.args.taken = few_of c.args.taken c.args.before c.args.after n before counted s in
          let same : n ≡ c.args.taken = omega (arith, few, none) in other same),
    )
