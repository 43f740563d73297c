-- Channels that are open, by tests.
use Rattle.std.proofs.Common.{ltb, not, ◌&&◌, ◌||◌}
use Rattle.std.proofs.lemmas.Bool.{and_parts, and_from, not-true, not_from_false, ltb-true, lt-ltb}
use Rattle.pp_traffic.specs.Past.{some_since, is_at}
use Rattle.pp_traffic.specs.Life.{greets, answers, is_closed}
use Rattle.pp_recorded.specs.Tests.{LivesAreTested}

pub lives_are_tested : LivesAreTested
lives_are_tested d life past =
    let local = ltb 0 life.local in
    let remote = ltb 0 life.remote in
    let greeted = some_since (greets d life) life.opening past in
    let answered = some_since (answers d life) life.opening past in
    let opened = is_at (λ r. greets d life r || answers d life r) life.opening past in
    let closed = is_closed d life past in (
      λ e.
          let a = and_parts (local && remote && greeted && answered && opened) (not closed) e in
          let b = and_parts (local && remote && greeted && answered) opened a.0 in
          let c = and_parts (local && remote && greeted) answered b.0 in
          let f = and_parts (local && remote) greeted c.0 in
          let g = and_parts local remote f.0 in
          record {
            local_some = ltb-true 0 life.local g.0;
            remote_some = ltb-true 0 life.remote g.1;
            greeted = f.1;
            answered = c.1;
            opened = b.1;
            open_still = not-true closed a.1;
          },
      λ is.
          and_from (local && remote && greeted && answered && opened) (not closed)
          (and_from (local && remote && greeted && answered) opened
          (and_from (local && remote && greeted) answered
          (and_from (local && remote) greeted
          (and_from local remote (lt-ltb 0 life.local is.local_some) (lt-ltb 0 life.remote is.remote_some)) is.greeted) is.answered) is.opened)
          (not_from_false closed is.open_still),
    )
