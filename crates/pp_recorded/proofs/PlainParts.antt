-- Plain channels, by tests.
use Rattle.std.proofs.Common.{◌≡◌, ltb, Bool, true, false, cond, not, ◌&&◌, List, ◌∷◌, refl, sym, subst}
use Rattle.std.proofs.lemmas.Bool.{and_parts, and_from, not-true, not_from_false, ltb-true, lt-ltb}
use Rattle.std.specs.Prelude.{MatchBool}
use Rattle.pp_terms.specs.format.Traffic.{Record}
use Rattle.pp_terms.specs.format.Descriptor.{Descriptor}
use Rattle.pp_traffic.specs.Past.{comes_from, goes_to, some_since, some_until, is_at}
use Rattle.pp_traffic.specs.Life.{Life, greets, answers, closes_on}
use Rattle.pp_traffic.specs.Plain.{concerns, greets_once, asks_anew, first_since, none_until_first, is_timely, IsPlainAnswer, IsPlainDial}
use Rattle.pp_recorded.specs.PlainTests.{is_answer, is_dial, is_plain_by, is_plain_newest, PlainIsTested}

answer_by : (d : Descriptor) (life : Life) (past : List Record) → is_answer d life past ≡ true → IsPlainAnswer d life past
answer_by d life past e =
    let opened = is_at (greets_once d life) life.opening past in
    let replied = first_since (goes_to life.address) (answers d life) life.opening past in
    let only_one = none_until_first (goes_to life.address) (asks_anew d life) life.opening past in
    let a = and_parts (opened && replied) only_one e in
    let b = and_parts opened replied a.0 in
    record { opened = b.0; replied = b.1; only_one = a.1 }

by_answer : (d : Descriptor) (life : Life) (past : List Record) → IsPlainAnswer d life past → is_answer d life past ≡ true
by_answer d life past is =
    let opened = is_at (greets_once d life) life.opening past in
    let replied = first_since (goes_to life.address) (answers d life) life.opening past in
    let only_one = none_until_first (goes_to life.address) (asks_anew d life) life.opening past in
    and_from (opened && replied) only_one (and_from opened replied is.opened is.replied) is.only_one

dial_by : (d : Descriptor) (life : Life) (reach past : List Record) → is_dial d life reach past ≡ true → IsPlainDial d life reach past
dial_by d life reach past e =
    let a = and_parts (is_at (answers d life) life.opening past) (first_since (comes_from life.address) (greets d life) 0 reach) e in
    record { opened = a.0; replied = a.1 }

by_dial : (d : Descriptor) (life : Life) (reach past : List Record) → IsPlainDial d life reach past → is_dial d life reach past ≡ true
by_dial d life reach past is = and_from (is_at (answers d life) life.opening past) (first_since (comes_from life.address) (greets d life) 0 reach) is.opened is.replied

begins_by : (b x y : Bool) (P Q : Type 0) → (x ≡ true → P) → (y ≡ true → Q) → cond b x y ≡ true → MatchBool b P Q
begins_by true x y P Q f g e = f e
begins_by false x y P Q f g e = g e

by_begins : (b x y : Bool) (P Q : Type 0) → (P → x ≡ true) → (Q → y ≡ true) → MatchBool b P Q → cond b x y ≡ true
by_begins true x y P Q f g p = f p
by_begins false x y P Q f g q = g q

pub plain_is_tested : PlainIsTested
plain_is_tested d life reach past =
    let local = ltb 0 life.local in
    let remote = ltb 0 life.remote in
    let concerned = some_until (concerns life.address) life.opening past in
    let begun = cond life.is_dialled (is_dial d life reach past) (is_answer d life past) in
    let closed = some_since (closes_on d life) life.opening past in
    let timely = is_timely d life past in (
      λ e.
          let a = and_parts (local && remote && not concerned && begun && not closed) timely e in
          let b = and_parts (local && remote && not concerned && begun) (not closed) a.0 in
          let c = and_parts (local && remote && not concerned) begun b.0 in
          let f = and_parts (local && remote) (not concerned) c.0 in
          let g = and_parts local remote f.0 in
          record {
            local_some = ltb-true 0 life.local g.0;
            remote_some = ltb-true 0 life.remote g.1;
            fresh = not-true concerned f.1;
            begins = begins_by life.is_dialled (is_dial d life reach past) (is_answer d life past) (IsPlainDial d life reach past) (IsPlainAnswer d life past)
                (dial_by d life reach past) (answer_by d life past) c.1;
            open_still = not-true closed b.1;
            timely = a.1;
          },
      λ is.
          and_from (local && remote && not concerned && begun && not closed) timely
          (and_from (local && remote && not concerned && begun) (not closed)
          (and_from (local && remote && not concerned) begun
          (and_from (local && remote) (not concerned)
          (and_from local remote (lt-ltb 0 life.local is.local_some) (lt-ltb 0 life.remote is.remote_some)) (not_from_false concerned is.fresh))
          (by_begins life.is_dialled (is_dial d life reach past) (is_answer d life past) (IsPlainDial d life reach past) (IsPlainAnswer d life past)
          (by_dial d life reach past) (by_answer d life past) is.begins)) (not_from_false closed is.open_still)) is.timely,
    )

-- up to the newest record
pub plain_newest : (d : Descriptor) (life : Life) (past before : List Record) (r : Record) → past ≡ r ∷ before → is_plain_by d life past before ≡ is_plain_newest d life past
plain_newest d life past before r e = subst (λ (rs : List Record). is_plain_by d life rs before ≡ is_plain_newest d life rs) (sym e) refl
