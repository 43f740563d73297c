use Rattle.std.proofs.Common.{◌≡◌, ℕ, suc, ◌+◌, ◌-◌, ◌<◌, max, leb, Bool, cond, length, sym, ◌∙◌, ap, subst, arith}
use Rattle.std.specs.Prelude.{MatchOption}
use Rattle.pp_recorded.specs.Entries.{past, life_of}
use Rattle.pp_audit.specs.Counted.{counted}
use Rattle.pp_audit.specs.Debts.{is_left}
use Rattle.pp_audit.proofs.Countings.{counted-zero, walk_more, walk_stop, walk_done, walk_last}
use Rattle.pp_audit.proofs.DebtRuns.{left_alike}
use Rattle.pp_audit.proofs.debts.leaves_few.Goals as goal

pub runs-init : goal.runs-init
runs-init c =
    let f = is_left c.args.debt c.args.stood.now c.args.descriptor.now (past c.args.entries.now) (life_of c.args.life) in
    record { low = omega arith; same = omega (arith, counted-zero f) }

pub runs-preserved : goal.runs-preserved
runs-preserved c =
    let f = is_left c.args.debt c.args.stood.now c.args.descriptor.now (past c.args.entries.now) (life_of c.args.life) in
    let run : counted f (suc c.end_of-end.result) + c.in-Some.more ≡ c.args.limit =
    walk_more f c.runs.at c.end_of-end.result c.runs.room c.in-Some.more c.args.limit c.end_of-end.ensures.low
    (λ j le under. left_alike c.args.debt c.args.stood.now c.args.descriptor.now (past c.args.entries.now) (life_of c.args.life) c.runs.at j
    (c.end_of-end.ensures.alike j le under) (c.end_of-end.ensures.stood j le under))
    c.runs.invariant.same
    (subst (λ (b : Bool). c.in-Some.more + cond b (c.end_of-end.result - c.runs.at + 1) 0 ≡ c.runs.room) c.is_left-left.ensures c.in-Some.ensures) in
    record {
      low = omega (arith, c.end_of-end.ensures.high, c.if-end-last.false);
      same = ap (λ (n : ℕ). counted f n + c.in-Some.more) (let e : c.end_of-end.result + 1 ≡ suc c.end_of-end.result = omega arith in e) ∙ run;
    }

pub returns-in-None : goal.returns-in-None
returns-in-None c =
    let f = is_left c.args.debt c.args.stood.now c.args.descriptor.now (past c.args.entries.now) (life_of c.args.life) in
    walk_stop f c.runs.at c.end_of-end.result c.max-last.result c.runs.room c.args.limit c.end_of-end.ensures.low c.end_of-end.ensures.high
    (λ j le under. left_alike c.args.debt c.args.stood.now c.args.descriptor.now (past c.args.entries.now) (life_of c.args.life) c.runs.at j
    (c.end_of-end.ensures.alike j le under) (c.end_of-end.ensures.stood j le under))
    c.runs.invariant.same
    (subst (λ (b : Bool). c.runs.room < cond b (c.end_of-end.result - c.runs.at + 1) 0) c.is_left-left.ensures c.in-None.ensures)
    ∙ ap (λ (n : ℕ). leb (counted f (suc n)) c.args.limit) (c.max-last.ensures ∙ ap (λ (n : ℕ). max n (length c.args.stood.now)) c.top.ensures)

pub returns-then-end-last : goal.returns-then-end-last
returns-then-end-last c =
    let f = is_left c.args.debt c.args.stood.now c.args.descriptor.now (past c.args.entries.now) (life_of c.args.life) in
    let run : counted f (suc c.end_of-end.result) + c.in-Some.more ≡ c.args.limit =
    walk_more f c.runs.at c.end_of-end.result c.runs.room c.in-Some.more c.args.limit c.end_of-end.ensures.low
    (λ j le under. left_alike c.args.debt c.args.stood.now c.args.descriptor.now (past c.args.entries.now) (life_of c.args.life) c.runs.at j
    (c.end_of-end.ensures.alike j le under) (c.end_of-end.ensures.stood j le under))
    c.runs.invariant.same
    (subst (λ (b : Bool). c.in-Some.more + cond b (c.end_of-end.result - c.runs.at + 1) 0 ≡ c.runs.room) c.is_left-left.ensures c.in-Some.ensures) in
    walk_done f c.max-last.result c.in-Some.more c.args.limit
    (ap (λ (n : ℕ). counted f (suc n) + c.in-Some.more) (sym c.if-end-last.true) ∙ run)
    ∙ ap (λ (n : ℕ). leb (counted f (suc n)) c.args.limit) (c.max-last.ensures ∙ ap (λ (n : ℕ). max n (length c.args.stood.now)) c.top.ensures)

pub returns : goal.returns
returns c =
    let f = is_left c.args.debt c.args.stood.now c.args.descriptor.now (past c.args.entries.now) (life_of c.args.life) in
    c.is_some.ensures
    ∙ walk_last f c.runs.at c.max-last.result c.runs.room c.args.limit c.room_after-2.result (omega (arith, c.runs.invariant.low, c.runs-test.false)) c.runs.invariant.same
    (subst (λ (b : Bool). MatchOption c.room_after-2.result (c.runs.room < cond b (c.runs.at - c.runs.at + 1) 0) (λ more. more + cond b (c.runs.at - c.runs.at + 1) 0 ≡ c.runs.room))
    c.is_left-left-2.ensures c.room_after-2.ensures)
    ∙ ap (λ (n : ℕ). leb (counted f (suc n)) c.args.limit) (c.max-last.ensures ∙ ap (λ (n : ℕ). max n (length c.args.stood.now)) c.top.ensures)
