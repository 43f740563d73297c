use Rattle.std.proofs.Common.{◌∙◌, sym, ap, subst}
use Rattle.pp_tree.specs.Book.{entry}
use Rattle.pp_terms.specs.tree.Claims.{latest}
use Rattle.pp_paths.specs.declared.climbing.Climb.{Climb}
use Rattle.pp_paths.specs.Climb.{IsFit}
use Rattle.pp_paths.proofs.SettledPeaks.{HasLast, last_low, known_all, settled_known, adds_nothing, lacks_last, settled_missing, last_claimed, claims_last, settled_by, settled_wrong, fit_by, all_added}
use Rattle.pp_paths.proofs.Verdicts.{same_bytes}
use Rattle.pp_paths.specs.Settle.{settled_of}
use Rattle.pp_paths.proofs.settling.settle_peaks.Goals as goal

pub returns-then-is_some-clause-settled : goal.returns-then-is_some-clause-settled
returns-then-is_some-clause-settled c =
    let has : HasLast c.args.chunks (entry c.args.book.now) c.last_peak-last.result =
    record { some = c.requires.some; most = c.requires.most; rooted = c.requires.rooted; last_is = c.last_peak-last.ensures } in
    settled_known c.args.chunks (entry c.args.book.now) (latest c.args.claims.now)
    (known_all c.args.chunks (entry c.args.book.now) c.last_peak-last.result c.get.result has c.get.ensures.get
    (sym c.is_some.ensures ∙ c.if-is_some.true))

pub returns-then-is_some-clause-known : goal.returns-then-is_some-clause-known
returns-then-is_some-clause-known c known =
    let has : HasLast c.args.chunks (entry c.args.book.now) c.last_peak-last.result =
    record { some = c.requires.some; most = c.requires.most; rooted = c.requires.rooted; last_is = c.last_peak-last.ensures } in
    known_all c.args.chunks (entry c.args.book.now) c.last_peak-last.result c.get.result has c.get.ensures.get
    (sym c.is_some.ensures ∙ c.if-is_some.true)

pub returns-then-is_some-clause-added : goal.returns-then-is_some-clause-added
returns-then-is_some-clause-added c known =
    let has : HasLast c.args.chunks (entry c.args.book.now) c.last_peak-last.result =
    record { some = c.requires.some; most = c.requires.most; rooted = c.requires.rooted; last_is = c.last_peak-last.ensures } in
    adds_nothing c.args.chunks (entry c.args.book.now) (latest c.args.claims.now) c.last_peak-last.result c.get.result has
    c.get.ensures.get (sym c.is_some.ensures ∙ c.if-is_some.true)

pub returns-in-Some-clause-settled : goal.returns-in-Some-clause-settled
returns-in-Some-clause-settled c =
    let has : HasLast c.args.chunks (entry c.args.book.now) c.last_peak-last.result =
    record { some = c.requires.some; most = c.requires.most; rooted = c.requires.rooted; last_is = c.last_peak-last.ensures } in
    settled_missing c.args.chunks (entry c.args.book.now) (latest c.args.claims.now) c.last_peak-last.result c.in-Some.node
    c.first_unknown.result
    (lacks_last c.args.chunks (entry c.args.book.now) c.last_peak-last.result c.get.result has c.get.ensures.get
    (sym c.is_some.ensures ∙ c.if-is_some.false)) c.in-Some.is c.first_unknown.ensures

pub unwrap-digest-requires : goal.unwrap-digest-requires
unwrap-digest-requires c =
    let has : HasLast c.args.chunks (entry c.args.book.now) c.last_peak-last.result =
    record { some = c.requires.some; most = c.requires.most; rooted = c.requires.rooted; last_is = c.last_peak-last.ensures } in
    last_claimed c.args.chunks (entry c.args.book.now) (latest c.args.claims.now) c.last_peak-last.result c.first_unknown.result
    c.latest.result
    (lacks_last c.args.chunks (entry c.args.book.now) c.last_peak-last.result c.get.result has c.get.ensures.get
    (sym c.is_some.ensures ∙ c.if-is_some.false)) c.first_unknown.ensures c.in_default.is c.latest.ensures.latest

pub adopt_from-requires-clause-below : goal.adopt_from-requires-clause-below
adopt_from-requires-clause-below c =
    let has : HasLast c.args.chunks (entry c.args.book.now) c.last_peak-last.result =
    record { some = c.requires.some; most = c.requires.most; rooted = c.requires.rooted; last_is = c.last_peak-last.ensures } in
    last_low c.args.chunks c.height.result (entry c.args.book.now) c.last_peak-last.result has c.height.ensures.height

pub returns-in-Lacks-clause-settled : goal.returns-in-Lacks-clause-settled
returns-in-Lacks-clause-settled c =
    let has : HasLast c.args.chunks (entry c.args.book.now) c.last_peak-last.result =
    record { some = c.requires.some; most = c.requires.most; rooted = c.requires.rooted; last_is = c.last_peak-last.ensures } in
    let lacks = lacks_last c.args.chunks (entry c.args.book.now) c.last_peak-last.result c.get.result has c.get.ensures.get
    (sym c.is_some.ensures ∙ c.if-is_some.false) in
    let claims = claims_last c.args.chunks (entry c.args.book.now) (latest c.args.claims.now) c.last_peak-last.result c.unwrap-digest.result
    c.first_unknown.result c.latest.result lacks c.first_unknown.ensures c.in_default.is c.latest.ensures.latest c.unwrap-digest.ensures in
    sym (ap (λ end. settled_of end) c.in-Lacks.is)
    ∙ settled_by c.args.chunks c.height.result (entry c.args.book.now) (latest c.args.claims.now) c.last_peak-last.result
    c.unwrap-digest.result c.adopt_from.result claims c.height.ensures.height c.adopt_from.ensures.climbed

pub returns-then-eq-clause-known : goal.returns-then-eq-clause-known
returns-then-eq-clause-known c known =
    let has : HasLast c.args.chunks (entry c.args.book.now) c.last_peak-last.result =
    record { some = c.requires.some; most = c.requires.most; rooted = c.requires.rooted; last_is = c.last_peak-last.ensures } in
    let lacks = lacks_last c.args.chunks (entry c.args.book.now) c.last_peak-last.result c.get.result has c.get.ensures.get
    (sym c.is_some.ensures ∙ c.if-is_some.false) in
    let claims = claims_last c.args.chunks (entry c.args.book.now) (latest c.args.claims.now) c.last_peak-last.result c.unwrap-digest.result
    c.first_unknown.result c.latest.result lacks c.first_unknown.ensures c.in_default.is c.latest.ensures.latest c.unwrap-digest.ensures in
    let fit = fit_by c.adopt_from.result _ c.in-Reached.node c.in-Reached.found c.in-Reached.kept c.adopt_from.ensures.climbed c.in-Reached.is
    (same_bytes c.in-Reached.found c.in-Reached.kept (sym c.eq.ensures ∙ c.if-eq.true)) in
    all_added c.args.chunks c.height.result (entry c.args.book.now) (entry c.adopt_from.new.book) (latest c.args.claims.now)
    c.last_peak-last.result c.unwrap-digest.result claims c.height.ensures.height fit (c.adopt_from.ensures.added (subst (λ (end : Climb). IsFit end) (sym c.in-Reached.is)
    (same_bytes c.in-Reached.found c.in-Reached.kept (sym c.eq.ensures ∙ c.if-eq.true))))
    c.adopt_from.ensures.rooted

pub returns-then-eq-clause-before : goal.returns-then-eq-clause-before
returns-then-eq-clause-before c all =
    let has : HasLast c.args.chunks (entry c.args.book.now) c.last_peak-last.result =
    record { some = c.requires.some; most = c.requires.most; rooted = c.requires.rooted; last_is = c.last_peak-last.ensures } in
    let lacks = lacks_last c.args.chunks (entry c.args.book.now) c.last_peak-last.result c.get.result has c.get.ensures.get
    (sym c.is_some.ensures ∙ c.if-is_some.false) in
    let absent = lacks.absent_is in
    cc

pub returns-else-eq-clause-settled : goal.returns-else-eq-clause-settled
returns-else-eq-clause-settled c =
    let has : HasLast c.args.chunks (entry c.args.book.now) c.last_peak-last.result =
    record { some = c.requires.some; most = c.requires.most; rooted = c.requires.rooted; last_is = c.last_peak-last.ensures } in
    let lacks = lacks_last c.args.chunks (entry c.args.book.now) c.last_peak-last.result c.get.result has c.get.ensures.get
    (sym c.is_some.ensures ∙ c.if-is_some.false) in
    let claims = claims_last c.args.chunks (entry c.args.book.now) (latest c.args.claims.now) c.last_peak-last.result c.unwrap-digest.result
    c.first_unknown.result c.latest.result lacks c.first_unknown.ensures c.in_default.is c.latest.ensures.latest c.unwrap-digest.ensures in
    let wrong = settled_wrong c.in-Reached.node c.in-Reached.found c.in-Reached.kept (sym c.eq.ensures ∙ c.if-eq.false) in
    sym (ap (λ end. settled_of end) c.in-Reached.is ∙ wrong)
    ∙ settled_by c.args.chunks c.height.result (entry c.args.book.now) (latest c.args.claims.now) c.last_peak-last.result
    c.unwrap-digest.result c.adopt_from.result claims c.height.ensures.height c.adopt_from.ensures.climbed
