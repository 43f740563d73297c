use Rattle.std.proofs.Common.{refl, None}
use Rattle.pp_tree.specs.Book.{entry}
use Rattle.pp_terms.specs.tree.Claims.{latest}
use Rattle.pp_paths.proofs.SettledPeaks.{HasLast, last_claimed, claims_last, settled_wrongly, wrong_node_is, wrong_lacks_none}
use Rattle.pp_paths.proofs.settling.wrong_node.Goals as goal

pub unwrap-digest-requires : goal.unwrap-digest-requires
unwrap-digest-requires c =
    let has : HasLast c.args.chunks (entry c.args.book.now) c.last_peak-last.result =
    record { some = c.requires.some; most = c.requires.most; rooted = c.requires.rooted; last_is = c.last_peak-last.ensures } in
    let wrong = settled_wrongly c.args.chunks (entry c.args.book.now) (latest c.args.claims.now) c.last_peak-last.result has c.requires.wrong in
    last_claimed c.args.chunks (entry c.args.book.now) (latest c.args.claims.now) c.last_peak-last.result None c.latest.result
    wrong.lacks wrong.all refl c.latest.ensures.latest

pub returns-in-Reached : goal.returns-in-Reached
returns-in-Reached c =
    let has : HasLast c.args.chunks (entry c.args.book.now) c.last_peak-last.result =
    record { some = c.requires.some; most = c.requires.most; rooted = c.requires.rooted; last_is = c.last_peak-last.ensures } in
    let wrong = settled_wrongly c.args.chunks (entry c.args.book.now) (latest c.args.claims.now) c.last_peak-last.result has c.requires.wrong in
    let claims = claims_last c.args.chunks (entry c.args.book.now) (latest c.args.claims.now) c.last_peak-last.result c.unwrap-digest.result
    None c.latest.result wrong.lacks wrong.all refl c.latest.ensures.latest c.unwrap-digest.ensures in
    wrong_node_is c.args.chunks c.height.result (entry c.args.book.now) (latest c.args.claims.now) c.last_peak-last.result
    c.in-Reached.node c.unwrap-digest.result c.in-Reached.found c.in-Reached.kept c.climb_from.result claims c.height.ensures.height
    c.climb_from.ensures c.in-Reached.is

pub returns-in-Lacks : goal.returns-in-Lacks
returns-in-Lacks c =
    let has : HasLast c.args.chunks (entry c.args.book.now) c.last_peak-last.result =
    record { some = c.requires.some; most = c.requires.most; rooted = c.requires.rooted; last_is = c.last_peak-last.ensures } in
    let wrong = settled_wrongly c.args.chunks (entry c.args.book.now) (latest c.args.claims.now) c.last_peak-last.result has c.requires.wrong in
    let claims = claims_last c.args.chunks (entry c.args.book.now) (latest c.args.claims.now) c.last_peak-last.result c.unwrap-digest.result
    None c.latest.result wrong.lacks wrong.all refl c.latest.ensures.latest c.unwrap-digest.ensures in
    wrong_lacks_none c.args.chunks c.height.result (entry c.args.book.now) (latest c.args.claims.now) c.last_peak-last.result
    c.in-Lacks.node c.unwrap-digest.result c.climb_from.result claims c.height.ensures.height c.climb_from.ensures c.in-Lacks.is wrong
