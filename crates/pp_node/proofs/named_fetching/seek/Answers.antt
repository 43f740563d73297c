use Rattle.std.proofs.Common.{inl, refl}
use Rattle.pp_terms.specs.disk.Disk.{DiskState}
use Rattle.pp_node.proofs.NamedFetches.{empty_found}
use Rattle.pp_node.proofs.named_fetching.seek.Goals as goal

pub returns-in-Ok : goal.returns-in-Ok
returns-in-Ok g c before source a =
    c.learn.ensures before (g.L.Link.seen c.args.link.now) source a
    (record { traffic = c.bind.ensures.traffic; nexts = c.bind.ensures.nexts; later = c.bind.ensures.cause.later }) c.in-Ok.ensures.bound

pub returns-in-Err : goal.returns-in-Err
returns-in-Err g c before source a =
    let mid : DiskState = g.D.Disk.state c.args.disk.now in
    inl (record {
      status = c.report.result;
      number = refl;
      ends = rw c.report.ensures.0 (c.in-Err.ensures.cause.risen refl, c.in-Err.ensures.refused, c.report.ensures.1);
      attached = a;
      empty = empty_found c.args.search.now.words.now.store.now before mid a c.requires.attached c.requires.nothing;
      unsent = record { traffic = c.bind.ensures.traffic; nexts = c.bind.ensures.nexts; later = c.bind.ensures.cause.later };
      unread = refl;
      book = refl;
    })
