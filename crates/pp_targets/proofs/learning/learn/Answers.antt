use Rattle.std.proofs.Common.{sym, ◌∙◌}
use Rattle.pp_terms.specs.tree.Claims.{latest}
use Rattle.pp_targets.specs.Names.{name_of}
use Rattle.pp_targets.proofs.Weighing.{CanEnd, proved_by_size, size_by_proof, size_tells}
use Rattle.pp_targets.proofs.learning.learn.Goals as goal

pub returns-clause-size : goal.returns-clause-size
returns-clause-size c = λ e.
    let can : CanEnd (name_of c.args.name.now) c.args.i c.args.chunk.now =
    record { few = c.requires.few; size = c.requires.size; some = c.requires.some; most = c.requires.most } in (
      λ says. proved_by_size (name_of c.args.name.now) (latest c.args.claims.now) c.args.i c.args.chunk.now can e c.weigh.ensures.digests (sym c.weigh.ensures.learned ∙ says),
      λ is. c.weigh.ensures.learned
          ∙ size_by_proof (name_of c.args.name.now) (latest c.args.claims.now) c.args.i c.args.chunk.now can e c.bytes.ensures.len is,
    )

pub returns-clause-tells : goal.returns-clause-tells
returns-clause-tells c = λ e says.
    let can : CanEnd (name_of c.args.name.now) c.args.i c.args.chunk.now =
    record { few = c.requires.few; size = c.requires.size; some = c.requires.some; most = c.requires.most } in
    size_tells (name_of c.args.name.now) (latest c.args.claims.now) c.args.i c.args.chunk.now can e c.bytes.ensures.len
    (proved_by_size (name_of c.args.name.now) (latest c.args.claims.now) c.args.i c.args.chunk.now can e c.weigh.ensures.digests
    (sym c.weigh.ensures.learned ∙ says))
