use Rattle.std.proofs.Common.{◌+◌, ◌*◌, refl}
use Rattle.pp_targets.proofs.Parts.{size_ended}
use Rattle.pp_targets.proofs.learning.ending.Goals as goal

pub unwrap-requires : goal.unwrap-requires
unwrap-requires c = c.new.ensures.ok.1 (
  c.requires.size,
  size_ended c.args.name.now.chunk c.args.i c.args.part (c.from.result * c.from-2.result + c.from-3.result) c.requires.few c.requires.some
      c.requires.most (rw (c.from.ensures, c.from-2.ensures, c.from-3.ensures) refl),
)
