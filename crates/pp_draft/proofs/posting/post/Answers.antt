use Rattle.std.proofs.Common.{take}
use Rattle.pp_draft.proofs.posting.post.Goals as goal

pub returns : goal.returns
returns a c = record {
  bytes = take c.pack-packed.result.end c.pack-packed.new.out;
  packs = rw (c.send.ensures.count) (c.pack-packed.ensures.packs);
  goes = c.send.ensures.sends;
}
