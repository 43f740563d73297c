use Rattle.std.proofs.Common.{take}
use Rattle.pp_draft.proofs.posting.post_reply.Goals as goal

pub returns : goal.returns
returns a c = record {
  bytes = take c.pack_reply-packed.result.end c.pack_reply-packed.new.out;
  packs = rw (c.send.ensures.count) (c.pack_reply-packed.ensures.packs);
  goes = c.send.ensures.sends;
}
