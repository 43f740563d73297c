use Rattle.pp_store.proofs.Puttings.{no_cause}
use Rattle.pp_peer.proofs.Messages.{does_other}
use Rattle.pp_peer.proofs.parts.Parts.take.Goals as goal

pub returns-in_default : goal.returns-in_default
returns-in_default g c = record {
  keeps = (c.take_other.ensures.takes (g.D.Disk.state c.args.disk.now)).keeps;
  takes = c.take_other.ensures.takes (g.D.Disk.state c.args.disk.now);
  exact = does_other c.args.seat c.args.message.now c.args.self.now c.take_other.new.self c.in_default.not-Data c.take_other.ensures.exact;
  cause = λ live. no_cause _ _;
  dead = tt;
}
