use Rattle.pp_core.proofs.Keeping.{limited_stands}
use Rattle.pp_core.proofs.peer.Peer.want_below.Goals as goal

pub returns-clause-stands : goal.returns-clause-stands
returns-clause-stands c = rw (← c.self.view_is) (λ b most past s. limited_stands b most c.args.limit c.self.inside.parts c.want_below.new.fetching past c.want_below.ensures s)
