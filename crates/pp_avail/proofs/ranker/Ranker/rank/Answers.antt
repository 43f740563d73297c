use Rattle.pp_avail.proofs.ranker.Ranker.rank.Goals as goal

pub returns : goal.returns
returns g c = (c.args.self.now.follows c.args.i c.args.copies c.requires.chunk c.requires.seats).1 c.ask.result c.ask.ensures
