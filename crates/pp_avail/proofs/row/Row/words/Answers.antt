use Rattle.std.proofs.Common.{sym, subst}
use Rattle.pp_avail.specs.Rows.{AreWordsOf}
use Rattle.pp_avail.proofs.Rows.{words_of}
use Rattle.pp_avail.proofs.row.Row.words.Goals as goal

pub returns : goal.returns
returns c = subst (λ xs. AreWordsOf c.args.self.now xs) (sym c.deref.ensures.value)
    (words_of c.self.inside.count c.self.inside.words.items c.self.inside.any.items c.self.inside.lacks.items c.args.self.now c.self.view_is c.self.invariant)
