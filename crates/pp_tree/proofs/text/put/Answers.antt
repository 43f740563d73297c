use Rattle.std.proofs.Common.{arith}
use Rattle.std.proofs.lemmas.Slice.{drop-put_mid}
use Rattle.pp_tree.proofs.text.put.Goals as goal

pub returns-clause-back : goal.returns-clause-back
returns-clause-back c = λ k past. drop-put_mid c.args.at _ _ _ k (omega arith) (omega arith) (omega arith)
