use Rattle.pp_tree.proofs.Clashes.{rooted_agree, backed_is_chunk}
use Rattle.pp_tree.proofs.laws.laws_of_books.Goals as goal

pub returns-clause-agree : goal.returns-clause-agree
returns-clause-agree c = rooted_agree

pub returns-clause-backed : goal.returns-clause-backed
returns-clause-backed c = backed_is_chunk
