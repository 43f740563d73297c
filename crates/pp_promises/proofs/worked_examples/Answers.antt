use Rattle.pp_promises.proofs.Examples.{name_examples, book_examples}
use Rattle.pp_promises.proofs.worked_examples.Goals as goal

pub returns-clause-names : goal.returns-clause-names
returns-clause-names c = name_examples

pub returns-clause-books : goal.returns-clause-books
returns-clause-books c = book_examples
