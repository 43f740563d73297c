use Rattle.pp_traffic.proofs.Examples.{turn_examples, count_examples, window_examples, claimed_examples, keep_examples}
use Rattle.pp_traffic.proofs.worked_examples.Goals as goal

pub returns-clause-turns : goal.returns-clause-turns
returns-clause-turns c = turn_examples

pub returns-clause-counts : goal.returns-clause-counts
returns-clause-counts c = count_examples

pub returns-clause-windows : goal.returns-clause-windows
returns-clause-windows c = window_examples

pub returns-clause-claims : goal.returns-clause-claims
returns-clause-claims c = claimed_examples

pub returns-clause-keeping : goal.returns-clause-keeping
returns-clause-keeping c = keep_examples
