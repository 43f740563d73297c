use Rattle.pp_terms.proofs.Examples.{seven-chunks, seven-bytes, heights, peaks_of_seven, full_nodes_of_seven, last_half_is_empty, inner_node_is_empty, root_of_seven, root_of_abc, slot, pair_places, text_of_abc, header_of_abc, abc_is_held, abc_is_not_held, abc_is_found, abd_is_found, sizes}
use Rattle.pp_terms.proofs.ClaimExamples.{claim_examples}
use Rattle.pp_terms.proofs.ReportExamples.{report_examples}
use Rattle.pp_terms.proofs.worked_examples.Goals as goal

pub returns-clause-tree : goal.returns-clause-tree
returns-clause-tree c = record {
  seven_chunks = seven-chunks;
  seven_bytes = seven-bytes;
  heights = heights;
  peaks_of_seven = peaks_of_seven;
  full_nodes_of_seven = full_nodes_of_seven;
  last_half_is_empty = last_half_is_empty;
  inner_node_is_empty = inner_node_is_empty;
  root_of_seven = root_of_seven;
  root_of_abc = root_of_abc;
}

pub returns-clause-store : goal.returns-clause-store
returns-clause-store c = record {
  slot = slot;
  pair_places = pair_places;
  text_of_abc = text_of_abc;
  header_of_abc = header_of_abc;
  abc_is_held = abc_is_held;
  abc_is_not_held = abc_is_not_held;
  abc_is_found = abc_is_found;
  abd_is_found = abd_is_found;
  sizes = sizes;
}

pub returns-clause-claims : goal.returns-clause-claims
returns-clause-claims c = claim_examples

pub returns-clause-report : goal.returns-clause-report
returns-clause-report c = report_examples
