use Rattle.pp_terms.specs.command.Tally.{first_lines}
use Rattle.pp_node.proofs.Lines.{said_more}
use Rattle.pp_node.proofs.counting.put_first.Goals as goal

pub returns-clause-gained : goal.returns-clause-gained
unfolding first_lines
returns-clause-gained g c =
    said_more _ _ _ _ _ _ c.in_ok-put_counted.ensures.gained
    (said_more _ _ _ _ _ _ c.in_ok-put_counted-2.ensures.gained
    (said_more _ _ _ _ _ _ c.in_ok-put_counted-3.ensures.gained
    (said_more _ _ _ _ _ _ c.in_ok-put_counted-4.ensures.gained
    (said_more _ _ _ _ _ _ c.in_ok-put_counted-5.ensures.gained
    (said_more _ _ _ _ _ _ c.in_ok-put_counted-6.ensures.gained
    (said_more _ _ _ _ _ _ c.in_ok-put_counted-7.ensures.gained
    (said_more _ _ _ _ _ _ c.in_ok-put_counted-8.ensures.gained
    (said_more _ _ _ _ _ _ c.in_ok-put_counted-9.ensures.gained
    (said_more _ _ _ _ _ _ c.in_ok-put_counted-10.ensures.gained
    (c.put_counted-11.ensures.gained))))))))))
