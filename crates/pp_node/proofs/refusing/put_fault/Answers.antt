use Rattle.pp_node.proofs.refusing.put_fault.Goals as goal

pub returns-in-Form-clause-gained : goal.returns-in-Form-clause-gained
returns-in-Form-clause-gained g c = rw c.in-Form.is c.put_counted.ensures.gained

pub returns-in-Chunk-clause-gained : goal.returns-in-Chunk-clause-gained
returns-in-Chunk-clause-gained g c = rw c.in-Chunk.is c.put_counted-in-Chunk.ensures.gained

pub returns-in-Size-clause-gained : goal.returns-in-Size-clause-gained
returns-in-Size-clause-gained g c = rw c.in-Size.is c.put_counted-in-Size.ensures.gained

pub returns-in-Method-clause-gained : goal.returns-in-Method-clause-gained
returns-in-Method-clause-gained g c = rw c.in-Method.is c.put_counted-in-Method.ensures.gained
