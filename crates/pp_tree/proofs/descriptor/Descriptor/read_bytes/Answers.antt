use Rattle.pp_tree.proofs.Readings.{each_read}
use Rattle.pp_tree.proofs.descriptor.Descriptor.read_bytes.Goals as goal

pub returns-clause-each : goal.returns-clause-each
returns-clause-each c = λ d ok all e.
    each_read c.args.text.now c.from_words.result c.from_words.ensures.ok c.from_words.ensures.valid c.from_words.ensures.bytes
    c.from_words.ensures.fault d ok all e
