-- The fields of a descriptor as the descriptor that they make, and back.
use Rattle.pp_terms.specs.format.Descriptor as terms
use Rattle.pp_tree.specs.Method.{method_of, method_from}
use Rattle.pp_tree.specs.declared.descriptor.Descriptor.TheInside.{Inside}

abbrev pub descriptor_from : Inside → terms.Descriptor
descriptor_from d = record { root = d.root; chunk = d.chunk; size = d.size; method = method_of d.method }

abbrev pub fields_from : terms.Descriptor → Inside
fields_from d = record { root = d.root; chunk = d.chunk; size = d.size; method = method_from d.method }
