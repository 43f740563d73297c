-- The chunk addressing methods as plain data.
use Rattle.pp_terms.specs.format.Descriptor as terms
use Rattle.pp_tree.specs.declared.descriptor.Method.{Method}
use Rattle.pp_tree.specs.declared.descriptor.Method.TheVariants.{Bin32, Range32, Bin64, Range64}

abbrev pub method_of : Method → terms.Method
method_of Bin32 = terms.Bin32
method_of Range32 = terms.Range32
method_of Bin64 = terms.Bin64
method_of Range64 = terms.Range64

-- a method of the definitions, in Rust
abbrev pub method_from : terms.Method → Method
method_from terms.Bin32 = Bin32
method_from terms.Range32 = Range32
method_from terms.Bin64 = Bin64
method_from terms.Range64 = Range64
