-- What is wrong with a text that isn't a descriptor's, by the fault that names it.
use Rattle.std.specs.Prelude.{ℕ, List}
use Rattle.pp_terms.specs.format.DescriptorRead.{IsFormFault, IsChunkFault, IsSizeFault, IsMethodFault}
use Rattle.pp_tree.specs.declared.descriptor.DescriptorFault.{DescriptorFault}
use Rattle.pp_tree.specs.declared.descriptor.DescriptorFault.TheVariants.{Form, Chunk, Size, Method}

abbrev pub IsFaultOf : List ℕ → DescriptorFault → Type 0
IsFaultOf text (Form at) = IsFormFault text at
IsFaultOf text (Chunk at) = IsChunkFault text at
IsFaultOf text (Size at) = IsSizeFault text at
IsFaultOf text (Method at) = IsMethodFault text at
