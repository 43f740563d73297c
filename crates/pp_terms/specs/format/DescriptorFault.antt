-- What is wrong with a text that isn't a descriptor's, as plain data: which fault, and the byte where it shows.
use Rattle.std.specs.Prelude.{ℕ, List, ◌++◌, codes, decimal}
use Rattle.pp_terms.specs.format.DescriptorRead.{IsFormFault, IsChunkFault, IsSizeFault, IsMethodFault}

pub data DescriptorFault : Type 0 where
  Form : (at : ℕ) → DescriptorFault
  Chunk : (at : ℕ) → DescriptorFault
  Size : (at : ℕ) → DescriptorFault
  Method : (at : ℕ) → DescriptorFault

-- the text has this fault
abbrev pub HasFault : List ℕ → DescriptorFault → Type 0
HasFault text (Form at) = IsFormFault text at
HasFault text (Chunk at) = IsChunkFault text at
HasFault text (Size at) = IsSizeFault text at
HasFault text (Method at) = IsMethodFault text at

abbrev pub fault_text : DescriptorFault → List ℕ
fault_text (Form at) = codes "form at " ++ decimal at
fault_text (Chunk at) = codes "chunk at " ++ decimal at
fault_text (Size at) = codes "size at " ++ decimal at
fault_text (Method at) = codes "method at " ++ decimal at
