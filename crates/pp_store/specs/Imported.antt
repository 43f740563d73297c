-- The descriptor of a content that is imported.
use Rattle.std.specs.Prelude.{ℕ, List}
use Rattle.pp_terms.specs.format.Descriptor as terms
use Rattle.pp_terms.specs.format.Descriptor.{Descriptor, descriptor_of}

-- its messages name chunks by ranges of 32-bit numbers
abbrev pub imported : List ℕ → ℕ → Descriptor
imported content chunk = descriptor_of content chunk terms.Range32
