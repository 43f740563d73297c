-- A writer that keeps lines back.
use Rattle.std.specs.Prelude.{ℕ, Option, List}
use Rattle.std.specs.Io.Buffered.{writer_contents}
use Rattle.pp_adapt.specs.declared.whole_lines.WholeLines.{WholeLines}

-- what it took, where its writer tells
abbrev pub contents_of : {W : Type 0} → (W → Option (List ℕ)) → WholeLines W → Option (List ℕ)
contents_of contents lines = writer_contents contents lines.kept
