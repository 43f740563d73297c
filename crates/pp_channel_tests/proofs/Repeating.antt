-- One note many times.
use Rattle.std.proofs.Common.{ℕ, zero, suc}
use Rattle.std.specs.Prelude.{replicate}
use Rattle.std.specs.List.{AllByRecursion}
use Rattle.pp_terms.specs.format.Descriptor.{Descriptor}
use Rattle.pp_draft.specs.declared.note.Note.{Note}
use Rattle.pp_draft.specs.Notes.{IsInside}
use Rattle.pp_desk.specs.Steps.{IsPlain}

pub same_plain : (count : ℕ) (note : Note) → IsPlain note → AllByRecursion IsPlain (replicate count note)
same_plain zero note plain = tt
same_plain (suc count) note plain = (plain, same_plain count note plain)

pub same_inside : (d : Descriptor) (count : ℕ) (note : Note) → IsInside d note → AllByRecursion (IsInside d) (replicate count note)
same_inside d zero note inside = tt
same_inside d (suc count) note inside = (inside, same_inside d count note inside)
