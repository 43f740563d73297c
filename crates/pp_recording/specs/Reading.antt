-- What is meant by the faults of a text that is read, and by a text that is read in part.
use Rattle.std.specs.Prelude.{◌≡◌, ℕ, suc, List, ◌++◌}
use Rattle.pp_recording.specs.Recording.{front_text, AreLines, IsFirstFault}
use Rattle.pp_recording.specs.Drafts.{drafted, IsDraft}
use Rattle.pp_recording.specs.declared.draft.Draft.{Draft}
use Rattle.pp_recording.specs.declared.reading.ReadFault.{ReadFault}
use Rattle.pp_recording.specs.declared.reading.ReadFault.TheVariants.{Recording, Memory}

-- No clause says when there is no memory.
abbrev pub IsFaultOf : List ℕ → ReadFault → Type 0
IsFaultOf text (Recording line) = IsFirstFault text line
IsFaultOf text Memory = Unit {0}

-- The draft has the lines before this one, counted from 1, and the rest is left.
pub record IsReading (text : List ℕ) (d : Draft) (rest : List ℕ) (line : ℕ) : Type 0 where
  pub before : ℕ
  pub number : line ≡ suc before
  pub draft : IsDraft d
  pub split : text ≡ front_text (drafted d) ++ rest
  pub lines : AreLines before (front_text (drafted d))
