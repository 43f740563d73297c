-- What is said of an audit, and of a text that was read.
use Rattle.std.proofs.Common.{◌≡◌, inl, inr, Some, ℕ, ◌+◌, Option, List, [], ◌∷◌, ◌++◌, length, take, codes, decimal, refl, sym, ◌∙◌, ap, subst, arith}
use Rattle.std.specs.Prelude.{Result, Ok, Err, OnOk, min}
use Rattle.std.proofs.lemmas.Bool.{cases_lt}
use Rattle.std.proofs.lemmas.List.{append_assoc, take_all}
use Rattle.pp_terms.specs.command.Stream.{SourceState, SinkState, Gains}
use Rattle.pp_stream.proofs.Written.{gains_more}
use Rattle.pp_verdict.specs.Faults as parts
use Rattle.pp_verdict.specs.declared.answer.Part.{Part}
use Rattle.pp_node.specs.Auditing.{audit_yes_line, audit_no_line, recording_fault_line, AuditsText, AuditsIn}
use Rattle.pp_node.specs.Recordings.{streams}
use Rattle.pp_recording.specs.Recording.{most_text}
use Rattle.pp_node.specs.declared.status.Status.{Status}
use Rattle.pp_node.specs.declared.status.Status.TheVariants.{Done, Usage, NotAStore, Incomplete, DiskFault, LinkFault, SourceFault, SinkFault, NotEmpty, ContentSize, Schedule as NoSchedule, Memory, Damaged, AuditNo, Recording as NoRecording, NoLife, TooLarge, Shape}

-- ---- lines

two_said : {T E : Type 0} (front last : List ℕ) (old mid new : Option (List ℕ)) (result : Result T E) → Gains old front mid
    → OnOk result (Gains mid (last ++ 10 ∷ []) new) → OnOk result (Gains old ((front ++ last) ++ 10 ∷ []) new)
two_said front last old mid new (Ok x) first second =
    subst (λ (t : List ℕ). Gains old t new) (sym (append_assoc front last (10 ∷ []))) (gains_more old mid new front (last ++ 10 ∷ []) first second)
two_said front last old mid new (Err e) first second = tt

pub no_said : {T E : Type 0} (place : ℕ) (part : Part) (old mid new : Option (List ℕ)) (result : Result T E)
    → Gains old (codes "audit no record " ++ decimal place ++ codes " part ") mid → OnOk result (Gains mid (decimal (parts.number_of part) ++ 10 ∷ []) new)
    → OnOk result (Gains old (audit_no_line place part) new)
unfolding audit_no_line
no_said place part old mid new result first second =
    two_said (codes "audit no record " ++ decimal place ++ codes " part ") (decimal (parts.number_of part)) old mid new result first second

pub yes_said : {T E : Type 0} (records chunks : ℕ) (old mid new : Option (List ℕ)) (result : Result T E)
    → Gains old (codes "audit yes " ++ decimal records ++ codes " records ") mid → OnOk result (Gains mid (decimal chunks ++ codes " data\n") new)
    → OnOk result (Gains old (audit_yes_line records chunks) new)
unfolding audit_yes_line
yes_said records chunks old mid new (Ok x) first second =
    let front : List ℕ = codes "audit yes " ++ decimal records ++ codes " records " in
    subst (λ (t : List ℕ). Gains old t new)
    (sym (append_assoc front (decimal chunks) (codes " data\n")) ∙ sym (append_assoc (front ++ decimal chunks) (codes " data") (10 ∷ [])))
    (gains_more old mid new front (decimal chunks ++ codes " data\n") first second)
yes_said records chunks old mid new (Err e) first second = tt

pub line_is : (n : ℕ) → codes "recording: line " ++ decimal n ++ codes "\n" ≡ recording_fault_line n
unfolding recording_fault_line
line_is n = refl

-- ---- a text that was read

pub taken_text : (content : List ℕ) (n : ℕ) (text : List ℕ) → n ≡ min (length content) (most_text + 1) → text ≡ take n content
    → text ≡ take (most_text + 1) content
taken_text content n text is taken = elim (cases_lt (length content) (most_text + 1)) [
  | inl less ↦ (let few : n ≡ length content = omega (arith, is, less) in
      taken ∙ take_all n content (omega (arith, few)) ∙ sym (take_all (most_text + 1) content (omega (arith, less))))
  | inr not ↦ (let all : n ≡ most_text + 1 = omega (arith, is, not) in taken ∙ ap (λ (k : ℕ). take k content) all)
]

pub audits_read : (text : List ℕ) (status : Status) (source source' : SourceState) (old new : SinkState)
    → ((content : List ℕ) → source.left ≡ Some content → text ≡ take (most_text + 1) content) → AuditsText text status old new
    → AuditsIn status (streams source old) (streams source' new)
audits_read text Memory source source' old new same audits = audits
audits_read text SourceFault source source' old new same audits = absurd audits.answer
audits_read text Done source source' old new same audits = record { text = text; same = same; audits = audits }
audits_read text Usage source source' old new same audits = record { text = text; same = same; audits = audits }
audits_read text NotAStore source source' old new same audits = record { text = text; same = same; audits = audits }
audits_read text Incomplete source source' old new same audits = record { text = text; same = same; audits = audits }
audits_read text DiskFault source source' old new same audits = record { text = text; same = same; audits = audits }
audits_read text LinkFault source source' old new same audits = record { text = text; same = same; audits = audits }
audits_read text SinkFault source source' old new same audits = record { text = text; same = same; audits = audits }
audits_read text NotEmpty source source' old new same audits = record { text = text; same = same; audits = audits }
audits_read text ContentSize source source' old new same audits = record { text = text; same = same; audits = audits }
audits_read text NoSchedule source source' old new same audits = record { text = text; same = same; audits = audits }
audits_read text Damaged source source' old new same audits = record { text = text; same = same; audits = audits }
audits_read text AuditNo source source' old new same audits = record { text = text; same = same; audits = audits }
audits_read text NoRecording source source' old new same audits = record { text = text; same = same; audits = audits }
audits_read text NoLife source source' old new same audits = record { text = text; same = same; audits = audits }
audits_read text TooLarge source source' old new same audits = record { text = text; same = same; audits = audits }
audits_read text Shape source source' old new same audits = record { text = text; same = same; audits = audits }
