-- What a recording's text says of its answer.
use Rattle.std.proofs.Common.{◌≡◌, ℕ, Option, Some, None, List, refl, sym, ◌∙◌, ap, subst}
use Rattle.pp_terms.specs.format.Descriptor.{Descriptor}
use Rattle.pp_terms.specs.tree.Book.{LookUp}
use Rattle.pp_tree.proofs.Rootedness.{entry_inside}
use Rattle.pp_tree.specs.Book.{entry, IsPreparedFor}
use Rattle.pp_recording.specs.Recording.{Recorded, nodes_of}
use Rattle.pp_recording.specs.Sessions.{session}
use Rattle.pp_recording.specs.State.{RecordingState, recorded}
use Rattle.pp_recording.proofs.Partings.{text_determines}
use Rattle.pp_recording.proofs.Telling.{nodes_tell}
use Rattle.pp_verdict.specs.Answers.{IsAnswer, IsYes, KnowsTreeAlone, ServedAreYes}
use Rattle.pp_verdict.specs.declared.answer.Answer.{Answer}
use Rattle.pp_verdict.specs.declared.answer.Answer.TheVariants.{Yes, No}
use Rattle.pp_verdict.proofs.Ones.{fault_there}

-- look-ups that agree everywhere are one
one_look_up : (a b : LookUp) → ((k j : ℕ) → a k j ≡ b k j) → a ≡ b
one_look_up a b same = λ i k j. same k j i

-- books in memory and of a session that are listed as one agree everywhere
agrees : (d : Descriptor) (book : LookUp) (r : RecordingState) → IsPreparedFor d r.book → nodes_of d (entry r.book) ≡ nodes_of d book → KnowsTreeAlone d book
    → (k j : ℕ) → entry r.book k j ≡ book k j
agrees d book r prepared nodes alone k j = at (entry r.book k j) (book k j) refl refl
  where
    at : (o p : Option (List ℕ)) → entry r.book k j ≡ o → book k j ≡ p → entry r.book k j ≡ book k j
    at (Some x) p first second = nodes_tell d (entry r.book) book k j nodes (entry_inside d r.book k j x prepared first)
    at None (Some y) first second = nodes_tell d (entry r.book) book k j nodes (alone k j y second)
    at None None first second = first ∙ sym second

-- A recording with the text of a session, each of whose chunks was served, is answered yes.
pub served_are_yes : ServedAreYes
served_are_yes d book past r answer alone within served whole spelled is =
    yes answer (subst (λ (b : LookUp). IsAnswer d b past answer) books (subst (λ (x : Recorded). IsAnswer x.descriptor (entry r.book) x.records answer) same is))
  where
    same : recorded r ≡ session d book past
    same = text_determines (recorded r) (session d book past) whole.within.kept within.kept spelled

    nodes : nodes_of d (entry r.book) ≡ nodes_of d book
    nodes = subst (λ (e : Descriptor). nodes_of e (entry r.book) ≡ nodes_of d book) (ap (λ (x : Recorded). x.descriptor) same)
        (ap (λ (x : Recorded). x.nodes) same)

    books : entry r.book ≡ book
    books = one_look_up (entry r.book) book
        (agrees d book r (subst (λ (e : Descriptor). IsPreparedFor e r.book) (ap (λ (x : Recorded). x.descriptor) same) whole.book) nodes alone)

    yes : (a : Answer) → IsAnswer d book past a → IsYes a
    yes (Yes records chunks) told = tt
    yes (No place part) told = absurd (fault_there d book told.later told.here told.before past part told.split served told.fails)
