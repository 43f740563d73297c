-- What is found where one life more is looked at.
use Rattle.std.proofs.Common.{◌≡◌, ◌↔◌, ◌⊎◌, ⊎_elim, inl, inr, ℕ, ◌<◌, ◌≤◌, Bool, true, false, Option, Some, List, refl, sym, ◌∙◌, subst, arith}
use Rattle.std.proofs.lemmas.List.Elements.{Contains-push_cases}
use Rattle.pp_terms.specs.format.Traffic.{Record}
use Rattle.pp_terms.specs.format.Descriptor.{Descriptor, chunks_of}
use Rattle.pp_terms.specs.tree.Book.{LookUp}
use Rattle.pp_traffic.specs.Life.{Life}
use Rattle.pp_verdict.specs.Chunks.{SentChunk, chunk_of}
use Rattle.pp_verdict.specs.Faults.{Suits, Passes, IsNoLater}
use Rattle.pp_verdict.specs.Findings.{Case, case_of, IsIn, LiesOn, JudgesChunk, Judges, Notes}
use Rattle.pp_verdict.specs.declared.answer.Part.{Part}
use Rattle.pp_verdict.specs.declared.judgement.Judgement.{Judgement}
use Rattle.pp_verdict.specs.declared.judgement.Judgement.TheVariants as judged
use Rattle.pp_verdict.specs.Courses.{IsSentOn}
use Rattle.pp_verdict.specs.declared.findings.Finding.{Finding}
use Rattle.pp_verdict.specs.declared.findings.Finding.TheVariants.{Unseen, Passed, Failed}
use Rattle.pp_verdict.proofs.Chunks.{suits_sent, sent_suits}
use Rattle.pp_verdict.proofs.Faults.{fault_on}

some_one : (a b : SentChunk) (o : Option SentChunk) → o ≡ Some a → o ≡ Some b → a ≡ b
some_one a b o e f = cc

pub one_chunk : (c : Case) (a b : SentChunk) → IsIn a c → IsIn b c → a ≡ b
one_chunk c a b is also = some_one a b (chunk_of c.descriptor c.here) is.is also.is

-- ---- no fault

pub elsewhere_notes : (c : Case) (life : Life) (f : Finding) → (LiesOn c life → ⊥) → Notes c life f f
elsewhere_notes c life Unseen none lives finds = λ other has on. ⊎_elim
    (λ old. finds other old on)
    (λ same. none (subst (λ (l : Life). LiesOn c l) (sym same) on))
    (Contains-push_cases lives life other has)
elsewhere_notes c life Passed none lives finds = finds
elsewhere_notes c life (Failed opening local part) none lives (found, at, number, failed) = (
  found,
  at,
  number,
  record {
    on = failed.on;
    fails = failed.fails;
    none = λ other has suits. ⊎_elim
        (λ old. failed.none other old suits)
        (λ same. absurd (none (record { chunk = failed.on.chunk; is = failed.on.is; suits = subst (λ (l : Life). Suits c.descriptor c.past failed.on.chunk l) (sym same) suits })))
        (Contains-push_cases lives life other has);
    latest = λ other has suits. ⊎_elim
        (λ old. failed.latest other old suits)
        (λ same. absurd (none (record { chunk = failed.on.chunk; is = failed.on.is; suits = subst (λ (l : Life). Suits c.descriptor c.past failed.on.chunk l) (sym same) suits })))
        (Contains-push_cases lives life other has);
  },
)

pub passes_notes : (c : Case) (life : Life) (f : Finding) → Judges c life judged.Passes → Notes c life f Passed
passes_notes c life f j lives finds = (life, j.0, j.1)

-- ---- a fault

no_later_self : (a : Life) → IsNoLater a a
no_later_self a = inr (refl, omega arith)

no_later_through : (a b c : Life) → IsNoLater a b → IsNoLater b c → IsNoLater a c
no_later_through a b c (inl x) (inl y) = inl (omega (arith, x, y))
no_later_through a b c (inl x) (inr y) = inl (omega (arith, x, y.0))
no_later_through a b c (inr x) (inl y) = inl (omega (arith, x.0, y))
no_later_through a b c (inr x) (inr y) = inr (x.0 ∙ y.0, omega (arith, x.1, y.1))

pub unseen_fault : (c : Case) (life : Life) (part : Part) → Judges c life (judged.Fails part) → Notes c life Unseen (Failed life.opening life.local part)
unseen_fault c life part (on, fails) lives finds = (
  life,
  refl,
  refl,
  record {
    on = on;
    fails = fails;
    none = λ other has suits passes. ⊎_elim
        (λ old. finds other old (record { chunk = on.chunk; is = on.is; suits = suits }))
        (λ same. fault_on c.descriptor c.book c.past on.chunk life part fails (subst (λ (l : Life). Passes c.descriptor c.book c.past on.chunk l) (sym same) passes))
        (Contains-push_cases lives life other has);
    latest = λ other has suits. ⊎_elim
        (λ old. absurd (finds other old (record { chunk = on.chunk; is = on.is; suits = suits })))
        (λ same. subst (λ (l : Life). IsNoLater l life) same (no_later_self life))
        (Contains-push_cases lives life other has);
  },
)

pub passed_fault : (c : Case) (life : Life) → Notes c life Passed Passed
passed_fault c life lives finds = finds

pub later_fault : (c : Case) (life : Life) (part before : Part) (opening local : ℕ) → Judges c life (judged.Fails part)
    → (opening < life.opening) ⊎ ((opening ≡ life.opening) × (local ≤ life.local))
    → Notes c life (Failed opening local before) (Failed life.opening life.local part)
later_fault c life part before opening local (on, fails) order lives (found, at, number, failed) =
    let same_chunk : failed.on.chunk ≡ on.chunk = one_chunk c failed.on.chunk on.chunk failed.on.is on.is in
    let through : IsNoLater found life = ⊎_elim
    (λ lt. inl (omega (arith, lt, at)))
    (λ eq. inr (at ∙ eq.0, omega (arith, eq.1, number)))
    order in (
      life,
      refl,
      refl,
      record {
        on = on;
        fails = fails;
        none = λ other has suits passes. ⊎_elim
            (λ old. failed.none other old (subst (λ (s : SentChunk). Suits c.descriptor c.past s other) (sym same_chunk) suits)
            (subst (λ (s : SentChunk). Passes c.descriptor c.book c.past s other) (sym same_chunk) passes))
            (λ same. fault_on c.descriptor c.book c.past on.chunk life part fails (subst (λ (l : Life). Passes c.descriptor c.book c.past on.chunk l) (sym same) passes))
            (Contains-push_cases lives life other has);
        latest = λ other has suits. ⊎_elim
            (λ old. no_later_through other found life (failed.latest other old (subst (λ (s : SentChunk). Suits c.descriptor c.past s other) (sym same_chunk) suits)) through)
            (λ same. subst (λ (l : Life). IsNoLater l life) same (no_later_self life))
            (Contains-push_cases lives life other has);
      },
    )

pub earlier_fault : (c : Case) (life : Life) (part before : Part) (opening local : ℕ) → Judges c life (judged.Fails part)
    → (life.opening < opening) ⊎ ((life.opening ≡ opening) × (life.local ≤ local))
    → Notes c life (Failed opening local before) (Failed opening local before)
earlier_fault c life part before opening local (on, fails) order lives (found, at, number, failed) =
    let same_chunk : failed.on.chunk ≡ on.chunk = one_chunk c failed.on.chunk on.chunk failed.on.is on.is in
    let through : IsNoLater life found = ⊎_elim
    (λ lt. inl (omega (arith, lt, at)))
    (λ eq. inr (eq.0 ∙ sym at, omega (arith, eq.1, number)))
    order in (
      found,
      at,
      number,
      record {
        on = failed.on;
        fails = failed.fails;
        none = λ other has suits passes. ⊎_elim
            (λ old. failed.none other old suits passes)
            (λ same. fault_on c.descriptor c.book c.past on.chunk life part fails
            (subst (λ (l : Life). Passes c.descriptor c.book c.past on.chunk l) (sym same) (subst (λ (s : SentChunk). Passes c.descriptor c.book c.past s other) same_chunk passes)))
            (Contains-push_cases lives life other has);
        latest = λ other has suits. ⊎_elim
            (λ old. failed.latest other old suits)
            (λ same. subst (λ (l : Life). IsNoLater l found) same through)
            (Contains-push_cases lives life other has);
      },
    )

-- ---- one record

-- nothing was sent on the life
pub judged_elsewhere : (d : Descriptor) (book : LookUp) (past : List Record) (here : Record) (life : Life) (b : Bool) → ((b ≡ true) ↔ IsSentOn d life past here)
    → b ≡ false → LiesOn (case_of d book past here) life → ⊥
judged_elsewhere d book past here life b iff none on =
    let t = iff.1 (sent_suits d life past here on.chunk on.is.is on.suits) in absurd cc

pub judged_on : (d : Descriptor) (book : LookUp) (past : List Record) (here : Record) (life : Life) (chunk : SentChunk) (j : Judgement)
    → chunk_of d here ≡ Some chunk → IsSentOn d life past here → JudgesChunk d book past chunk life j → Judges (case_of d book past here) life j
judged_on d book past here life chunk judged.Elsewhere is on j = λ lies.
    let same = some_one lies.chunk chunk (chunk_of d here) lies.is.is is in
    j (subst (λ (s : SentChunk). s.number < chunks_of d) same lies.is.within)
judged_on d book past here life chunk judged.Passes is on j =
    (record { chunk = chunk; is = record { is = is; within = j.0 }; suits = suits_sent d life past here chunk is on }, j.1)
judged_on d book past here life chunk (judged.Fails part) is on j =
    (record { chunk = chunk; is = record { is = is; within = j.0 }; suits = suits_sent d life past here chunk is on }, j.1)
