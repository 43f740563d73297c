use Rattle.std.proofs.Common.{sym, ◌∙◌, ap, subst, List}
use Rattle.pp_terms.specs.format.Traffic.{Record}
use Rattle.pp_terms.specs.format.Descriptor.{Descriptor}
use Rattle.pp_tree.specs.Book.{BookState, entry}
use Rattle.pp_recorded.specs.declared.entry.Entry.{Entry}
use Rattle.pp_recorded.specs.Entries.{past}
use Rattle.pp_recording.specs.State.{records_of}
use Rattle.pp_verdict.specs.Findings.{AreAll, AreFound}
use Rattle.pp_verdict.specs.Answers.{IsAnswer}
use Rattle.pp_verdict.specs.declared.findings.Finding.{Finding}
use Rattle.pp_verdict.proofs.Parts.{answer_is_yes}
use Rattle.pp_verdict.proofs.verdict.audit.Goals as goal

pub answer-requires-clause-found : goal.answer-requires-clause-found
answer-requires-clause-found c = λ rooted.
    let d = c.descriptor-descriptor.result.now in
    let book = entry c.book-book.result.now in
    let (lives, all, found) = c.in_ok-findings.ensures.found rooted in
    let same = c.deref.ensures.value ∙ sym c.deref-2.ensures.value in (
      lives,
      subst (λ (xs : List Entry). AreAll d xs lives) same all,
      subst (λ (fs : List Finding). AreFound d book c.deref-2.result.now lives fs) (sym c.deref-3.ensures.value)
          (subst (λ (xs : List Entry). AreFound d book xs lives c.in_ok-findings.findings.items) same found),
    )

pub returns-clause-yes : goal.returns-clause-yes
returns-clause-yes c = λ all.
    let recording = c.args.recording.now in
    let records = records_of c.args.recording.now.bytes c.args.recording.now.entries in
    let are = ap (λ (xs : List Entry). past xs) c.deref-2.ensures.value ∙ c.in_ok-entries.ensures.records in
    answer_is_yes recording.descriptor (entry recording.book) records c.answer.result
    (subst (λ (rs : List Record). IsAnswer recording.descriptor (entry recording.book) rs c.answer.result) are
    (subst (λ (book : BookState). IsAnswer recording.descriptor (entry book) (past c.deref-2.result.now) c.answer.result) c.book-book.ensures
    (subst (λ (d : Descriptor). IsAnswer d (entry c.book-book.result.now) (past c.deref-2.result.now) c.answer.result) c.descriptor-descriptor.ensures
    c.answer.ensures))) all
