use Rattle.std.proofs.Common.{length, map, sym, ◌∙◌, ap, subst, List, arith}
use Rattle.pp_tree.specs.Book.{entry}
use Rattle.pp_verdict.specs.Reaches.{reached}
use Rattle.pp_verdict.specs.declared.reaches.Reach.{Reach}
use Rattle.pp_verdict.specs.Findings.{AreFound}
use Rattle.pp_verdict.specs.declared.findings.Finding.{Finding}
use Rattle.pp_verdict.proofs.Walks.{written_back}
use Rattle.pp_verdict.proofs.findings.noted.Goals as goal

pub returns-clause-found : goal.returns-clause-found
returns-clause-found c =
    let d = c.args.descriptor.now in
    let book = entry c.args.book.now in
    let here = c.deref_mut.ensures.len in
    let there = c.deref_mut.ensures.value in
    let written = written_back c.in_ok-findings.findings.items c.note_lives.new.findings c.in_ok-findings.findings.len
    (c.note_lives.ensures.room ∙ ap (λ (fs : List Finding). length fs) there)
    (let long = ap (λ (fs : List Finding). length fs) there in omega (arith, here, long)) in (
      map reached c.in_ok-reaches.reaches.items,
      c.in_ok-reaches.ensures.all,
      subst (λ (fs : List Finding). AreFound d book c.args.entries.now (map reached c.in_ok-reaches.reaches.items) fs) (sym written)
          (subst (λ (reaches : List Reach). AreFound d book c.args.entries.now (map reached reaches) c.note_lives.new.findings) c.deref.ensures.value
          c.in_ok-note_lives.ensures.found),
    )
