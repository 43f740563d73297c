use Rattle.std.proofs.Common.{sym, ◌∙◌, subst, List}
use Rattle.std.proofs.lemmas.List.{get_or_default}
use Rattle.pp_traffic.specs.Life.{Life}
use Rattle.pp_tree.specs.Book.{entry}
use Rattle.std.proofs.lemmas.List.Elements.{Contains-get_or}
use Rattle.pp_verdict.specs.Findings.{AreFound}
use Rattle.pp_verdict.specs.Reaches.{reached}
use Rattle.pp_verdict.proofs.Walks.{found_more, mapped_more, mapped_all}
use Rattle.pp_verdict.proofs.findings.note_lives.Goals as goal

pub note_life-requires-clause-covered : goal.note_life-requires-clause-covered
note_life-requires-clause-covered c =
    c.requires.covered _ (Contains-get_or c.args.reaches.now c.loop-reach.reach-index _ c.loop-reach-test.true)

pub loop-reach-preserved : goal.loop-reach-preserved
loop-reach-preserved c =
    let d = c.args.descriptor.now in
    let book = entry c.args.book.now in
    record {
      room = c.note_life.ensures.room ∙ c.loop-reach.invariant.room;
      some = c.in_ok-note_life.ensures.course;
      found = subst (λ (lives : List Life). AreFound d book c.args.entries.now lives c.note_life.new.findings)
          (sym (mapped_more reached c.args.reaches.now c.loop-reach.reach-index _ c.loop-reach-test.true (get_or_default c.args.reaches.now c.loop-reach.reach-index _ _ c.loop-reach-test.true)))
          (found_more d book c.args.entries.now _ _ c.loop-reach.findings c.note_life.new.findings c.loop-reach.invariant.room
          c.loop-reach.invariant.found c.in_ok-note_life.ensures.noted);
    }

pub returns-clause-found : goal.returns-clause-found
returns-clause-found c =
    subst (λ (lives : List Life). AreFound c.args.descriptor.now (entry c.args.book.now) c.args.entries.now lives c.loop-reach.findings)
    (mapped_all reached c.args.reaches.now c.loop-reach.reach-index c.loop-reach-test.false) c.loop-reach.invariant.found
