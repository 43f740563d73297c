use Rattle.std.proofs.Common.{inl, inr, List, length, refl, ap, ◌∙◌, arith}
use Rattle.pp_draft.specs.declared.note.Note.{Note}
use Rattle.pp_agenda.proofs.Filling.{put_length, news_more}
use Rattle.pp_agenda.proofs.agenda.Agenda.add_news.Goals as goal
use Rattle.pp_agenda.proofs.agenda.Agenda.add_news.Goals.{in-Some, in-None}

pub loop-range-preserved : goal.loop-range-preserved
loop-range-preserved c = record {
  exact = elim c.match-part_below.branch [
    | in-Some w ↦ w.self-is ∙ news_more c.cursor-cursor.result c.args.due.now.news.now c.loop-range.range-index c.range-item.result w.in-Some.range c.args.self.now c.loop-range.self w.push.new.self
        c.loop-range-test.true c.range-item.is c.loop-range.invariant.exact (inl (w.in-Some.ensures.0, w.in-Some.ensures.1, w.push.ensures))
    | in-None w ↦ w.self-is ∙ news_more c.cursor-cursor.result c.args.due.now.news.now c.loop-range.range-index c.range-item.result c.range-item.result c.args.self.now c.loop-range.self c.loop-range.self
        c.loop-range-test.true c.range-item.is c.loop-range.invariant.exact (inr (w.in-None.ensures, refl))
  ];
  few = elim c.match-part_below.branch [
    | in-Some w ↦ omega (arith, ap (λ (xs : List Note). length xs) w.self-is, put_length _ _ _ w.push.ensures)
    | in-None w ↦ omega (arith, ap (λ (xs : List Note). length xs) w.self-is)
  ];
}
