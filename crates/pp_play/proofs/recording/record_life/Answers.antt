use Rattle.std.proofs.Common.{◌≡◌, ◌-◌, Some, List, slice_get, reverse, refl, subst, arith}
use Rattle.std.proofs.lemmas.Option.{slice_get_read}
use Rattle.pp_tree.specs.Book.{BookState, entry}
use Rattle.pp_outside.specs.MemoryLink.{in_order}
use Rattle.pp_outside.specs.declared.memory_link.MemoryLink.{MemoryLink}
use Rattle.pp_actor.specs.declared.life.Life.{Life}
use Rattle.pp_recording.specs.Sessions.{IsOfSession, IsOversize, IsSessionFault}
use Rattle.pp_recording.specs.declared.session.SessionFault.{SessionFault}
use Rattle.pp_play.proofs.recording.record_life.Goals as goal

pub returns-in-Ok-clause-ok : goal.returns-in-Ok-clause-ok
returns-in-Ok-clause-ok c = record {
  life = c.index-lives-life.result;
  is = record {
    some = omega (arith, c.if-life-eq0.false);
    there = subst (λ (xs : List Life). slice_get xs (c.args.life - 1) ≡ Some c.index-lives-life.result) c.lives_of-lives.ensures
        (slice_get_read c.lives_of-lives.result.now _ (c.args.life - 1) c.index-lives-life.result refl
        (omega (arith, c.if-life-eq0.false, c.if-lives-life.false)) c.index-lives-life.is);
  };
  recorded = subst (λ (b : BookState). IsOfSession c.args.outcome.now.descriptor (entry b) (reverse (in_order c.index-lives-life.result.link)) c.in-Ok.recording)
      c.book.ensures
      (subst (λ (l : MemoryLink). IsOfSession c.args.outcome.now.descriptor (entry c.book.result.now) (reverse (in_order l)) c.in-Ok.recording)
      c.link.ensures c.in-Ok.ensures.ok);
}

pub returns-in-Err-Limit-clause-fault : goal.returns-in-Err-Limit-clause-fault
returns-in-Err-Limit-clause-fault c = record {
  life = c.index-lives-life.result;
  is = record {
    some = omega (arith, c.if-life-eq0.false);
    there = subst (λ (xs : List Life). slice_get xs (c.args.life - 1) ≡ Some c.index-lives-life.result) c.lives_of-lives.ensures
        (slice_get_read c.lives_of-lives.result.now _ (c.args.life - 1) c.index-lives-life.result refl
        (omega (arith, c.if-life-eq0.false, c.if-lives-life.false)) c.index-lives-life.is);
  };
  over = subst (λ (b : BookState). IsOversize c.args.outcome.now.descriptor (entry b) (reverse (in_order c.index-lives-life.result.link)) c.in-Err-Limit.records
      c.in-Err-Limit.nodes c.in-Err-Limit.bytes) c.book.ensures
      (subst (λ (l : MemoryLink). IsOversize c.args.outcome.now.descriptor (entry c.book.result.now) (reverse (in_order l)) c.in-Err-Limit.records
      c.in-Err-Limit.nodes c.in-Err-Limit.bytes) c.link.ensures (subst (λ (f : SessionFault). IsSessionFault c.args.outcome.now.descriptor (entry c.book.result.now)
      (reverse (in_order c.link.result.now)) f) c.in-Err-Limit.field-0-is c.in-Err-Limit.ensures.fault));
}
