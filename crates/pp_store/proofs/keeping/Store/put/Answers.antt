use Rattle.std.proofs.Common.{◌≡◌, refl, ap, subst, sym, ◌∙◌}
use Rattle.std.proofs.lemmas.Result.{IfOk-weaker}
use Rattle.pp_terms.specs.tree.Book.{IsRooted}
use Rattle.pp_terms.specs.format.Descriptor.{Descriptor}
use Rattle.pp_tree.specs.Book.{entry}
use Rattle.pp_terms.specs.tree.Claims.{latest}
use Rattle.pp_store.specs.declared.admitting.Put.TheVariants.{Stored}
use Rattle.pp_store.specs.Store.{StoreState, is_held}
use Rattle.pp_store.proofs.Writings.{keeps_same}
use Rattle.pp_store.proofs.Puttings.{answer_is, learned_is, after_other, on_err_any, no_cause, ok_stored, agrees_grown, holds_all, knows_grown}
use Rattle.pp_store.proofs.keeping.Store.put.Goals as goal

pub returns-then-has-clause-holds : goal.returns-then-has-clause-holds
returns-then-has-clause-holds g c known =
    holds_all c.args.self.now (entry c.args.book.now) (g.D.Disk.state c.args.disk.now).history.reads c.has.ensures.valid c.requires.rooted
    c.has.ensures.sized c.has.ensures.supported

pub returns-in-Stored-clause-answer : goal.returns-in-Stored-clause-answer
returns-in-Stored-clause-answer g c =
    let is = answer_is c.args.self.now c.self.inside.descriptor (ap (λ (s : StoreState). s.descriptor) c.self.view_is) (entry c.args.book.now) (latest c.args.claims.now)
    c.args.i c.args.chunk.now (is_held c.args.self.now c.args.i) c.if-has.ensures.held Stored c.in-Stored.ensures.answer in
    IfOk-weaker c.write.result (λ put. put ≡ Stored) _ (λ put e. e ∙ sym is) c.write.ensures.stored

pub returns-in-Stored-clause-refused : goal.returns-in-Stored-clause-refused
returns-in-Stored-clause-refused g c =
    on_err_any c.write.result
    (answer_is c.args.self.now c.self.inside.descriptor (ap (λ (s : StoreState). s.descriptor) c.self.view_is) (entry c.args.book.now) (latest c.args.claims.now)
    c.args.i c.args.chunk.now (is_held c.args.self.now c.args.i) c.if-has.ensures.held Stored c.in-Stored.ensures.answer)

pub returns-in-Stored-clause-learned : goal.returns-in-Stored-clause-learned
returns-in-Stored-clause-learned g c =
    learned_is c.args.self.now c.self.inside.descriptor (ap (λ (s : StoreState). s.descriptor) c.self.view_is) (entry c.args.book.now) (latest c.args.claims.now)
    c.args.i c.args.chunk.now (is_held c.args.self.now c.args.i) c.if-has.ensures.held (entry c.admit.new.book) c.admit.ensures.learned

pub returns-in-Stored-clause-agrees : goal.returns-in-Stored-clause-agrees
returns-in-Stored-clause-agrees g c known agrees =
    c.write.ensures.agrees known
    (agrees_grown c.args.self.now (entry c.args.book.now) (entry c.admit.new.book) (g.D.Disk.state c.args.disk.now).history.reads c.admit.ensures.kept agrees)

pub returns-in-Stored-clause-holds : goal.returns-in-Stored-clause-holds
returns-in-Stored-clause-holds g c known agrees =
    holds_all c.write.new.self (entry c.admit.new.book) (g.D.Disk.state c.write.new.disk).history.reads c.write.ensures.valid
    (c.admit.ensures.rooted c.write.new.self.descriptor (subst (λ (d : Descriptor). IsRooted d (entry c.args.book.now)) (sym c.write.ensures.descriptor) c.requires.rooted))
    c.write.ensures.sized c.write.ensures.supported
    (c.write.ensures.agrees known
    (agrees_grown c.args.self.now (entry c.args.book.now) (entry c.admit.new.book) (g.D.Disk.state c.args.disk.now).history.reads c.admit.ensures.kept agrees))

pub returns-in-Stored-clause-untouched : goal.returns-in-Stored-clause-untouched
returns-in-Stored-clause-untouched g c differ ok = ok_stored c.write.result c.write.ensures.stored differ ok

pub returns-in-Stored-clause-knows : goal.returns-in-Stored-clause-knows
returns-in-Stored-clause-knows g c knows =
    c.write.ensures.knows (knows_grown c.args.self.now (entry c.args.book.now) (entry c.admit.new.book) c.admit.ensures.kept knows)

pub returns-in_default : goal.returns-in_default
returns-in_default g c = record {
  answer = sym (answer_is c.args.self.now c.self.inside.descriptor (ap (λ (s : StoreState). s.descriptor) c.self.view_is) (entry c.args.book.now) (latest c.args.claims.now)
      c.args.i c.args.chunk.now (is_held c.args.self.now c.args.i) c.if-has.ensures.held c.admit.result c.admit.ensures.answer);
  refused = tt;
  hard = no_cause _ c.admit.result;
  cause = no_cause _ c.admit.result;
  store = after_other c.admit.result c.args.i c.args.self.now c.in_default.not-Stored;
  dead = tt;
  descriptor = refl;
  untouched = λ differ ok. (refl, refl);
  learned = learned_is c.args.self.now c.self.inside.descriptor (ap (λ (s : StoreState). s.descriptor) c.self.view_is) (entry c.args.book.now) (latest c.args.claims.now)
      c.args.i c.args.chunk.now (is_held c.args.self.now c.args.i) c.if-has.ensures.held (entry c.admit.new.book) c.admit.ensures.learned;
  backed = λ e. absurd (c.in_default.not-Stored (cc));
  kept = c.admit.ensures.kept;
  rooted = c.admit.ensures.rooted c.args.self.now.descriptor c.requires.rooted;
  book = c.admit.ensures.descriptor;
  knows = knows_grown c.args.self.now (entry c.args.book.now) (entry c.admit.new.book) c.admit.ensures.kept;
  wrote = λ known e. absurd (c.in_default.not-Stored (cc));
  behind = keeps_same (g.D.Disk.state c.args.disk.now);
  goes_on = λ known l at moment within all. all;
  gated = λ known moment within all. all;
  agrees = λ known agrees. agrees_grown c.args.self.now (entry c.args.book.now) (entry c.admit.new.book) (g.D.Disk.state c.args.disk.now).history.reads c.admit.ensures.kept agrees;
  holds = λ known. holds_all c.args.self.now (entry c.args.book.now) (g.D.Disk.state c.args.disk.now).history.reads c.has.ensures.valid c.requires.rooted
      c.has.ensures.sized c.has.ensures.supported;
}
