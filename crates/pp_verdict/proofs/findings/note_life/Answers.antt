use Rattle.std.proofs.Common.{◌<◌, refl, sym, ◌∙◌, subst, arith, length, List}
use Rattle.std.proofs.Math.ListN.{length-set}
use Rattle.std.proofs.lemmas.List.{get_or_default}
use Rattle.pp_terms.specs.format.Traffic.{Record}
use Rattle.pp_tree.specs.Book.{entry}
use Rattle.pp_recorded.proofs.Pasts.{first, one_more, length_first}
use Rattle.pp_verdict.specs.Courses.{Follows}
use Rattle.pp_verdict.specs.Reaches.{reached}
use Rattle.pp_verdict.proofs.Walks.{noted_more, later_kept, noted_all}
use Rattle.pp_verdict.proofs.findings.note_life.Goals as goal

pub loop-place-init : goal.loop-place-init
loop-place-init c = record {
  room = refl;
  follows = c.begin.ensures c.args.descriptor.now (reached c.args.reach) c.requires.course;
  noted = λ k x f g lt. absurd (omega arith);
  later = λ k z le. refl;
}

pub loop-place-preserved : goal.loop-place-preserved
loop-place-preserved c =
    let d = c.args.descriptor.now in
    let book = entry c.args.book.now in
    let entries = c.args.entries.now in
    let place = c.loop-place.place in
    let lt : c.loop-place.place < length c.args.entries.now = (let t = c.loop-place-test.true in omega arith) in
    let here = get_or_default c.args.entries.now c.loop-place.place _ _ lt in
    record {
      room = length-set c.loop-place.findings place c.look.result ∙ c.loop-place.invariant.room;
      follows = subst (λ (rs : List Record). Follows c.follow.new.self d (reached c.args.reach) rs)
          (sym (one_more entries place _ lt here))
          (c.in_ok-follow.ensures (first place entries) (length_first entries place (omega (arith, lt))) c.loop-place.invariant.follows);
      noted = noted_more d book entries (reached c.args.reach) c.args.findings.now c.loop-place.findings place _ _ c.look.result
          lt (c.loop-place.invariant.room ∙ c.requires.room) here
          (get_or_default c.loop-place.findings place _ _ (let r = c.loop-place.invariant.room in let q = c.requires.room in omega (arith, lt, r, q)))
          c.loop-place.invariant.noted c.loop-place.invariant.later
          (c.look.ensures (first place entries) c.loop-place.invariant.follows);
      later = later_kept c.args.findings.now c.loop-place.findings place c.look.result c.loop-place.invariant.later;
    }

pub returns-clause-noted : goal.returns-clause-noted
returns-clause-noted c =
    noted_all c.args.descriptor.now (entry c.args.book.now) c.args.entries.now c.args.reach c.args.findings.now c.loop-place.findings c.loop-place.place
    (let t = c.loop-place-test.false in omega (arith, t, c.min-place-end.ensures)) (c.loop-place.invariant.room ∙ c.requires.room) c.requires.covered c.loop-place.invariant.noted c.loop-place.invariant.later
