use Rattle.std.proofs.Common.{◌≡◌, ◌+◌, ◌<◌, length, sym, ◌∙◌, subst, List, arith}
use Rattle.std.proofs.lemmas.List.{get_or_default}
use Rattle.std.specs.Prelude.{IsTrue, count_by}
use Rattle.pp_terms.specs.format.Traffic.{Record}
use Rattle.pp_tree.specs.Book.{entry}
use Rattle.pp_traffic.specs.Serving.{window_of, ServesAll}
use Rattle.pp_recorded.proofs.Pasts.{first, one_more, length_first}
use Rattle.pp_verdict.specs.Chunks.{has_chunk}
use Rattle.pp_verdict.proofs.Walks.{settled_at, split_at, count_more, count_few, byte_is}
use Rattle.pp_verdict.proofs.verdict.answer.Goals as goal

pub returns-in-Err : goal.returns-in-Err
returns-in-Err c =
    let d = c.args.descriptor.now in
    let book = entry c.args.book.now in
    let xs = c.args.entries.now in
    let place = c.loop-place.place in
    let lt : c.loop-place.place < length c.args.entries.now = c.loop-place-test.true in
    let here = get_or_default c.args.entries.now c.loop-place.place _ _ lt in
    let split = split_at xs place _ lt here in
    record {
      later = split.0;
      here = _;
      before = first place xs;
      split = split.1;
      at = length_first xs place (omega (arith, lt));
      served = c.loop-place.invariant.served;
      fails = c.in-Err.ensures (first place xs)
          (settled_at d book xs c.args.findings.now (IsTrue c.args.is_rooted) place _ _ c.requires.found lt here
          (get_or_default c.args.findings.now place _ _ (let r = c.requires.room in omega (arith, lt, r))));
    }

pub loop-place-preserved : goal.loop-place-preserved
loop-place-preserved c =
    let d = c.args.descriptor.now in
    let book = entry c.args.book.now in
    let xs = c.args.entries.now in
    let place = c.loop-place.place in
    let lt : c.loop-place.place < length c.args.entries.now = c.loop-place-test.true in
    let here = get_or_default c.args.entries.now c.loop-place.place _ _ lt in
    let ok = c.in-Ok.ensures (first place xs)
    (settled_at d book xs c.args.findings.now (IsTrue c.args.is_rooted) place _ _ c.requires.found lt here
    (get_or_default c.args.findings.now place _ _ (let r = c.requires.room in omega (arith, lt, r)))) in
    let counted = c.from-chunks.ensures ∙ byte_is c.in-Ok.has_chunk in
    let more = one_more xs place _ lt here in
    record {
      served = subst (λ (rs : List Record). ServesAll d book (window_of d) rs) (sym more) (ok.0, c.loop-place.invariant.served);
      counted = subst (λ (rs : List Record). c.loop-place.chunks + c.from-chunks.result ≡ count_by (has_chunk d) rs) (sym more)
          (count_more (has_chunk d) _ (first place xs) c.in-Ok.has_chunk c.loop-place.chunks c.from-chunks.result ok.1 c.loop-place.invariant.counted counted);
      few = count_few c.in-Ok.has_chunk c.loop-place.chunks c.from-chunks.result place c.loop-place.invariant.few counted;
    }
