use Rattle.std.proofs.Common.{◌≡◌, ◌+◌, ◌-◌, sym, ◌∙◌, ap, length, true, false, arith}
use Rattle.std.specs.Prelude.{if◌then◌else◌}
use Rattle.pp_terms.specs.tree.Proves.{climbed, filled}
use Rattle.pp_terms.specs.tree.Claims.{latest}
use Rattle.pp_paths.specs.Judge.{same}
use Rattle.pp_targets.specs.declared.learning.Learned.TheVariants.{Size, Wrong}
use Rattle.pp_targets.specs.Learn.{ended, first_beside}
use Rattle.pp_targets.specs.Names.{name_of}
use Rattle.pp_targets.proofs.Weighing.{IsWeighed, last_claimed, last_low, says_missing, says_wrong, peaks_say, never_missing, same_unless, differ_by}
use Rattle.pp_targets.proofs.learning.weigh.Goals as goal

pub unwrap-kept-requires : goal.unwrap-kept-requires
unwrap-kept-requires c =
    last_claimed (latest c.args.claims.now) c.args.i c.last_peak-last.result c.latest-claimed.result c.requires.few (sym c.in_default.ensures)
    c.last_peak-last.ensures c.latest-claimed.ensures.latest

pub returns-in-Err-clause-learned : goal.returns-in-Err-clause-learned
returns-in-Err-clause-learned c =
    let is : IsWeighed (latest c.args.claims.now) c.args.i c.args.chunk.now c.last_peak-last.result c.leaf.result c.leaf-2.result c.unwrap-kept.result =
    record {
      few = c.requires.few;
      apart = c.if-chunk-eq-TWO_DIGESTS.false;
      all = sym c.in_default.ensures;
      last_is = c.last_peak-last.ensures;
      leaf_is = c.leaf.ensures.is;
      digest_is = c.leaf-2.ensures;
      kept_is = sym c.latest-claimed.ensures.latest ∙ c.unwrap-kept.ensures;
    } in
    says_missing (name_of c.args.name.now) (latest c.args.claims.now) c.args.i c.args.chunk.now c.last_peak-last.result c.leaf.result c.leaf-2.result c.unwrap-kept.result is c.in-Err.node c.in-Err.ensures.err

pub returns-then-ne-clause-learned : goal.returns-then-ne-clause-learned
returns-then-ne-clause-learned c =
    let is : IsWeighed (latest c.args.claims.now) c.args.i c.args.chunk.now c.last_peak-last.result c.leaf.result c.leaf-2.result c.unwrap-kept.result =
    record {
      few = c.requires.few;
      apart = c.if-chunk-eq-TWO_DIGESTS.false;
      all = sym c.in_default.ensures;
      last_is = c.last_peak-last.ensures;
      leaf_is = c.leaf.ensures.is;
      digest_is = c.leaf-2.ensures;
      kept_is = sym c.latest-claimed.ensures.latest ∙ c.unwrap-kept.ensures;
    } in
    says_wrong (name_of c.args.name.now) (latest c.args.claims.now) c.args.i c.args.chunk.now c.last_peak-last.result c.leaf.result c.leaf-2.result c.unwrap-kept.result is
    c.in-Ok.found c.in-Ok.ensures.ok (differ_by c.in-Ok.found c.unwrap-kept.result c.ne.result c.ne.ensures c.if-ne.true)

pub climb-requires-2 : goal.climb-requires-2
climb-requires-2 c =
    let is : IsWeighed (latest c.args.claims.now) c.args.i c.args.chunk.now c.last_peak-last.result c.leaf.result c.leaf-2.result c.unwrap-kept.result =
    record {
      few = c.requires.few;
      apart = c.if-chunk-eq-TWO_DIGESTS.false;
      all = sym c.in_default.ensures;
      last_is = c.last_peak-last.ensures;
      leaf_is = c.leaf.ensures.is;
      digest_is = c.leaf-2.ensures;
      kept_is = sym c.latest-claimed.ensures.latest ∙ c.unwrap-kept.ensures;
    } in
    let low = last_low (name_of c.args.name.now) (latest c.args.claims.now) c.args.i c.args.chunk.now c.last_peak-last.result c.leaf.result c.leaf-2.result c.unwrap-kept.result is in
    omega (arith, low, c.height.ensures.height)

pub returns-then-eq-clause-learned : goal.returns-then-eq-clause-learned
returns-then-eq-clause-learned c =
    let is : IsWeighed (latest c.args.claims.now) c.args.i c.args.chunk.now c.last_peak-last.result c.leaf.result c.leaf-2.result c.unwrap-kept.result =
    record {
      few = c.requires.few;
      apart = c.if-chunk-eq-TWO_DIGESTS.false;
      all = sym c.in_default.ensures;
      last_is = c.last_peak-last.ensures;
      leaf_is = c.leaf.ensures.is;
      digest_is = c.leaf-2.ensures;
      kept_is = sym c.latest-claimed.ensures.latest ∙ c.unwrap-kept.ensures;
    } in
    let said = peaks_say (name_of c.args.name.now) (latest c.args.claims.now) c.args.i c.args.chunk.now c.last_peak-last.result c.leaf.result c.leaf-2.result c.unwrap-kept.result is
    c.in-Ok.found c.in-Ok-climb.found c.in-Ok.ensures.ok
    (same_unless c.in-Ok.found c.unwrap-kept.result c.ne.result c.ne.ensures c.if-ne.false)
    (ap (λ h. climbed (filled (c.args.i + 1) (latest c.args.claims.now)) (h - c.last_peak-last.result.layer) c.last_peak-last.result.layer c.last_peak-last.result.offset c.unwrap-kept.result) (sym c.height.ensures.height) ∙ c.in-Ok-climb.ensures.ok) in
    let test : same c.in-Ok-climb.found c.args.name.now.root ≡ true = sym c.eq.ensures ∙ c.if-eq.true in
    ap (λ e. Size e) c.ending.ensures
    ∙ sym (ap (λ b. if b then Size (ended (name_of c.args.name.now) c.args.i (length c.args.chunk.now)) else Wrong c.in-Ok-climb.found c.args.name.now.root) test)
    ∙ sym said

pub returns-else-eq-clause-learned : goal.returns-else-eq-clause-learned
returns-else-eq-clause-learned c =
    let is : IsWeighed (latest c.args.claims.now) c.args.i c.args.chunk.now c.last_peak-last.result c.leaf.result c.leaf-2.result c.unwrap-kept.result =
    record {
      few = c.requires.few;
      apart = c.if-chunk-eq-TWO_DIGESTS.false;
      all = sym c.in_default.ensures;
      last_is = c.last_peak-last.ensures;
      leaf_is = c.leaf.ensures.is;
      digest_is = c.leaf-2.ensures;
      kept_is = sym c.latest-claimed.ensures.latest ∙ c.unwrap-kept.ensures;
    } in
    let said = peaks_say (name_of c.args.name.now) (latest c.args.claims.now) c.args.i c.args.chunk.now c.last_peak-last.result c.leaf.result c.leaf-2.result c.unwrap-kept.result is
    c.in-Ok.found c.in-Ok-climb.found c.in-Ok.ensures.ok
    (same_unless c.in-Ok.found c.unwrap-kept.result c.ne.result c.ne.ensures c.if-ne.false)
    (ap (λ h. climbed (filled (c.args.i + 1) (latest c.args.claims.now)) (h - c.last_peak-last.result.layer) c.last_peak-last.result.layer c.last_peak-last.result.offset c.unwrap-kept.result) (sym c.height.ensures.height) ∙ c.in-Ok-climb.ensures.ok) in
    let test : same c.in-Ok-climb.found c.args.name.now.root ≡ false = sym c.eq.ensures ∙ c.if-eq.false in
    sym (ap (λ b. if b then Size (ended (name_of c.args.name.now) c.args.i (length c.args.chunk.now)) else Wrong c.in-Ok-climb.found c.args.name.now.root) test)
    ∙ sym said

pub returns-in-Err-climb-clause-learned : goal.returns-in-Err-climb-clause-learned
returns-in-Err-climb-clause-learned c =
    let is : IsWeighed (latest c.args.claims.now) c.args.i c.args.chunk.now c.last_peak-last.result c.leaf.result c.leaf-2.result c.unwrap-kept.result =
    record {
      few = c.requires.few;
      apart = c.if-chunk-eq-TWO_DIGESTS.false;
      all = sym c.in_default.ensures;
      last_is = c.last_peak-last.ensures;
      leaf_is = c.leaf.ensures.is;
      digest_is = c.leaf-2.ensures;
      kept_is = sym c.latest-claimed.ensures.latest ∙ c.unwrap-kept.ensures;
    } in
    absurd (never_missing (name_of c.args.name.now) (latest c.args.claims.now) c.args.i c.args.chunk.now c.last_peak-last.result c.leaf.result c.leaf-2.result c.unwrap-kept.result is c.in-Err-climb.node
    (ap (λ h. first_beside (filled (c.args.i + 1) (latest c.args.claims.now)) (h - c.last_peak-last.result.layer) c.last_peak-last.result.layer c.last_peak-last.result.offset) (sym c.height.ensures.height) ∙ c.in-Err-climb.ensures.err))
