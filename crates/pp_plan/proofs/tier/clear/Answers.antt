use Rattle.std.proofs.Common.{◌*◌, ⊎_elim, refl, sym, ◌∙◌, ap, arith, slice_index}
use Rattle.std.proofs.lemmas.Bool.{cases_lt}
use Rattle.pp_tree.proofs.Marking.{past_words}
use Rattle.pp_plan.proofs.Words.{zero_bit, no_bits}
use Rattle.pp_plan.proofs.Parts.{next_part}
use Rattle.pp_plan.proofs.tier.clear.Goals as goal
use Rattle.pp_plan.proofs.tier.clear.Goals.{then-above-k-ne0, else-above-k-ne0}

pub loop-k-init : goal.loop-k-init
loop-k-init c = record {
  len = refl;
  lacks = c.requires.lacks;
  fits = λ w. omega (arith, c.type_inv.words w);
  none = λ w lt. absurd (omega (arith, lt));
  rest = λ w le. refl;
}

pub loop-k-preserved : goal.loop-k-preserved
loop-k-preserved c = elim c.if-above-k-ne0.branch [
  | then-above-k-ne0 w ↦
      let more = next_part c.args.words.now c.loop-k.words w.clear_words.new.words c.loop-k.k c.loop-k.invariant.none c.loop-k.invariant.rest w.clear_words.ensures.others w.clear_words.ensures.here in
      rw (w.words-is, w.lacks-is) (record {
        len = w.clear_words.ensures.len ∙ c.loop-k.invariant.len;
        lacks = w.clear_words.ensures.lacks;
        fits = c.loop-k.invariant.fits;
        none = more.0;
        rest = more.1;
      })
  | else-above-k-ne0 w ↦
      let more = next_part c.args.words.now c.loop-k.words c.loop-k.words c.loop-k.k c.loop-k.invariant.none c.loop-k.invariant.rest (λ i other. refl)
      (λ i here. c.loop-k.invariant.rest i (omega (arith, here)) ∙ no_bits c.args.words.now i (c.loop-k.invariant.fits i)
      (sym (c.requires.over i) ∙ zero_bit c.args.above.now i (ap (λ j. slice_index c.args.above.now j) here ∙ w.if-above-k-ne0.false))) in
      rw (w.words-is, w.lacks-is) (record {
        len = c.loop-k.invariant.len;
        lacks = c.loop-k.invariant.lacks;
        fits = c.loop-k.invariant.fits;
        none = more.0;
        rest = more.1;
      })
]

pub returns-clause-none : goal.returns-clause-none
returns-clause-none c = λ w. ⊎_elim
    (λ below. c.loop-k.invariant.none w below)
    (λ past. c.loop-k.invariant.rest w past ∙ no_bits c.args.words.now w (c.loop-k.invariant.fits w)
    (sym (c.requires.over w) ∙ past_words c.args.above.now w (omega (arith, past, c.loop-k-test.false))))
    (cases_lt w (64 * c.loop-k.k))
