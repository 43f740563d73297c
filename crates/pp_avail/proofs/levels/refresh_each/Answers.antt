use Rattle.std.proofs.Common.{refl, ◌∙◌, sym}
use Rattle.std.specs.Int.{bit_at}
use Rattle.std.proofs.lemmas.Bool.{eq-eqb, eqb-true}
use Rattle.pp_avail.proofs.Levelling.{stays, level_untouched, level_by_places, level_by_one, level_next, left_within, fewer_left, no_place}
use Rattle.pp_avail.proofs.levels.refresh_each.Goals as goal

pub loop-rest-init : goal.loop-rest-init
loop-rest-init c = (
  c.requires.width,
  (λ k. refl),
  (λ k v other. refl),
  (λ k one. one),
  (λ old have before fewer lt free. level_untouched c.args.levels.now c.args.w c.args.changed old c.args.planes.now fewer (before fewer lt)
      (λ k low none. stays c.args.step c.args.changed k old c.args.planes.now have low none) free),
)

pub loop-rest-smaller : goal.loop-rest-smaller
loop-rest-smaller c =
    fewer_left c.loop-rest.rest c.places_of-in-loop-rest.result c.lowest.result c.places_of-in-loop-rest.type_inv c.lowest.ensures.range c.lowest.ensures.here
    (eqb-true (bit_at c.places_of-in-loop-rest.result c.lowest.result) 1
    (c.places_of-in-loop-rest.ensures c.lowest.result c.lowest.ensures.range ∙ eq-eqb _ _ (sym c.at-number.ensures.value)))

pub loop-rest-preserved : goal.loop-rest-preserved
loop-rest-preserved c = (
  c.mark-in-loop-rest.ensures.width,
  (λ k. c.mark-in-loop-rest.ensures.sizes k ∙ c.mark.ensures.sizes k ∙ c.loop-rest.invariant.1 k),
  (λ k v other. c.mark-in-loop-rest.ensures.others k v other ∙ c.mark.ensures.others k v other ∙ c.loop-rest.invariant.2 k v other),
  (λ k one. c.loop-rest.invariant.3 k (left_within c.loop-rest.rest _ k one)),
  (λ old have before fewer lt free. level_next c.loop-rest.levels c.mark.new.levels c.mark-in-loop-rest.new.levels c.args.w c.loop-rest.rest c.places_of-in-loop-rest.result
      c.args.changed c.args.step old c.args.planes.now c.at-number.result fewer c.loop-rest.auto.rest-fits.fits c.places_of-in-loop-rest.type_inv have c.places_of-in-loop-rest.ensures
      c.loop-rest.invariant.3 (c.loop-rest.invariant.4 old have before fewer lt)
      (c.mark.ensures.levels fewer)
      (λ e. level_by_one c.mark.new.levels c.args.w c.at-number.result c.args.planes.now c.lowest.result fewer e c.lowest.ensures.range (sym c.at-number.ensures.value) (c.mark.ensures.here fewer e))
      (λ other. c.mark-in-loop-rest.ensures.levels fewer (λ e. other (e ∙ c.before-before.ensures.value)))
      (λ e. let same = e ∙ sym c.before-before.ensures.value in level_by_places c.mark-in-loop-rest.new.levels c.args.w c.before-before.result c.args.planes.now c.places_of.result fewer same
      c.places_of.type_inv c.places_of.ensures (c.mark-in-loop-rest.ensures.here fewer same)) free),
)

pub returns-clause-here : goal.returns-clause-here
returns-clause-here c = λ old have before fewer lt. c.loop-rest.invariant.4 old have before fewer lt (λ k one. absurd (no_place c.loop-rest.rest k c.loop-rest-test.false one))
