use Rattle.std.proofs.Common.{◌≤◌, ◌∷◌, List, length, sym, ◌∙◌, subst, arith}
use Rattle.pp_traffic.specs.Story.{Line}
use Rattle.pp_recorded.specs.Entries.{life_of, record_of}
use Rattle.pp_story.specs.Stories.{StandsFor}
use Rattle.pp_traffic.proofs.OneMore.{before_opening}
use Rattle.pp_verdict.proofs.course.Course.follow.Goals as goal

pub returns-else-life-place : goal.returns-else-life-place
returns-else-life-place c = λ past long follows.
    let d = c.args.descriptor.now in
    let few : length past ≤ c.args.life.opening = (let lt = c.if-life-place.false in omega (arith, long, lt)) in
    let one : length (record_of c.args.entry.now ∷ past) ≤ c.args.life.opening = (let lt = c.if-life-place.false in omega (arith, long, lt)) in
    record {
      clock = c.now_after-self.ensures past follows.clock;
      signs = c.after-self.ensures past long follows.signs;
      story = subst (λ (s : List Line). StandsFor c.args.self.now.story d s)
          (before_opening d (life_of c.args.life) past few ∙ sym (before_opening d (life_of c.args.life) (record_of c.args.entry.now ∷ past) one)) follows.story;
    }
