-- What is kept stands for the story up to the messages that are left.
use Rattle.std.proofs.Common.{◌≤◌, ◌-◌, List, length}
use Rattle.pp_traffic.specs.Story.{Line, say}
use Rattle.pp_recorded.specs.Parts.{rest}
use Rattle.pp_story.specs.Stories.{StandsFor}
use Rattle.pp_story.proofs.Standings.{LeadsTo}
use Rattle.pp_story.proofs.record.say_all.Given as goal

abbrev pub invariant-messages : goal.invariant-messages
invariant-messages l = record {
  within : l.at ≤ length l.bytes;
  leads : (s : List Line) → StandsFor l.fn.story l.descriptor s
      → LeadsTo (say l.now) l.story l.descriptor (rest l.descriptor l.bytes l.at) (say l.now (rest l.descriptor l.bytes l.start) s);
}

abbrev pub decreases-messages : goal.decreases-messages
decreases-messages l = length l.bytes - l.at
