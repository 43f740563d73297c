use Rattle.std.proofs.Common.{◌≡◌, ◌∙◌, sym, ap, length, arith}
use Rattle.std.proofs.lemmas.List.{length-map}
use Rattle.pp_terms.specs.disk.Calls.{Calls, history_of}
use Rattle.pp_outside.specs.CallCount.{calls_in}
use Rattle.pp_outside.specs.Log.{calls_of}
use Rattle.pp_outside.specs.Steps.{did_of}
use Rattle.pp_outside.proofs.CallCounts.{calls_of_log}
use Rattle.pp_outside.proofs.log.Log.calls.Goals as goal

pub returns : goal.returns
returns c =
    let long : c.len.result ≡ length c.self.inside.steps.items = omega arith in
    long ∙ sym (length-map c.self.inside.steps.items did_of) ∙ sym (calls_of_log (calls_of c.self.inside))
    ∙ ap (λ (calls : Calls). calls_in (history_of calls)) c.self.view_is
