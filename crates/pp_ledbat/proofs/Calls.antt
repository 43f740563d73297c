-- Calls as lines of a story.
use Rattle.std.proofs.Common.{refl, sym, ◌∙◌, ap}
use Rattle.std.proofs.lemmas.Bool.{cond-true, cond-false}
use Rattle.pp_traffic.specs.Meter.{Meter, sent, acked, is_due, timed_out, ended}
use Rattle.pp_ledbat.specs.Laws.{CallsStand}

pub calls_stand : CallsStand
calls_stand = record {
  new = λ chunk. refl;
  sends = λ chunk i now sent_at bytes story m is. ap (λ (x : Meter). sent i now x) is;
  hears = λ chunk delay now span story m is. ap (λ (x : Meter). acked span.first span.last delay now x) is;
  times_out = λ chunk now story m is due. sym (cond-true (is_due now m) (timed_out now m) m due) ∙ ap (λ (x : Meter). ended now x) is;
  waits = λ chunk now story m is early. sym (cond-false (is_due now m) (timed_out now m) m early) ∙ ap (λ (x : Meter). ended now x) is;
}
