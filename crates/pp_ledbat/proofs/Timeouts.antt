-- What a timeout leaves.
use Rattle.std.proofs.Common.{◌≡◌, ℕ, Bool, true, false, cond, refl}
use Rattle.pp_traffic.specs.Meter.{Meter, is_due, timed_out, ended}
use Rattle.pp_ledbat.specs.Laws.{TimeoutsSettle}

twice : (b : Bool) (now : ℕ) (m : Meter) → is_due now m ≡ b → ended now (cond b (timed_out now m) m) ≡ cond b (timed_out now m) m
twice true now m e = refl
twice false now m e = rw e refl

pub timeouts_settle : TimeoutsSettle
timeouts_settle = record {
  none_fly = λ now m. refl;
  none_due = λ now later m. refl;
  ends_once = λ now later m. refl;
  ends_twice = λ now m. twice (is_due now m) now m refl;
  ignores = λ now first last delay later m. refl;
}
