-- How many calls a log has, by what they left.
use Rattle.std.proofs.Common.{◌≡◌, ◌+◌, List, [], ◌∷◌, ◌++◌, length, arith}
use Rattle.pp_terms.specs.disk.Disk.{Epoch, History, fresh}
use Rattle.pp_terms.specs.disk.Calls.{Did, Calls, Wrote, Refused, Synced, Crashed, after_call, replay, history_of}
use Rattle.pp_outside.specs.CallCount.{calls_of_ended, calls_in}

ended_more : (epochs : List Epoch) (epoch : Epoch) → calls_of_ended (epochs ++ epoch ∷ []) ≡ calls_of_ended epochs + (length epoch.pending + 1)
ended_more [] epoch = omega arith
ended_more (e ∷ epochs) epoch = (let rest = ended_more epochs epoch in omega (arith, rest))

one_more : (h : History) (call : Did) → calls_in (after_call h call) ≡ calls_in h + 1
one_more h (Wrote place bytes) = omega arith
one_more h (Refused place bytes) = omega arith
one_more h Synced = (let more = ended_more h.past h.epoch in omega (arith, more))
one_more h (Crashed image) = (let more = ended_more h.past h.epoch in omega (arith, more))

pub replayed_calls : (h : History) (done : List Did) → calls_in (replay h done) ≡ calls_in h + length done
replayed_calls h [] = omega arith
replayed_calls h (call ∷ done) = (let one = one_more h call in let rest = replayed_calls (after_call h call) done in omega (arith, one, rest))

pub calls_of_log : (calls : Calls) → calls_in (history_of calls) ≡ length calls.done
calls_of_log calls = (let all = replayed_calls (fresh calls.image) calls.done in omega (arith, all))
