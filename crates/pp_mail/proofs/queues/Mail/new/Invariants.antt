use Rattle.std.proofs.Common.{◌≡◌, [], map, replicate}
use Rattle.pp_mail.proofs.Kept.{items_of}
use Rattle.pp_mail.proofs.queues.Mail.new.Given as goal

abbrev pub invariant-loop : goal.invariant-loop
invariant-loop l = map items_of l.queues.items ≡ replicate l.counter []
