use Rattle.std.proofs.Common.{rules, ap, ◌∙◌}
use Rattle.pp_terms.specs.disk.Calls.{history_of}
use Rattle.pp_outside.specs.declared.memory_disk.MemoryDisk.{MemoryDisk}
use Rattle.pp_outside.proofs.Attachings.{attached_again}
use Rattle.pp_outside.proofs.memory_disk.MemoryDiskDisk.attach.Goals as goal

pub returns-then-take-clause-does : goal.returns-then-take-clause-does
returns-then-take-clause-does c = record {
  call = search rules;
  attached = λ known. attached_again c.args.self.now.log _ _
      (ap (λ (d : MemoryDisk). history_of d.log) c.count_fault.ensures.counted ∙ c.attach.ensures);
  hard_cause = search rules;
}

pub returns-clause-does : goal.returns-clause-does
returns-clause-does c = record {
  call = search rules;
  attached = λ known. attached_again c.args.self.now.log _ _ c.attach.ensures;
  hard_cause = search rules;
}
