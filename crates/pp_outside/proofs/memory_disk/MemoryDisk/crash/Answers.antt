use Rattle.std.proofs.Common.{◌≡◌, sym, subst, rules}
use Rattle.pp_terms.specs.disk.Disk.{IsImage}
use Rattle.pp_terms.specs.disk.Calls.{history_of, Calls}
use Rattle.pp_outside.specs.Whole.{reads_are_image}
use Rattle.pp_outside.proofs.Possible.{crashed_possible}
use Rattle.pp_outside.proofs.memory_disk.MemoryDisk.crash.Goals as goal

pub returns-then-is_err-clause-possible : goal.returns-then-is_err-clause-possible
returns-then-is_err-clause-possible c =
    let same : c.count_fault.new.self.log ≡ c.args.self.now.log = search rules in
    subst (λ (calls : Calls). IsImage (history_of c.args.self.now.log).epoch (history_of calls).reads) (sym same) (reads_are_image c.args.self.now.log)

pub returns-else-is_err-clause-possible : goal.returns-else-is_err-clause-possible
returns-else-is_err-clause-possible c =
    crashed_possible (history_of c.args.self.now.log) (history_of c.crash.new.self) c.args.pick (search rules)
