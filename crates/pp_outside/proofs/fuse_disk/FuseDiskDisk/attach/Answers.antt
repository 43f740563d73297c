use Rattle.std.proofs.Common.{rules, ◌≡◌}
use Rattle.pp_terms.specs.disk.Calls.{attached, history_of}
use Rattle.pp_outside.proofs.Attachings.{attached_again}
use Rattle.pp_outside.proofs.fuse_disk.FuseDiskDisk.attach.Goals as goal

pub returns-then-not-passes-clause-does : goal.returns-then-not-passes-clause-does
returns-then-not-passes-clause-does c =
    let log = c.args.self.now.inner.log in
    let noted : history_of c.count_fault.new.self.inner.log ≡ attached (history_of log) (history_of log) = search rules in
    record {
      call = search rules;
      attached = λ known. attached_again log _ _ noted;
      hard_cause = search rules;
    }
