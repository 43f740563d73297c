use Rattle.std.proofs.Common.{length, ◌-◌, ◌≡◌, ℕ, ◌≤◌, drop}
use Rattle.pp_terms.specs.format.Options.{read_from, read_options}
use Rattle.pp_options.specs.Views.{options_of}
use Rattle.pp_options.proofs.reading.scan.Given as goal

-- what is read from here on is what is read of all
abbrev pub invariant-loop-at : goal.invariant-loop-at
invariant-loop-at l = record {
  within : l.at ≤ length l.bytes;
  so_far : (n : ℕ) × (length l.bytes - l.at ≤ n) × (read_from n (options_of l.seen) l.at (drop l.at l.bytes) ≡ read_options l.bytes);
}

abbrev pub decreases-loop-at : goal.decreases-loop-at
decreases-loop-at l = length l.bytes - l.at
