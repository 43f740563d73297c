-- The name of a swarm, and a target, as plain data.
use Rattle.pp_tree.specs.Method.{method_of}
use Rattle.pp_targets.specs.Target as plain
use Rattle.pp_targets.specs.declared.target.SwarmName.{SwarmName}
use Rattle.pp_targets.specs.declared.target.Target.{Target}
use Rattle.pp_targets.specs.declared.target.Target.TheVariants.{Sized, Auto}

abbrev pub name_of : SwarmName → plain.SwarmName
name_of name = record { root = name.root; chunk = name.chunk; method = method_of name.method }

abbrev pub target_of : Target → plain.Target
target_of (Sized d) = plain.Sized d
target_of (Auto name) = plain.Auto (name_of name)
