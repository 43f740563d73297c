-- The addresses that a learner was told to dial.
use Rattle.std.specs.Prelude.{Some}
use Rattle.pp_outside.specs.declared.link.Address.{Address}
use Rattle.pp_learner.specs.declared.dials.Dial.{Dial}

-- an address that may be dialled at once
abbrev pub undialled : Address → Dial
undialled a = record { address = a; from = Some 0 }
