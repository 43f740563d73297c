-- What a store keeps back, and whether it was given for reading alone.
use Rattle.std.specs.Prelude.{Bool, false, is_some, Option, Some, None, List, []}
use Rattle.pp_terms.specs.disk.Disk.{Write}
use Rattle.pp_adapt.specs.declared.file_disk.Store.{Store}

-- the writes that a store gathers, none where there is no store
abbrev pub gathered_in : Option Store → List Write
gathered_in None = []
gathered_in (Some store) = store.gathering.pieces

-- the system gave the store for reading alone
abbrev pub is_sealed_in : Option Store → Bool
is_sealed_in None = false
is_sealed_in (Some store) = is_some store.seal
