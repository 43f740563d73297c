-- Where each peer is trusty, datagrams are atomic.
use Rattle.std.specs.Prelude.{ℕ, List}
use Rattle.std.specs.List.{AllByRecursion}
use Rattle.pp_terms.specs.format.Descriptor.{Descriptor, IsDescriptor, IsContentOf}
use Rattle.pp_world.specs.Change.{Moves}
use Rattle.pp_world.specs.Move.{Move}
use Rattle.pp_world.specs.Shipment.{StoresShipments}
use Rattle.pp_world.specs.World.{World}
use Rattle.pp_shipments.specs.Trusty.{IsTrusty}

-- Whatever moved, each shipment that was sent before and is taken in by that move is stored.
abbrev pub ShipmentsAreStored : Type 0
ShipmentsAreStored = (d : Descriptor) (content : List ℕ) (move : Move) (old new : World) → IsDescriptor d → IsContentOf d content
    → Moves d move old new → AllByRecursion (IsTrusty d) old.peers → AllByRecursion (IsTrusty d) new.peers
    → StoresShipments d content old new
