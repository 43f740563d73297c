-- The words, what they spell and what is wrong with them, as plain data.
use Rattle.std.specs.Prelude.{ℕ, List, map, String, string_bytes}
use Rattle.std.specs.declared.alloc.Global.{Global}
use Rattle.pp_terms.specs.command.Order as orders
use Rattle.pp_words.specs.Commands as terms
use Rattle.pp_terms.specs.format.DescriptorFault as fault
use Rattle.pp_words.specs.Usage as wrong
use Rattle.pp_outside.specs.Outside.{address_of}
use Rattle.pp_targets.specs.Names.{target_of}
use Rattle.pp_tree.specs.declared.descriptor.DescriptorFault.{DescriptorFault}
use Rattle.pp_tree.specs.declared.descriptor.DescriptorFault.TheVariants.{Form, Chunk, Size, Method}
use Rattle.pp_words.specs.declared.types.Order.{Order}
use Rattle.pp_words.specs.declared.types.Order.TheVariants.{Sequential, Rarest}
use Rattle.pp_words.specs.declared.types.Command.{Command}
use Rattle.pp_words.specs.declared.types.Command.TheVariants.{Import, Seed, Fetch, Check, Export, Upgrade, Replay, Rehearse, Play, Record, Audit}
use Rattle.pp_words.specs.declared.types.Usage.{Usage}
use Rattle.pp_words.specs.declared.types.UsageKind.{UsageKind}
use Rattle.pp_words.specs.declared.types.UsageKind.TheVariants as kind

-- the bytes of each word
abbrev pub texts : List (String Global) → List (List ℕ)
texts words = map (λ word. string_bytes word) words

abbrev pub order_of : Order → orders.Order
order_of Sequential = orders.Sequential
order_of Rarest = orders.Rarest

abbrev pub command_of : Command → terms.Command
command_of (Import store chunk) = terms.Import store.now chunk
command_of (Seed store target listen turns) = terms.Seed store.now (target_of target) (address_of listen) turns
command_of (Fetch store target listen turns order peers) =
    terms.Fetch store.now (target_of target) (address_of listen) turns (order_of order) (map address_of peers.items)
command_of (Check store target) = terms.Check store.now (target_of target)
command_of (Export store target) = terms.Export store.now (target_of target)
command_of (Upgrade store descriptor) = terms.Upgrade store.now descriptor
command_of Replay = terms.Replay
command_of (Rehearse number) = terms.Rehearse number
command_of (Play store descriptor listen turns window peers) =
    terms.Play store.now descriptor (address_of listen) turns window (map address_of peers.items)
command_of (Record peer life) = terms.Record peer life
command_of Audit = terms.Audit

abbrev pub fault_of : DescriptorFault → fault.DescriptorFault
fault_of (Form at) = fault.Form at
fault_of (Chunk at) = fault.Chunk at
fault_of (Size at) = fault.Size at
fault_of (Method at) = fault.Method at

abbrev pub kind_of : UsageKind → wrong.UsageKind
kind_of kind.Missing = wrong.Missing
kind_of kind.Extra = wrong.Extra
kind_of kind.Command = wrong.Command
kind_of kind.Store = wrong.Store
kind_of kind.Chunk = wrong.Chunk
kind_of kind.Number = wrong.Number
kind_of (kind.Descriptor f) = wrong.Descriptor (fault_of f)
kind_of kind.Address = wrong.Address
kind_of kind.Order = wrong.Order

abbrev pub usage_of : Usage → wrong.Usage
usage_of u = wrong.usage u.word (kind_of u.kind)
