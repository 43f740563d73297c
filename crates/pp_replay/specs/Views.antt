-- What was read, as the definitions of schedules have it.
use Rattle.std.specs.Prelude.{Result, Ok, Err}
use Rattle.pp_terms.specs.command.Order as orders
use Rattle.pp_world.specs.ScheduleFault as wrong
use Rattle.pp_world.specs.Schedule as terms
use Rattle.pp_replay.specs.declared.types.Order.{Order}
use Rattle.pp_replay.specs.declared.types.Order.TheVariants.{Sequential, Rarest}
use Rattle.pp_replay.specs.declared.fault.ScheduleKind.{ScheduleKind}
use Rattle.pp_replay.specs.declared.fault.ScheduleKind.TheVariants.{Long, Header, Content, Line, Number, Peer, Hex}
use Rattle.pp_replay.specs.declared.fault.ScheduleFault.{ScheduleFault}
use Rattle.pp_replay.specs.declared.types.Role.{Role}
use Rattle.pp_replay.specs.declared.types.Role.TheVariants.{Seeds, Fetches}
use Rattle.pp_replay.specs.declared.types.Device.{Device}
use Rattle.pp_replay.specs.declared.types.Device.TheVariants as device
use Rattle.pp_replay.specs.declared.types.Act.{Act}
use Rattle.pp_replay.specs.declared.types.Act.TheVariants.{Turn, Lose, Repeat, Later, Forge, Fail, Crash, Stop, Start}
use Rattle.pp_replay.specs.declared.types.Step.{Step}
use Rattle.pp_replay.specs.declared.types.Step.TheVariants.{Once, Run}

-- a result, its value and its error each seen so
abbrev pub viewed : {A B E F : Type 0} → (A → B) → (E → F) → Result A E → Result B F
viewed f g (Ok x) = Ok (f x)
viewed f g (Err e) = Err (g e)

-- what is seen as it is
abbrev pub same : {A : Type 0} → A → A
same x = x

abbrev pub as_kind : ScheduleKind → wrong.ScheduleKind
as_kind Long = wrong.Long
as_kind Header = wrong.Header
as_kind Content = wrong.Content
as_kind Line = wrong.Line
as_kind Number = wrong.Number
as_kind Peer = wrong.Peer
as_kind Hex = wrong.Hex

abbrev pub as_fault : ScheduleFault → wrong.ScheduleFault
as_fault f = wrong.fault f.line (as_kind f.kind)

abbrev pub as_order : Order → orders.Order
as_order Sequential = orders.Sequential
as_order Rarest = orders.Rarest

abbrev pub as_role : Role → terms.Role
as_role Seeds = terms.Seeds
as_role (Fetches order dialled) = terms.Fetches (as_order order) dialled.items

abbrev pub as_device : Device → terms.Device
as_device device.Read = terms.Read
as_device device.Write = terms.Write
as_device device.Sync = terms.Sync
as_device device.Send = terms.Send
as_device device.Receive = terms.Receive

abbrev pub as_act : Act → terms.Act
as_act (Turn peer) = terms.Turn peer
as_act (Lose peer) = terms.Lose peer
as_act (Repeat peer) = terms.Repeat peer
as_act (Later peer) = terms.Later peer
as_act (Forge peer sender datagram) = terms.Forge peer sender datagram
as_act (Fail peer call) = terms.Fail peer (as_device call)
as_act (Crash peer pick) = terms.Crash peer pick
as_act (Stop peer) = terms.Stop peer
as_act (Start peer) = terms.Start peer

abbrev pub as_step : Step → terms.Step
as_step (Once act) = terms.Once (as_act act)
as_step (Run rounds gain) = terms.Run rounds gain
