use Rattle.std.proofs.Common.{◌≡◌, ◌-◌, length, drop, set, ◌∙◌, arith}
use Rattle.std.proofs.lemmas.List.{length-drop, length-set}
use Rattle.pp_store.proofs.Copies.{slot_bytes}
use Rattle.pp_store.proofs.copying.read_slot.Goals as goal

pub returns-clause-bytes : goal.returns-clause-bytes
returns-clause-bytes g c told at =
    let slot = c.args.slot.now in
    let one : length (drop (length slot - 1) (set slot (length slot - 1) 0)) ≡ 1 =
    length-drop (length slot - 1) (set slot (length slot - 1) 0) ∙ omega (arith, length-set slot (length slot - 1) 0, c.requires) in
    slot_bytes c.fill_zeroed.result c.fill_zeroed.new.buffer (drop (length slot - 1) (set slot (length slot - 1) 0)) told one (c.fill_zeroed.ensures.bytes told at)
