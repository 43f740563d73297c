use Rattle.std.proofs.Common.{◌<◌, length, List, ℕ, get_or, sym, subst, arith}
use Rattle.pp_recording.specs.State.{LiesIn}
use Rattle.pp_recording.specs.declared.recording.Entry.{Entry}
use Rattle.pp_recording.proofs.Fillings.{lies_in}
use Rattle.pp_verdict.proofs.entries.entries_of.Goals as goal

pub entry_in-requires : goal.entry_in-requires
entry_in-requires c =
    let low : c.loop-n.n < length c.args.recording.now.entries = omega (arith, c.loop-n-test.true, c.count-count.ensures.count) in
    let lies = lies_in c.args.recording.now.entries 0 (length c.args.recording.now.bytes) c.loop-n.n c.entry.result.now
    c.count-count.ensures.whole.filled low in
    subst (λ (e : Entry). LiesIn e (length c.bytes-bytes.result.now)) (sym c.entry.ensures)
    (subst (λ (xs : List ℕ). LiesIn (get_or c.args.recording.now.entries c.loop-n.n c.entry.result.now) (length xs)) (sym c.bytes-bytes.ensures) lies)
