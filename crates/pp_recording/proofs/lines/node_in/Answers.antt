use Rattle.pp_recording.proofs.LineFaults.{no_first_space, no_second_space, no_layer, no_offset, no_digest}
use Rattle.pp_recording.proofs.lines.node_in.Goals as goal

pub returns-in_err-layer : goal.returns-in_err-layer
returns-in_err-layer c = rw c.from_residual.ensures (no_first_space c.args.words.now c.in_err-layer.ensures)

pub returns-in_err-offset : goal.returns-in_err-offset
returns-in_err-offset c = rw c.from_residual-in_err-offset.ensures
    (no_second_space c.args.words.now c.in_ok-layer.layer.now c.in_ok-layer.words.now c.in_ok-layer.ensures.0 c.in_ok-layer.ensures.1 c.in_err-offset.ensures)

pub returns-in_err-layer-2 : goal.returns-in_err-layer-2
returns-in_err-layer-2 c = rw c.from_residual-in_err-layer-2.ensures
    (no_layer c.args.words.now c.in_ok-layer.layer.now c.in_ok-layer.words.now c.in_ok-layer.ensures.0 c.in_ok-layer.ensures.1 c.in_err-layer-2.ensures)

pub returns-in_err-offset-2 : goal.returns-in_err-offset-2
returns-in_err-offset-2 c = rw c.from_residual-in_err-offset-2.ensures
    (no_offset c.args.words.now c.in_ok-layer.layer.now c.in_ok-layer.words.now c.in_ok-offset.offset.now c.in_ok-offset.digits.now
    c.in_ok-layer.ensures.0 c.in_ok-layer.ensures.1 c.in_ok-offset.ensures.0 c.in_ok-offset.ensures.1 c.in_err-offset-2.ensures)

pub returns-in_err-digest : goal.returns-in_err-digest
returns-in_err-digest c = rw c.from_residual-in_err-digest.ensures
    (no_digest c.args.words.now c.in_ok-layer.layer.now c.in_ok-layer.words.now c.in_ok-offset.offset.now c.in_ok-offset.digits.now
    c.in_ok-layer.ensures.0 c.in_ok-layer.ensures.1 c.in_ok-offset.ensures.0 c.in_ok-offset.ensures.1 c.in_err-digest.ensures)
