use Rattle.pp_recording.proofs.LineFaults.{no_number_space, no_address_space, no_number, no_digits, no_address}
use Rattle.pp_recording.proofs.lines.datagram_in.Goals as goal

pub returns-in_default : goal.returns-in_default
returns-in_default c = no_number_space c.args.words.now c.in_default.ensures

pub returns-in_default-split_at_byte : goal.returns-in_default-split_at_byte
returns-in_default-split_at_byte c =
    no_address_space c.args.words.now c.in-Some.first.now c.in-Some.words.now c.in-Some.ensures.0 c.in-Some.ensures.1 c.in_default-split_at_byte.ensures

pub returns-in_default-number : goal.returns-in_default-number
returns-in_default-number c =
    no_number c.args.words.now c.in-Some.first.now c.in-Some.words.now c.in-Some.ensures.0 c.in-Some.ensures.1 c.in_default-number.ensures

pub returns-then-not-is_hex : goal.returns-then-not-is_hex
returns-then-not-is_hex c =
    no_digits c.args.words.now c.in-Some.first.now c.in-Some.words.now c.in-Some-split_at_byte.second.now c.in-Some-split_at_byte.digits.now
    c.in-Some.ensures.0 c.in-Some.ensures.1 c.in-Some-split_at_byte.ensures.0 c.in-Some-split_at_byte.ensures.1
    (λ is. let yes = c.is_hex.ensures.1 is in let no = c.if-not-is_hex.true in cc)

pub returns-in-None : goal.returns-in-None
returns-in-None c =
    no_address c.args.words.now c.in-Some.first.now c.in-Some.words.now c.in-Some-split_at_byte.second.now c.in-Some-split_at_byte.digits.now
    c.in-Some.ensures.0 c.in-Some.ensures.1 c.in-Some-split_at_byte.ensures.0 c.in-Some-split_at_byte.ensures.1
    (rw c.in-None.is at c.in_ok-address.ensures)
