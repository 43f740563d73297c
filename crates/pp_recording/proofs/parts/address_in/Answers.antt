use Rattle.std.proofs.Common.{ℕ, List, ◌++◌, ap, ◌∙◌, sym, subst}
use Rattle.pp_outside.specs.Outside.{address_of}
use Rattle.pp_terms.specs.format.Traffic.{Address}
use Rattle.pp_recording.specs.Recording.{IsPeerAddress}
use Rattle.pp_recording.specs.Spelling.{address_text}
use Rattle.pp_recording.proofs.LineFaults.{never_read, some_same, none_some}
use Rattle.pp_recording.proofs.ByteTests.{told_apart}
use Rattle.pp_recording.proofs.parts.address_in.Goals as goal

pub returns-in_default : goal.returns-in_default
returns-in_default c a is e =
    let found = c.in_default.ensures.each a (never_read c.args.word.now a is e) in none_some a found

pub returns-else-eq : goal.returns-else-eq
returns-else-eq c a is e =
    let found = c.in-Some.ensures.each a (never_read c.args.word.now a is e) in
    let same = some_same (address_of c.in-Some.address) a found in
    told_apart c.eq.result c.as_slice.result.now c.args.word.now (address_text a) c.eq.ensures e c.if-eq.false
    (c.as_slice.ensures.value ∙ c.in_ok-add_address.ensures
    ∙ ap (λ (items : List ℕ). items ++ address_text (address_of c.in-Some.address)) c.clear.ensures.items ∙ ap (λ (b : Address). address_text b) same)

pub returns-then-not-has_port : goal.returns-then-not-has_port
returns-then-not-has_port c a is e =
    let found = c.in-Some.ensures.each a (never_read c.args.word.now a is e) in
    let same = some_same (address_of c.in-Some.address) a found in
    let told = c.has_port.ensures.1 (subst (λ (b : Address). IsPeerAddress b) (sym same) is) in
    let refused = c.if-not-has_port.true in cc
