use Rattle.std.proofs.Common.{ap, ◌∙◌, sym, subst, refl, List, ℕ}
use Rattle.hex.specs.Hex.{encode_lower, IsBytes}
use Rattle.pp_tree.proofs.HexDigits.{digits_decode}
use Rattle.pp_targets.proofs.form.root_bytes.Goals as goal

pub unwrap-requires : goal.unwrap-requires
unwrap-requires c =
    let found = digits_decode c.args.digits.now c.requires.len c.requires.lower in
    let told = rw found.1 at c.decode_to_slice.ensures.value in
    rw told.0 refl

pub returns-clause-text : goal.returns-clause-text
returns-clause-text c =
    let found = digits_decode c.args.digits.now c.requires.len c.requires.lower in
    let told = rw found.1 at c.decode_to_slice.ensures.value in
    ap (λ (xs : List ℕ). encode_lower xs) told.1 ∙ found.2

pub returns-clause-all : goal.returns-clause-all
returns-clause-all c =
    let found = digits_decode c.args.digits.now c.requires.len c.requires.lower in
    let told = rw found.1 at c.decode_to_slice.ensures.value in
    subst (λ (xs : List ℕ). IsBytes xs) (sym told.1) found.3
