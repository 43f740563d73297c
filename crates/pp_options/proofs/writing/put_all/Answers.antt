use Rattle.std.proofs.Common.{ℕ, List, [], ◌∷◌, ap, ◌∙◌, arith}
use Rattle.pp_terms.specs.Place.{placed}
use Rattle.pp_terms.specs.format.Options as plain
use Rattle.pp_terms.specs.format.Options.{Swarm, Messages, Chunk, spelled_if, spelling_of}
use Rattle.pp_options.specs.Views.{options_of, number_field, HasWritten}
use Rattle.pp_options.proofs.Writes.{fields, length_by_field, put_more}
use Rattle.pp_options.proofs.writing.put_all.Goals as goal

pub returns-clause-after : goal.returns-clause-after
returns-clause-after c =
    let old : List ℕ = c.args.out.now in
    let at : ℕ = c.args.at in
    let o : plain.Options = options_of c.args.options.now in
    let total = length_by_field o in
    let p1 : HasWritten old at (number_field 0 o.version) c.put_number-place.new.out c.put_number-place.result =
    record { after = c.put_number-place.ensures.after; ends = c.put_number-place.ensures.end } in
    let p2 = put_more old at _ c.put_number-place.new.out c.put_number-place.result (number_field 1 o.minimum) c.put_number-place-2.new.out c.put_number-place-2.result
    (omega (arith, total)) p1 c.put_number-place-2.ensures.after c.put_number-place-2.ensures.end in
    let p3 = put_more old at _ c.put_number-place-2.new.out c.put_number-place-2.result (spelled_if Swarm o.swarm) c.put_swarm-place.new.out c.put_swarm-place.result
    (omega (arith, total)) p2 c.put_swarm-place.ensures.after c.put_swarm-place.ensures.end in
    let p4 = put_more old at _ c.put_swarm-place.new.out c.put_swarm-place.result (number_field 3 o.integrity) c.put_number-place-3.new.out c.put_number-place-3.result
    (omega (arith, total)) p3 c.put_number-place-3.ensures.after c.put_number-place-3.ensures.end in
    let p5 = put_more old at _ c.put_number-place-3.new.out c.put_number-place-3.result (number_field 4 o.hash) c.put_number-place-4.new.out c.put_number-place-4.result
    (omega (arith, total)) p4 c.put_number-place-4.ensures.after c.put_number-place-4.ensures.end in
    let p6 = put_more old at _ c.put_number-place-4.new.out c.put_number-place-4.result (number_field 6 o.addressing) c.put_number-place-5.new.out c.put_number-place-5.result
    (omega (arith, total)) p5 c.put_number-place-5.ensures.after c.put_number-place-5.ensures.end in
    let p7 = put_more old at _ c.put_number-place-5.new.out c.put_number-place-5.result (spelled_if Messages o.messages) c.put_messages-place.new.out c.put_messages-place.result
    (omega (arith, total)) p6 c.put_messages-place.ensures.after c.put_messages-place.ensures.end in
    let p8 = put_more old at _ c.put_messages-place.new.out c.put_messages-place.result (spelled_if Chunk o.chunk) c.put_chunk-place.new.out c.put_chunk-place.result
    (omega (arith, total)) p7 c.put_chunk-place.ensures.after c.put_chunk-place.ensures.end in
    let p9 = put_more old at _ c.put_chunk-place.new.out c.put_chunk-place.result (255 ∷ []) c.put.new.out c.put.result
    (omega (arith, total)) p8 c.put.ensures.after c.put.ensures.end in
    p9.after ∙ ap (λ (t : List ℕ). placed old at t) (fields o)
