use Rattle.std.proofs.Common.{◌++◌, ◌∷◌, [], arith}
use Rattle.pp_terms.specs.format.Messages.{only, spell_span}
use Rattle.pp_tree.specs.Method.{method_of}
use Rattle.pp_wire.proofs.Puts.{head_put}
use Rattle.pp_wire.proofs.writing.put_head.Goals as goal

pub returns-clause-spelt : goal.returns-clause-spelt
returns-clause-spelt c =
    head_put (method_of c.args.method) c.args.chunk c.args.sent_at (1 ∷ (spell_span (method_of c.args.method) (only c.args.chunk) ++ (c.to_be_bytes-moment.result ++ [])))
    c.args.out.now c.put_chunks.new.out c.args.at c.put_chunks.result (omega (arith, c.ranges.sent_at)) c.put_chunks.ensures
