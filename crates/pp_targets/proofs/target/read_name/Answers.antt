use Rattle.std.proofs.Common.{refl}
use Rattle.pp_tree.proofs.Languages.{false_true}
use Rattle.pp_tree.proofs.Readings.{too_large}
use Rattle.pp_targets.proofs.TargetReadings.{either_fault, chunk_fault, name_found}
use Rattle.pp_targets.proofs.target.read_name.Goals as goal
use Rattle.pp_targets.proofs.target.read_name.Goals.{then-words-gt-MOST_IN_CHUNK-via-then-words-gt-MOST_IN_CHUNK, then-words-gt-MOST_IN_CHUNK-via-else-words-gt-MOST_IN_CHUNK+then-not-is_chunk_size}

pub returns-in-Err-clause-fault : goal.returns-in-Err-clause-fault
returns-in-Err-clause-fault c =
    either_fault c.args.text.now c.args.begun c.in-Err.place c.max-at.result c.requires c.in-Err.ensures.err c.max-at.ensures

pub returns-then-words-gt-MOST_IN_CHUNK-clause-fault : goal.returns-then-words-gt-MOST_IN_CHUNK-clause-fault
returns-then-words-gt-MOST_IN_CHUNK-clause-fault c = elim c.then-words-gt-MOST_IN_CHUNK.branch [
  | then-words-gt-MOST_IN_CHUNK-via-then-words-gt-MOST_IN_CHUNK w ↦
      chunk_fault c.args.text.now c.in-Ok.words c.in-Ok.ensures.ok (too_large _ w.if-words-gt-MOST_IN_CHUNK.true)
  | then-words-gt-MOST_IN_CHUNK-via-else-words-gt-MOST_IN_CHUNK+then-not-is_chunk_size w ↦
      chunk_fault c.args.text.now c.in-Ok.words c.in-Ok.ensures.ok
      (λ size. false_true w.is_chunk_size.result w.if-not-is_chunk_size.true (w.is_chunk_size.ensures.1 size))
]

pub returns-in-Some-clause-ok : goal.returns-in-Some-clause-ok
returns-in-Some-clause-ok c =
    name_found c.args.text.now c.in-Ok.words _ c.in-Ok.ensures.ok c.new.ensures.same refl c.if-words-gt-MOST_IN_CHUNK.false
    c.in-Some.ensures
