-- What was at a mark stays.
use Rattle.std.proofs.Common.{List, ap}
use Rattle.std.proofs.lemmas.List.{take-append-le}
use Rattle.pp_terms.specs.disk.Calls.{Did, history_of}
use Rattle.pp_world.specs.MarkLaws.{MarkLaws}

pub mark_laws : MarkLaws
mark_laws = record {
  elsewhere = λ d disk attached other calls moment i stands. stands;
  stays = λ disk more attached calls within.
      ap (λ (done : List Did). history_of (record disk { done = done; attached_at = attached }))
      (take-append-le calls disk.done more within);
}
