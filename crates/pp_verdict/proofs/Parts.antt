-- The first part that fails for a chunk, by what was found on all lives.
use Rattle.std.proofs.Common.{◌≡◌, Some, List, [], subst}
use Rattle.std.specs.List.{Contains}
use Rattle.pp_terms.specs.format.Traffic.{Record}
use Rattle.pp_terms.specs.format.Descriptor.{Descriptor}
use Rattle.pp_terms.specs.tree.Book.{LookUp, IsBacked}
use Rattle.pp_traffic.specs.Life.{Life, IsLife}
use Rattle.pp_traffic.specs.Serving.{window_of, Serves, ServesAll}
use Rattle.pp_verdict.specs.Chunks.{SentChunk, chunk_of}
use Rattle.pp_verdict.specs.Faults.{Suits, Passes, FailsOn, FailsOnLives, FailsChunk, Fails}
use Rattle.pp_verdict.specs.Findings.{case_of, IsIn, HasFailed, IsSettled}
use Rattle.pp_verdict.specs.Answers.{IsAnswer, IsYes}
use Rattle.pp_verdict.specs.declared.answer.Part.{Part}
use Rattle.pp_verdict.specs.declared.answer.Part.TheVariants as parts
use Rattle.pp_verdict.specs.declared.answer.Answer.{Answer}
use Rattle.pp_verdict.specs.declared.answer.Answer.TheVariants.{Yes, No}
use Rattle.pp_verdict.specs.declared.findings.Finding.TheVariants.{Unseen, Passed, Failed}
use Rattle.pp_verdict.proofs.Chunks.{IsServing, chunk_serves}
use Rattle.pp_verdict.proofs.Faults.{faults_do_not_serve}
use Rattle.pp_verdict.proofs.Notes.{one_chunk}
use Rattle.pp_verdict.proofs.Walks.{record_there}

is_in : (d : Descriptor) (book : LookUp) (before : List Record) (here : Record) (c : SentChunk) → chunk_of d here ≡ Some c → IsBacked d book c.number c.bytes
    → IsIn c (case_of d book before here)
is_in d book before here c is backed = record { is = is; within = backed.within }

pub no_life : (d : Descriptor) (book : LookUp) (before : List Record) (here : Record) (c : SentChunk) → chunk_of d here ≡ Some c → c.rest ≡ []
    → IsBacked d book c.number c.bytes → IsSettled (case_of d book before here) Unseen → Fails d book before here parts.Life
no_life d book before here c is last backed (lives, all, found) = (
  c,
  is,
  (
    last,
    backed,
    λ life suits.
        found life (all life suits.alive) (record { chunk = c; is = is_in d book before here c is backed; suits = suits }),
  ),
)

serving : (d : Descriptor) (book : LookUp) (before : List Record) (c : SentChunk) (life : Life) → c.rest ≡ [] → IsBacked d book c.number c.bytes
    → Suits d before c life → Passes d book before c life → IsServing d book (window_of d) before c
serving d book before c life last backed suits passes = record {
  last = last;
  backed = backed;
  hashes = passes.hashes.0;
  peer = record {
    life = life;
    at = suits.at;
    by = suits.by;
    answers = record {
      alive = suits.alive;
      asked_for = passes.asked_for;
      unchoked = passes.unchoked.0;
      heard = passes.unchoked.1;
      whole_path = passes.hashes.1;
      in_window = passes.room;
    };
  };
}

pub some_life : (d : Descriptor) (book : LookUp) (before : List Record) (here : Record) (c : SentChunk) → chunk_of d here ≡ Some c → c.rest ≡ []
    → IsBacked d book c.number c.bytes → IsSettled (case_of d book before here) Passed → Serves d book (window_of d) before here
some_life d book before here c is last backed (lives, all, (life, on, passes)) =
    let same = one_chunk (case_of d book before here) on.chunk c on.is (is_in d book before here c is backed) in
    chunk_serves d book (window_of d) before here c is
    (serving d book before c life last backed (subst (λ (s : SentChunk). Suits d before s life) same on.suits)
    (subst (λ (s : SentChunk). Passes d book before s life) same passes))

fails_as : (d : Descriptor) (book : LookUp) (before : List Record) (c : SentChunk) (life : Life) (part : Part) → c.rest ≡ [] → IsBacked d book c.number c.bytes
    → FailsOn d book before c life part → FailsOnLives d book before c part → FailsChunk d book before c part
fails_as d book before c life parts.Tail last backed on fails = absurd on
fails_as d book before c life parts.Backed last backed on fails = absurd on
fails_as d book before c life parts.Life last backed on fails = absurd on
fails_as d book before c life parts.Asked last backed on fails = (last, backed, fails)
fails_as d book before c life parts.Unchoked last backed on fails = (last, backed, fails)
fails_as d book before c life parts.Hashes last backed on fails = (last, backed, fails)
fails_as d book before c life parts.Window last backed on fails = (last, backed, fails)

on_lives : (d : Descriptor) (book : LookUp) (before : List Record) (here : Record) (lives : List Life) (life : Life) (part : Part)
    → (failed : HasFailed (case_of d book before here) lives life part) → ((l : Life) → IsLife d l before → Contains lives l)
    → FailsOnLives d book before failed.on.chunk part
on_lives d book before here lives life part failed all = record {
  none = λ other suits passes. failed.none other (all other suits.alive) suits passes;
  life = life;
  latest = record { suits = failed.on.suits; latest = λ other suits. failed.latest other (all other suits.alive) suits };
  fails = failed.fails;
}

pub failed_life : (d : Descriptor) (book : LookUp) (before : List Record) (here : Record) (c : SentChunk) (opening local : _) (part : Part) → chunk_of d here ≡ Some c
    → c.rest ≡ [] → IsBacked d book c.number c.bytes → IsSettled (case_of d book before here) (Failed opening local part) → Fails d book before here part
failed_life d book before here c opening local part is last backed (lives, all, (life, at, number, failed)) =
    let same = one_chunk (case_of d book before here) failed.on.chunk c failed.on.is (is_in d book before here c is backed) in (
      c,
      is,
      fails_as d book before c life part last backed (subst (λ (s : SentChunk). FailsOn d book before s life part) same failed.fails)
          (subst (λ (s : SentChunk). FailsOnLives d book before s part) same (on_lives d book before here lives life part failed all)),
    )

-- where all records serve, no first fault is answered
pub answer_is_yes : (d : Descriptor) (book : LookUp) (rs : List Record) (answer : Answer) → IsAnswer d book rs answer → ServesAll d book (window_of d) rs → IsYes answer
answer_is_yes d book rs (Yes records chunks) is all = tt
answer_is_yes d book rs (No place part) is all =
    faults_do_not_serve d book is.before is.here part is.fails
    (record_there (λ past r. Serves d book (window_of d) past r) is.later is.here is.before
    (subst (λ (xs : List Record). ServesAll d book (window_of d) xs) is.split all))
