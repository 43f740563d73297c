use Rattle.std.proofs.Common.{◌∙◌, get_or, ℕ, Option, Some, false, not, sym, ap, subst}
use Rattle.std.specs.Prelude.{is_some}
use Rattle.std.proofs.lemmas.Bool.{false≢true}
use Rattle.pp_avail.specs.declared.ranker.Rank.{Rank}
use Rattle.pp_terms.proofs.Facts.{none_in}
use Rattle.pp_core.specs.Opening.{HasFetching}
use Rattle.pp_core.proofs.Beginning.{fetching_of}
use Rattle.pp_core.proofs.opening.new_fetching.Goals as goal

pub returns : goal.returns
returns c = subst (λ (n : ℕ). HasFetching n c.args.asks (Some c.in_ok-fetching.fetching)) c.chunks-chunks.ensures.chunks (fetching_of c.chunks-chunks.result c.args.asks c.in_ok-fetching.fetching
    (λ e. false≢true (ap (λ (o : Option Rank). is_some o) (sym e) ∙ c.is_none.ensures ∙ ap not c.if-is_none.false)) (record {
      size = c.in_ok-fetching.ensures.size;
      had_are = λ i. c.in_ok-fetching.ensures.had i ∙ ap (λ xs. get_or xs i false) c.in_ok-none.ensures ∙ none_in c.chunks-chunks.result i;
      asked = c.in_ok-fetching.ensures.asked;
      limit = c.in_ok-fetching.ensures.limit;
      offers = c.in_ok-fetching.ensures.offers;
    }))
