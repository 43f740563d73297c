use Rattle.std.proofs.Common.{ℕ, zero, suc, ◌≡◌, ◌*◌, ◌∷◌, [], ◌++◌, cond, List, map, replicate, refl, sym, ◌∙◌, ap, arith}
use Rattle.std.specs.Prelude.{is_some, slice_index_or, None, Option}
use Rattle.std.proofs.lemmas.List.{map-append, replicate_more}
use Rattle.std.proofs.lemmas.List.Folds.{sum_by-replicate}
use Rattle.pp_mail.specs.declared.queues.Letter.{Letter}
use Rattle.pp_mail.specs.Letters.{letter_at, mail_of, times, times_in}
use Rattle.pp_mail.proofs.Kept.{items_of}
use Rattle.pp_mail.proofs.queues.Mail.new.Goals as goal

pub loop-preserved : goal.loop-preserved
loop-preserved c =
    ap (map items_of) c.in_ok-push.ensures.items ∙ map-append items_of c.loop.queues.items (c.new.result ∷ [])
    ∙ ap (λ (keys : List (List ℕ)). keys ++ c.new.result.items ∷ []) c.loop.invariant
    ∙ ap (λ (last : List ℕ). replicate c.loop.counter [] ++ last ∷ []) c.new.ensures.items
    ∙ replicate_more c.loop.counter []

zero_times : (n : ℕ) → n * 0 ≡ 0
zero_times n = omega arith

map-none : {A B : Type 0} (f : A → B) (n : ℕ) → map (map f) (replicate n []) ≡ replicate n []
map-none f zero = refl
map-none f (suc n) = ap (λ queues. [] ∷ queues) (map-none f n)

pub invariant_of-result : goal.invariant_of-result
invariant_of-result c = record {
  once = λ key. ap (times key) c.loop.invariant ∙ sum_by-replicate (times_in key) c.loop.counter []
      ∙ zero_times c.loop.counter
      ∙ ap (λ (slots : List (Option Letter)). cond (is_some (slice_index_or slots key None)) 1 0) (sym c.new-2.ensures.empty);
}

pub returns : goal.returns
returns c =
    let counted : c.loop.counter ≡ c.args.peers = omega arith in
    ap (mail_of c.new-2.result) c.loop.invariant ∙ map-none (letter_at c.new-2.result) c.loop.counter ∙ ap (λ n. replicate n []) counted
