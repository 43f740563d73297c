-- A span that is told of, cut at the content's last chunk.
use Rattle.std.proofs.Common.{◌≡◌, ℕ, ◌-◌, min, Bool, true, false, ◌||◌, refl, ◌∙◌, ap}
use Rattle.pp_terms.specs.tree.Tree.{Node}
use Rattle.pp_terms.specs.tree.Range.{Span}
use Rattle.pp_traffic.specs.Hashes.{tells}
use Rattle.pp_plan.specs.Told.{ToldNodes, knows}
use Rattle.pp_plan.proofs.Ranges.{cuts_tell_alike}

swapped : (a b : Bool) → (a || b) ≡ (b || a)
swapped true true = refl
swapped true false = refl
swapped false true = refl
swapped false false = refl

pub told_cut : (old new : ToldNodes) (span range : Span) (chunks last : ℕ) → chunks ≡ old.chunks → last ≡ min span.last (chunks - 1)
    → range ≡ record { first = span.first; last = last }
    → ((n : Node) → knows new n ≡ (knows old n || tells old.chunks (record { first = range.first; last = range.last }) n))
    → (n : Node) → knows new n ≡ (tells old.chunks span n || knows old n)
told_cut old new span range chunks last size end cut more n =
    more n
    ∙ ap (λ (r : Span). knows old n || tells old.chunks (record { first = r.first; last = r.last }) n) cut
    ∙ ap (λ (k : ℕ). knows old n || tells old.chunks (record { first = span.first; last = k }) n) (end ∙ ap (λ (k : ℕ). min span.last (k - 1)) size)
    ∙ ap (λ (b : Bool). knows old n || b) (cuts_tell_alike old.chunks span n)
    ∙ swapped (knows old n) (tells old.chunks span n)
