-- Options in which no difference is found.
use Rattle.std.proofs.Common.{◌≡◌, ℕ, Bool, true, false, not, cond, List, Option, Some, None, refl, sym, ap, ◌∙◌, eq-eqb}
use Rattle.std.specs.Prelude.{MatchOption, nat_eq, unwrap_or}
use Rattle.std.specs.Cmp.Lexicographic.{pointwise, same_text, other_text}
use Rattle.std.proofs.lemmas.Bool.{eqb-true, eqb-false, ltb-false, le-ltb, ne_eqb, not-false}
use Rattle.pp_terms.proofs.Spellings.{pass}
use Rattle.pp_terms.specs.format.Descriptor.{Descriptor, method_number}
use Rattle.pp_terms.specs.format.Options.{Options}
use Rattle.pp_terms.specs.format.Mismatch.{Mismatch, Agrees, is_swarm, mismatch_of, NoneDiffers}

passed : (b : Bool) (x : Mismatch) (rest : Option Mismatch) → cond b (Some x) rest ≡ None → (b ≡ false) × (rest ≡ None)
passed b x rest e = elim b as (λ v. cond v (Some x) rest ≡ None → (v ≡ false) × (rest ≡ None)) [
  | true ↦ λ h. absurd cc
  | false ↦ λ h. (refl, h)
] e

same_swarm : (d : Descriptor) (reply : Bool) (swarm : Option (List ℕ)) → is_swarm d reply swarm ≡ true
    → MatchOption swarm (reply ≡ true) (λ bytes. bytes ≡ d.root)
same_swarm d reply None e = e
same_swarm d reply (Some bytes) e = same_text bytes d.root (sym e)

text_same : (xs ys : List ℕ) (b : Bool) → b ≡ pointwise nat_eq xs ys → xs ≡ ys → b ≡ true
text_same xs ys true e h = refl
text_same xs ys false e h = absurd (other_text xs ys e h)

swarm_same : (d : Descriptor) (reply : Bool) (swarm : Option (List ℕ)) → MatchOption swarm (reply ≡ true) (λ bytes. bytes ≡ d.root)
    → is_swarm d reply swarm ≡ true
swarm_same d reply None h = h
swarm_same d reply (Some bytes) h = text_same bytes d.root (pointwise nat_eq bytes d.root) refl h

found_none : (d : Descriptor) (reply : Bool) (o : Options) → mismatch_of d reply o ≡ None → Agrees d reply o
unfolding mismatch_of
found_none d reply o e =
    let a = passed _ _ _ e in
    let b = passed _ _ _ a.1 in
    let s = passed _ _ _ b.1 in
    let i = passed _ _ _ s.1 in
    let h = passed _ _ _ i.1 in
    let m = passed _ _ _ h.1 in
    let c = passed _ _ _ m.1 in
    record {
      version = eqb-false _ _ a.0;
      minimum = ltb-false _ _ b.0;
      swarm = same_swarm d reply o.swarm (not-false _ s.0);
      integrity = eqb-true _ _ (not-false _ i.0);
      hash = eqb-true _ _ (not-false _ h.0);
      addressing = eqb-true _ _ (not-false _ m.0);
      chunk = eqb-true _ _ (not-false _ c.0);
    }

none_found : (d : Descriptor) (reply : Bool) (o : Options) → Agrees d reply o → mismatch_of d reply o ≡ None
unfolding mismatch_of
none_found d reply o h =
    pass _ _ (ne_eqb (unwrap_or o.version 1) 0 h.version)
    ∙ pass _ _ (le-ltb 1 (unwrap_or o.minimum 1) h.minimum)
    ∙ pass _ _ (ap not (swarm_same d reply o.swarm h.swarm))
    ∙ pass _ _ (ap not (eq-eqb (unwrap_or o.integrity 1) 1 h.integrity))
    ∙ pass _ _ (ap not (eq-eqb (unwrap_or o.hash 2) 2 h.hash))
    ∙ pass _ _ (ap not (eq-eqb (unwrap_or o.addressing 2) (method_number d.method) h.addressing))
    ∙ pass _ _ (ap not (eq-eqb (unwrap_or o.chunk 1024) d.chunk h.chunk))

pub none_differs : NoneDiffers
none_differs d reply o = (found_none d reply o, none_found d reply o)
