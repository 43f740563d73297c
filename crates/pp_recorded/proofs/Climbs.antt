-- A path, node by node.
use Rattle.std.proofs.Common.{◌≡◌, ℕ, suc, Bool, true, false, cond, not, ◌&&◌, ◌||◌, Option, Some, None, refl, sym, ◌∙◌, ap}
use Rattle.std.specs.List.{list_all}
use Rattle.pp_terms.specs.tree.Tree.{Node, peaks, is_peak}
use Rattle.pp_terms.specs.tree.Bins.{parent_of, sibling_of}
use Rattle.pp_traffic.specs.Hashes.{completes_from}
use Rattle.pp_recorded.specs.Paths.{climb_of, settled}

climbs : (t peak all s more : Bool) → (t || (peak && all) || (not peak && s && more)) ≡ settled (cond t (Some true) (cond peak (Some all) (cond s None (Some false)))) more
climbs true peak all s more = refl
climbs false true true s more = refl
climbs false true false s more = refl
climbs false false all true more = refl
climbs false false all false more = refl

climb_suc : (chunks layers : ℕ) (brought told : Node → Bool) (n : Node)
    → completes_from (suc layers) chunks brought told n ≡ settled (climb_of chunks brought told n) (completes_from layers chunks brought told (parent_of n))
climb_suc chunks layers brought told n =
    climbs (told n) (is_peak chunks n) (list_all (λ p. brought p || told p) (peaks chunks)) (brought (sibling_of n) || told (sibling_of n))
    (completes_from layers chunks brought told (parent_of n))

pub climb_more : (chunks layers next : ℕ) (brought told : Node → Bool) (n : Node) → layers ≡ suc next
    → completes_from layers chunks brought told n ≡ settled (climb_of chunks brought told n) (completes_from next chunks brought told (parent_of n))
climb_more chunks layers next brought told n is =
    ap (λ (k : ℕ). completes_from k chunks brought told n) is ∙ climb_suc chunks next brought told n

-- what was answered at a node, or what is left above it
pub climbed : (chunks layers next : ℕ) (brought told : Node → Bool) (n : Node) (answer : Option Bool) (b : Bool) → layers ≡ suc next
    → answer ≡ climb_of chunks brought told n → b ≡ settled answer (completes_from next chunks brought told (parent_of n))
    → b ≡ completes_from layers chunks brought told n
climbed chunks layers next brought told n answer b is found e =
    e ∙ ap (λ (a : Option Bool). settled a (completes_from next chunks brought told (parent_of n))) found
    ∙ sym (climb_more chunks layers next brought told n is)

-- a node, by what it is
answers : (t peak all s : Bool) → Option Bool
answers t peak all s = cond t (Some true) (cond peak (Some all) (cond s None (Some false)))

by_peak : (t peak all s : Bool) → t ≡ false → peak ≡ true → Some all ≡ answers t peak all s
unfolding answers
by_peak t peak all s not_told is_peak = rw (not_told, is_peak) refl

by_sibling : (t peak all s : Bool) → t ≡ false → peak ≡ false → s ≡ true → None ≡ answers t peak all s
unfolding answers
by_sibling t peak all s not_told no_peak known = rw (not_told, no_peak, known) refl

by_none : (t peak all s : Bool) → t ≡ false → peak ≡ false → s ≡ false → Some false ≡ answers t peak all s
unfolding answers
by_none t peak all s not_told no_peak known = rw (not_told, no_peak, known) refl

pub climb_peak : (chunks n' : ℕ) (brought told : Node → Bool) (n : Node) (t peak all : Bool) → n' ≡ chunks → t ≡ told n → t ≡ false
    → peak ≡ is_peak n' n → peak ≡ true → all ≡ list_all (λ p. brought p || told p) (peaks chunks) → Some all ≡ climb_of chunks brought told n
unfolding answers
climb_peak chunks n' brought told n t peak all few t_is no_told peak_is is all_is =
    ap (λ (b : Bool). Some b) all_is
    ∙ by_peak (told n) (is_peak chunks n) (list_all (λ p. brought p || told p) (peaks chunks)) (brought (sibling_of n) || told (sibling_of n))
    (sym t_is ∙ no_told) (ap (λ (k : ℕ). is_peak k n) (sym few) ∙ sym peak_is ∙ is)

pub climb_sibling : (chunks n' : ℕ) (brought told : Node → Bool) (n sibling : Node) (t peak s : Bool) → n' ≡ chunks → t ≡ told n → t ≡ false
    → peak ≡ is_peak n' n → peak ≡ false → sibling ≡ sibling_of n → s ≡ (brought sibling || told sibling)
    → s ≡ true → None ≡ climb_of chunks brought told n
unfolding answers
climb_sibling chunks n' brought told n sibling t peak s few t_is no_told peak_is no_peak sibling_is s_is is =
    by_sibling (told n) (is_peak chunks n) (list_all (λ p. brought p || told p) (peaks chunks)) (brought (sibling_of n) || told (sibling_of n))
    (sym t_is ∙ no_told) (ap (λ (k : ℕ). is_peak k n) (sym few) ∙ sym peak_is ∙ no_peak)
    (ap (λ (m : Node). brought m || told m) (sym sibling_is) ∙ sym s_is ∙ is)

pub climb_none : (chunks n' : ℕ) (brought told : Node → Bool) (n sibling : Node) (t peak s : Bool) → n' ≡ chunks → t ≡ told n → t ≡ false
    → peak ≡ is_peak n' n → peak ≡ false → sibling ≡ sibling_of n → s ≡ (brought sibling || told sibling)
    → s ≡ false → Some false ≡ climb_of chunks brought told n
unfolding answers
climb_none chunks n' brought told n sibling t peak s few t_is no_told peak_is no_peak sibling_is s_is is =
    by_none (told n) (is_peak chunks n) (list_all (λ p. brought p || told p) (peaks chunks)) (brought (sibling_of n) || told (sibling_of n))
    (sym t_is ∙ no_told) (ap (λ (k : ℕ). is_peak k n) (sym few) ∙ sym peak_is ∙ no_peak)
    (ap (λ (m : Node). brought m || told m) (sym sibling_is) ∙ sym s_is ∙ is)
