use Rattle.std.proofs.Common.{◌≡◌, ℕ, List, ◌++◌, length, take, drop, sym, ◌∙◌, ap}
use Rattle.std.specs.List.{refill}
use Rattle.std.proofs.Math.ListN.{set, length-set}
use Rattle.std.proofs.Math.Seq.{take-append_seam}
use Rattle.pp_learner.specs.declared.dials.Dial.{Dial}
use Rattle.pp_learner.proofs.dials.Dials.set.Goals as goal

refilled : (xs ws : List Dial) → length ws ≡ length xs → refill (length xs) xs ws ≡ ws
refilled xs ws same = ap (λ (n : ℕ). take n (ws ++ drop (length ws) xs)) (sym same) ∙ take-append_seam ws (drop (length ws) xs)

pub returns : goal.returns
returns c =
    ap (λ (ws : List Dial). refill (length c.self.inside.entries.items) c.self.inside.entries.items (set ws c.args.i c.args.dial)) c.deref_mut.ensures.value
    ∙ refilled c.self.inside.entries.items (set c.self.inside.entries.items c.args.i c.args.dial) (simp length-set)
    ∙ ap (λ (xs : List Dial). set xs c.args.i c.args.dial) c.self.view_is
