-- What is told, by ranges.
use Rattle.std.proofs.Common.{◌≡◌, ℕ, ◌-◌, min, nat_le, nat_lt, Bool, true, false, ◌&&◌, ◌||◌, List, [], ◌∷◌, refl, ap, arith}
use Rattle.std.proofs.lemmas.Bool.Decides.{nat_tests}
use Rattle.pp_terms.specs.tree.Tree.{Node, height, is_peak}
use Rattle.pp_terms.specs.tree.Bins.{first_leaf, last_leaf, parent_of}
use Rattle.pp_terms.specs.format.Messages.{Message, Handshake, Data, Ack, Have, Integrity, Pex4, PexReq, Request, Cancel, Choke, Unchoke, Pex6}
use Rattle.pp_traffic.specs.Story.{Line, Heard, Said, Taken}
use Rattle.pp_traffic.specs.Hashes.{tells, told_by, is_told}
use Rattle.pp_plan.specs.Told.{tells_any}
use Rattle.pp_plan.specs.Law.{told_in, StoriesAreRanges, CutsTellAlike}

-- one message more
heard_more : (chunks : ℕ) (m : Message) (before : List Line) (n : Node) → is_told chunks before n ≡ tells_any chunks (told_in before) n
    → (told_by chunks n m || is_told chunks before n) ≡ tells_any chunks (told_in (Heard 0 m ∷ before)) n
heard_more chunks (Ack span delay) before n is = ap (λ (b : Bool). tells chunks span n || b) is
heard_more chunks (Have span) before n is = ap (λ (b : Bool). tells chunks span n || b) is
heard_more chunks (Handshake c o) before n is = is
heard_more chunks (Data i at bytes) before n is = is
heard_more chunks (Integrity span digest) before n is = is
heard_more chunks (Pex4 a p) before n is = is
heard_more chunks PexReq before n is = is
heard_more chunks (Request span) before n is = is
heard_more chunks (Cancel span) before n is = is
heard_more chunks Choke before n is = is
heard_more chunks Unchoke before n is = is
heard_more chunks (Pex6 a p) before n is = is

pub stories_are_ranges : StoriesAreRanges
stories_are_ranges chunks [] n = refl
stories_are_ranges chunks (Heard now m ∷ before) n = heard_more chunks m before n (stories_are_ranges chunks before n)
stories_are_ranges chunks (Said now m ∷ before) n = stories_are_ranges chunks before n
stories_are_ranges chunks (Taken now ∷ before) n = stories_are_ranges chunks before n

-- of the numbers of a content, the cut has those that the whole has
same_and : (b c d : Bool) → (b ≡ true → c ≡ d) → (b && c) ≡ (b && d)
same_and true c d same = same refl
same_and false c d same = refl

below_cut : (chunks i last : ℕ) → nat_lt i chunks ≡ true → nat_le i (min last (chunks - 1)) ≡ nat_le i last
below_cut chunks i last inside = grind (arith, nat_tests)

cut_by : (chunks first last low high : ℕ) (peak under : Bool)
    → (nat_lt first chunks && nat_le first (min last (chunks - 1)) && (peak || (under && (nat_lt low chunks && nat_le low (min last (chunks - 1)) && nat_le first high))))
    ≡ (nat_lt first chunks && nat_le first last && (peak || (under && (nat_lt low chunks && nat_le low last && nat_le first high))))
cut_by chunks first last low high peak under =
    let begins = same_and (nat_lt first chunks) (nat_le first (min last (chunks - 1))) (nat_le first last) (below_cut chunks first last) in
    let meets = same_and (nat_lt low chunks) (nat_le low (min last (chunks - 1))) (nat_le low last) (below_cut chunks low last) in
    rw (begins, meets) refl

pub cuts_tell_alike : CutsTellAlike
cuts_tell_alike chunks span n =
    cut_by chunks span.first span.last (first_leaf (parent_of n)) (last_leaf (parent_of n)) (is_peak chunks n) (nat_lt n.layer (height chunks))
