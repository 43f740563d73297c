-- Records of a kind, and the counts of a run.
use Rattle.std.proofs.Common.{◌≡◌, inl, inr, ⊎_elim, ℕ, ◌+◌, ◌-◌, ◌^◌, ◌<◌, ◌≤◌, cond, List, [], ◌∷◌, length, ltb, refl, sym, ◌∙◌, ap, arith}
use Rattle.std.specs.Prelude.{count_by}
use Rattle.std.proofs.lemmas.List.Recursion.{is_count_by}
use Rattle.pp_terms.specs.Count.{HasRisen, capped}
use Rattle.pp_terms.specs.command.Tally.{Tally}
use Rattle.pp_terms.specs.format.Traffic.{LinkState, Record, Received, Quiet, Sent}
use Rattle.pp_traffic.specs.Tallied.{came_short, TookTurns, IsTallied}
use Rattle.pp_traffic.specs.Turns.{events}
use Rattle.pp_audit.specs.declared.tallies.Kind.{Kind}
use Rattle.pp_audit.specs.declared.tallies.Kind.TheVariants.{Event, Came, Short, Went}
use Rattle.pp_audit.specs.Tallies.{is_kind, count_of, RefusedSome, Waited, CountsTurns, CountsDatagrams}

-- a record more
counted_more : (kind : Kind) (r : Record) (before : List Record) → count_of kind (r ∷ before) ≡ cond (is_kind kind r) (1 + count_of kind before) (count_of kind before)
counted_more Event (Received at sender bytes) before = omega arith
counted_more Event (Quiet at) before = omega arith
counted_more Event (Sent moment receiver bytes) before = refl
counted_more Came (Received at sender bytes) before = omega arith
counted_more Came (Quiet at) before = refl
counted_more Came (Sent moment receiver bytes) before = refl
counted_more Short (Received at sender bytes) before = let e : came_short before + 1 ≡ 1 + came_short before = omega arith in
    ap (λ (n : ℕ). cond (ltb (length bytes) 4) n (came_short before)) e
counted_more Short (Quiet at) before = refl
counted_more Short (Sent moment receiver bytes) before = refl
counted_more Went (Received at sender bytes) before = refl
counted_more Went (Quiet at) before = refl
counted_more Went (Sent moment receiver bytes) before = omega arith

counted_none : (kind : Kind) → count_of kind [] ≡ 0
counted_none Event = refl
counted_none Came = refl
counted_none Short = refl
counted_none Went = refl

counted_of : (kind : Kind) (past : List Record) → count_of kind past ≡ count_by (is_kind kind) past
counted_of kind past = is_count_by (count_of kind) (is_kind kind) (counted_none kind) (counted_more kind) past

pub events_counted : (past : List Record) (n : ℕ) → n ≡ count_by (is_kind Event) past → n ≡ events past
events_counted past n is = is ∙ sym (counted_of Event past)

-- ---- turns

pub none_refused : (taken before after n : ℕ) (past : List Record) → n ≡ events past → n ≡ taken → RefusedSome taken before after past
none_refused taken before after n past is all = record { refused = 0; each = omega (arith, is, all); why = inl refl }

pub some_refused : (taken before after n : ℕ) (past : List Record) → n ≡ events past → n < taken → HasRisen before after → RefusedSome taken before after past
some_refused taken before after n past is lt risen = record { refused = taken - n; each = omega (arith, is, lt); why = inr risen }

pub risen_of : (taken before after n : ℕ) (past : List Record) → n ≡ events past → (n ≡ taken → ⊥) → RefusedSome taken before after past → HasRisen before after
risen_of taken before after n past is ne s =
    let each = s.each in
    ⊎_elim (λ (none : s.refused ≡ 0). absurd (ne (omega (arith, is, each, none)))) (λ (risen : HasRisen before after). risen) s.why

pub few_of : (taken before after n : ℕ) (past : List Record) → n ≡ events past → RefusedSome taken before after past → n ≤ taken
few_of taken before after n past is s = let each = s.each in omega (arith, is, each)

pub turns_taken : (taken : ℕ) (seen seen' : LinkState) (past : List Record) → Waited taken seen.nexts seen'.nexts
    → RefusedSome taken seen.faults seen'.faults past → TookTurns taken seen seen' past
turns_taken taken seen seen' past waited refused = record {
  nexts = waited.nexts;
  still = waited.still;
  refused = refused.refused;
  each = refused.each;
  why = refused.why;
}

pub waited_of : (taken : ℕ) (seen seen' : LinkState) (past : List Record) → TookTurns taken seen seen' past → Waited taken seen.nexts seen'.nexts
waited_of taken seen seen' past s = record { nexts = s.nexts; still = s.still }

pub refused_of : (taken : ℕ) (seen seen' : LinkState) (past : List Record) → TookTurns taken seen seen' past
    → RefusedSome taken seen.faults seen'.faults past
refused_of taken seen seen' past s = record { refused = s.refused; each = s.each; why = s.why }

-- fewer than there is a greatest number
pub counted_capped : (kind : Kind) (past : List Record) (n : ℕ) → n ≡ count_by (is_kind kind) past → n < 2 ^ 64 → n ≡ capped (count_of kind past)
counted_capped kind past n is lt = let e : n ≡ count_of kind past = is ∙ sym (counted_of kind past) in omega (arith, e, lt)

-- ---- both halves

pub tallied : (t : Tally) (taken : ℕ) (past : List Record) → CountsTurns t taken past → CountsDatagrams t past → IsTallied t taken past
tallied t taken past turns datagrams = record {
  turns = turns.turns;
  datagrams = datagrams.datagrams;
  sent = datagrams.sent;
  short = datagrams.short;
  receive_faults = turns.receive_faults;
}

pub turns_of : (t : Tally) (taken : ℕ) (past : List Record) → IsTallied t taken past → CountsTurns t taken past
turns_of t taken past s = record { turns = s.turns; receive_faults = s.receive_faults }

pub datagrams_of : (t : Tally) (taken : ℕ) (past : List Record) → IsTallied t taken past → CountsDatagrams t past
datagrams_of t taken past s = record { datagrams = s.datagrams; sent = s.sent; short = s.short }
