-- A wait over a link in memory.
use Rattle.std.proofs.Common.{◌≡◌, ℕ, Bool, true, false, Option, List, [], ◌∷◌, ◌++◌, refl, sym, ◌∙◌, ap, subst, ◌⊎◌, inl, inr, ⊎_elim}
use Rattle.std.specs.Prelude.{Result, Ok, Err, OnOk, OnErr, IfOk}
use Rattle.std.proofs.lemmas.Bool.{false≢true}
use Rattle.pp_outside.specs.Faults.{one_more}
use Rattle.pp_terms.specs.format.Traffic.{Record, LinkState}
use Rattle.pp_outside.specs.Arrivals.{Arrivals, next_of, after_next}
use Rattle.pp_outside.specs.MemoryLink.{state_of, arrivals_of, order_of, is_ordered, is_short, Spends, MayRunShort}
use Rattle.pp_outside.specs.Orders.{is_due, after_one}
use Rattle.pp_outside.specs.Outside.{record_of, DoesNext}
use Rattle.pp_outside.specs.declared.call.Call.TheVariants.{Next}
use Rattle.pp_outside.specs.declared.link.Address.{Address}
use Rattle.pp_outside.specs.declared.link.Event.{Event}
use Rattle.pp_outside.specs.declared.link.LinkFault.{LinkFault}
use Rattle.pp_outside.specs.declared.memory_link.MemoryLink.{MemoryLink}
use denote.Ref.{Bor}
use Rattle.pp_watch.specs.Waiting.{record_at, HasExpected, HasWaited}

-- What a wait over a link came to.
pub record Waited (mid new : MemoryLink) (buffer : List ℕ) (event : Result Event LinkFault) (same : Type 0) : Type 0 where
  pub does : DoesNext (state_of mid) buffer event (state_of new)
  pub record_is : IfOk event (λ e. record_of e buffer ≡ next_of (arrivals_of mid))
  pub taken : OnOk event (arrivals_of new ≡ after_next (arrivals_of mid))
  pub refused : OnErr event ((arrivals_of new ≡ arrivals_of mid) × same)
  pub cause : MayRunShort mid Next event new
  pub spends : Spends mid Next event new
  pub enough : is_short new ≡ false

only_next : (clock : ℕ) (came : Option (Address × Bor (List ℕ))) (a b : Arrivals) → b ≡ record a { coming = a.coming ++ record_at clock came ∷ [] }
    → a.coming ≡ [] → (next_of b ≡ record_at clock came) × ((after_next b).coming ≡ [])
only_next clock came a b is none =
    let alone : b ≡ record { coming = record_at clock came ∷ []; last = a.last } =
    is ∙ ap (λ (rs : List Record). record { coming = rs ++ record_at clock came ∷ []; last = a.last }) none in
    (ap next_of alone, ap (λ (x : Arrivals). (after_next x).coming) alone)

-- It wasn't ordered to fail.
pub heard : (clock : ℕ) (came : Option (Address × Bor (List ℕ))) (old mid new : MemoryLink) (buffer : List ℕ) (event : Result Event LinkFault) (same : Type 0)
    → HasExpected clock came old mid → (arrivals_of old).coming ≡ [] → is_ordered old Next ≡ false → Waited mid new buffer event same
    → HasWaited false clock came old new buffer event
heard clock came old mid new buffer (Ok e) same expected none free w =
    let next = only_next clock came (arrivals_of old) (arrivals_of mid) expected.arrivals none in record {
      does = subst (λ (l : LinkState). DoesNext {E = LinkFault} l buffer (Ok e) (state_of new)) expected.state w.does;
      heard = λ open_ears. refl;
      deaf = λ is. absurd (false≢true is);
      heard_it = w.record_is ∙ next.0;
      idle = ap (λ (a : Arrivals). a.coming) w.taken ∙ next.1;
      spent = w.spends.spent ∙ ap after_one (expected.orders Next);
      others = λ call differ. w.spends.others call differ ∙ expected.orders call;
      faults = w.spends.faults ∙ ap (λ (l : LinkState). l.faults) expected.state;
    }
heard clock came old mid new buffer (Err f) same expected none free w = ⊎_elim
    (λ stood. let never : true ≡ false = sym stood ∙ ap is_due (expected.orders Next) ∙ free in cc)
    (λ short. let never : true ≡ false = sym short ∙ w.enough in cc)
    (w.cause.cause refl)

-- It was.
pub deaf : (clock : ℕ) (came : Option (Address × Bor (List ℕ))) (old mid new : MemoryLink) (buffer : List ℕ) (event : Result Event LinkFault) (same : Type 0)
    → mid ≡ old → (arrivals_of old).coming ≡ [] → is_ordered old Next ≡ true → Waited mid new buffer event same
    → HasWaited true clock came old new buffer event
deaf clock came old mid new buffer (Ok e) same is none stood w =
    let failed = (w.cause.ordered (ap (λ (l : MemoryLink). is_ordered l Next) is ∙ stood)).0 in cc
deaf clock came old mid new buffer (Err f) same is none stood w = record {
  does = subst (λ (l : MemoryLink). DoesNext (state_of l) buffer (Err f) (state_of new)) is w.does;
  heard = λ no. absurd (false≢true (sym no));
  deaf = λ no. refl;
  heard_it = tt;
  idle = ap (λ (a : Arrivals). a.coming) w.refused.0 ∙ ap (λ (l : MemoryLink). (arrivals_of l).coming) is ∙ none;
  spent = w.spends.spent ∙ ap (λ (l : MemoryLink). after_one (order_of l Next)) is;
  others = λ call differ. w.spends.others call differ ∙ ap (λ (l : MemoryLink). order_of l call) is;
  faults = w.spends.faults ∙ ap (λ (l : MemoryLink). one_more (state_of l).faults) is;
}

pub waited_by : (is_deaf : Bool) (clock : ℕ) (came : Option (Address × Bor (List ℕ))) (old mid new : MemoryLink) (buffer : List ℕ)
    (event : Result Event LinkFault) (same : Type 0) → (arrivals_of old).coming ≡ [] → is_ordered old Next ≡ is_deaf
    → ((is_deaf ≡ false) × HasExpected clock came old mid) ⊎ ((is_deaf ≡ true) × (mid ≡ old)) → Waited mid new buffer event same
    → HasWaited is_deaf clock came old new buffer event
waited_by is_deaf clock came old mid new buffer event same none stands (inl ears) w =
    subst (λ (b : Bool). HasWaited b clock came old new buffer event) (sym ears.0)
    (heard clock came old mid new buffer event same ears.1 none (stands ∙ ears.0) w)
waited_by is_deaf clock came old mid new buffer event same none stands (inr none_heard) w =
    subst (λ (b : Bool). HasWaited b clock came old new buffer event) (sym none_heard.0)
    (deaf clock came old mid new buffer event same none_heard.1 none (stands ∙ none_heard.0) w)
