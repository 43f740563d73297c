-- One part fails at a record, and a recording has one answer.
use Rattle.std.proofs.Common.{◌≡◌, ◌⊎◌, ⊎_elim, inl, inr, ℕ, ◌<◌, eqb, Bool, true, false, ◌&&◌, ◌||◌, Option, Some, None, List, [], ◌∷◌, ◌++◌, length, refl, sym, ◌∙◌, ap, subst, arith}
use Rattle.std.proofs.lemmas.Bool.{and_parts, or_cases, eqb-true}
use Rattle.pp_terms.specs.format.Traffic.{Address, Record, Received, Quiet, Sent}
use Rattle.pp_terms.specs.format.Descriptor.{Descriptor}
use Rattle.pp_terms.specs.tree.Book.{LookUp}
use Rattle.pp_traffic.specs.Past.{read, comes_from, goes_to, is_number, is_at}
use Rattle.pp_traffic.specs.Life.{Life, greets, answers, IsLife}
use Rattle.pp_traffic.specs.Serving.{window_of, Serves, ServesAll}
use Rattle.pp_traffic.proofs.OneMore.{at_within}
use Rattle.pp_verdict.specs.Chunks.{SentChunk, chunk_of}
use Rattle.pp_verdict.specs.Faults.{FailsOn, IsNoLater, IsLatest, FailsOnLives, FailsChunk, FaultsAreOne}
use Rattle.pp_verdict.specs.Answers.{AnswersAreOne}
use Rattle.pp_verdict.specs.declared.answer.Part.{Part}
use Rattle.pp_verdict.specs.declared.answer.Part.TheVariants as parts
use Rattle.pp_verdict.specs.declared.answer.Answer.TheVariants.{Yes, No}
use Rattle.pp_verdict.proofs.Faults.{faults_do_not_serve}
use Rattle.pp_verdict.proofs.Handshakes.{greeting_parts, reply_parts}
use Rattle.pp_verdict.proofs.Walks.{record_there}

-- ---- the record at an opening tells who opened

both_at : (t u : Record → Bool) (place : ℕ) (rs : List Record) → is_at t place rs ≡ true → is_at u place rs ≡ true → (r : Record) × (t r ≡ true) × (u r ≡ true)
both_at t u place [] e f = absurd cc
both_at t u place (r ∷ rs) e f = ⊎_elim
    (λ here.
    let a = and_parts (eqb place (length rs)) (t r) here in
    ⊎_elim
    (λ there. (r, a.1, (and_parts (eqb place (length rs)) (u r) there).1))
    (λ before. let lt = at_within u place rs before in let same = eqb-true place (length rs) a.0 in absurd (omega (arith, lt, same)))
    (or_cases (eqb place (length rs) && u r) (is_at u place rs) f))
    (λ earlier. ⊎_elim
    (λ there.
    let lt = at_within t place rs earlier in
    let same = eqb-true place (length rs) (and_parts (eqb place (length rs)) (u r) there).0 in
    absurd (omega (arith, lt, same)))
    (λ before. both_at t u place rs earlier before)
    (or_cases (eqb place (length rs) && u r) (is_at u place rs) f))
    (or_cases (eqb place (length rs) && t r) (is_at t place rs) e)

not_both_ways : (a b : Address) (r : Record) → comes_from a r ≡ true → goes_to b r ≡ true → ⊥
not_both_ways a b (Received at sender bytes) e f = cc
not_both_ways a b (Quiet at) e f = cc
not_both_ways a b (Sent moment receiver bytes) e f = cc

one_number : (a b : ℕ) (channel : Option ℕ) → is_number a channel ≡ true → is_number b channel ≡ true → a ≡ b
one_number a b None e f = absurd cc
one_number a b (Some n) e f = sym (eqb-true n a e) ∙ eqb-true n b f

-- the life, opened by the one or the other
abbrev kind_of : Bool → Life → Life
kind_of is_dialled life = record { address = life.address; local = life.local; remote = life.remote; is_dialled = is_dialled; opening = life.opening }

not_either : (d : Descriptor) (life : Life) (r : Record) → 0 < life.local → 0 < life.remote → (greets d (kind_of true life) r || answers d (kind_of true life) r) ≡ true
    → (greets d (kind_of false life) r || answers d (kind_of false life) r) ≡ true → ⊥
not_either d life r local remote e f = ⊎_elim
    (λ greeted.
    let a = greeting_parts d (kind_of true life) r greeted in
    ⊎_elim
    (λ g. let b = greeting_parts d (kind_of false life) r g in let same = one_number life.local 0 (read d r).channel a.1 b.1 in omega (arith, same, local))
    (λ g. not_both_ways life.address life.address r a.0 (reply_parts d (kind_of false life) r g).0)
    (or_cases (greets d (kind_of false life) r) (answers d (kind_of false life) r) f))
    (λ answered.
    let a = reply_parts d (kind_of true life) r answered in
    ⊎_elim
    (λ g. not_both_ways life.address life.address r (greeting_parts d (kind_of false life) r g).0 a.0)
    (λ g. let b = reply_parts d (kind_of false life) r g in let same = one_number 0 life.remote (read d r).channel a.1 b.1 in omega (arith, same, remote))
    (or_cases (greets d (kind_of false life) r) (answers d (kind_of false life) r) f))
    (or_cases (greets d (kind_of true life) r) (answers d (kind_of true life) r) e)

one_kind : (d : Descriptor) (past : List Record) (life : Life) → IsLife d (kind_of true life) past → IsLife d (kind_of false life) past → ⊥
one_kind d past life a b =
    let r = both_at (λ r. greets d (kind_of true life) r || answers d (kind_of true life) r) (λ r. greets d (kind_of false life) r || answers d (kind_of false life) r) life.opening past a.opened b.opened in
    not_either d life r.0 a.local_some a.remote_some r.1 r.2

-- ---- the latest life is one

same_life : (d : Descriptor) (past : List Record) (address : Address) (local remote opening : ℕ) (a b : Bool)
    → IsLife d (record { address = address; local = local; remote = remote; is_dialled = a; opening = opening }) past
    → IsLife d (record { address = address; local = local; remote = remote; is_dialled = b; opening = opening }) past → a ≡ b
same_life d past address local remote opening true true p q = refl
same_life d past address local remote opening false false p q = refl
same_life d past address local remote opening true false p q =
    absurd (one_kind d past (record { address = address; local = local; remote = remote; is_dialled = true; opening = opening }) p q)
same_life d past address local remote opening false true p q =
    absurd (one_kind d past (record { address = address; local = local; remote = remote; is_dialled = true; opening = opening }) q p)

same_key : (a b : Life) → IsNoLater a b → IsNoLater b a → (a.opening ≡ b.opening) × (a.local ≡ b.local)
same_key a b (inl x) (inl y) = absurd (omega (arith, x, y))
same_key a b (inl x) (inr y) = absurd (omega (arith, x, y.0))
same_key a b (inr x) (inl y) = absurd (omega (arith, x.0, y))
same_key a b (inr x) (inr y) = (x.0, omega (arith, x.1, y.1))

some_same : (a b : ℕ) (o : Option ℕ) → o ≡ Some a → o ≡ Some b → a ≡ b
some_same a b o e f = cc

abbrev of_parts : Address → ℕ → ℕ → Bool → ℕ → Life
of_parts address local remote is_dialled opening =
    record { address = address; local = local; remote = remote; is_dialled = is_dialled; opening = opening }

life_is : (a b : Address) (l m r s : ℕ) (k h : Bool) (o n : ℕ) → a ≡ b → l ≡ m → r ≡ s → k ≡ h → o ≡ n
    → of_parts a l r k o ≡ of_parts b m s h n
life_is a b l m r s k h o n address local remote kind opening =
    ap (λ (x : Address). of_parts x l r k o) address ∙ ap (λ (x : ℕ). of_parts b x r k o) local ∙ ap (λ (x : ℕ). of_parts b m x k o) remote
    ∙ ap (λ (x : Bool). of_parts b m s x o) kind ∙ ap (λ (x : ℕ). of_parts b m s h x) opening

one_life : (d : Descriptor) (past : List Record) (c : SentChunk) (a b : Life) → IsLatest d past c a → IsLatest d past c b → a ≡ b
one_life d past c a b p q =
    let key = same_key a b (q.latest a p.suits) (p.latest b q.suits) in
    let address : a.address ≡ b.address = p.suits.at ∙ sym q.suits.at in
    let remote : a.remote ≡ b.remote = some_same a.remote b.remote c.channel p.suits.by q.suits.by in
    let moved : IsLife d (record { address = a.address; local = a.local; remote = a.remote; is_dialled = b.is_dialled; opening = a.opening }) past =
    subst (λ (n : ℕ). IsLife d (record { address = a.address; local = a.local; remote = a.remote; is_dialled = b.is_dialled; opening = n }) past) (sym key.0)
    (subst (λ (n : ℕ). IsLife d (record { address = a.address; local = a.local; remote = n; is_dialled = b.is_dialled; opening = b.opening }) past) (sym remote)
    (subst (λ (n : ℕ). IsLife d (record { address = a.address; local = n; remote = b.remote; is_dialled = b.is_dialled; opening = b.opening }) past) (sym key.1)
    (subst (λ (x : Address). IsLife d (record { address = x; local = b.local; remote = b.remote; is_dialled = b.is_dialled; opening = b.opening }) past) (sym address) q.suits.alive))) in
    let kind : a.is_dialled ≡ b.is_dialled = same_life d past a.address a.local a.remote a.opening a.is_dialled b.is_dialled p.suits.alive moved in
    life_is a.address b.address a.local b.local a.remote b.remote a.is_dialled b.is_dialled a.opening b.opening address key.1 remote kind key.0

-- ---- the part is one

one_on : (d : Descriptor) (book : LookUp) (past : List Record) (c : SentChunk) (life : Life) (p q : Part) → FailsOn d book past c life p → FailsOn d book past c life q → p ≡ q
one_on d book past c life parts.Tail q f g = absurd f
one_on d book past c life parts.Backed q f g = absurd f
one_on d book past c life parts.Life q f g = absurd f
one_on d book past c life p parts.Tail f g = absurd g
one_on d book past c life p parts.Backed f g = absurd g
one_on d book past c life p parts.Life f g = absurd g
one_on d book past c life parts.Asked parts.Asked f g = refl
one_on d book past c life parts.Asked q f g = absurd (f g.0)
one_on d book past c life p parts.Asked f g = absurd (g f.0)
one_on d book past c life parts.Unchoked parts.Unchoked f g = refl
one_on d book past c life parts.Unchoked q f g = absurd (f.1 g.1)
one_on d book past c life p parts.Unchoked f g = absurd (g.1 f.1)
one_on d book past c life parts.Hashes parts.Hashes f g = refl
one_on d book past c life parts.Hashes parts.Window f g = absurd (f.2 g.2)
one_on d book past c life parts.Window parts.Hashes f g = absurd (g.2 f.2)
one_on d book past c life parts.Window parts.Window f g = refl

on_lives : (d : Descriptor) (book : LookUp) (past : List Record) (c : SentChunk) (p q : Part) → FailsOnLives d book past c p → FailsOnLives d book past c q → p ≡ q
on_lives d book past c p q f g =
    one_on d book past c f.life p q f.fails (subst (λ (l : Life). FailsOn d book past c l q) (sym (one_life d past c f.life g.life f.latest g.latest)) g.fails)

one_part : (d : Descriptor) (book : LookUp) (past : List Record) (c : SentChunk) (p q : Part) → FailsChunk d book past c p → FailsChunk d book past c q → p ≡ q
one_part d book past c parts.Tail parts.Tail f g = refl
one_part d book past c parts.Tail q f g = absurd (f g.0)
one_part d book past c p parts.Tail f g = absurd (g f.0)
one_part d book past c parts.Backed parts.Backed f g = refl
one_part d book past c parts.Backed q f g = absurd (f.1 g.1)
one_part d book past c p parts.Backed f g = absurd (g.1 f.1)
one_part d book past c parts.Life parts.Life f g = refl
one_part d book past c parts.Life q f g = absurd (f.2 g.2.life g.2.latest.suits)
one_part d book past c p parts.Life f g = absurd (g.2 f.2.life f.2.latest.suits)
one_part d book past c p q f g = on_lives d book past c p q f.2 g.2

chunk_same : (a b : SentChunk) (o : Option SentChunk) → o ≡ Some a → o ≡ Some b → b ≡ a
chunk_same a b o e f = cc

pub faults_are_one : FaultsAreOne
faults_are_one d book before r part other f g =
    one_part d book before f.0 part other f.2 (subst (λ (c : SentChunk). FailsChunk d book before c other) (chunk_same f.0 g.0 (chunk_of d r) f.1 g.1) g.2)

-- ---- the answer is one

-- two records of one list: one record, or one is before the other
record Same (r s : Record) (a b : List Record) : Type 0 where
  record_is : r ≡ s
  before_is : a ≡ b

order_of : (l m : List Record) (r s : Record) (a b : List Record) → l ++ r ∷ a ≡ m ++ s ∷ b
    → Same r s a b ⊎ (((k : List Record) × (a ≡ k ++ s ∷ b)) ⊎ ((k : List Record) × (b ≡ k ++ r ∷ a)))
order_of [] [] r s a b e = inl (record { record_is = cc; before_is = cc })
order_of [] (y ∷ m) r s a b e = inr (inl (m, cc))
order_of (x ∷ l) [] r s a b e = inr (inr (l, cc))
order_of (x ∷ l) (y ∷ m) r s a b e = order_of l m r s a b (let t : l ++ r ∷ a ≡ m ++ s ∷ b = cc in t)

pub fault_there : (d : Descriptor) (book : LookUp) (k : List Record) (r : Record) (a b : List Record) (part : Part) → b ≡ k ++ r ∷ a → ServesAll d book (window_of d) b
    → ((c : SentChunk) × (chunk_of d r ≡ Some c) × FailsChunk d book a c part) → ⊥
fault_there d book k r a b part e all f =
    faults_do_not_serve d book a r part f
    (record_there (λ past s. Serves d book (window_of d) past s) k r a (subst (λ (xs : List Record). ServesAll d book (window_of d) xs) e all))

pub answers_are_one : AnswersAreOne
answers_are_one d book rs (Yes n m) (Yes i j) p q =
    let a : n ≡ i = p.count ∙ sym q.count in
    let b : m ≡ j = p.sent ∙ sym q.sent in
    cc
answers_are_one d book rs (Yes n m) (No place part) p q = absurd (fault_there d book q.later q.here q.before rs part q.split p.all q.fails)
answers_are_one d book rs (No place part) (Yes n m) p q = absurd (fault_there d book p.later p.here p.before rs part p.split q.all p.fails)
answers_are_one d book rs (No i part) (No j other) p q = ⊎_elim
    (λ same.
    let at : i ≡ j = sym p.at ∙ ap (λ (xs : List Record). length xs) same.before_is ∙ q.at in
    let one : part ≡ other = faults_are_one d book q.before q.here part other
    (subst (λ (r : Record). (c : SentChunk) × (chunk_of d r ≡ Some c) × FailsChunk d book q.before c part) same.record_is
    (subst (λ (xs : List Record). (c : SentChunk) × (chunk_of d p.here ≡ Some c) × FailsChunk d book xs c part) same.before_is p.fails)) q.fails in
    cc)
    (λ ordered. absurd (⊎_elim
    (λ first. fault_there d book first.0 q.here q.before p.before other first.1 p.served q.fails)
    (λ second. fault_there d book second.0 p.here p.before q.before part second.1 q.served p.fails)
    ordered))
    (order_of p.later q.later p.here q.here p.before q.before (sym p.split ∙ q.split))
