-- Tickets of a seat as ranges of committed chunks, chunk by chunk.
use Rattle.std.proofs.Common.{◌≡◌, ℕ, zero, suc, ◌+◌, ◌<◌, ◌≤◌, ◌==◌, Bool, true, false, ◌||◌, List, [], ◌∷◌, ◌++◌, length, map, drop, get_or, refl, sym, ◌∙◌, ap, subst, append_assoc, arith}
use Rattle.std.specs.List.{All, list_any}
use Rattle.std.specs.List.Sorted.{IsPermutation}
use Rattle.std.proofs.lemmas.Bool.{false≢true, or_right}
use Rattle.std.proofs.lemmas.Bool.Decides.{nat_tests}
use Rattle.std.proofs.lemmas.List.Sorted.{list_any-IsPermutation}
use Rattle.std.proofs.lemmas.List.Elements.{All-cons, All-nil}
use Rattle.pp_terms.specs.tree.Range.{Span, within, has}
use Rattle.pp_terms.proofs.Facts.{member_below}
use Rattle.pp_holding.specs.declared.queue.Ticket.{Ticket}
use Rattle.pp_news.specs.declared.acknowledgement.Acknowledgement.{Acknowledgement}
use Rattle.pp_news.specs.News.{has_chunk, ranges_of, IsNewestIn, BeginsBehindGap, AreApart, HasOwnEnds, AreJoined, IsPushed}
use Rattle.pp_news.proofs.Rising.{IsRisingFrom, drop_at, drop_end, rising_at}

-- each number is a chunk of the tickets
abbrev pub AreOwn : List Ticket → List ℕ → Type 0
AreOwn tickets rest = (i : ℕ) → list_any (λ c. c == i) rest ≡ true → has_chunk tickets i ≡ true

-- A range that may grow: its ends are chunks of the tickets, and from its first chunk on all are committed up to an end that isn't.
pub record IsOpen (committed : List Bool) (tickets : List Ticket) (first last end : ℕ) : Type 0 where
  pub order : first ≤ last
  pub below : last < end
  pub own_first : has_chunk tickets first ≡ true
  pub own_last : has_chunk tickets last ≡ true
  pub stands : get_or committed last false ≡ true
  pub all : (i : ℕ) → first ≤ i → i < end → get_or committed i true ≡ true
  pub absent : get_or committed end false ≡ false

-- the first range begins there
abbrev BeginsAt : ℕ → List Acknowledgement → Type 0
BeginsAt first [] = ⊥
BeginsAt first (a ∷ out) = a.range.first ≡ first

-- The acknowledgements are those of an open range and of the numbers to come.
pub record AreJoinedOver (committed : List Bool) (tickets : List Ticket) (first last : ℕ) (rest : List ℕ) (out : List Acknowledgement) : Type 0 where
  pub begins : BeginsAt first out
  pub all_open : (i : ℕ) → within (record { first = first; last = last }) i ≡ true → has (ranges_of out) i ≡ true
  pub all : (i : ℕ) → list_any (λ c. c == i) rest ≡ true → has (ranges_of out) i ≡ true
  pub none_else : (i : ℕ) → has (ranges_of out) i ≡ true → get_or committed i false ≡ true
  pub ends : All (λ a. HasOwnEnds tickets a.range) out
  pub apart : AreApart committed (ranges_of out)
  pub newest : All (λ a. IsNewestIn a.range tickets a.delay) out
  pub few : length out ≤ length rest + 1

abbrev one : (first last delay : ℕ) → Acknowledgement
one first last delay = record { range = record { first = first; last = last }; delay = delay }

pub either : (a b : Bool) (P : Type 0) → (a ≡ true → P) → (b ≡ true → P) → (a || b) ≡ true → P
either true b P f g h = f refl
either false b P f g h = g h

-- a number that is read is in the list, whatever stands in for those that aren't
in_either : (xs : List Bool) (i : ℕ) → i < length xs → get_or xs i true ≡ true → get_or xs i false ≡ true
in_either [] i lt h = absurd (omega arith)
in_either (x ∷ xs) zero lt h = h
in_either (x ∷ xs) (suc i) lt h = in_either xs i (omega arith) h

pub stands_below : (xs : List Bool) (i : ℕ) → (i < length xs → get_or xs i false ≡ true) → get_or xs i true ≡ true
stands_below [] i h = refl
stands_below (x ∷ xs) zero h = h (omega arith)
stands_below (x ∷ xs) (suc i) h = stands_below xs i (λ lt. h (omega arith))

module _ (committed : List Bool) (tickets : List Ticket) (first last end : ℕ) (is : IsOpen committed tickets first last end) where
  abbrev range : Span
  range = record { first = first; last = last }

  open_committed : (i : ℕ) → within range i ≡ true → get_or committed i false ≡ true
  open_committed i inside =
      let low : first ≤ i = grind (arith, nat_tests) in
      let high : i ≤ last = grind (arith, nat_tests) in
      let size = member_below committed last is.stands in
      let below = is.below in
      in_either committed i (omega arith) (is.all i low (omega arith))

  pub join_extend : (c : ℕ) (rest : List ℕ) (out : List Acknowledgement) → last ≤ c → AreJoinedOver committed tickets first c rest out
      → AreJoinedOver committed tickets first last (c ∷ rest) out
  join_extend c rest out low h = record {
    begins = h.begins;
    all_open = λ i inside. h.all_open i (let it : within (record { first = first; last = c }) i ≡ true = grind (arith, nat_tests) in it);
    all = λ i any. either (c == i) (list_any (λ d. d == i) rest) (has (ranges_of out) i ≡ true)
        (λ same. h.all_open i (let order = is.order in let it : within (record { first = first; last = c }) i ≡ true = grind (arith, nat_tests) in it)) (h.all i) any;
    none_else = h.none_else;
    ends = h.ends;
    apart = h.apart;
    newest = h.newest;
    few = let few = h.few in omega arith;
  }

  gap : (c : ℕ) (out : List Acknowledgement) → end ≤ c → get_or committed c false ≡ true → BeginsAt c out → BeginsBehindGap committed last (ranges_of out)
  gap c [] high stands begins = tt
  gap c (a ∷ out) high stands begins = record {
    chunk = end;
    above = is.below;
    below = let differ : end ≡ c → ⊥ = λ e. false≢true (sym is.absent ∙ ap (λ (n : ℕ). get_or committed n false) e ∙ stands) in omega (arith, differ, begins);
    absent = is.absent;
  }

  module _ (delay : ℕ) (newest : IsNewestIn range tickets delay) where
    pub join_close : (c : ℕ) (rest : List ℕ) (out : List Acknowledgement) → end ≤ c → get_or committed c false ≡ true → AreJoinedOver committed tickets c c rest out
        → AreJoinedOver committed tickets first last (c ∷ rest) (one first last delay ∷ out)
    join_close c rest out high stands h = record {
      begins = refl;
      all_open = λ i inside. ap (λ (b : Bool). b || has (ranges_of out) i) inside;
      all = λ i any. or_right (within range i) (has (ranges_of out) i) (either (c == i) (list_any (λ d. d == i) rest) (has (ranges_of out) i ≡ true)
          (λ same. h.all_open i (let it : within (record { first = c; last = c }) i ≡ true = grind (arith, nat_tests) in it)) (h.all i) any);
      none_else = λ i any. either (within range i) (has (ranges_of out) i) (get_or committed i false ≡ true) (open_committed i) (h.none_else i) any;
      ends = All-cons (λ a. HasOwnEnds tickets a.range) (one first last delay) out (is.own_first, is.own_last) h.ends;
      apart = (is.order, gap c out high stands h.begins, h.apart);
      newest = All-cons (λ a. IsNewestIn a.range tickets a.delay) (one first last delay) out newest h.newest;
      few = let few = h.few in omega arith;
    }

    pub join_last : AreJoinedOver committed tickets first last [] (one first last delay ∷ [])
    join_last = record {
      begins = refl;
      all_open = λ i inside. ap (λ (b : Bool). b || false) inside;
      all = λ i any. absurd (false≢true any);
      none_else = λ i any. either (within range i) false (get_or committed i false ≡ true) (open_committed i) (λ no. absurd (false≢true no)) any;
      ends = All-cons (λ a. HasOwnEnds tickets a.range) (one first last delay) [] (is.own_first, is.own_last) (All-nil (λ a. HasOwnEnds tickets a.range));
      apart = (is.order, tt, tt);
      newest = All-cons (λ a. IsNewestIn a.range tickets a.delay) (one first last delay) [] newest (All-nil (λ a. IsNewestIn a.range tickets a.delay));
      few = omega arith;
    }

-- ---- the chunks of the tickets

pub has_chunk-map : (tickets : List Ticket) (i : ℕ) → has_chunk tickets i ≡ list_any (λ c. c == i) (map (λ t. t.chunk) tickets)
has_chunk-map [] i = refl
has_chunk-map (t ∷ ts) i = ap (λ (b : Bool). (t.chunk == i) || b) (has_chunk-map ts i)

pub has_chunk-sorted : (tickets : List Ticket) (chunks : List ℕ) → IsPermutation (map (λ t. t.chunk) tickets) chunks → (i : ℕ)
    → has_chunk tickets i ≡ list_any (λ c. c == i) chunks
has_chunk-sorted tickets chunks same i = has_chunk-map tickets i ∙ list_any-IsPermutation (λ c. c == i) (map (λ t. t.chunk) tickets) chunks same

same_number : (i : ℕ) → (i == i) ≡ true
same_number i = grind (arith, nat_tests)

pub own_first : (tickets : List Ticket) (c : ℕ) (rest : List ℕ) → AreOwn tickets (c ∷ rest) → has_chunk tickets c ≡ true
own_first tickets c rest own = own c (ap (λ (b : Bool). b || list_any (λ d. d == c) rest) (same_number c))

own_rest : (tickets : List Ticket) (c : ℕ) (rest : List ℕ) → AreOwn tickets (c ∷ rest) → AreOwn tickets rest
own_rest tickets c rest own i any = own i (or_right (c == i) (list_any (λ d. d == i) rest) any)

pub own_all : (tickets : List Ticket) (chunks : List ℕ) (start : ℕ) (others : List ℕ) → IsPermutation (map (λ t. t.chunk) tickets) chunks → chunks ≡ start ∷ others
    → AreOwn tickets (start ∷ others)
own_all tickets chunks start others same is i any =
    has_chunk-sorted tickets chunks same i ∙ ap (λ (ys : List ℕ). list_any (λ c. c == i) ys) is ∙ any

-- ---- the loop

-- What the loop keeps: acknowledgements that are done, an open range, and the chunks from an index on.
pub record JoinLoop (committed : List Bool) (tickets : List Ticket) (start : ℕ) (xs : List ℕ) (k first last end : ℕ) (done : List Acknowledgement) : Type 0 where
  pub follows : (out : List Acknowledgement) → AreJoinedOver committed tickets first last (drop k xs) out → AreJoinedOver committed tickets start start xs (done ++ out)
  pub rising : IsRisingFrom last (drop k xs)
  pub is_open : IsOpen committed tickets first last end
  pub own : AreOwn tickets (drop k xs)

module _ (committed : List Bool) (tickets : List Ticket) where
  -- a range that begins at a chunk
  pub open_new : (c end : ℕ) → has_chunk tickets c ≡ true → get_or committed c false ≡ true → c < end
      → ((i : ℕ) → c ≤ i → i < end → get_or committed i true ≡ true) → get_or committed end false ≡ false → IsOpen committed tickets c c end
  open_new c end own stands low all absent =
      record { order = omega arith; below = low; own_first = own; own_last = own; stands = stands; all = all; absent = absent }

  open_more : (first last end c : ℕ) → IsOpen committed tickets first last end → last ≤ c → c < end → has_chunk tickets c ≡ true → get_or committed c false ≡ true
      → IsOpen committed tickets first c end
  open_more first last end c is low high own stands =
      record { order = let order = is.order in omega arith; below = high; own_first = is.own_first; own_last = own; stands = stands; all = is.all; absent = is.absent }

  pub join_begin : (start end : ℕ) (xs : List ℕ) (done : List Acknowledgement) → done ≡ [] → IsRisingFrom start xs → AreOwn tickets (start ∷ xs)
      → IsOpen committed tickets start start end → JoinLoop committed tickets start xs 0 start start end done
  join_begin start end xs done none rising own is = record {
    follows = λ out h. subst (λ (ys : List Acknowledgement). AreJoinedOver committed tickets start start xs (ys ++ out)) (sym none) h;
    rising = rising;
    is_open = is;
    own = own_rest tickets start xs own;
  }

  module _ (start : ℕ) (xs : List ℕ) (k d first last end : ℕ) (done : List Acknowledgement) (lt : k < length xs)
      (h : JoinLoop committed tickets start xs k first last end done) where
    abbrev c : ℕ
    c = get_or xs k d

    own_here : AreOwn tickets (c ∷ drop (k + 1) xs)
    own_here = subst (λ (ys : List ℕ). AreOwn tickets ys) (drop_at xs k d lt) h.own

    pub own_at : has_chunk tickets c ≡ true
    own_at = own_first tickets c (drop (k + 1) xs) own_here

    low : last ≤ c
    low = (rising_at last xs k d lt h.rising).0

    module _ (first' last' end' : ℕ) (done' : List Acknowledgement) (stands : get_or committed c false ≡ true) where
      pub join_extended : c < end → done' ≡ done → first' ≡ first → last' ≡ c → end' ≡ end → JoinLoop committed tickets start xs (k + 1) first' last' end' done'
      join_extended near done_is first_is last_is end_is =
          subst (λ (ys : List Acknowledgement). JoinLoop committed tickets start xs (k + 1) first' last' end' ys) (sym done_is)
          (subst (λ (n : ℕ). JoinLoop committed tickets start xs (k + 1) n last' end' done) (sym first_is)
          (subst (λ (n : ℕ). JoinLoop committed tickets start xs (k + 1) first n end' done) (sym last_is)
          (subst (λ (n : ℕ). JoinLoop committed tickets start xs (k + 1) first c n done) (sym end_is) (record {
            follows = λ out g. h.follows out (subst (λ (ys : List ℕ). AreJoinedOver committed tickets first last ys out) (sym (drop_at xs k d lt))
                (join_extend committed tickets first last end h.is_open c (drop (k + 1) xs) out low g));
            rising = (rising_at last xs k d lt h.rising).1;
            is_open = open_more first last end c h.is_open low near own_at stands;
            own = own_rest tickets c (drop (k + 1) xs) own_here;
          }))))

      pub join_closed : end ≤ c → IsPushed first last tickets done done' → IsOpen committed tickets c c end' → first' ≡ c → last' ≡ c
          → JoinLoop committed tickets start xs (k + 1) first' last' end' done'
      join_closed far pushed is first_is last_is =
          subst (λ (n : ℕ). JoinLoop committed tickets start xs (k + 1) n last' end' done') (sym first_is)
          (subst (λ (n : ℕ). JoinLoop committed tickets start xs (k + 1) c n end' done') (sym last_is) (record {
            follows = λ out g. subst (λ (ys : List Acknowledgement). AreJoinedOver committed tickets start start xs ys)
                (sym (ap (λ (ys : List Acknowledgement). ys ++ out) pushed.items ∙ append_assoc done (one first last pushed.delay ∷ []) out))
                (h.follows (one first last pushed.delay ∷ out)
                (subst (λ (ys : List ℕ). AreJoinedOver committed tickets first last ys (one first last pushed.delay ∷ out)) (sym (drop_at xs k d lt))
                (join_close committed tickets first last end h.is_open pushed.delay pushed.newest c (drop (k + 1) xs) out far stands g)));
            rising = (rising_at last xs k d lt h.rising).1;
            is_open = is;
            own = own_rest tickets c (drop (k + 1) xs) own_here;
          }))

  -- after the last chunk
  pub join_end : (start : ℕ) (xs chunks : List ℕ) (k first last end : ℕ) (done done' : List Acknowledgement) → length xs ≤ k
      → JoinLoop committed tickets start xs k first last end done → IsPushed first last tickets done done' → IsPermutation (map (λ t. t.chunk) tickets) chunks
      → chunks ≡ start ∷ xs → length chunks ≡ length tickets → AreJoined committed tickets done'
  join_end start xs chunks k first last end done done' whole h pushed perm is size =
      let over : AreJoinedOver committed tickets start start xs done' =
      subst (λ (ys : List Acknowledgement). AreJoinedOver committed tickets start start xs ys) (sym pushed.items)
      (h.follows (one first last pushed.delay ∷ [])
      (subst (λ (ys : List ℕ). AreJoinedOver committed tickets first last ys (one first last pushed.delay ∷ [])) (sym (drop_end xs k whole))
      (join_last committed tickets first last end h.is_open pushed.delay pushed.newest))) in record {
        all = λ i any. either (start == i) (list_any (λ d. d == i) xs) (has (ranges_of done') i ≡ true)
            (λ same. over.all_open i (let it : within (record { first = start; last = start }) i ≡ true = grind (arith, nat_tests) in it)) (over.all i)
            (sym (ap (λ (ys : List ℕ). list_any (λ c. c == i) ys) is) ∙ sym (has_chunk-sorted tickets chunks perm i) ∙ any);
        none_else = over.none_else;
        ends = over.ends;
        apart = over.apart;
        newest = over.newest;
        few = let few = over.few in let long = ap (λ (ys : List ℕ). length ys) is in omega (arith, few, long, size);
      }
