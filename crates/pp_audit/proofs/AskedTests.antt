-- What was asked for on a channel, as a test.
use Rattle.std.proofs.Common.{◌≡◌, ◌↔◌, ◌⊎◌, inl, inr, ⊎_elim, ℕ, zero, suc, ◌+◌, ◌<◌, ◌≤◌, ltb, Bool, true, false, not, ◌&&◌, ◌||◌, List, refl, sym, ◌∙◌, ap, arith}
use Rattle.std.specs.Prelude.{slice_index_or}
use Rattle.std.specs.List.{list_any, list_all, range_with_len}
use Rattle.std.proofs.lemmas.Bool.{and_parts, and_from, or_cases, or_left, or_right, cases_Bool, not-true, not_from_false, not_from_true, ltb-true, lt-ltb, both_ways, cases_eq}
use Rattle.pp_terms.specs.format.Traffic.{Record}
use Rattle.pp_terms.specs.format.Descriptor.{Descriptor, chunks_of}
use Rattle.pp_terms.specs.disk.Image.{holds}
use Rattle.pp_traffic.specs.Past.{now}
use Rattle.pp_traffic.specs.Life.{Life}
use Rattle.pp_traffic.specs.Story.{story}
use Rattle.pp_traffic.specs.Asking.{is_heard}
use Rattle.pp_traffic.specs.Plain.{IsPlainNow}
use Rattle.pp_promises.specs.OwnSide.{is_choked_by_peer, is_offered, has_old_request, most_outstanding}
use Rattle.pp_promises.specs.Asked.{named_count, asks_for, MayBeAsked, AsksOffered}
use Rattle.pp_audit.specs.Channels.{each_plain}
use Rattle.pp_recorded.specs.Offers.{may_be_asked, is_asked_for, asks_offered}
use Rattle.pp_audit.proofs.ChannelSearch.{search_finds_all}

-- which chunks of the content are held
abbrev pub Held : Descriptor → List ℕ → List Bool → Type 0
Held d reads held = (i : ℕ) → i < chunks_of d → slice_index_or held i false ≡ holds d reads i

-- a test of each of so many numbers from one on
range_all : (test : ℕ → Bool) (a n : ℕ) → list_all test (range_with_len a n) ≡ true → (i : ℕ) → a ≤ i → i < a + n → test i ≡ true
range_all test a zero e i le lt = absurd (omega (arith, le, lt))
range_all test a (suc n) e i le lt =
    let both = and_parts (test a) (list_all test (range_with_len (a + 1) n)) e in ⊎_elim
    (λ here. ap (λ (k : ℕ). test k) (sym here) ∙ both.0)
    (λ later. range_all test (a + 1) n both.1 i later (omega (arith, lt)))
    (first a i le)
  where
    first : (a i : ℕ) → a ≤ i → (a ≡ i) ⊎ (a + 1 ≤ i)
    first a i le = ⊎_elim (λ same. inl same) (λ other. inr (omega (arith, le, other))) (cases_eq a i)

all_range : (test : ℕ → Bool) (a n : ℕ) → ((i : ℕ) → i < a + n → test i ≡ true) → list_all test (range_with_len a n) ≡ true
all_range test a zero all = refl
all_range test a (suc n) all =
    and_from (test a) (list_all test (range_with_len (a + 1) n)) (all a (omega arith)) (all_range test (a + 1) n (λ i lt. all i (omega (arith, lt))))

asked_one : (d : Descriptor) (reads : List ℕ) (held : List Bool) (past : List Record) (life : Life) (i : ℕ) → slice_index_or held i false ≡ holds d reads i
    → (is_asked_for held d past life i ≡ true)
    ↔ (is_offered i (story d life past) ≡ true → (list_any (asks_for d i) past ≡ true) ⊎ (holds d reads i ≡ true))
asked_one d reads held past life i same =
    let offered = is_offered i (story d life past) in
    let asked = list_any (asks_for d i) past in
    let stands = slice_index_or held i false in (
      λ e is. ⊎_elim
          (λ other. absurd (both_ways (not offered) (not_from_true offered is) other))
          (λ done. ⊎_elim (λ a. inl a) (λ h. inr (sym same ∙ h)) (or_cases asked stands done))
          (or_cases (not offered) (asked || stands) e),
      λ asks. ⊎_elim
          (λ is. or_right (not offered) (asked || stands)
          (⊎_elim (λ a. or_left asked stands a) (λ h. or_right asked stands (same ∙ h)) (asks is)))
          (λ other. or_left (not offered) (asked || stands) (not_from_false offered other))
          (cases_Bool offered),
    )

asked_by : (d : Descriptor) (past : List Record) (life : Life) → IsPlainNow d life past → may_be_asked d past life ≡ true → MayBeAsked d life past
asked_by d past life plain e =
    let heard = is_heard d life past in
    let unchoked = not (is_choked_by_peer (story d life past)) in
    let fresh = not (has_old_request (now past) (story d life past)) in
    let room = ltb (named_count (chunks_of d) (story d life past)) most_outstanding in
    let a = and_parts (heard && unchoked && fresh) room e in
    let b = and_parts (heard && unchoked) fresh a.0 in
    let c = and_parts heard unchoked b.0 in
    record {
      plain = plain;
      heard = c.0;
      unchoked = not-true (is_choked_by_peer (story d life past)) c.1;
      fresh = not-true (has_old_request (now past) (story d life past)) b.1;
      room = ltb-true (named_count (chunks_of d) (story d life past)) most_outstanding a.1;
    }

by_asked : (d : Descriptor) (past : List Record) (life : Life) → MayBeAsked d life past → may_be_asked d past life ≡ true
by_asked d past life may =
    let heard = is_heard d life past in
    let unchoked = not (is_choked_by_peer (story d life past)) in
    let fresh = not (has_old_request (now past) (story d life past)) in
    and_from (heard && unchoked && fresh) (ltb (named_count (chunks_of d) (story d life past)) most_outstanding)
    (and_from (heard && unchoked) fresh
    (and_from heard unchoked may.heard (not_from_false (is_choked_by_peer (story d life past)) may.unchoked))
    (not_from_false (has_old_request (now past) (story d life past)) may.fresh))
    (lt-ltb (named_count (chunks_of d) (story d life past)) most_outstanding may.room)

pub asks_decided : (d : Descriptor) (reads : List ℕ) (held : List Bool) → Held d reads held → (past : List Record)
    → (each_plain (λ life. not (may_be_asked d past life) || asks_offered held d past life) d past ≡ true) ↔ AsksOffered d (chunks_of d) reads past
asks_decided d reads held is past =
    let search = search_finds_all (λ life. not (may_be_asked d past life) || asks_offered held d past life) d past in (
      λ e life may i lt. ⊎_elim
          (λ other. absurd (both_ways (not (may_be_asked d past life)) (not_from_true (may_be_asked d past life) (by_asked d past life may)) other))
          (λ all. (asked_one d reads held past life i (is i lt)).0 (range_all (is_asked_for held d past life) 0 (chunks_of d) all i (omega arith) (omega (arith, lt))))
          (or_cases (not (may_be_asked d past life)) (asks_offered held d past life) (search.0 e life may.plain)),
      λ asks. search.1 (λ life plain. ⊎_elim
          (λ may. or_right (not (may_be_asked d past life)) (asks_offered held d past life)
          (all_range (is_asked_for held d past life) 0 (chunks_of d) (λ i lt.
          (asked_one d reads held past life i (is i (omega (arith, lt)))).1 (asks life (asked_by d past life plain may) i (omega (arith, lt))))))
          (λ other. or_left (not (may_be_asked d past life)) (asks_offered held d past life) (not_from_false (may_be_asked d past life) other))
          (cases_Bool (may_be_asked d past life))),
    )
