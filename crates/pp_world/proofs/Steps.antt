-- The words of a step are read as the step that has them, and no other words are read.
use Rattle.std.proofs.Common.{◌≡◌, ◌⊎◌, inl, inr, ⊎_elim, ℕ, zero, suc, ◌+◌, ◌-◌, ◌*◌, ◌/◌, ◌%◌, ◌^◌, ◌<◌, ◌≤◌, nat_le, Bool, true, false, cond, ◌&&◌, Option, Some, None, List, [], ◌∷◌, length, codes, decimal, get_or, Result, Ok, Err, refl, sym, ◌∙◌, ap, subst, arith}
use Rattle.std.specs.List.{AllByRecursion}
use Rattle.std.specs.Str.{bytes_eq}
use Rattle.std.specs.Cmp.Lexicographic.{same_text}
use Rattle.std.proofs.lemmas.Bool.{and_parts, and_from, leb-true, le-leb}
use Rattle.std.proofs.lemmas.Option.{same_Some}
use Rattle.hex.specs.Hex.{encode_with, encode_lower, lower_digits, IsBytes}
use Rattle.pp_terms.specs.format.DescriptorRead.{is_lower_hex}
use Rattle.pp_tree.proofs.HexDigits.{encoded_lower}
use Rattle.pp_tree.proofs.HexDigits as digits
use Rattle.pp_world.specs.ScheduleFault.{ScheduleKind}
use Rattle.pp_world.specs.ScheduleFault as wrong
use Rattle.pp_world.specs.Schedule.{Device, Read, Write, Sync, Send, Receive, Act, Turn, Lose, Repeat, Later, Forge, Fail, Crash, Stop, Start, Step, Once, Run, IsStep, device_text, step_words}
use Rattle.pp_world.specs.ScheduleRead.{◌>>=◌, where_true, found, number_in, peer_in, one_of, nibble, byte_before, bytes_of, datagram_in, device_of, one_peer, run_in, forge_in, fail_in, crash_in, step_in}
use Rattle.pp_world.proofs.Numbers.{bind_ok, where_ok, ok_where, found_ok, if_ok, number_read, read_number, one_read, read_one}

pub never_ok : {A E : Type 0} (e : E) (x : A) → Err e ≡ Ok x → ⊥
never_ok e x h = cc

-- ---- bytes

nibble_of_digit : (v : ℕ) → v < 16 → nibble (get_or lower_digits v 0) ≡ v
nibble_of_digit zero lt = refl
nibble_of_digit (suc zero) lt = refl
nibble_of_digit (suc (suc zero)) lt = refl
nibble_of_digit (suc (suc (suc zero))) lt = refl
nibble_of_digit (suc (suc (suc (suc zero)))) lt = refl
nibble_of_digit (suc (suc (suc (suc (suc zero))))) lt = refl
nibble_of_digit (suc (suc (suc (suc (suc (suc zero)))))) lt = refl
nibble_of_digit (suc (suc (suc (suc (suc (suc (suc zero))))))) lt = refl
nibble_of_digit (suc (suc (suc (suc (suc (suc (suc (suc zero)))))))) lt = refl
nibble_of_digit (suc (suc (suc (suc (suc (suc (suc (suc (suc zero))))))))) lt = refl
nibble_of_digit (suc (suc (suc (suc (suc (suc (suc (suc (suc (suc zero)))))))))) lt = refl
nibble_of_digit (suc (suc (suc (suc (suc (suc (suc (suc (suc (suc (suc zero))))))))))) lt = refl
nibble_of_digit (suc (suc (suc (suc (suc (suc (suc (suc (suc (suc (suc (suc zero)))))))))))) lt = refl
nibble_of_digit (suc (suc (suc (suc (suc (suc (suc (suc (suc (suc (suc (suc (suc zero))))))))))))) lt = refl
nibble_of_digit (suc (suc (suc (suc (suc (suc (suc (suc (suc (suc (suc (suc (suc (suc zero)))))))))))))) lt = refl
nibble_of_digit (suc (suc (suc (suc (suc (suc (suc (suc (suc (suc (suc (suc (suc (suc (suc zero))))))))))))))) lt = refl
nibble_of_digit (suc (suc (suc (suc (suc (suc (suc (suc (suc (suc (suc (suc (suc (suc (suc (suc n)))))))))))))))) lt = absurd (omega (arith, lt))

-- a digit is that of its value
digit_of_nibble : (c : ℕ) → is_lower_hex c ≡ true → (nibble c < 16) × (get_or lower_digits (nibble c) 0 ≡ c)
digit_of_nibble c is =
    let (v, low, digit) = digits.nibble c is in
    let same : nibble c ≡ v = ap nibble (sym digit) ∙ nibble_of_digit v low in (
      subst (λ (k : ℕ). k < 16) (sym same) low,
      ap (λ (k : ℕ). get_or lower_digits k 0) same ∙ digit,
    )

-- what two digits write
abbrev pair : ℕ → ℕ → ℕ
pair high low = 16 * nibble high + nibble low

-- bytes that were read, each below 256
abbrev pub AreRead : List ℕ → List ℕ → Type 0
AreRead word bytes = (word ≡ encode_lower bytes) × AllByRecursion (λ b. b < 256) bytes

pub bytes_read : (word bytes : List ℕ) → bytes_of word ≡ Some bytes → AreRead word bytes
unfolding encode_with
bytes_read [] bytes h = subst (AreRead []) (same_Some [] bytes h) (refl, tt)
bytes_read (high ∷ []) bytes h = absurd (let never : None ≡ Some bytes = h in cc)
bytes_read (high ∷ low ∷ rest) bytes h = of (bytes_of rest) (λ more is. bytes_read rest more is) h
  where
    with_byte : (is_right : Bool) (more : List ℕ) → (is_lower_hex high && is_lower_hex low) ≡ is_right → AreRead rest more
        → cond is_right (Some ((pair high low) ∷ more)) None ≡ Some bytes → AreRead (high ∷ low ∷ rest) bytes
    with_byte false more right read h = absurd (let never : None ≡ Some bytes = h in cc)
    with_byte true more right read h =
        let both = and_parts (is_lower_hex high) (is_lower_hex low) right in
        let a = digit_of_nibble high both.0 in
        let b = digit_of_nibble low both.1 in
        let a_low = a.0 in let b_low = b.0 in
        let over : (pair high low) / 16 ≡ nibble high = omega (arith, a_low, b_low) in
        let under : (pair high low) % 16 ≡ nibble low = omega (arith, a_low, b_low) in
        subst (AreRead (high ∷ low ∷ rest)) (same_Some ((pair high low) ∷ more) bytes h) (
          sym (ap (λ x. x ∷ get_or lower_digits ((pair high low) % 16) 0 ∷ encode_lower more) (ap (λ (k : ℕ). get_or lower_digits k 0) over ∙ a.1)
              ∙ ap (λ x. high ∷ x ∷ encode_lower more) (ap (λ (k : ℕ). get_or lower_digits k 0) under ∙ b.1)
              ∙ ap (λ (xs : List ℕ). high ∷ low ∷ xs) (sym read.0)),
          (omega (arith, a_low, b_low), read.1),
        )

    of : (o : Option (List ℕ)) → ((more : List ℕ) → o ≡ Some more → AreRead rest more)
        → byte_before (is_lower_hex high && is_lower_hex low) (pair high low) o ≡ Some bytes → AreRead (high ∷ low ∷ rest) bytes
    of None before h = absurd (let never : None ≡ Some bytes = h in cc)
    of (Some more) before h = with_byte (is_lower_hex high && is_lower_hex low) more refl (before more refl) h

pub are_bytes : (bytes : List ℕ) → AllByRecursion (λ b. b < 256) bytes → IsBytes bytes
are_bytes [] all i = omega arith
are_bytes (b ∷ bs) all zero = all.0
are_bytes (b ∷ bs) all (suc i) = are_bytes bs all.1 i

pub read_bytes : (bytes : List ℕ) → AllByRecursion (λ b. b < 256) bytes → bytes_of (encode_lower bytes) ≡ Some bytes
unfolding encode_with
read_bytes [] all = refl
read_bytes (b ∷ bs) all =
    let lt = all.0 in
    let each = are_bytes (b ∷ bs) all in
    let high = encoded_lower (b ∷ bs) each 0 (omega arith) in
    let low = encoded_lower (b ∷ bs) each 1 (omega arith) in
    let over = nibble_of_digit (b / 16) (omega (arith, lt)) in
    let under = nibble_of_digit (b % 16) (omega arith) in
    let whole : 16 * nibble (get_or lower_digits (b / 16) 0) + nibble (get_or lower_digits (b % 16) 0) ≡ b = omega (arith, over, under) in
    ap (λ (x : Bool). byte_before x (16 * nibble (get_or lower_digits (b / 16) 0) + nibble (get_or lower_digits (b % 16) 0)) (bytes_of (encode_lower bs)))
    (and_from (is_lower_hex (get_or lower_digits (b / 16) 0)) (is_lower_hex (get_or lower_digits (b % 16) 0)) high low)
    ∙ ap (λ (x : ℕ). byte_before true x (bytes_of (encode_lower bs))) whole
    ∙ ap (byte_before true b) (read_bytes bs all.1)

pub datagram_read : (word bytes : List ℕ) → datagram_in word ≡ Ok bytes
    → AreRead word bytes × (1 ≤ length bytes) × (length bytes ≤ 16384)
datagram_read word bytes h =
    let (some, is, rest) = bind_ok (found wrong.Hex (bytes_of word)) _ bytes h in
    let it = where_ok (nat_le 1 (length some) && nat_le (length some) 16384) wrong.Hex some bytes rest in
    let both = and_parts (nat_le 1 (length some)) (nat_le (length some) 16384) it.0 in
    subst (λ (bs : List ℕ). AreRead word bs × (1 ≤ length bs) × (length bs ≤ 16384)) it.1 (
      bytes_read word some (found_ok wrong.Hex (bytes_of word) some is),
      leb-true 1 (length some) both.0,
      leb-true (length some) 16384 both.1,
    )

pub read_datagram : (bytes : List ℕ) → AllByRecursion (λ b. b < 256) bytes → 1 ≤ length bytes → length bytes ≤ 16384
    → datagram_in (encode_lower bytes) ≡ Ok bytes
read_datagram bytes all some few =
    ap (λ (o : Option (List ℕ)). found wrong.Hex o >>= λ bs. where_true (nat_le 1 (length bs) && nat_le (length bs) 16384) wrong.Hex bs)
    (read_bytes bytes all)
    ∙ ok_where (nat_le 1 (length bytes) && nat_le (length bytes) 16384) wrong.Hex bytes
    (and_from (nat_le 1 (length bytes)) (nat_le (length bytes) 16384) (le-leb 1 (length bytes) some) (le-leb (length bytes) 16384 few))

-- ---- what was read of a step

-- The words are those of a step that may be taken.
abbrev pub IsRead : ℕ → List (List ℕ) → Step → Type 0
IsRead peers ws s = (ws ≡ step_words s) × IsStep peers s

abbrev just : Step → Result Step ScheduleKind
just s = Ok s

abbrev step_or : Step → Result Step ScheduleKind → Step
step_or t (Ok x) = x
step_or t (Err e) = t

read_as : (peers : ℕ) (ws : List (List ℕ)) (s t : Step) → just t ≡ just s → IsRead peers ws t → IsRead peers ws s
read_as peers ws s t h is = subst (IsRead peers ws) (ap (step_or t) h) is

peer_read : (n : ℕ) (word : List ℕ) → peer_in word ≡ Ok n → word ≡ decimal n
peer_read n word h = (number_read 0 15 n word (omega arith) h).0

read_peer : (peers p : ℕ) → peers ≤ 16 → p < peers → peer_in (decimal p) ≡ Ok p
read_peer peers p few lt = read_number 0 15 p (omega arith) (omega arith) (omega (arith, few, lt))

-- one word behind the name, the number of a peer
one_peer_read : (peers : ℕ) (act : ℕ → Act) (rest : List (List ℕ)) (s : Step) → one_peer peers act rest ≡ Ok s
    → (p : ℕ) × (rest ≡ decimal p ∷ []) × (just (Once (act p)) ≡ just s) × (p < peers)
one_peer_read peers act [] s h = absurd (never_ok wrong.Line s h)
one_peer_read peers act (w ∷ []) s h =
    let (n, is, h2) = bind_ok (peer_in w) _ s h in
    let (p, one, h3) = bind_ok (one_of peers n) _ s h2 in
    let it = one_read peers n p one in
    (p, ap (λ (x : List ℕ). x ∷ []) (peer_read n w is ∙ ap decimal it.0), h3, it.1)
one_peer_read peers act (w ∷ v ∷ more) s h = absurd (never_ok wrong.Line s h)

read_one_peer : (peers : ℕ) (act : ℕ → Act) (p : ℕ) → peers ≤ 16 → p < peers → one_peer peers act (decimal p ∷ []) ≡ Ok (Once (act p))
read_one_peer peers act p few lt =
    ap (λ (r : Result ℕ ScheduleKind). r >>= λ n. one_of peers n >>= λ who. just (Once (act who))) (read_peer peers p few lt)
    ∙ ap (λ (r : Result ℕ ScheduleKind). r >>= λ who. just (Once (act who))) (read_one peers p lt)

-- both words
pub two_same : (a b : List ℕ) (c d : List (List ℕ)) → a ≡ b → c ≡ d → a ∷ c ≡ b ∷ d
two_same a b c d first rest = ap (λ (x : List ℕ). x ∷ c) first ∙ ap (λ (xs : List (List ℕ)). b ∷ xs) rest

-- of a step that is an act of one peer
act_read : (peers : ℕ) (act : ℕ → Act) (name word : List ℕ) (rest : List (List ℕ)) (s : Step) → name ≡ word
    → ((p : ℕ) → step_words (Once (act p)) ≡ word ∷ decimal p ∷ []) → ((p : ℕ) → p < peers → IsStep peers (Once (act p)))
    → one_peer peers act rest ≡ Ok s → IsRead peers (name ∷ rest) s
act_read peers act name word rest s named words steps h =
    let (p, is, same, lt) = one_peer_read peers act rest s h in
    read_as peers (name ∷ rest) s (Once (act p)) same
    (two_same name word rest (decimal p ∷ []) named is ∙ sym (words p), steps p lt)

run_read : (peers : ℕ) (name : List ℕ) (rest : List (List ℕ)) (s : Step) → name ≡ codes "run" → run_in rest ≡ Ok s → IsRead peers (name ∷ rest) s
run_read peers name [] s named h = absurd (never_ok wrong.Line s h)
run_read peers name (r ∷ []) s named h = absurd (never_ok wrong.Line s h)
run_read peers name (r ∷ g ∷ []) s named h =
    let (rounds, first, h2) = bind_ok (number_in 1 10000 r) _ s h in
    let (gain, second, h3) = bind_ok (number_in 0 600000000 g) _ s h2 in
    let a = number_read 1 10000 rounds r (omega arith) first in
    let b = number_read 0 600000000 gain g (omega arith) second in
    read_as peers (name ∷ r ∷ g ∷ []) s (Run rounds gain) h3 (
      two_same name (codes "run") (r ∷ g ∷ []) (decimal rounds ∷ decimal gain ∷ []) named
          (two_same r (decimal rounds) (g ∷ []) (decimal gain ∷ []) a.0 (ap (λ (x : List ℕ). x ∷ []) b.0)),
      (a.1, a.2, b.2),
    )
run_read peers name (r ∷ g ∷ t ∷ more) s named h = absurd (never_ok wrong.Line s h)

forge_read : (peers : ℕ) (name : List ℕ) (rest : List (List ℕ)) (s : Step) → name ≡ codes "forge" → forge_in peers rest ≡ Ok s
    → IsRead peers (name ∷ rest) s
forge_read peers name [] s named h = absurd (never_ok wrong.Line s h)
forge_read peers name (p ∷ []) s named h = absurd (never_ok wrong.Line s h)
forge_read peers name (p ∷ q ∷ []) s named h = absurd (never_ok wrong.Line s h)
forge_read peers name (p ∷ q ∷ hex ∷ []) s named h =
    let (n, first, h2) = bind_ok (peer_in p) _ s h in
    let (m, second, h3) = bind_ok (peer_in q) _ s h2 in
    let (who, one, h4) = bind_ok (one_of peers n) _ s h3 in
    let (sender, other, h5) = bind_ok (one_of peers m) _ s h4 in
    let (bytes, is, h6) = bind_ok (datagram_in hex) _ s h5 in
    let a = one_read peers n who one in
    let b = one_read peers m sender other in
    let c = datagram_read hex bytes is in
    read_as peers (name ∷ p ∷ q ∷ hex ∷ []) s (Once (Forge who sender bytes)) h6 (
      two_same name (codes "forge") (p ∷ q ∷ hex ∷ []) (decimal who ∷ decimal sender ∷ encode_lower bytes ∷ []) named
          (two_same p (decimal who) (q ∷ hex ∷ []) (decimal sender ∷ encode_lower bytes ∷ []) (peer_read n p first ∙ ap decimal a.0)
          (two_same q (decimal sender) (hex ∷ []) (encode_lower bytes ∷ []) (peer_read m q second ∙ ap decimal b.0)
          (ap (λ (x : List ℕ). x ∷ []) c.0.0))),
      (a.1, b.1, c.1, c.2, c.0.1),
    )
forge_read peers name (p ∷ q ∷ hex ∷ x ∷ more) s named h = absurd (never_ok wrong.Line s h)

-- where a word is another's, what it stands for; or what it stands for else
pub some_if : {A : Type 0} (name word : List ℕ) (x : A) (o : Option A) (y : A) → cond (bytes_eq name word) (Some x) o ≡ Some y
    → ((name ≡ word) × (x ≡ y)) ⊎ (o ≡ Some y)
some_if name word x o y = by (bytes_eq name word) refl
  where
    by : (b : Bool) → bytes_eq name word ≡ b → cond b (Some x) o ≡ Some y → ((name ≡ word) × (x ≡ y)) ⊎ (o ≡ Some y)
    by true e h = inl (same_text name word (sym e), same_Some x y h)
    by false e h = inr h

device_read : (word : List ℕ) (d : Device) → device_of word ≡ Some d → word ≡ device_text d
device_read word d h = ⊎_elim is (λ h. ⊎_elim is (λ h. ⊎_elim is (λ h. ⊎_elim is (λ h. ⊎_elim is (λ h. absurd (let never : None ≡ Some d = h in cc))
    (some_if word (device_text Receive) Receive None d h))
    (some_if word (device_text Send) Send _ d h))
    (some_if word (device_text Sync) Sync _ d h))
    (some_if word (device_text Write) Write _ d h))
    (some_if word (device_text Read) Read _ d h)
  where
    is : {x : Device} → (word ≡ device_text x) × (x ≡ d) → word ≡ device_text d
    is e = e.0 ∙ ap device_text e.1

read_device : (d : Device) → device_of (device_text d) ≡ Some d
read_device Read = refl
read_device Write = refl
read_device Sync = refl
read_device Send = refl
read_device Receive = refl

fail_read : (peers : ℕ) (name : List ℕ) (rest : List (List ℕ)) (s : Step) → name ≡ codes "fail" → fail_in peers rest ≡ Ok s → IsRead peers (name ∷ rest) s
fail_read peers name [] s named h = absurd (never_ok wrong.Line s h)
fail_read peers name (p ∷ []) s named h = absurd (never_ok wrong.Line s h)
fail_read peers name (p ∷ kind ∷ []) s named h =
    let (call, is, h2) = bind_ok (found wrong.Line (device_of kind)) _ s h in
    let (n, first, h3) = bind_ok (peer_in p) _ s h2 in
    let (who, one, h4) = bind_ok (one_of peers n) _ s h3 in
    let a = one_read peers n who one in
    read_as peers (name ∷ p ∷ kind ∷ []) s (Once (Fail who call)) h4 (
      two_same name (codes "fail") (p ∷ kind ∷ []) (decimal who ∷ device_text call ∷ []) named
          (two_same p (decimal who) (kind ∷ []) (device_text call ∷ []) (peer_read n p first ∙ ap decimal a.0)
          (ap (λ (x : List ℕ). x ∷ []) (device_read kind call (found_ok wrong.Line (device_of kind) call is)))),
      a.1,
    )
fail_read peers name (p ∷ kind ∷ x ∷ more) s named h = absurd (never_ok wrong.Line s h)

crash_read : (peers : ℕ) (name : List ℕ) (rest : List (List ℕ)) (s : Step) → name ≡ codes "crash" → crash_in peers rest ≡ Ok s
    → IsRead peers (name ∷ rest) s
crash_read peers name [] s named h = absurd (never_ok wrong.Line s h)
crash_read peers name (p ∷ []) s named h = absurd (never_ok wrong.Line s h)
crash_read peers name (p ∷ k ∷ []) s named h =
    let (n, first, h2) = bind_ok (peer_in p) _ s h in
    let (pick, second, h3) = bind_ok (number_in 0 (2 ^ 64 - 1) k) _ s h2 in
    let (who, one, h4) = bind_ok (one_of peers n) _ s h3 in
    let a = one_read peers n who one in
    let b = number_read 0 (2 ^ 64 - 1) pick k (omega arith) second in
    let low = b.2 in
    read_as peers (name ∷ p ∷ k ∷ []) s (Once (Crash who pick)) h4 (
      two_same name (codes "crash") (p ∷ k ∷ []) (decimal who ∷ decimal pick ∷ []) named
          (two_same p (decimal who) (k ∷ []) (decimal pick ∷ []) (peer_read n p first ∙ ap decimal a.0)
          (ap (λ (x : List ℕ). x ∷ []) b.0)),
      (a.1, omega (arith, low)),
    )
crash_read peers name (p ∷ k ∷ x ∷ more) s named h = absurd (never_ok wrong.Line s h)

pub step_read : (peers : ℕ) (ws : List (List ℕ)) (s : Step) → step_in peers ws ≡ Ok s → IsRead peers ws s
step_read peers [] s h = absurd (never_ok wrong.Line s h)
step_read peers (name ∷ rest) s h =
    ⊎_elim (λ e. act Turn (codes "turn") (λ p. refl) (λ p lt. lt) e) (λ h.
    ⊎_elim (λ e. run_read peers name rest s e.0 e.1) (λ h.
    ⊎_elim (λ e. act Lose (codes "lose") (λ p. refl) (λ p lt. lt) e) (λ h.
    ⊎_elim (λ e. act Repeat (codes "repeat") (λ p. refl) (λ p lt. lt) e) (λ h.
    ⊎_elim (λ e. act Later (codes "later") (λ p. refl) (λ p lt. lt) e) (λ h.
    ⊎_elim (λ e. forge_read peers name rest s e.0 e.1) (λ h.
    ⊎_elim (λ e. fail_read peers name rest s e.0 e.1) (λ h.
    ⊎_elim (λ e. crash_read peers name rest s e.0 e.1) (λ h.
    ⊎_elim (λ e. act Stop (codes "stop") (λ p. refl) (λ p lt. lt) e) (λ h.
    ⊎_elim (λ e. act Start (codes "start") (λ p. refl) (λ p lt. lt) e) (λ h. absurd (never_ok wrong.Line s h))
    (if_ok name (codes "start") (one_peer peers Start rest) (Err wrong.Line) s h))
    (if_ok name (codes "stop") (one_peer peers Stop rest) _ s h))
    (if_ok name (codes "crash") (crash_in peers rest) _ s h))
    (if_ok name (codes "fail") (fail_in peers rest) _ s h))
    (if_ok name (codes "forge") (forge_in peers rest) _ s h))
    (if_ok name (codes "later") (one_peer peers Later rest) _ s h))
    (if_ok name (codes "repeat") (one_peer peers Repeat rest) _ s h))
    (if_ok name (codes "lose") (one_peer peers Lose rest) _ s h))
    (if_ok name (codes "run") (run_in rest) _ s h))
    (if_ok name (codes "turn") (one_peer peers Turn rest) _ s h)
  where
    act : (of : ℕ → Act) (word : List ℕ) → ((p : ℕ) → step_words (Once (of p)) ≡ word ∷ decimal p ∷ [])
        → ((p : ℕ) → p < peers → IsStep peers (Once (of p))) → (name ≡ word) × (one_peer peers of rest ≡ Ok s) → IsRead peers (name ∷ rest) s
    act of word words steps e = act_read peers of name word rest s e.0 words steps e.1

-- ---- what is read of the words of a step

pub read_step : (peers : ℕ) (s : Step) → peers ≤ 16 → IsStep peers s → step_in peers (step_words s) ≡ Ok s
read_step peers (Once (Turn p)) few is = read_one_peer peers Turn p few is
read_step peers (Once (Lose p)) few is = read_one_peer peers Lose p few is
read_step peers (Once (Repeat p)) few is = read_one_peer peers Repeat p few is
read_step peers (Once (Later p)) few is = read_one_peer peers Later p few is
read_step peers (Once (Stop p)) few is = read_one_peer peers Stop p few is
read_step peers (Once (Start p)) few is = read_one_peer peers Start p few is
read_step peers (Once (Forge p q bytes)) few is =
    ap (λ r. r >>= λ n. peer_in (decimal q) >>= λ m. one_of peers n >>= λ who. one_of peers m >>= λ sender. datagram_in (encode_lower bytes) >>= λ bs.
    just (Once (Forge who sender bs))) (read_peer peers p few is.0)
    ∙ ap (λ r. r >>= λ m. one_of peers p >>= λ who. one_of peers m >>= λ sender. datagram_in (encode_lower bytes) >>= λ bs.
    just (Once (Forge who sender bs))) (read_peer peers q few is.1)
    ∙ ap (λ r. r >>= λ who. one_of peers q >>= λ sender. datagram_in (encode_lower bytes) >>= λ bs. just (Once (Forge who sender bs))) (read_one peers p is.0)
    ∙ ap (λ r. r >>= λ sender. datagram_in (encode_lower bytes) >>= λ bs. just (Once (Forge p sender bs))) (read_one peers q is.1)
    ∙ ap (λ r. r >>= λ bs. just (Once (Forge p q bs))) (read_datagram bytes is.4 is.2 is.3)
read_step peers (Once (Fail p call)) few is =
    ap (λ o. found wrong.Line o >>= λ d. peer_in (decimal p) >>= λ n. one_of peers n >>= λ who. just (Once (Fail who d))) (read_device call)
    ∙ ap (λ r. r >>= λ n. one_of peers n >>= λ who. just (Once (Fail who call))) (read_peer peers p few is)
    ∙ ap (λ r. r >>= λ who. just (Once (Fail who call))) (read_one peers p is)
read_step peers (Once (Crash p pick)) few is =
    ap (λ r. r >>= λ n. number_in 0 (2 ^ 64 - 1) (decimal pick) >>= λ k. one_of peers n >>= λ who. just (Once (Crash who k))) (read_peer peers p few is.0)
    ∙ ap (λ r. r >>= λ k. one_of peers p >>= λ who. just (Once (Crash who k)))
    (read_number 0 (2 ^ 64 - 1) pick (omega arith) (omega arith) (let low = is.1 in omega (arith, low)))
    ∙ ap (λ r. r >>= λ who. just (Once (Crash who pick))) (read_one peers p is.0)
read_step peers (Run rounds gain) few is =
    ap (λ r. r >>= λ n. number_in 0 600000000 (decimal gain) >>= λ k. just (Run n k)) (read_number 1 10000 rounds (omega arith) is.0 is.1)
    ∙ ap (λ r. r >>= λ k. just (Run rounds k)) (read_number 0 600000000 gain (omega arith) (omega arith) is.2)
