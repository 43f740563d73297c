-- A text is read as a schedule exactly where it is that schedule's text.
use Rattle.std.proofs.Common.{◌≡◌, ◌≢◌, ℕ, suc, ◌+◌, ◌^◌, ◌<◌, ◌≤◌, ◌==◌, nat_lt, nat_le, Bool, true, false, cond, not, ◌&&◌, List, [], ◌∷◌, ◌++◌, length, codes, decimal, get_or, map, ◌/◌, ◌%◌, Result, Ok, Err, refl, sym, ◌∙◌, ap, subst, arith, append_assoc}
use Rattle.std.specs.List.{AllByRecursion, list_all}
use Rattle.std.specs.Str.{bytes_eq}
use Rattle.std.specs.Cmp.Lexicographic.{same_text}
use Rattle.std.proofs.lemmas.Bool.{and_parts, and_from, leb-true, le-leb, ne_eqb, both_ways, false≢true}
use Rattle.hex.specs.Hex.{encode_with, encode_lower, lower_digits}
use Rattle.pp_terms.specs.command.Order.{Order, Sequential, Rarest, order_text}
use Rattle.pp_terms.specs.tree.Content.{IsChunkSize}
use Rattle.pp_terms.specs.command.Report.{line}
use Rattle.pp_terms.specs.format.DescriptorRead.{is_lower_hex}
use Rattle.pp_tree.proofs.HexDigits.{encoded_lower}
use Rattle.pp_tree.proofs.Sizes.{chunk_size_range}
use Rattle.pp_world.specs.ScheduleFault.{ScheduleKind, ScheduleFault, fault}
use Rattle.pp_world.specs.ScheduleFault as wrong
use Rattle.pp_world.specs.Schedule.{Role, Seeds, Fetches, Turn, Lose, Repeat, Later, Forge, Fail, Crash, Stop, Start, Read, Write, Sync, Send, Receive, Device, Step, Once, Run, Schedule, IsSchedule, IsRole, AreRoles, IsStep, words, device_text, role_words, step_words, role_lines, step_lines, header, schedule_text, most_text, most_lines}
use Rattle.pp_world.specs.ScheduleRead.{◌>>=◌, wants, Row, rows_of, words_of, step_in, step_at, role_in, role_at, names_peer, on_line, Declared, peers_with, peers_declared, dials_declared, all_declared, steps_in, peers_end, header_at, content_in, content_at, read_rest, read_second, read_first, read_schedule, SchedulesRead}
use Rattle.pp_world.proofs.Lines.{Lacks, ended, unrow, unrow_rows, line_rows, words_back, words_forth}
use Rattle.pp_world.proofs.Numbers.{value_or, bind_ok, wants_ok, ok_wants, decimal_lacks}
use Rattle.pp_world.proofs.Steps.{never_ok, step_read, read_step, are_bytes}
use Rattle.pp_world.proofs.Roles.{IsAlone, role_read, read_role}
use Rattle.pp_world.proofs.Contents.{IsContentRead, content_read, read_content}

-- ---- the lines of a schedule

abbrev role_row : ℕ → Role → Row
role_row n role = ended (words (codes "peer" ∷ decimal n ∷ role_words role))

abbrev role_rows : ℕ → List Role → List Row
role_rows n [] = []
role_rows n (role ∷ roles) = role_row n role ∷ role_rows (n + 1) roles

abbrev step_row : Step → Row
step_row step = ended (words (step_words step))

abbrev step_rows : List Step → List Row
step_rows [] = []
step_rows (step ∷ steps) = step_row step ∷ step_rows steps

abbrev content_line : Schedule → List ℕ
content_line s = words (codes "content" ∷ decimal s.chunk ∷ decimal s.size ∷ decimal s.shift ∷ [])

abbrev schedule_rows : Schedule → List Row
schedule_rows s = ended header ∷ ended (content_line s) ∷ (role_rows 0 s.roles ++ step_rows s.steps)

ended_line : (text rest : List ℕ) → text ++ 10 ∷ rest ≡ line text ++ rest
ended_line text rest = sym (append_assoc text (10 ∷ []) rest)

unrow_roles : (n : ℕ) (roles : List Role) (rest : List Row) → unrow (role_rows n roles ++ rest) ≡ role_lines n roles ++ unrow rest
unrow_roles n [] rest = refl
unrow_roles n (role ∷ roles) rest =
    ended_line (words (codes "peer" ∷ decimal n ∷ role_words role)) (unrow (role_rows (n + 1) roles ++ rest))
    ∙ ap (λ (x : List ℕ). line (words (codes "peer" ∷ decimal n ∷ role_words role)) ++ x) (unrow_roles (n + 1) roles rest)
    ∙ sym (append_assoc (line (words (codes "peer" ∷ decimal n ∷ role_words role))) (role_lines (n + 1) roles) (unrow rest))

unrow_steps : (steps : List Step) → unrow (step_rows steps) ≡ step_lines steps
unrow_steps [] = refl
unrow_steps (step ∷ steps) = ended_line (words (step_words step)) (unrow (step_rows steps))
    ∙ ap (λ (x : List ℕ). line (words (step_words step)) ++ x) (unrow_steps steps)

text_of : (s : Schedule) → unrow (schedule_rows s) ≡ schedule_text s
text_of s =
    ended_line header (unrow (ended (content_line s) ∷ (role_rows 0 s.roles ++ step_rows s.steps)))
    ∙ ap (λ (x : List ℕ). line header ++ x) (ended_line (content_line s) (unrow (role_rows 0 s.roles ++ step_rows s.steps)))
    ∙ ap (λ (x : List ℕ). line header ++ (line (content_line s) ++ x))
    (unrow_roles 0 s.roles (step_rows s.steps) ∙ ap (λ (x : List ℕ). role_lines 0 s.roles ++ x) (unrow_steps s.steps))
    ∙ sym (append_assoc (line header) (line (content_line s)) (role_lines 0 s.roles ++ step_lines s.steps))
    ∙ sym (append_assoc (line header ++ line (content_line s)) (role_lines 0 s.roles) (step_lines s.steps))

-- ---- what was read

row_is : (row : Row) → row.is_ended ≡ true → row ≡ ended row.text
row_is row e = ap (λ (b : Bool). record { text = row.text; is_ended = b }) e

pub on_line_ok : {A : Type 0} (n : ℕ) (r : Result A ScheduleKind) (x : A) → on_line n r ≡ Ok x → r ≡ Ok x
on_line_ok n (Ok y) x h = ap (λ z. Ok z) (ap (value_or y) h)
on_line_ok n (Err e) x h = absurd (let never : Err (fault n e) ≡ Ok x = h in cc)

-- the line of a step
step_row_read : (peers n : ℕ) (row : Row) (step : Step) → step_at peers n row ≡ Ok step
    → (row ≡ step_row step) × IsStep peers step × (n ≤ most_lines)
step_row_read peers n row step h =
    let (few, low, h2) = bind_ok (wants (nat_le n most_lines) wrong.Long) _ step h in
    let (is, end, h3) = bind_ok (wants row.is_ended wrong.Line) _ step h2 in
    let it = step_read peers (words_of row.text) step h3 in (
      row_is row (wants_ok row.is_ended wrong.Line is end) ∙ ap ended (sym (words_back row.text) ∙ ap words it.0),
      it.1,
      leb-true n most_lines (wants_ok (nat_le n most_lines) wrong.Long few low),
    )

steps_read : (peers n : ℕ) (rows : List Row) (steps : List Step) → n ≤ most_lines + 1 → steps_in peers n rows ≡ Ok steps
    → (rows ≡ step_rows steps) × AllByRecursion (IsStep peers) steps × (n + length steps ≤ most_lines + 1)
steps_read peers n [] steps le h =
    subst (λ (x : List Step). ([] ≡ step_rows x) × AllByRecursion (IsStep peers) x × (n + length x ≤ most_lines + 1)) (ap (value_or []) h)
    (refl, tt, omega (arith, le))
steps_read peers n (row ∷ rows) steps le h =
    let (step, first, h2) = bind_ok (on_line n (step_at peers n row)) _ steps h in
    let (more, rest, h3) = bind_ok (steps_in peers (n + 1) rows) _ steps h2 in
    let a = step_row_read peers n row step (on_line_ok n (step_at peers n row) step first) in
    let low = a.2 in
    let b = steps_read peers (n + 1) rows more (omega (arith, low)) rest in
    let fits = b.2 in
    subst (λ (x : List Step). (row ∷ rows ≡ step_rows x) × AllByRecursion (IsStep peers) x × (n + length x ≤ most_lines + 1))
    (ap (value_or (step ∷ more)) h3) (
      ap (λ (x : Row). x ∷ rows) a.0 ∙ ap (λ (xs : List Row). step_row step ∷ xs) b.0,
      (a.1, b.1),
      omega (arith, fits),
    )

-- the line of a role
role_row_read : (n : ℕ) (row : Row) (role : Role) → role_at n row ≡ Ok role → (row ≡ role_row n role) × (n ≤ 15) × IsAlone n role
role_row_read n row role h =
    let (is, end, h2) = bind_ok (wants row.is_ended wrong.Line) _ role h in
    let it = of (words_of row.text) h2 in (
      row_is row (wants_ok row.is_ended wrong.Line is end) ∙ ap ended (sym (words_back row.text) ∙ ap words it.0),
      it.1,
      it.2,
    )
  where
    of : (ws : List (List ℕ)) → role_in n ws ≡ Ok role → (ws ≡ codes "peer" ∷ decimal n ∷ role_words role) × (n ≤ 15) × IsAlone n role
    of [] h = absurd (never_ok wrong.Line role h)
    of (name ∷ rest) h =
        let (is, named, h2) = bind_ok (wants (bytes_eq name (codes "peer")) wrong.Line) _ role h in
        let it = role_read n rest role h2 in (
          ap (λ (x : List ℕ). x ∷ rest) (same_text name (codes "peer") (sym (wants_ok (bytes_eq name (codes "peer")) wrong.Line is named)))
              ∙ ap (λ (xs : List (List ℕ)). codes "peer" ∷ xs) it.0,
          it.1,
          it.2,
        )

abbrev pub AllAlone : ℕ → List Role → Type 0
AllAlone n [] = Unit {0}
AllAlone n (role ∷ roles) = (n ≤ 15) × IsAlone n role × AllAlone (n + 1) roles

-- The first of the lines is none of peer n's.
abbrev FailsAt : ℕ → List Row → Type 0
FailsAt n [] = Unit {0}
FailsAt n (row ∷ rows) = (role : Role) → role_at n row ≡ Ok role → ⊥

-- what was declared
record IsDeclared (n : ℕ) (rows : List Row) (d : Declared) : Type 0 where
  pub rows_are : rows ≡ role_rows n d.roles ++ d.behind
  pub alone : AllAlone n d.roles
  pub fails : FailsAt (n + length d.roles) d.behind

declared : (n : ℕ) (rows : List Row) → IsDeclared n rows (peers_declared n rows)
declared n [] = record { rows_are = refl; alone = tt; fails = tt }
declared n (row ∷ rows) = of (role_at n row) refl (declared (n + 1) rows)
  where
    of : (r : Result Role ScheduleKind) → role_at n row ≡ r → IsDeclared (n + 1) rows (peers_declared (n + 1) rows)
        → IsDeclared n (row ∷ rows) (peers_with row rows r (peers_declared (n + 1) rows))
    of (Err kind) e more = record {
      rows_are = refl;
      alone = tt;
      fails = λ role h. never_ok kind role (sym (subst (λ (k : ℕ). role_at k row ≡ Err kind) (omega arith) e) ∙ h);
    }
    of (Ok role) e more =
        let it = role_row_read n row role e in record {
          rows_are = ap (λ (x : Row). x ∷ rows) it.0 ∙ ap (λ (xs : List Row). role_row n role ∷ xs) more.rows_are;
          alone = (it.1, it.2, more.alone);
          fails = subst (λ (k : ℕ). FailsAt k (peers_declared (n + 1) rows).behind) (omega arith) more.fails;
        }

all_dial : (peers n : ℕ) (roles : List Role) → all_declared peers n roles ≡ Ok tt → AllByRecursion (λ role. dials_declared peers role ≡ true) roles
all_dial peers n [] h = tt
all_dial peers n (role ∷ roles) h =
    let (this, is, h2) = bind_ok (wants (dials_declared peers role) (fault n wrong.Peer)) _ tt h in
    (wants_ok (dials_declared peers role) (fault n wrong.Peer) this is, all_dial peers (n + 1) roles h2)

dialled_are : (peers n : ℕ) (ps : List ℕ) → list_all (λ q. nat_lt q peers) ps ≡ true → AllByRecursion (λ q. (q ≤ 15) × (q ≢ n)) ps
    → AllByRecursion (λ q. (q < peers) × (q ≢ n)) ps
dialled_are peers n [] all alone = tt
dialled_are peers n (p ∷ ps) all alone =
    let both = and_parts (nat_lt p peers) (list_all (λ q. nat_lt q peers) ps) all in
    let low = leb-true (suc p) peers both.0 in
    ((omega (arith, low), alone.0.1), dialled_are peers n ps both.1 alone.1)

roles_are : (peers n : ℕ) (roles : List Role) → AllAlone n roles → AllByRecursion (λ role. dials_declared peers role ≡ true) roles → AreRoles peers n roles
roles_are peers n [] alone dials = tt
roles_are peers n (Seeds ∷ roles) alone dials = (tt, roles_are peers (n + 1) roles alone.2 dials.1)
roles_are peers n (Fetches order dialled ∷ roles) alone dials =
    ((alone.1.0, alone.1.1, dialled_are peers n dialled dials.0 alone.1.2), roles_are peers (n + 1) roles alone.2 dials.1)

few_roles : (n : ℕ) (roles : List Role) → n ≤ 16 → AllAlone n roles → n + length roles ≤ 16
few_roles n [] le alone = omega (arith, le)
few_roles n (role ∷ roles) le alone = let low = alone.0 in let more = few_roles (n + 1) roles (omega (arith, low)) alone.2 in omega (arith, more)

some_peer : (peers : ℕ) (behind : List Row) → FailsAt peers behind → peers_end peers behind ≡ Ok tt → 1 ≤ peers
some_peer peers [] fails h = let is = leb-true 1 peers (wants_ok (nat_lt 0 peers) (fault 3 wrong.Line) tt h) in omega (arith, is)
some_peer peers (row ∷ rows) fails h = of (names_peer (words_of row.text)) h
  where
    of : (b : Bool) → cond b (on_line (peers + 3) (role_at peers row >>= λ role. Ok tt)) (wants (nat_lt 0 peers) (fault 3 wrong.Line)) ≡ Ok tt → 1 ≤ peers
    of true h =
        let (role, is, rest) = bind_ok (role_at peers row) _ tt (on_line_ok (peers + 3) (role_at peers row >>= λ role. Ok tt) tt h) in
        absurd (fails role is)
    of false h = let is = leb-true 1 peers (wants_ok (nat_lt 0 peers) (fault 3 wrong.Line) tt h) in omega (arith, is)

-- Of the lines behind the second one, read behind a content, all that a schedule wants.
record HasRest (begun s : Schedule) (rows : List Row) : Type 0 where
  pub is : s ≡ record begun { roles = s.roles; steps = s.steps }
  pub rows_are : rows ≡ role_rows 0 s.roles ++ step_rows s.steps
  pub peers : 1 ≤ length s.roles
  pub few : length s.roles ≤ 16
  pub roles_are : AreRoles (length s.roles) 0 s.roles
  pub steps_are : AllByRecursion (IsStep (length s.roles)) s.steps
  pub lines_fit : 2 + length s.roles + length s.steps ≤ most_lines

rest_read : (begun s : Schedule) (rows : List Row) → read_rest begun rows ≡ Ok s → HasRest begun s rows
rest_read begun s rows h =
    let d = peers_declared 0 rows in
    let peers = length d.roles in
    let it = declared 0 rows in
    let (right, first, h2) = bind_ok (all_declared peers 3 d.roles) _ s h in
    let (end, second, h3) = bind_ok (peers_end peers d.behind) _ s h2 in
    let (steps, third, h4) = bind_ok (steps_in peers (peers + 3) d.behind) _ s h3 in
    let sum = few_roles 0 d.roles (omega arith) it.alone in
    let few : length d.roles ≤ 16 = omega (arith, sum) in
    let fails : FailsAt (length d.roles) d.behind = subst (λ (k : ℕ). FailsAt k d.behind) (omega arith) it.fails in
    let read = steps_read peers (peers + 3) d.behind steps (omega (arith, few)) third in
    let most = read.2 in
    subst (λ (x : Schedule). HasRest begun x rows) (ap (value_or (record begun { roles = d.roles; steps = steps })) h4) (record {
      is = refl;
      rows_are = it.rows_are ∙ ap (λ (xs : List Row). role_rows 0 d.roles ++ xs) read.0;
      peers = some_peer peers d.behind fails second;
      few = few;
      roles_are = roles_are peers 0 d.roles it.alone (all_dial peers 3 d.roles first);
      steps_are = read.1;
      lines_fit = omega (arith, most);
    })

-- the first lines too
record HasRows (rows : List Row) (s : Schedule) : Type 0 where
  pub begun : Schedule
  pub rest : List Row
  pub rows_are : rows ≡ ended header ∷ ended (content_line begun) ∷ rest
  pub content : IsContentRead (codes "content" ∷ decimal begun.chunk ∷ decimal begun.size ∷ decimal begun.shift ∷ []) begun
  pub has : HasRest begun s rest

second_read : (row : Row) (rows : List Row) (s : Schedule) → read_second (row ∷ rows) ≡ Ok s
    → (begun : Schedule) × (row ≡ ended (content_line begun))
    × IsContentRead (codes "content" ∷ decimal begun.chunk ∷ decimal begun.size ∷ decimal begun.shift ∷ []) begun × HasRest begun s rows
second_read row rows s h =
    let (begun, first, h2) = bind_ok (on_line 2 (content_at row)) _ s h in
    let (read, is, h3) = bind_ok (content_in (words_of row.text)) _ begun (on_line_ok 2 (content_at row) begun first) in
    let (end, ended_is, h4) = bind_ok (wants row.is_ended wrong.Line) _ begun h3 in
    let it = subst (IsContentRead (words_of row.text)) (ap (value_or read) h4) (content_read (words_of row.text) read is) in (
      begun,
      row_is row (wants_ok row.is_ended wrong.Line end ended_is) ∙ ap ended (sym (words_back row.text) ∙ ap words it.words_are),
      subst (λ (ws : List (List ℕ)). IsContentRead ws begun) it.words_are it,
      rest_read begun s rows h2,
    )

first_read : (rows : List Row) (s : Schedule) → read_first rows ≡ Ok s → HasRows rows s
first_read [] s h = absurd (never_ok (fault 1 wrong.Header) s h)
first_read (row ∷ rows) s h =
    let (right, first, h2) = bind_ok (on_line 1 (header_at row)) _ s h in
    let (same, is, h3) = bind_ok (wants (bytes_eq row.text header) wrong.Header) _ right (on_line_ok 1 (header_at row) right first) in
    of rows h2 (row_is row (wants_ok row.is_ended wrong.Line right h3)
    ∙ ap ended (same_text row.text header (sym (wants_ok (bytes_eq row.text header) wrong.Header same is))))
  where
    of : (rows : List Row) → read_second rows ≡ Ok s → row ≡ ended header → HasRows (row ∷ rows) s
    of [] h is = absurd (never_ok (fault 2 wrong.Content) s h)
    of (next ∷ more) h is =
        let it = second_read next more s h in record {
          begun = it.0;
          rest = more;
          rows_are = ap (λ (x : Row). x ∷ next ∷ more) is ∙ ap (λ (x : Row). ended header ∷ x ∷ more) it.1;
          content = it.2;
          has = it.3;
        }

-- what was read is the schedule of that text
pub text_read : (text : List ℕ) (s : Schedule) → read_schedule text ≡ Ok s → (text ≡ schedule_text s) × IsSchedule s
unfolding read_schedule
text_read text s h =
    let (few, is, h2) = bind_ok (wants (nat_le (length text) most_text) (fault 0 wrong.Long)) _ s h in
    let it = first_read (rows_of text) s h2 in
    let has = it.has in
    let chunk : s.chunk ≡ it.begun.chunk = ap (λ (x : Schedule). x.chunk) has.is in
    let size : s.size ≡ it.begun.size = ap (λ (x : Schedule). x.size) has.is in
    let shift : s.shift ≡ it.begun.shift = ap (λ (x : Schedule). x.shift) has.is in
    let same_line : content_line it.begun ≡ content_line s =
    ap (λ n. words (codes "content" ∷ decimal n ∷ decimal it.begun.size ∷ decimal it.begun.shift ∷ [])) (sym chunk)
    ∙ ap (λ n. words (codes "content" ∷ decimal s.chunk ∷ decimal n ∷ decimal it.begun.shift ∷ [])) (sym size)
    ∙ ap (λ n. words (codes "content" ∷ decimal s.chunk ∷ decimal s.size ∷ decimal n ∷ [])) (sym shift) in
    let text_is : text ≡ schedule_text s = sym (unrow_rows text) ∙ ap unrow (it.rows_are
    ∙ ap (λ (x : List ℕ). ended header ∷ ended x ∷ it.rest) same_line
    ∙ ap (λ (xs : List Row). ended header ∷ ended (content_line s) ∷ xs) has.rows_are) ∙ text_of s in
    let fits = leb-true (length text) most_text (wants_ok (nat_le (length text) most_text) (fault 0 wrong.Long) few is) in (
      text_is,
      record {
        chunk_size = subst (λ (n : ℕ). IsChunkSize n) (sym chunk) it.content.chunk_size;
        some = subst (λ (n : ℕ). 1 ≤ n) (sym size) it.content.some;
        most = subst (λ (n : ℕ). n ≤ 2 ^ 20) (sym size) it.content.most;
        byte = subst (λ (n : ℕ). n ≤ 255) (sym shift) it.content.byte;
        peers = has.peers;
        few = has.few;
        roles_are = has.roles_are;
        steps_are = has.steps_are;
        text_fits = subst (λ (x : List ℕ). length x ≤ most_text) text_is fits;
        lines_fit = has.lines_fit;
      },
    )

-- ---- what is read of a schedule's text

-- A line that a line feed ends, and none before.
abbrev IsLine : Row → Type 0
IsLine row = (row.is_ended ≡ true) × Lacks 10 row.text

rows_forth : (rows : List Row) → AllByRecursion IsLine rows → rows_of (unrow rows) ≡ rows
rows_forth [] all = refl
rows_forth (row ∷ rows) all =
    ap (λ (b : Bool). rows_of (row.text ++ cond b (10 ∷ unrow rows) (unrow rows))) all.0.0
    ∙ line_rows row.text (unrow rows) all.0.1
    ∙ ap (λ (xs : List Row). ended row.text ∷ xs) (rows_forth rows all.1)
    ∙ ap (λ (x : Row). x ∷ rows) (sym (row_is row all.0.0))

-- A word has no space and no line feed.
abbrev Clean : List ℕ → Type 0
Clean w = Lacks 10 w × Lacks 32 w

clean_true : (w : List ℕ) → list_all (λ c. not (c == 10) && not (c == 32)) w ≡ true → Clean w
clean_true [] all = (tt, tt)
clean_true (c ∷ cs) all =
    let both = and_parts (not (c == 10) && not (c == 32)) (list_all (λ c. not (c == 10) && not (c == 32)) cs) all in
    let here = and_parts (not (c == 10)) (not (c == 32)) both.0 in
    let more = clean_true cs both.1 in
    ((un (c == 10) here.0, more.0), (un (c == 32) here.1, more.1))
  where
    un : (b : Bool) → not b ≡ true → b ≡ false
    un true h = absurd (false≢true h)
    un false h = refl

clean_number : (n : ℕ) → n < 2 ^ 64 → Clean (decimal n)
clean_number n low = (decimal_lacks 10 n refl low, decimal_lacks 32 n refl low)

lower_apart : (c x : ℕ) → is_lower_hex x ≡ false → is_lower_hex c ≡ true → (c == x) ≡ false
lower_apart c x none is = ne_eqb c x (λ same. both_ways (is_lower_hex x) none (sym (ap is_lower_hex same) ∙ is))

hex_lacks : (x : ℕ) (bytes : List ℕ) → is_lower_hex x ≡ false → AllByRecursion (λ b. b < 256) bytes → Lacks x (encode_lower bytes)
unfolding encode_with
hex_lacks x [] none all = tt
hex_lacks x (b ∷ bs) none all =
    let each = are_bytes (b ∷ bs) all in (
      lower_apart (get_or lower_digits (b / 16) 0) x none (encoded_lower (b ∷ bs) each 0 (omega arith)),
      (lower_apart (get_or lower_digits (b % 16) 0) x none (encoded_lower (b ∷ bs) each 1 (omega arith)), hex_lacks x bs none all.1),
    )

lacks_append : (x : ℕ) (a b : List ℕ) → Lacks x a → Lacks x b → Lacks x (a ++ b)
lacks_append x [] b all more = more
lacks_append x (c ∷ cs) b all more = (all.0, lacks_append x cs b all.1 more)

words_lack : (ws : List (List ℕ)) → AllByRecursion Clean ws → Lacks 10 (words ws)
words_lack [] all = tt
words_lack (w ∷ []) all = all.0.0
words_lack (w ∷ v ∷ vs) all = lacks_append 10 (w ++ codes " ") (words (v ∷ vs)) (lacks_append 10 w (codes " ") all.0.0 (refl, tt))
    (words_lack (v ∷ vs) all.1)

no_space : (ws : List (List ℕ)) → AllByRecursion Clean ws → AllByRecursion (Lacks 32) ws
no_space [] all = tt
no_space (w ∷ ws) all = (all.0.1, no_space ws all.1)

clean_device : (d : Device) → Clean (device_text d)
clean_device Read = clean_true (codes "read") refl
clean_device Write = clean_true (codes "write") refl
clean_device Sync = clean_true (codes "sync") refl
clean_device Send = clean_true (codes "send") refl
clean_device Receive = clean_true (codes "receive") refl

clean_peer : (peers p : ℕ) → peers ≤ 16 → p < peers → Clean (decimal p)
clean_peer peers p few lt = clean_number p (omega (arith, few, lt))

step_clean : (peers : ℕ) (step : Step) → peers ≤ 16 → IsStep peers step → AllByRecursion Clean (step_words step)
step_clean peers (Once (Turn p)) few is = (clean_true (codes "turn") refl, (clean_peer peers p few is, tt))
step_clean peers (Once (Lose p)) few is = (clean_true (codes "lose") refl, (clean_peer peers p few is, tt))
step_clean peers (Once (Repeat p)) few is = (clean_true (codes "repeat") refl, (clean_peer peers p few is, tt))
step_clean peers (Once (Later p)) few is = (clean_true (codes "later") refl, (clean_peer peers p few is, tt))
step_clean peers (Once (Stop p)) few is = (clean_true (codes "stop") refl, (clean_peer peers p few is, tt))
step_clean peers (Once (Start p)) few is = (clean_true (codes "start") refl, (clean_peer peers p few is, tt))
step_clean peers (Once (Forge p q bytes)) few is = (
  clean_true (codes "forge") refl,
  (clean_peer peers p few is.0, (clean_peer peers q few is.1, ((hex_lacks 10 bytes refl is.4, hex_lacks 32 bytes refl is.4), tt))),
)
step_clean peers (Once (Fail p call)) few is = (clean_true (codes "fail") refl, (clean_peer peers p few is, (clean_device call, tt)))
step_clean peers (Once (Crash p pick)) few is = (clean_true (codes "crash") refl, (clean_peer peers p few is.0, (clean_number pick is.1, tt)))
step_clean peers (Run rounds gain) few is = (
  clean_true (codes "run") refl,
  (clean_number rounds (let most = is.1 in omega (arith, most)), (clean_number gain (let most = is.2 in omega (arith, most)), tt)),
)

-- ---- roles

alone_of : (peers n : ℕ) (role : Role) → peers ≤ 16 → IsRole peers n role → IsAlone n role
alone_of peers n Seeds few is = tt
alone_of peers n (Fetches order dialled) few is = (is.0, is.1, each dialled is.2)
  where
    each : (ps : List ℕ) → AllByRecursion (λ q. (q < peers) × (q ≢ n)) ps → AllByRecursion (λ q. (q ≤ 15) × (q ≢ n)) ps
    each [] all = tt
    each (p ∷ ps) all = let low = all.0.0 in ((omega (arith, low, few), all.0.1), each ps all.1)

all_alone : (peers n : ℕ) (roles : List Role) → peers ≤ 16 → n + length roles ≤ peers → AreRoles peers n roles → AllAlone n roles
all_alone peers n [] few within are = tt
all_alone peers n (role ∷ roles) few within are =
    (omega (arith, few, within), alone_of peers n role few are.0, all_alone peers (n + 1) roles few (omega (arith, within)) are.1)

clean_order : (o : Order) → Clean (order_text o)
clean_order Sequential = clean_true (codes "sequential") refl
clean_order Rarest = clean_true (codes "rarest") refl

role_clean : (n : ℕ) (role : Role) → n ≤ 15 → IsAlone n role → AllByRecursion Clean (codes "peer" ∷ decimal n ∷ role_words role)
role_clean n Seeds low alone =
    (clean_true (codes "peer") refl, (clean_number n (omega (arith, low)), (clean_true (codes "seed") refl, tt)))
role_clean n (Fetches order dialled) low alone =
    (clean_true (codes "peer") refl, (clean_number n (omega (arith, low)), (clean_true (codes "fetch") refl, (clean_order order, each dialled alone.2))))
  where
    each : (ps : List ℕ) → AllByRecursion (λ q. (q ≤ 15) × (q ≢ n)) ps → AllByRecursion Clean (map decimal ps)
    each [] all = tt
    each (p ∷ ps) all = let low = all.0.0 in (clean_number p (omega (arith, low)), each ps all.1)

read_role_row : (n : ℕ) (role : Role) → n ≤ 15 → IsAlone n role → role_at n (role_row n role) ≡ Ok role
read_role_row n role low alone =
    ap (role_in n) (words_forth (codes "peer") (decimal n ∷ role_words role) (no_space (codes "peer" ∷ decimal n ∷ role_words role) (role_clean n role low alone)))
    ∙ read_role n role low alone

-- a step's line is no peer's
step_words_are : (peers : ℕ) (step : Step) → peers ≤ 16 → IsStep peers step → words_of (words (step_words step)) ≡ step_words step
step_words_are peers step few is = of (step_words step) (some step) (step_clean peers step few is)
  where
    some : (step : Step) → (w : List ℕ) × (ws : List (List ℕ)) × (step_words step ≡ w ∷ ws)
    some (Run rounds gain) = (codes "run", decimal rounds ∷ decimal gain ∷ [], refl)
    some (Once (Turn p)) = (codes "turn", decimal p ∷ [], refl)
    some (Once (Lose p)) = (codes "lose", decimal p ∷ [], refl)
    some (Once (Repeat p)) = (codes "repeat", decimal p ∷ [], refl)
    some (Once (Later p)) = (codes "later", decimal p ∷ [], refl)
    some (Once (Stop p)) = (codes "stop", decimal p ∷ [], refl)
    some (Once (Start p)) = (codes "start", decimal p ∷ [], refl)
    some (Once (Forge p q bytes)) = (codes "forge", decimal p ∷ decimal q ∷ encode_lower bytes ∷ [], refl)
    some (Once (Fail p call)) = (codes "fail", decimal p ∷ device_text call ∷ [], refl)
    some (Once (Crash p pick)) = (codes "crash", decimal p ∷ decimal pick ∷ [], refl)

    of : (ws : List (List ℕ)) → (w : List ℕ) × (vs : List (List ℕ)) × (ws ≡ w ∷ vs) → AllByRecursion Clean ws → words_of (words ws) ≡ ws
    of [] it all = absurd (let never : [] ≡ it.0 ∷ it.1 = it.2 in cc)
    of (w ∷ ws) it all = words_forth w ws (no_space (w ∷ ws) all)

no_role : (n : ℕ) (step : Step) → role_in n (step_words step) ≡ Err wrong.Line
no_role n (Run rounds gain) = refl
no_role n (Once (Turn p)) = refl
no_role n (Once (Lose p)) = refl
no_role n (Once (Repeat p)) = refl
no_role n (Once (Later p)) = refl
no_role n (Once (Stop p)) = refl
no_role n (Once (Start p)) = refl
no_role n (Once (Forge p q bytes)) = refl
no_role n (Once (Fail p call)) = refl
no_role n (Once (Crash p pick)) = refl

no_name : (step : Step) → names_peer (step_words step) ≡ false
no_name (Run rounds gain) = refl
no_name (Once (Turn p)) = refl
no_name (Once (Lose p)) = refl
no_name (Once (Repeat p)) = refl
no_name (Once (Later p)) = refl
no_name (Once (Stop p)) = refl
no_name (Once (Start p)) = refl
no_name (Once (Forge p q bytes)) = refl
no_name (Once (Fail p call)) = refl
no_name (Once (Crash p pick)) = refl

declared_forth : (peers n : ℕ) (roles : List Role) (steps : List Step) → peers ≤ 16 → AllAlone n roles → AllByRecursion (IsStep peers) steps
    → peers_declared n (role_rows n roles ++ step_rows steps) ≡ record { roles = roles; behind = step_rows steps }
declared_forth peers n [] [] few alone are = refl
declared_forth peers n [] (step ∷ steps) few alone are =
    ap (λ (r : Result Role ScheduleKind). peers_with (step_row step) (step_rows steps) r (peers_declared (n + 1) (step_rows steps)))
    (ap (role_in n) (step_words_are peers step few are.0) ∙ no_role n step)
declared_forth peers n (role ∷ roles) steps few alone are =
    ap (λ (r : Result Role ScheduleKind). peers_with (role_row n role) (role_rows (n + 1) roles ++ step_rows steps) r
    (peers_declared (n + 1) (role_rows (n + 1) roles ++ step_rows steps))) (read_role_row n role alone.0 alone.1)
    ∙ ap (λ (d : Declared). record { roles = role ∷ d.roles; behind = d.behind }) (declared_forth peers (n + 1) roles steps few alone.2 are)

dials_all : (peers n : ℕ) (role : Role) → IsRole peers n role → dials_declared peers role ≡ true
dials_all peers n Seeds is = refl
dials_all peers n (Fetches order dialled) is = each dialled is.2
  where
    each : (ps : List ℕ) → AllByRecursion (λ q. (q < peers) × (q ≢ n)) ps → list_all (λ q. nat_lt q peers) ps ≡ true
    each [] all = refl
    each (p ∷ ps) all = let low = all.0.0 in and_from (nat_lt p peers) (list_all (λ q. nat_lt q peers) ps) (le-leb (suc p) peers (omega (arith, low))) (each ps all.1)

all_declared_forth : (peers n k : ℕ) (roles : List Role) → AreRoles peers n roles → all_declared peers k roles ≡ Ok tt
all_declared_forth peers n k [] are = refl
all_declared_forth peers n k (role ∷ roles) are =
    ap (λ (r : Result (Unit {0}) ScheduleFault). r >>= λ this. all_declared peers (k + 1) roles)
    (ok_wants (dials_declared peers role) (fault k wrong.Peer) (dials_all peers n role are.0))
    ∙ all_declared_forth peers (n + 1) (k + 1) roles are.1

peers_end_forth : (peers : ℕ) (steps : List Step) → 1 ≤ peers → peers ≤ 16 → AllByRecursion (IsStep peers) steps
    → peers_end peers (step_rows steps) ≡ Ok tt
peers_end_forth peers [] some few are = ok_wants (nat_lt 0 peers) (fault 3 wrong.Line) (le-leb 1 peers (omega (arith, some)))
peers_end_forth peers (step ∷ steps) some few are =
    ap (λ (b : Bool). cond b (on_line (peers + 3) (role_at peers (step_row step) >>= λ role. Ok tt)) (wants (nat_lt 0 peers) (fault 3 wrong.Line)))
    (ap names_peer (step_words_are peers step few are.0) ∙ no_name step)
    ∙ ok_wants (nat_lt 0 peers) (fault 3 wrong.Line) (le-leb 1 peers (omega (arith, some)))

read_step_row : (peers n : ℕ) (step : Step) → n ≤ most_lines → peers ≤ 16 → IsStep peers step → step_at peers n (step_row step) ≡ Ok step
read_step_row peers n step low few is =
    ap (λ (r : Result (Unit {0}) ScheduleKind). r >>= λ few. step_in peers (words_of (words (step_words step))))
    (ok_wants (nat_le n most_lines) wrong.Long (le-leb n most_lines low))
    ∙ ap (step_in peers) (step_words_are peers step few is) ∙ read_step peers step few is

read_steps : (peers n : ℕ) (steps : List Step) → n + length steps ≤ most_lines + 1 → peers ≤ 16 → AllByRecursion (IsStep peers) steps
    → steps_in peers n (step_rows steps) ≡ Ok steps
read_steps peers n [] fits few are = refl
read_steps peers n (step ∷ steps) fits few are =
    ap (λ (r : Result Step ScheduleKind). on_line n r >>= λ x. steps_in peers (n + 1) (step_rows steps) >>= λ xs. Ok (x ∷ xs))
    (read_step_row peers n step (omega (arith, fits)) few are.0)
    ∙ ap (λ (r : Result (List Step) ScheduleFault). r >>= λ xs. Ok (step ∷ xs)) (read_steps peers (n + 1) steps (omega (arith, fits)) few are.1)

-- ---- a schedule's text

lacks_true : (w : List ℕ) → list_all (λ c. not (c == 10)) w ≡ true → Lacks 10 w
lacks_true [] all = tt
lacks_true (c ∷ cs) all =
    let both = and_parts (not (c == 10)) (list_all (λ c. not (c == 10)) cs) all in (un (c == 10) both.0, lacks_true cs both.1)
  where
    un : (b : Bool) → not b ≡ true → b ≡ false
    un true h = absurd (false≢true h)
    un false h = refl

role_lines_are : (peers n : ℕ) (roles : List Role) (steps : List Step) → peers ≤ 16 → AllAlone n roles → AllByRecursion (IsStep peers) steps
    → AllByRecursion IsLine (role_rows n roles ++ step_rows steps)
role_lines_are peers n [] [] few alone are = tt
role_lines_are peers n [] (step ∷ steps) few alone are =
    ((refl, words_lack (step_words step) (step_clean peers step few are.0)), role_lines_are peers n [] steps few tt are.1)
role_lines_are peers n (role ∷ roles) steps few alone are = (
  (refl, words_lack (codes "peer" ∷ decimal n ∷ role_words role) (role_clean n role alone.0 alone.1)),
  role_lines_are peers (n + 1) roles steps few alone.2 are,
)

rest_with : Schedule → Declared → Result Schedule ScheduleFault
rest_with begun d = all_declared (length d.roles) 3 d.roles >>= λ right. peers_end (length d.roles) d.behind >>= λ end.
    steps_in (length d.roles) (length d.roles + 3) d.behind >>= λ steps. Ok (record begun { roles = d.roles; steps = steps })

module _ (s : Schedule) (is : IsSchedule s) where
  abbrev peers : ℕ
  peers = length s.roles

  abbrev begun : Schedule
  begun = record { chunk = s.chunk; size = s.size; shift = s.shift; roles = []; steps = [] }

  abbrev rows : List Row
  rows = role_rows 0 s.roles ++ step_rows s.steps

  alone : AllAlone 0 s.roles
  alone = all_alone peers 0 s.roles is.few (omega arith) is.roles_are

  content_words : AllByRecursion Clean (codes "content" ∷ decimal s.chunk ∷ decimal s.size ∷ decimal s.shift ∷ [])
  content_words = (
    clean_true (codes "content") refl,
    (
      clean_number s.chunk (let low = (chunk_size_range s.chunk is.chunk_size).1 in omega (arith, low)),
      (clean_number s.size (let low = is.most in omega (arith, low)), (clean_number s.shift (let low = is.byte in omega (arith, low)), tt)),
    ),
  )

  all_lines : AllByRecursion IsLine (schedule_rows s)
  all_lines = (
    (refl, lacks_true header refl),
    (
      (refl, words_lack (codes "content" ∷ decimal s.chunk ∷ decimal s.size ∷ decimal s.shift ∷ []) content_words),
      role_lines_are peers 0 s.roles s.steps is.few alone is.steps_are,
    ),
  )

  rest_forth : read_rest begun rows ≡ Ok s
  unfolding rest_with
  rest_forth =
      ap (rest_with begun) (declared_forth peers 0 s.roles s.steps is.few alone is.steps_are)
      ∙ ap (λ (r : Result (Unit {0}) ScheduleFault). r >>= λ right. peers_end peers (step_rows s.steps) >>= λ end.
      steps_in peers (peers + 3) (step_rows s.steps) >>= λ steps. Ok (record begun { roles = s.roles; steps = steps }))
      (all_declared_forth peers 0 3 s.roles is.roles_are)
      ∙ ap (λ (r : Result (Unit {0}) ScheduleFault). r >>= λ end.
      steps_in peers (peers + 3) (step_rows s.steps) >>= λ steps. Ok (record begun { roles = s.roles; steps = steps }))
      (peers_end_forth peers s.steps is.peers is.few is.steps_are)
      ∙ ap (λ (r : Result (List Step) ScheduleFault). r >>= λ steps. Ok (record begun { roles = s.roles; steps = steps }))
      (read_steps peers (peers + 3) s.steps (let fit = is.lines_fit in omega (arith, fit)) is.few is.steps_are)

  second_forth : read_second (ended (content_line s) ∷ rows) ≡ Ok s
  second_forth =
      ap (λ (ws : List (List ℕ)). on_line 2 (content_in ws >>= λ b. wants true wrong.Line >>= λ end. Ok b) >>= λ b. read_rest b rows)
      (words_forth (codes "content") (decimal s.chunk ∷ decimal s.size ∷ decimal s.shift ∷ [])
      (no_space (codes "content" ∷ decimal s.chunk ∷ decimal s.size ∷ decimal s.shift ∷ []) content_words))
      ∙ ap (λ (r : Result Schedule ScheduleKind). on_line 2 (r >>= λ b. wants true wrong.Line >>= λ end. Ok b) >>= λ b. read_rest b rows)
      (read_content s.chunk s.size s.shift is.chunk_size is.some is.most is.byte)
      ∙ rest_forth

  pub read_text : read_schedule (schedule_text s) ≡ Ok s
  unfolding read_schedule
  read_text =
      ap (λ (r : Result (Unit {0}) ScheduleFault). r >>= λ fits. read_first (rows_of (schedule_text s)))
      (ok_wants (nat_le (length (schedule_text s)) most_text) (fault 0 wrong.Long) (le-leb (length (schedule_text s)) most_text is.text_fits))
      ∙ ap read_first (ap rows_of (sym (text_of s)) ∙ rows_forth (schedule_rows s) all_lines)
      ∙ second_forth

pub schedules_read_back : SchedulesRead
schedules_read_back = record { exact = λ text s. (text_read text s, λ both. ap read_schedule both.0 ∙ read_text s both.1) }
