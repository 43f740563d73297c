-- What a peer announced outlasts its sessions.
use Rattle.std.proofs.Common.{◌≡◌, ◌⊎◌, inl, inr, ⊎_elim, ℕ, ◌+◌, ◌≤◌, List, [], ◌∷◌, ◌++◌, length, refl, sym, ◌∙◌, ap, subst, arith}
use Rattle.std.specs.Prelude.{take, drop}
use Rattle.std.specs.List.{AllByRecursion}
use Rattle.std.proofs.lemmas.List.{append-nil, append_assoc, drop_at, drop-append-le, length-append, take_all, take-append-le}
use Rattle.pp_terms.specs.disk.Calls.{Did, Wrote, Refused, Synced, Crashed, Calls, after_call, attached, history_of, replay}
use Rattle.pp_terms.specs.disk.Disk.{Epoch, History, IsImage, Throughout, WasImage, fresh, moment_of, settled}
use Rattle.pp_terms.specs.disk.Image.{StandsIn}
use Rattle.pp_terms.specs.disk.Sound.{BeganSound, IsSound}
use Rattle.pp_terms.specs.format.Descriptor.{Descriptor}
use Rattle.pp_terms.proofs.Images.{since_now, since_settled, moment-settled}
use Rattle.pp_traffic.specs.Keeping.{EachAnnounced, Keeps, StandsSince}
use Rattle.pp_store.specs.Sound.{StaysSound}
use Rattle.pp_store.specs.Store.{GoesOn}
use Rattle.pp_store.proofs.Sealing.{throughout_later}
use Rattle.pp_turns.proofs.Steps.{each_announced}
use Rattle.pp_world.specs.Session.{Mark, Session, last_mark}
use Rattle.pp_world.specs.Survival.{AllOutlast, FindsAnnounced, Outlasts}
use Rattle.pp_world.specs.World.{disk_since, reads_at}
use Rattle.pp_actor.specs.Lasting.{AllLast, HasStood, IsSoundNow, KeepsOn, Lasts, disk_before}

-- ---- images

-- Two histories have the same images, at every moment.
pub record SameImages (g h : History) : Type 0 where
  pub past : g.past ≡ h.past
  pub epoch : g.epoch ≡ h.epoch

pub other_way : (g h : History) → SameImages g h → SameImages h g
other_way g h same = record { past = sym same.past; epoch = sym same.epoch }

pub carried : (g h : History) → SameImages g h → (moment : ℕ) (P : List ℕ → Type 0) → Throughout g moment P → Throughout h moment P
carried g h same moment P all image (inl now) = all image (inl (subst (λ (e : Epoch). IsImage e image) (sym same.epoch) now))
carried g h same moment P all image (inr was) =
    all image (inr (subst (λ (past : List Epoch). WasImage (drop moment past) image) (sym same.past) was))

pub same_moment : (g h : History) → SameImages g h → moment_of g ≡ moment_of h
same_moment g h same = ap length same.past

-- after more calls the past has more behind it
more_past : (h : History) (calls : List Did) → (more : List Epoch) × ((replay h calls).past ≡ h.past ++ more)
more_past h [] = ([], sym (append-nil h.past))
more_past h (Wrote place bytes ∷ calls) = more_past (after_call h (Wrote place bytes)) calls
more_past h (Refused place bytes ∷ calls) = more_past (after_call h (Refused place bytes)) calls
more_past h (Synced ∷ calls) =
    let more = more_past (after_call h Synced) calls in (h.epoch ∷ more.0, more.1 ∙ append_assoc h.past (h.epoch ∷ []) more.0)
more_past h (Crashed image ∷ calls) =
    let more = more_past (after_call h (Crashed image)) calls in (h.epoch ∷ more.0, more.1 ∙ append_assoc h.past (h.epoch ∷ []) more.0)

was_in : (xs ys : List Epoch) (image : List ℕ) {P : Type 0} → (WasImage xs image → P) → (WasImage ys image → P) → WasImage (xs ++ ys) image → P
was_in [] ys image first second was = second was
was_in (x ∷ xs) ys image first second (inl is) = first (inl is)
was_in (x ∷ xs) ys image first second (inr was) = was_in xs ys image (λ w. first (inr w)) second was

-- What held throughout, and holds since, holds throughout.
since_before : (h new : History) (calls : List Did) → SameImages (replay h calls) new → (moment : ℕ) (P : List ℕ → Type 0) → moment ≤ moment_of h
    → Throughout h moment P → Throughout new (moment_of h) P → Throughout new moment P
since_before h new calls same moment P le before since image (inl now) = since image (inl now)
since_before h new calls same moment P le before since image (inr was) =
    let more = more_past h calls in
    let past : new.past ≡ h.past ++ more.0 = sym same.past ∙ more.1 in
    let here : WasImage (drop moment h.past ++ more.0) image =
    subst (λ (es : List Epoch). WasImage es image) (ap (drop moment) past ∙ drop-append-le moment h.past more.0 le) was in
    let back : drop (moment_of h) new.past ≡ more.0 = ap (drop (moment_of h)) past ∙ drop_at h.past more.0 (moment_of h) refl in
    was_in (drop moment h.past) more.0 image (λ w. before image (inr w))
    (λ w. since image (inr (subst (λ (es : List Epoch). WasImage es image) (sym back) w))) here

-- ---- what goes on

-- more calls of a disk leave what it was before, and what it read then
pub before_same : (disk : Calls) (calls : List Did) (s : Session) → s.began.calls ≤ length disk.done
    → disk_before (record disk { done = disk.done ++ calls }) s ≡ disk_before disk s
before_same disk calls s le = ap (λ (done : List Did). record disk { done = done }) (take-append-le s.began.calls disk.done calls le)

pub reads_same : (disk : Calls) (calls : List Did) (mark : Mark) → mark.calls ≤ length disk.done
    → reads_at (record disk { done = disk.done ++ calls }) mark ≡ reads_at disk mark
reads_same disk calls mark le =
    ap (λ (done : List Did). (history_of (record disk { done = done; attached_at = 0 })).reads) (take-append-le mark.calls disk.done calls le)

module _ (d : Descriptor) where
  pub keeps_still : (h : History) → KeepsOn d h h
  keeps_still h = record { later = omega arith; stands = λ i m le s. s; sound = λ m le s. s }

  pub keeps_longer : (one two three : History) → KeepsOn d one two → KeepsOn d two three → KeepsOn d one three
  keeps_longer one two three first second = record {
    later = (let a = first.later in let b = second.later in omega (arith, a, b));
    stands = λ i m le s. second.stands i m (let a = first.later in omega (arith, a, le)) (first.stands i m le s);
    sound = λ m le s. second.sound m (let a = first.later in omega (arith, a, le)) (first.sound m le s);
  }

  pub keeps_same : (g g' h h' : History) → SameImages g g' → SameImages h h' → KeepsOn d g h → KeepsOn d g' h'
  keeps_same g g' h h' old new keeps =
      let was = same_moment g g' old in
      let is = same_moment h h' new in record {
        later = (let a = keeps.later in omega (arith, a, was, is));
        stands = λ i m le s. carried h h' new m (λ image. StandsIn d image i)
            (keeps.stands i m (omega (arith, le, was)) (carried g' g (other_way g g' old) m (λ image. StandsIn d image i) s));
        sound = λ m le s. carried h h' new m (IsSound d) (keeps.sound m (omega (arith, le, was)) (carried g' g (other_way g g' old) m (IsSound d) s));
      }

  -- through calls after which what stood goes on
  pub keeps_calls : (old new : History) (calls : List Did) → SameImages (replay old calls) new → GoesOn d old new → StaysSound d old new → KeepsOn d old new
  keeps_calls old new calls same goes sound = record {
    later = (let past = ap length (sym same.past ∙ (more_past old calls).1) in let sum = length-append old.past (more_past old calls).0 in omega (arith, past, sum));
    stands = λ i m le s. since_before old new calls same m (λ image. StandsIn d image i) le s
        (goes i (throughout_later old m (moment_of old) (λ image. StandsIn d image i) le s));
    sound = sound;
  }

  pub sound_now : (old new : History) → KeepsOn d old new → IsSoundNow d old → IsSoundNow d new
  sound_now old new keeps sound =
      throughout_later new (moment_of old) (moment_of new) (IsSound d) keeps.later (keeps.sound (moment_of old) (omega arith) sound)

  -- through a crash
  pub keeps_crash : (h : History) (image : List ℕ) → IsImage h.epoch image → KeepsOn d h (settled h image)
  keeps_crash h image possible = record {
    later = (let m = moment-settled h image in omega (arith, m));
    stands = λ i m le s. through m (λ x. StandsIn d x i) le s;
    sound = λ m le s. through m (IsSound d) le s;
  }
    where
      through : (m : ℕ) (P : List ℕ → Type 0) → m ≤ moment_of h → Throughout h m P → Throughout (settled h image) m P
      through m P le all x since =
          ⊎_elim (λ before. all x before) (λ is. subst P (sym is) (all image (inl possible))) (since_settled h m image x le since)

  stood_on : (old new : History) → KeepsOn d old new → (moment i : ℕ) → HasStood d old moment i → HasStood d new moment i
  stood_on old new keeps m i stood =
      record { past = (let a = keeps.later in let b = stood.past in omega (arith, a, b)); stands = keeps.stands i m stood.past stood.stands }

  -- ---- sessions

  module _ (disk : Calls) (calls : List Did) (keeps : KeepsOn d (history_of disk) (history_of (record disk { done = disk.done ++ calls }))) where
    abbrev new : Calls
    new = record disk { done = disk.done ++ calls }

    longer : (n : ℕ) → n ≤ length disk.done → n ≤ length new.done
    longer n le = let sum = length-append disk.done calls in omega (arith, sum, le)

    pub lasts_more : (s : Session) → Lasts d disk s → Lasts d new s
    lasts_more s lasts =
        let same = before_same disk calls s lasts.began in record {
          began = longer s.began.calls lasts.began;
          opened = longer s.opened.calls lasts.opened;
          marked = longer (last_mark s).calls lasts.marked;
          sound = subst (λ (c : Calls). IsSoundNow d (history_of c)) (sym same) lasts.sound;
          goes_on = subst (λ (c : Calls). KeepsOn d (history_of c) (history_of new)) (sym same)
              (keeps_longer (history_of (disk_before disk s)) (history_of disk) (history_of new) lasts.goes_on keeps);
          announced = each_announced d (HasStood d (history_of disk)) (HasStood d (history_of new)) (stood_on (history_of disk) (history_of new) keeps)
              s.traffic lasts.announced;
        }

    finds_more : (s : Session) → s.opened.calls ≤ length disk.done → (es : List Session) → AllByRecursion (λ e. FindsAnnounced d disk e s) es
        → AllByRecursion (λ e. FindsAnnounced d new e s) es
    finds_more s le [] all = tt
    finds_more s le (e ∷ es) all =
        (subst (λ (reads : List ℕ). EachAnnounced d (λ moment i. StandsIn d reads i) e.traffic) (sym (reads_same disk calls s.opened le)) all.0, finds_more s le es all.1)

    pub all_more : (ss : List Session) → AllLast d disk ss → AllLast d new ss
    all_more [] all = tt
    all_more (s ∷ ss) all = (lasts_more s all.0, finds_more s all.0.opened ss all.1, all_more ss all.2)

  -- ---- to the end

  module _ (disk : Calls) where
    abbrev here : Session → History
    here s = attached (replay (fresh disk.image) (take s.began.calls disk.done)) (replay (fresh disk.image) disk.done)

    since_is : (s : Session) → disk_since disk s ≡ here s
    since_is s =
        ap (λ (done : List Did). history_of (record disk { done = done; attached_at = s.began.calls })) (take_all (length disk.done) disk.done (omega arith))

    keeps_here : (s : Session) → Lasts d disk s → Keeps d (here s) s.traffic
    keeps_here s lasts = record {
      held = λ i each. lasts.goes_on.stands i (moment_of (history_of (disk_before disk s))) (omega arith)
          (λ image since. each image (since_now (history_of (disk_before disk s)) image since));
      announced = λ sound. each_announced d (HasStood d (history_of disk)) (StandsSince d (here s)) (λ m i stood. stood.stands) s.traffic lasts.announced;
    }

    outlasts : (later : List Session) (s : Session) → Lasts d disk s → AllByRecursion (FindsAnnounced d disk s) later → Outlasts d disk later s
    outlasts later s lasts found = record {
      sound = subst (BeganSound d) (sym (since_is s)) (λ image possible. lasts.sound image (inl possible));
      keeps = subst (λ (h : History). Keeps d h s.traffic) (sym (since_is s)) (keeps_here s lasts);
      found = found;
    }

    one_later : (s : Session) (later es : List Session) → AllByRecursion (λ e. FindsAnnounced d disk e s) es
        → AllByRecursion (λ e. AllByRecursion (FindsAnnounced d disk e) later) es
        → AllByRecursion (λ e. AllByRecursion (FindsAnnounced d disk e) (s ∷ later)) es
    one_later s later [] one all = tt
    one_later s later (e ∷ es) one all = ((one.0, all.0), one_later s later es one.1 all.1)

    all_outlast : (later ss : List Session) → AllLast d disk ss → AllByRecursion (λ e. AllByRecursion (FindsAnnounced d disk e) later) ss
        → AllOutlast d disk later ss
    all_outlast later [] all found = tt
    all_outlast later (s ∷ earlier) all found =
        (outlasts later s all.0 found.0, all_outlast (s ∷ later) earlier all.2 (one_later s later earlier all.1 found.1))

    none_later : (ss : List Session) → AllByRecursion (λ e. AllByRecursion (FindsAnnounced d disk e) []) ss
    none_later [] = tt
    none_later (s ∷ ss) = (tt, none_later ss)

    pub survive : (ss : List Session) → AllLast d disk ss → AllOutlast d disk [] ss
    survive ss all = all_outlast [] ss all (none_later ss)
