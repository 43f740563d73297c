-- The peers of a schedule before its first move.
use Rattle.std.proofs.Common.{◌≡◌, ℕ, zero, suc, ◌+◌, true, None, List, [], ◌∷◌, ◌++◌, map, length, refl, sym, ◌∙◌, ap, subst, arith}
use Rattle.std.proofs.lemmas.List.{length-replicate, map-append}
use Rattle.std.specs.Prelude.{replicate, Result, Ok, Err, IfOk}
use Rattle.std.specs.declared.alloc.AllocError.{AllocError}
use Rattle.pp_terms.specs.disk.Calls.{Calls, attached, history_of}
use Rattle.pp_terms.specs.disk.Disk.{DiskState, Epoch, IsImage, fresh}
use Rattle.pp_terms.specs.disk.Sound.{IsSound}
use Rattle.pp_terms.specs.disk.Store.{HasHeader, IsStoreOf, header}
use Rattle.pp_terms.proofs.Images.{since_now, sole_image}
use Rattle.pp_terms.specs.format.Descriptor.{Descriptor}
use Rattle.pp_tree.proofs.Sizes.{chunk_size_range}
use Rattle.pp_outside.specs.MemoryDisk as disks
use Rattle.pp_outside.specs.declared.call.Call.{Call}
use Rattle.pp_outside.specs.declared.call.Call.TheVariants as calls
use Rattle.pp_outside.specs.declared.memory_disk.MemoryDisk.{MemoryDisk}
use Rattle.pp_watch.specs.Shown.{ShowsDisk}
use Rattle.pp_world.specs.Schedule as terms
use Rattle.pp_world.specs.World.{Queued, PeerState}
use Rattle.pp_store.specs.Growing.{IsContent}
use Rattle.pp_store.specs.Imported.{imported}
use Rattle.pp_store.proofs.Staying.{whole_sound}
use Rattle.pp_world.specs.Worlds.{AreNew, HasDisk, IsFilled, IsNew, empty_disk, idle, swarm_of}
use Rattle.pp_mail.proofs.Peers.{mail_at}
use Rattle.pp_replay.specs.Views.{as_role}
use Rattle.pp_replay.specs.declared.types.Role.{Role}
use Rattle.pp_replay.specs.declared.types.Role.TheVariants as roles
use Rattle.pp_actor.specs.Actor.{ActorState, ShowsActor, part_of}
use Rattle.pp_actor.specs.Keeping.{Part}
use Rattle.pp_actor.specs.Starting.{IsSetFor, rank_of}
use Rattle.pp_actor.specs.Lasting.{IsSoundNow}
use Rattle.pp_play.specs.Keeping.{HasRole, HaveRoles}
use Rattle.pp_play.specs.First.{BeginAs, BeginsAs, IsReadied}
use Rattle.pp_play.specs.Stage.{ShowActors}

pub both_ok : {A : Type 0} {P Q R : A → Type 0} (r : Result A AllocError) → IfOk r P → IfOk r Q → ((x : A) → P x → Q x → R x) → IfOk r R
both_ok (Ok x) p q makes = makes x p q
both_ok (Err e) p q makes = tt

-- ---- one peer

pub empty_shown : (disk : MemoryDisk) → disks.state_of disk ≡ record { tells = true; honest = true; history = fresh []; faults = 0; hard = 0 }
    → ((call : Call) → disks.order_of disk call ≡ None) → ShowsDisk 0 disk (idle empty_disk)
empty_shown disk state none = record {
  unattached = refl;
  history = ap (λ (s : DiskState). attached (fresh []) s.history) state;
  faults = ap (λ (s : DiskState). s.faults) state;
  hard = ap (λ (s : DiskState). s.hard) state;
  few = omega arith;
  few_hard = omega arith;
  read = none calls.Read;
  write = none calls.Write;
  sync = none calls.Sync;
  attach = none calls.Attach;
  len = none calls.Len;
}

-- ---- what it has at first is sound

no_header : (d : Descriptor) → HasHeader d [] → ⊥
unfolding header
no_header d begins = (let first : 0 ≡ 80 = begins 0 (omega arith) in omega (arith, first))

empty_sound : (d : Descriptor) → IsSound d []
empty_sound d = record { long = λ begins. absurd (no_header d begins); held = λ begins. absurd (no_header d begins) }

filled_sound : (chunk : ℕ) (content : List ℕ) (calls : Calls) → IsContent chunk content → IsFilled (imported content chunk) content calls
    → IsSoundNow (imported content chunk) (history_of calls)
filled_sound chunk content calls fits filled image since =
    let now = subst (λ (e : Epoch). IsImage e image) filled.settled (since_now (history_of calls) image since) in
    whole_sound chunk content fits image
    (subst (IsStoreOf (imported content chunk) content) (sym (sole_image (history_of calls).reads image now)) filled.store)

sound_first : (chunk : ℕ) (content : List ℕ) (role : terms.Role) (calls : Calls) → IsContent chunk content → HasDisk (imported content chunk) content role calls
    → IsSoundNow (imported content chunk) (history_of calls)
sound_first chunk content terms.Seeds calls fits filled = filled_sound chunk content calls fits filled
sound_first chunk content (terms.Fetches order dialled) calls fits is =
    subst (λ (c : Calls). IsSoundNow (imported content chunk) (history_of c)) (sym is)
    (λ image since. subst (IsSound (imported content chunk)) (sym (sole_image [] image (since_now (history_of empty_disk) image since))) (empty_sound (imported content chunk)))

-- ---- one more

new_more : (d : Descriptor) (content : List ℕ) (roles : List terms.Role) (peers : List PeerState) (role : terms.Role) (x : PeerState)
    → AreNew d content roles peers → IsNew d content role x → AreNew d content (roles ++ role ∷ []) (peers ++ x ∷ [])
new_more d content [] [] role x are is = (is, tt)
new_more d content [] (y ∷ ys) role x are is = absurd are
new_more d content (r ∷ roles) [] role x are is = absurd are
new_more d content (r ∷ roles) (y ∷ ys) role x are is = (are.0, new_more d content roles ys role x are.1 is)

shown_more : (d : Descriptor) (most : ℕ) (actors : List ActorState) (peers : List PeerState) (a : ActorState) (x : PeerState) → ShowActors d most actors peers
    → ShowsActor d most a x → ShowActors d most (actors ++ a ∷ []) (peers ++ x ∷ [])
shown_more d most [] [] a x show one = (one, tt)
shown_more d most [] (y ∷ ys) a x show one = absurd show
shown_more d most (b ∷ actors) [] a x show one = absurd show
shown_more d most (b ∷ actors) (y ∷ ys) a x show one = (show.0, shown_more d most actors ys a x show.1 one)

roles_more : (roles : List terms.Role) (parts : List Part) (role : terms.Role) (part : Part) → HaveRoles roles parts → HasRole role part
    → HaveRoles (roles ++ role ∷ []) (parts ++ part ∷ [])
roles_more [] [] role part have is = (is, tt)
roles_more [] (p ∷ parts) role part have is = absurd have
roles_more (r ∷ roles) [] role part have is = absurd have
roles_more (r ∷ roles) (p ∷ parts) role part have is = (have.0, roles_more roles parts role part have.1 is)

role_of : (role : Role) (a : ActorState) → IsSetFor role a.start → HasRole (as_role role) (part_of a)
role_of roles.Seeds a set = set.asks
role_of (roles.Fetches order dialled) a set = (rank_of order, set.asks, set.dialled)

pub begin_more : (chunk : ℕ) (content : List ℕ) (roles : List Role) (actors : List ActorState) (role : Role) (disk : MemoryDisk) (a : ActorState)
    → IsContent chunk content → BeginAs (imported content chunk) content roles actors → BeginsAs (imported content chunk) content role disk
    → ((d : Descriptor) (most : ℕ) (calls : Calls) → ShowsDisk most disk (idle calls) → IsSoundNow d (history_of calls) → ShowsActor d most a (idle calls))
    → IsSetFor role a.start → BeginAs (imported content chunk) content (roles ++ role ∷ []) (actors ++ a ∷ [])
begin_more chunk content roles actors role disk a fits begin begins shows set = let d = imported content chunk in record {
  peers = begin.peers ++ idle begins.calls ∷ [];
  new = subst (λ (rs : List terms.Role). AreNew d content rs (begin.peers ++ idle begins.calls ∷ [])) (sym (map-append as_role roles (role ∷ [])))
      (new_more d content (map as_role roles) begin.peers (as_role role) (idle begins.calls) begin.new (record { disk = begins.has; is = refl }));
  show = shown_more d 0 actors begin.peers a (idle begins.calls) begin.show
      (shows d 0 begins.calls begins.shows (sound_first chunk content (as_role role) begins.calls fits begins.has));
  told = subst (λ (rs : List terms.Role). HaveRoles rs (map part_of (actors ++ a ∷ []))) (sym (map-append as_role roles (role ∷ [])))
      (subst (HaveRoles (map as_role roles ++ as_role role ∷ [])) (sym (map-append part_of actors (a ∷ [])))
      (roles_more (map as_role roles) (map part_of actors) (as_role role) (part_of a) begin.told (role_of role a set)));
}

-- ---- all of them

pub count_new : (d : Descriptor) (content : List ℕ) (roles : List terms.Role) (peers : List PeerState) → AreNew d content roles peers → length peers ≡ length roles
count_new d content [] [] are = refl
count_new d content [] (y ∷ ys) are = absurd are
count_new d content (r ∷ roles) [] are = absurd are
count_new d content (r ∷ roles) (y ∷ ys) are = ap (λ (n : ℕ). suc n) (count_new d content roles ys are.1)

pub count_shown : (d : Descriptor) (most : ℕ) (actors : List ActorState) (peers : List PeerState) → ShowActors d most actors peers → length actors ≡ length peers
count_shown d most [] [] show = refl
count_shown d most [] (y ∷ ys) show = absurd show
count_shown d most (a ∷ actors) [] show = absurd show
count_shown d most (a ∷ actors) (y ∷ ys) show = ap (λ (n : ℕ). suc n) (count_shown d most actors ys show.1)

-- nothing waits for any of them
abbrev pub no_mail : List Queued
no_mail = []

pub mail_at-new : (d : Descriptor) (content : List ℕ) (roles : List terms.Role) (peers : List PeerState) → AreNew d content roles peers
    → replicate (length roles) no_mail ≡ mail_at peers
mail_at-new d content [] [] are = refl
mail_at-new d content [] (y ∷ ys) are = absurd are
mail_at-new d content (r ∷ roles) [] are = absurd are
mail_at-new d content (r ∷ roles) (y ∷ ys) are =
    ap (λ (qs : List (List Queued)). no_mail ∷ qs) (mail_at-new d content roles ys are.1)
    ∙ ap (λ (q : List Queued). q ∷ mail_at ys) (sym (ap (λ (x : PeerState). x.queue) are.0.is))

-- ---- the first world

module _ (s : terms.Schedule) (d : Descriptor) (content : List ℕ) (roles : List Role) (actors : List ActorState) (mail : List (List Queued))
    (is_content : content ≡ terms.content_of s) (is : d ≡ imported content s.chunk) (are : map as_role roles ≡ s.roles)
    (waiting : mail ≡ replicate (length s.roles) no_mail) (begin : BeginAs (imported content s.chunk) content roles actors) where
  new : AreNew (swarm_of s) (terms.content_of s) s.roles begin.peers
  new = subst (λ (rs : List terms.Role). AreNew (swarm_of s) (terms.content_of s) rs begin.peers) are
      (subst (λ (bytes : List ℕ). AreNew (imported bytes s.chunk) bytes (map as_role roles) begin.peers) is_content begin.new)

  pub readied : IsReadied s (record { descriptor = d; clock = 0; actors = actors; mail = mail })
  readied = record {
    told = subst (λ (rs : List terms.Role). HaveRoles rs (map part_of actors)) are begin.told;
    descriptor = is ∙ ap (λ (bytes : List ℕ). imported bytes s.chunk) is_content;
    first = record { clock = 0; peers = begin.peers };
    is_first = record { clock = refl; peers = new };
    shows = record {
      clock = refl;
      actors = subst (λ (e : Descriptor). ShowActors e 0 actors begin.peers) (sym is) begin.show;
      mail = waiting ∙ mail_at-new (swarm_of s) (terms.content_of s) s.roles begin.peers new;
    };
  }

  pub set_up : length mail ≡ length actors
  set_up = ap (λ (m : List (List Queued)). length m) waiting ∙ length-replicate (length s.roles) no_mail
      ∙ sym (count_new (swarm_of s) (terms.content_of s) s.roles begin.peers new) ∙ sym (count_shown (imported content s.chunk) 0 actors begin.peers begin.show)

-- ---- the content of a schedule

content_long : (shift from n : ℕ) → length (terms.content_from shift from n) ≡ n
content_long shift from zero = refl
content_long shift from (suc n) = ap (λ (m : ℕ). suc m) (content_long shift (from + 1) n)

pub fits_content : (s : terms.Schedule) (chunk : ℕ) (content : List ℕ) → terms.IsSchedule s → chunk ≡ s.chunk → content ≡ terms.content_of s → IsContent chunk content
fits_content s chunk content is same all =
    subst (λ (n : ℕ). IsContent n content) (sym same) (subst (IsContent s.chunk) (sym all) (record {
      chunk_size = is.chunk_size;
      content_size = record {
        some = (let long = content_long s.shift 0 s.size in let some = is.some in omega (arith, long, some));
        within = (let long = content_long s.shift 0 s.size in let most = is.most in let one = (chunk_size_range s.chunk is.chunk_size).0 in omega (arith, long, most, one));
      };
    }))
