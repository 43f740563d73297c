-- A fetch by the name of its swarm, from what its parts do.
use Rattle.std.proofs.Common.{◌≡◌, inl, ℕ, Option, List, [], Result, Ok, Err, OnOk, codes, refl, sym, ◌∙◌, subst}
use Rattle.std.specs.Fmt.{digits}
use Rattle.pp_terms.specs.command.Report.{held_line, SaysReport}
use Rattle.pp_terms.specs.command.Stream.{SinkState, Gains}
use Rattle.pp_terms.specs.command.Tally.{Tally, tally_text}
use Rattle.pp_terms.specs.disk.Disk.{DiskState, IsKnown}
use Rattle.pp_terms.specs.disk.Untouched.{IsFreshlyAttached}
use Rattle.pp_terms.specs.format.Traffic as traffic
use Rattle.pp_terms.specs.format.Traffic.{LinkState}
use Rattle.pp_terms.proofs.Knowing.{known_on}
use Rattle.pp_promises.specs.Missing.{incomplete_line}
use Rattle.pp_stream.proofs.Written.{gains_more}
use Rattle.pp_node.specs.Naming.{HasAttached, FindsTold, ReportsNaming}
use Rattle.pp_node.specs.NamedFetching.{UnfoundEnds}
use Rattle.pp_node.specs.NamedSeeding.{NamedWords}
use Rattle.pp_node.specs.Outside.{Outside}
use Rattle.pp_node.specs.Preparing.{HasPrepared, HasOpenedPeer}
use Rattle.pp_node.specs.Promising.{PeerWords, FetchEndsBehind}
use Rattle.pp_node.specs.Seeding.{words_of, dials_of, earlier_of}
use Rattle.pp_node.specs.Status.{number_of}
use Rattle.pp_node.specs.declared.naming.NamingFault.{NamingFault}
use Rattle.pp_node.specs.declared.naming.NamingFault.TheVariants as names
use Rattle.pp_node.specs.declared.preparing.Peering.{Peering}
use Rattle.pp_node.specs.declared.preparing.SeedFault.{SeedFault}
use Rattle.pp_node.specs.declared.preparing.SeedFault.TheVariants as fault
use Rattle.pp_node.specs.declared.status.Status.{Status}
use Rattle.pp_node.specs.declared.status.Status.TheVariants.{NotAStore, DiskFault, ContentSize}

-- what was found of a file that was attached and is empty
pub empty_found : (store : List ℕ) (before mid : DiskState) → HasAttached store before mid → (IsKnown mid → IsFreshlyAttached mid.history)
    → (IsKnown mid → mid.history.reads ≡ []) → IsKnown before → mid.history.found ≡ []
empty_found store before mid a fresh nothing known =
    let now = known_on before mid a.tells a.honest known in (fresh now).showed ∙ nothing now

-- the link has no part in an opening
pub opened_prepared : (w : Peering) (disk disk' : DiskState) (seen seen' : LinkState) (f : SeedFault) → HasOpenedPeer w disk disk' (Err f)
    → HasPrepared w disk disk' seen seen' (Err f)
opened_prepared w disk disk' seen seen' (fault.NotAStore at found want) is = is
opened_prepared w disk disk' seen seen' fault.Disk is = is
opened_prepared w disk disk' seen seen' fault.Link is = absurd is
opened_prepared w disk disk' seen seen' fault.Memory is = is

-- a fetch behind a learner, in the words of the command
pub fetched_behind : (number : ℕ) (p : Peering) (earlier : Option Tally) (w : PeerWords) (dial : List traffic.Address) (old new : Outside)
    → earlier_of p ≡ earlier → words_of p ≡ w → dials_of p ≡ dial → FetchEndsBehind (earlier_of p) number (words_of p) (dials_of p) old new
    → FetchEndsBehind earlier number w dial old new
fetched_behind number p earlier w dial old new is_earlier words dials end =
    subst (λ (e : Option Tally). FetchEndsBehind e number w dial old new) is_earlier
    (subst (λ (x : PeerWords). FetchEndsBehind (earlier_of p) number x dial old new) words
    (subst (λ (l : List traffic.Address). FetchEndsBehind (earlier_of p) number (words_of p) l old new) dials end))

-- ---- no descriptor was found

unfound_as : (x status : Status) (w : NamedWords) (old new : Outside) → status ≡ x → UnfoundEnds (number_of x) w old new → UnfoundEnds (number_of status) w old new
unfound_as x status w old new is ends = subst (λ (y : Status). UnfoundEnds (number_of y) w old new) (sym is) ends

-- why, and what was said
pub unfound_ends : (w : NamedWords) (old new : Outside) (f : NamingFault) (status : Status) → FindsTold w.name old.disk new.disk (Err f)
    → HasAttached w.store old.disk new.disk → new.link ≡ old.link → new.source ≡ old.source → new.book ≡ old.book
    → ReportsNaming f status old.sink new.sink → UnfoundEnds (number_of status) w old new
unfound_ends w old new (names.NotAStore at found want) status is a link source book reported = unfound_as NotAStore status w old new reported.0 (record {
  untold = record {
    status = NotAStore;
    number = refl;
    ends = record { at = at; found = found; want = want; other = inl is.0; said = reported.1 };
    attached = a;
    link = link;
    unread = source;
    book = book;
  };
  some = λ same. is.1;
})
unfound_ends w old new (names.Size size) status is a link source book reported = unfound_as ContentSize status w old new reported.0 (record {
  untold = record {
    status = ContentSize;
    number = refl;
    ends = record { size = size; is = is; said = reported.1 };
    attached = a;
    link = link;
    unread = source;
    book = book;
  };
  some = λ same. let never : ContentSize ≡ NotAStore = same in cc;
})
unfound_ends w old new (names.Shape node) status is a link source book reported = absurd is
unfound_ends w old new names.Disk status is a link source book reported = unfound_as DiskFault status w old new reported.0 (record {
  untold = record {
    status = DiskFault;
    number = refl;
    ends = record { risen = is; said = reported.1 };
    attached = a;
    link = link;
    unread = source;
    book = book;
  };
  some = λ same. let never : DiskFault ≡ NotAStore = same in cc;
})
unfound_ends w old new names.Memory status is a link source book reported = absurd is

-- ---- the report of nothing

nothing_held : codes "held 0 of 0 none\n" ≡ held_line 0 0 []
unfolding held_line digits
nothing_held = refl

pub first_is_missing : codes "incomplete: first missing chunk 0\n" ≡ incomplete_line 0
unfolding incomplete_line digits
first_is_missing = refl

pub nothing_said : {T E : Type 0} (tally : Tally) (old mid new : SinkState) (result : Result T E) → Gains old.taken (codes "held 0 of 0 none\n") mid.taken
    → OnOk result (Gains mid.taken (tally_text tally) new.taken) → OnOk result (SaysReport [] tally old new)
nothing_said tally old mid new (Ok x) held counted = record {
  ranges = [];
  are = record { runs = tt; same = λ i. refl };
  gained = gains_more old.taken mid.taken new.taken (held_line 0 0 []) (tally_text tally)
      (subst (λ (t : List ℕ). Gains old.taken t mid.taken) nothing_held held) counted;
}
nothing_said tally old mid new (Err e) held counted = tt
