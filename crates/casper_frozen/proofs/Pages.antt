use Rattle.std.proofs.Common.{◌≡◌, ◌<◌, ◌≤◌, ℕ, ◌+◌, Bool, true, false, ◌||◌, List, ◌∷◌, Option, None, Some, drop, get_or, refl, sym, ap, ◌∙◌, ⊎_elim}
use Rattle.std.specs.Prelude.{length, find, slice_get, option_map}
use Rattle.std.specs.List.{list_any, cons_option}
use Rattle.std.proofs.lemmas.Bool.{or_cases}
use Rattle.std.proofs.lemmas.List.{at_drop_more, at_drop_all}
use Rattle.casper_words.specs.declared.page.Want.{Want}
use Rattle.casper_words.specs.Crew.{IsClient, IsCrew, has_member, crew_of}
use Rattle.casper_words.proofs.CrewLemmas.{has_member_crew_of, IsCrew_crew_of, client_from_member}
use Rattle.casper_trail.specs.declared.item.Item.{Item}
use Rattle.casper_trail.specs.Clients.{AreOfClients}
use Rattle.casper_trail.specs.Modified.{is_modified_by}
use Rattle.casper_trail.specs.Association.{association_of}
use Rattle.casper_model.specs.Shared.{Shared}
use Rattle.casper_model.specs.Stabilisation.{Stabilisation}
use Rattle.casper_model.specs.Frozen.{is_modified_in}
use Rattle.casper_model.specs.Acquire.{frozen_of}
use Rattle.casper_assoc.specs.TrailAssociations.{AssociationsView, AreAssociationsOf, AreMembersOfPage}
use Rattle.casper_assoc.proofs.PageMembers.{same_under}
use Rattle.casper_gather.specs.declared.stab.Stab.{Stab}
use Rattle.casper_gather.specs.Bookkeeping.{stabilisation_of}
use Rattle.casper_gather.specs.Unended.{UnendedView}
use Rattle.casper_frozen.specs.Bridge.{Keeps}
use Rattle.casper_frozen.specs.Finding.{frozen_among}
use Rattle.casper_frozen.specs.Refused.{frozen_of_pages, IsFrozenOfPages}
use Rattle.casper_frozen.proofs.Among.{frozen_is_found}

-- a client is a member of two crews together where it is a member of either
pub member_of_union : (left right union : List ℕ) (who : ℕ) → IsCrew left → IsCrew right
    → union ≡ crew_of (λ client. has_member client left || has_member client right)
    → has_member who union ≡ (has_member who left || has_member who right)
member_of_union left right union who is_left is_right is =
    same_under (IsClient who) (has_member who union) (has_member who left || has_member who right)
    (λ inside. client_from_member (crew_of test) who (IsCrew_crew_of test) (sym (ap (has_member who) is) ∙ inside))
    (λ inside. ⊎_elim (client_from_member left who is_left) (client_from_member right who is_right) (or_cases _ _ inside))
    (λ client. ap (has_member who) is ∙ has_member_crew_of test who client)
  where
    test : ℕ → Bool
    test client = has_member client left || has_member client right

-- of the wants of a list, these are the members of the pages of those before, and the others are still to come
abbrev pub ArePagesSoFar : AssociationsView → List Want → List Want → List ℕ → Type 0
ArePagesSoFar all missing rest members = (items : List Item) → AreOfClients items → AreAssociationsOf all items → (client : ℕ)
    → list_any (λ want. is_modified_by (association_of items client) items want.page) missing
    ≡ (has_member client members || list_any (λ want. is_modified_by (association_of items client) items want.page) rest)

-- the members of one page more
pub one_page_more : (all : AssociationsView) (missing : List Want) (i : ℕ) (want : Want) (members page union : List ℕ) → i < length missing
    → want ≡ get_or missing i want → IsCrew members → IsCrew page → AreMembersOfPage all want.page page
    → union ≡ crew_of (λ client. has_member client members || has_member client page)
    → ArePagesSoFar all missing (drop i missing) members → ArePagesSoFar all missing (drop (i + 1) missing) union
one_page_more all missing i want members page union within at is_crew is_page of_page is before items clients are client =
    before items clients are client
    ∙ ap (λ rest. has_member client members || rest) (at_drop_more (list_any modified) missing i want within)
    ∙ ap (λ (w : Want). has_member client members || (modified w || list_any modified (drop (i + 1) missing))) (sym at)
    ∙ ap (λ b. has_member client members || (b || list_any modified (drop (i + 1) missing))) (of_page items clients are client)
    ∙ or_assoc (has_member client members) (has_member client page) (list_any modified (drop (i + 1) missing))
    ∙ ap (λ b. b || list_any modified (drop (i + 1) missing)) (sym (member_of_union members page union client is_crew is_page is))
  where
    modified : Want → Bool
    modified want = is_modified_by (association_of items client) items want.page

    or_assoc : (s t u : Bool) → (s || (t || u)) ≡ ((s || t) || u)
    or_assoc true t u = refl
    or_assoc false t u = refl

-- the first frozen association of the pages of a list is that of the rest
abbrev pub IsFirstOfRest : UnendedView → AssociationsView → List Want → List Want → Type 0
IsFirstOfRest unended all missing rest = (shared : Shared) → Keeps unended all shared
    → slice_get (frozen_of_pages shared rest) 0 ≡ slice_get (frozen_of_pages shared missing) 0

-- the frozen association to which a page belongs
pub page_is_found : (unended : UnendedView) (all : AssociationsView) (shared : Shared) (page : ℕ) (members : List ℕ) → Keeps unended all shared
    → AreMembersOfPage all page members
    → option_map stabilisation_of (frozen_among members unended.each) ≡ find (is_modified_in shared page) (frozen_of shared)
page_is_found unended all shared page members keeps of_page =
    frozen_is_found shared unended.each members (is_modified_in shared page) keeps.stabilisations
    (λ one. sym (of_page shared.trail keeps.clients keeps.associations one.lead))

-- the frozen associations of a list of pages: that of the first page, if it belongs to one, and those of the others
next_found : (shared : Shared) (missing : List Want) (i : ℕ) (want : Want) → i < length missing → want ≡ get_or missing i want
    → (found : Option Stabilisation) → find (is_modified_in shared want.page) (frozen_of shared) ≡ found
    → slice_get (frozen_of_pages shared (drop i missing)) 0 ≡ slice_get (cons_option found (frozen_of_pages shared (drop (i + 1) missing))) 0
next_found shared missing i want within at found is =
    at_drop_more (λ rest. slice_get (frozen_of_pages shared rest) 0) missing i want within
    ∙ ap (λ (w : Want). slice_get (frozen_of_pages shared (w ∷ drop (i + 1) missing)) 0) (sym at)
    ∙ ap (λ (o : Option Stabilisation). slice_get (cons_option o (frozen_of_pages shared (drop (i + 1) missing))) 0) is

-- a page that belongs to none is passed over
pub one_page_passed : (unended : UnendedView) (all : AssociationsView) (missing : List Want) (i : ℕ) (want : Want) (members : List ℕ)
    → i < length missing → want ≡ get_or missing i want → AreMembersOfPage all want.page members → frozen_among members unended.each ≡ None
    → IsFirstOfRest unended all missing (drop i missing) → IsFirstOfRest unended all missing (drop (i + 1) missing)
one_page_passed unended all missing i want members within at of_page none before shared keeps =
    sym (next_found shared missing i want within at None
    (sym (page_is_found unended all shared want.page members keeps of_page) ∙ ap (option_map stabilisation_of) none))
    ∙ before shared keeps

-- the first page that belongs to one is found
pub one_page_found : (unended : UnendedView) (all : AssociationsView) (missing : List Want) (i : ℕ) (want : Want) (members : List ℕ) (one : Stab)
    → i < length missing → want ≡ get_or missing i want → AreMembersOfPage all want.page members → frozen_among members unended.each ≡ Some one
    → IsFirstOfRest unended all missing (drop i missing) → IsFrozenOfPages unended all missing (Some one)
one_page_found unended all missing i want members one within at of_page found before shared keeps =
    sym (next_found shared missing i want within at (Some (stabilisation_of one))
    (sym (page_is_found unended all shared want.page members keeps of_page) ∙ ap (option_map stabilisation_of) found))
    ∙ before shared keeps

-- and after the last page none is
pub no_page_found : (unended : UnendedView) (all : AssociationsView) (missing : List Want) (i : ℕ) → length missing ≤ i
    → IsFirstOfRest unended all missing (drop i missing) → IsFrozenOfPages unended all missing None
no_page_found unended all missing i past before shared keeps =
    sym (at_drop_all (λ rest. slice_get (frozen_of_pages shared rest) 0) missing i past) ∙ before shared keeps
