use Rattle.std.proofs.Common.{◌≡◌, ◌<◌, ◌+◌, ◌++◌, ℕ, Bool, true, false, ◌&&◌, ◌||◌, ◌==◌, List, [], ◌∷◌, length, take, get_or, eqb-true, refl, sym, ap, ◌∙◌, subst, ⊎_elim, true≢false}
use Rattle.std.specs.Prelude.{Option, None, Some, IsSome, All, Contains, MatchOption, option_map, find, is_some, slice_get}
use Rattle.std.specs.List.{list_any}
use Rattle.std.specs.List.Sorted.{IsStrictlyIncreasing}
use Rattle.std.proofs.lemmas.Bool.{and_parts}
use Rattle.std.proofs.lemmas.Cmp.{nat_eq_equiv}
use Rattle.std.proofs.lemmas.List.{take_more, map-append}
use Rattle.std.proofs.lemmas.List.Elements.{Contains-push_cases, All-contains_itself}
use Rattle.std.proofs.lemmas.Map.Views.{list_any-from_Contains}
use Rattle.casper_words.specs.Crew.{IsClient, has_member}
use Rattle.casper_words.specs.declared.page.Right.TheVariants as may
use Rattle.casper_words.proofs.CrewLemmas.{crew_of_same}
use Rattle.casper_trail.specs.declared.entry.Entry.{Entry}
use Rattle.casper_trail.specs.declared.item.Item.{Item}
use Rattle.casper_trail.specs.Association.{association_of}
use Rattle.casper_trail.specs.Modified.{is_modified, is_modified_by}
use Rattle.casper_trail.specs.Parts.{open_entries}
use Rattle.casper_trail.specs.Value.{writes_page}
use Rattle.casper_trail.proofs.Pages.{some_passes}
use Rattle.casper_trail.proofs.Rounds.{association_goes_both_ways, association_goes_on}
use Rattle.casper_assoc.specs.TrailAssociations.{AssociationsView, AreAssociationsOf, AreMembersOf, PagesAreWithin, pages_in}
use Rattle.casper_assoc.specs.Written.{is_listed}
use Rattle.casper_dir.proofs.EqualRights.{writer_holds_to_write}
use Rattle.casper_frozen.specs.Counting.{ArePagesOf}
use Rattle.casper_frozen.specs.Jobs.{JobView}
use Rattle.casper_frozen.proofs.Counted.{modified_is_listed}
use Rattle.casper_gather.specs.declared.stab.Stab.{Stab}
use Rattle.casper_gather.specs.Bookkeeping.{stabilisation_of}
use Rattle.casper_gather.specs.Unended.{is_doubtful, first_in, sealed_by, first_sealed_in as first_sealed_among}
use Rattle.casper_gather.specs.UnendedLaws.{stabilisations_of}
use Rattle.casper_gather.proofs.Shown.{found_sealed, found_in_doubt}
use Rattle.casper_model.specs.Frozen.{pages_modified_by}
use Rattle.casper_model.specs.Stabilisation.{Stabilisation, Phase, Gathering, Sealed, Doubtful, is_sealed, is_gathering, is_doubtful as machine_doubts}
use Rattle.casper_turns.proofs.Lists.{find_found, contains_mapped}
use Rattle.casper_hub.specs.HubView.{HubView, PagesView, page_count, frame_in, right_in}
use Rattle.casper_hub.specs.Committing.{doubtful_in}
use Rattle.casper_hub.specs.Jobs.{sealed_in, first_sealed_in, pages_of, AreCopiesOf, IsJobOf}
use Rattle.casper_hub.specs.Shows.{permits}
use Rattle.casper_hub.specs.Sound.{StandsFor, IsSound}
use Rattle.casper_hub.specs.Words.{FramesAreRight, HasNoOpenWriter, AreWords, live_value, stored_value}
use Rattle.casper_hub.proofs.Handing.{some_shown}
use Rattle.casper_hub.proofs.KeptUp.{clients_recorded, with_writers}
use Rattle.casper_hub.proofs.StandsFor.{stands_for}

-- Which stabilisations are sealed.

pub sealed_seen : (view hub : HubView) (each : List Stab) (lead : ℕ) → view ≡ hub → stabilisations_of each ≡ view.stabilisations
    → is_some (sealed_by lead each) ≡ is_some (sealed_in hub lead)
sealed_seen view hub each lead seen same =
    some_shown (sealed_by lead each) (sealed_in hub lead)
    (found_sealed lead each
    ∙ ap (find (λ (one : Stabilisation). (one.lead == lead) && is_sealed one.phase)) (same ∙ ap (λ (h : HubView). h.stabilisations) seen))

pub first_sealed_seen : (view hub : HubView) (each : List Stab) → view ≡ hub → stabilisations_of each ≡ view.stabilisations
    → first_sealed_among each ≡ first_sealed_in hub
first_sealed_seen view hub each seen same =
    ap (λ (crew : List ℕ). slice_get crew 0)
    (crew_of_same (λ lead. is_some (sealed_by lead each)) (λ lead. is_some (sealed_in hub lead)) (λ lead client. sealed_seen view hub each lead seen same))

-- Which one is in doubt.

lead_shown : (found : Option Stab) → option_map (λ (one : Stab). one.lead) found
    ≡ option_map (λ (one : Stabilisation). one.lead) (option_map stabilisation_of found)
lead_shown None = refl
lead_shown (Some one) = refl

pub doubtful_seen : (view hub : HubView) (each : List Stab) (found : Option Stab) → view ≡ hub → stabilisations_of each ≡ view.stabilisations
    → found ≡ first_in is_doubtful each → option_map (λ (one : Stab). one.lead) found ≡ option_map (λ (one : Stabilisation). one.lead) (doubtful_in hub)
doubtful_seen view hub each found seen same is =
    lead_shown found
    ∙ ap (option_map (λ (one : Stabilisation). one.lead))
    (ap (option_map stabilisation_of) is ∙ found_in_doubt each
    ∙ ap (find (λ (one : Stabilisation). machine_doubts one.phase)) (same ∙ ap (λ (h : HubView). h.stabilisations) seen))

-- Copies, one page after another.

pub copied_more : (pages : PagesView) (each : List ℕ) (i page : ℕ) (frame : List ℕ) (changes after : List (ℕ × List ℕ)) → i < length each
    → page ≡ get_or each i page → frame_in pages page ≡ Some frame → after ≡ changes ++ (page, frame) ∷ []
    → AreCopiesOf pages (take i each) changes → AreCopiesOf pages (take (i + 1) each) after
copied_more pages each i page frame changes after within at is added so =
    subst (λ (list : List (ℕ × List ℕ)). AreCopiesOf pages (take (i + 1) each) list) (sym added)
    (record {
      pages = map-append (λ (change : ℕ × List ℕ). change.0) changes ((page, frame) ∷ []) ∙ ap (λ (list : List ℕ). list ++ page ∷ []) so.pages
          ∙ ap (λ (p : ℕ). take i each ++ p ∷ []) at ∙ sym (take_more each i page within);
      frames = λ change inside.
          ⊎_elim (λ before. so.frames change before) (λ last. subst (λ (c : ℕ × List ℕ). frame_in pages c.0 ≡ Some c.1) last is)
          (Contains-push_cases changes (page, frame) change inside);
    })

-- The pages that a sealed association has modified.

some_of_both : {X : Type 0} (p q : X → Bool) (xs : List X) → list_any (λ x. p x && q x) xs ≡ true → list_any p xs ≡ true
some_of_both p q [] some = some
some_of_both p q (x ∷ xs) some = either (p x) (q x) (list_any (λ y. p y && q y) xs) (list_any p xs) (some_of_both p q xs) some
  where
    either : (first second rest of_rest : Bool) → (rest ≡ true → of_rest ≡ true) → ((first && second) || rest) ≡ true → (first || of_rest) ≡ true
    either true second rest of_rest more is = refl
    either false second rest of_rest more is = more is

not_both : (how : Phase) → is_sealed how ≡ true → is_gathering how ≡ true → ⊥
not_both Gathering sealed gathers = true≢false (sym sealed)
not_both Sealed sealed gathers = true≢false (sym gathers)
not_both Doubtful sealed gathers = true≢false (sym gathers)

some_there : {X : Type 0} (o : Option X) → is_some o ≡ true → (x : X) × (o ≡ Some x)
some_there None some = absurd (true≢false (sym some))
some_there (Some x) some = (x, refl)

module _ (hub : HubView) (lead : ℕ) (associations : AssociationsView) (members pages : List ℕ) (sound : IsSound hub) (client : IsClient lead)
    (of_trail : AreAssociationsOf associations hub.trail) (count : pages_in associations ≡ page_count hub) (of_lead : AreMembersOf associations lead members)
    (of_members : ArePagesOf associations members pages) where
  -- they are the modified ones
  pages_are : pages ≡ pages_modified_by hub.trail (association_of hub.trail lead)
  pages_are =
      of_members hub.trail (clients_recorded hub sound.stands) of_trail lead client (of_lead hub.trail of_trail)
      ∙ ap (pages_modified_by hub.trail) (of_lead hub.trail of_trail)

  each_modified : (page : ℕ) → Contains pages page → is_modified_by (association_of hub.trail lead) hub.trail page ≡ true
  each_modified page inside =
      sym (modified_is_listed hub.trail (association_of hub.trail lead) page) ∙ ap (is_listed page) (sym pages_are)
      ∙ list_any-from_Contains nat_eq_equiv page pages inside

  -- so the server has their frames
  pub each_framed : (page : ℕ) → Contains pages page → IsSome (frame_in hub.pages page)
  each_framed page inside =
      sound.formed.modified page
      (some_of_both (writes_page page) (λ (entry : Entry). has_member entry.who (association_of hub.trail lead)) (open_entries hub.trail) (each_modified page inside))

  pub each_within : PagesAreWithin associations pages → (page : ℕ) → Contains pages page → page < page_count hub
  each_within within page inside = subst (λ (n : ℕ). page < n) count (within page inside)

  module _ (sealed : is_some (sealed_in hub lead) ≡ true) where
    -- nobody holds a page for writing that a sealed association has modified
    unwritten : (page : ℕ) → is_modified_by (association_of hub.trail lead) hub.trail page ≡ true → HasNoOpenWriter (is_modified hub.trail) hub.pages page
    unwritten page modified who writes = absurd (not_both one.phase parts.1 quiet.0)
      where
        one : Stabilisation
        one = (some_there (sealed_in hub lead) sealed).0

        found : Contains hub.stabilisations one × (((one.lead == lead) && is_sealed one.phase) ≡ true)
        found = find_found (λ (o : Stabilisation). (o.lead == lead) && is_sealed o.phase) hub.stabilisations one (some_there (sealed_in hub lead) sealed).1

        parts : ((one.lead == lead) ≡ true) × (is_sealed one.phase ≡ true)
        parts = and_parts (one.lead == lead) (is_sealed one.phase) found.1

        right : right_in hub who page ≡ Some may.Write
        right = (writer_holds_to_write hub.pages.rights page who).0 writes

        write : (entry : Entry) × Contains (open_entries hub.trail) entry
            × ((writes_page page entry && has_member entry.who (association_of hub.trail lead)) ≡ true)
        write = some_passes (λ (entry : Entry). writes_page page entry && has_member entry.who (association_of hub.trail lead)) (open_entries hub.trail) modified

        of_write : (writes_page page write.0 ≡ true) × (has_member write.0.who (association_of hub.trail lead) ≡ true)
        of_write = and_parts (writes_page page write.0) (has_member write.0.who (association_of hub.trail lead)) write.2

        member : has_member who (association_of hub.trail lead) ≡ true
        member =
            association_goes_on hub.trail lead write.0.who who of_write.1
            (association_goes_both_ways hub.trail who write.0.who (with_writers hub sound.stands who page may.Write right write.0 write.1 of_write.0))

        good : StandsFor hub
        good = stands_for hub sound.stands

        quiet : (is_gathering one.phase ≡ true) × (has_member who one.awaited ≡ true)
        quiet =
            good.good.frozen.quiet one (subst (λ (list : List Stabilisation). Contains list one) (sym good.shows.stabilisations) found.0) who page
            (ap (λ (items : List Item). has_member who (association_of items one.lead)) good.shows.trail
            ∙ ap (λ (n : ℕ). has_member who (association_of hub.trail n)) (eqb-true one.lead lead parts.0) ∙ member)
            (good.shows.rights who page may.Write ∙ ap (λ o. permits o may.Write) right)

    copied_words : (base : List (List ℕ)) → FramesAreRight base hub → (change : ℕ × List ℕ)
        → is_modified_by (association_of hub.trail lead) hub.trail change.0 ≡ true → frame_in hub.pages change.0 ≡ Some change.1
        → AreWords (live_value base hub) change.0 change.1
    copied_words base frames change modified is =
        subst
        (λ (o : Option (List ℕ)). MatchOption o ((word : ℕ) → word < 512 → live_value base hub change.0 word ≡ stored_value base hub change.0 word)
        (λ words. AreWords (live_value base hub) change.0 words)) is
        (frames change.0 (unwritten change.0 modified))

    -- copies of them are the job
    pub copies_are_job : (changes : List (ℕ × List ℕ)) (job : JobView) → PagesAreWithin associations pages → IsStrictlyIncreasing pages
        → AreCopiesOf hub.pages pages changes → job.lead ≡ lead → job.changes ≡ changes → IsJobOf hub lead job
    copies_are_job changes job within rises copies leads are =
        record {
          lead = leads;
          pages = ap pages_of are ∙ copies.pages ∙ pages_are;
          rising = subst (λ (list : List ℕ). IsStrictlyIncreasing list) (sym (ap pages_of are ∙ copies.pages)) rises;
          within = subst (λ (list : List (ℕ × List ℕ)). All (λ (change : ℕ × List ℕ). change.0 < page_count hub) list) (sym are)
              (λ k d below. let inside = All-contains_itself changes k d below in each_within within (get_or changes k d).0 (page_inside (get_or changes k d) inside));
          words = λ base frames change inside.
              let copied = subst (λ (list : List (ℕ × List ℕ)). Contains list change) are inside in
              copied_words base frames change (each_modified change.0 (page_inside change copied)) (copies.frames change copied);
        }
      where
        page_inside : (change : ℕ × List ℕ) → Contains changes change → Contains pages change.0
        page_inside change inside =
            subst (λ (list : List ℕ). Contains list change.0) copies.pages (contains_mapped (λ (c : ℕ × List ℕ). c.0) changes change inside)
