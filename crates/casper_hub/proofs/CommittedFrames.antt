use Rattle.std.proofs.Common.{◌≡◌, ◌<◌, ◌++◌, ℕ, List, [], ◌∷◌, Bool, true, false, ◌&&◌, ◌||◌, cond, refl, sym, ap, ◌∙◌, subst}
use Rattle.std.specs.Prelude.{Option, None, Some, MatchOption}
use Rattle.casper_words.specs.Crew.{has_member}
use Rattle.casper_trail.specs.declared.item.Item.{Item}
use Rattle.casper_trail.specs.declared.item.Item.TheVariants as item
use Rattle.casper_trail.specs.declared.mark.Mark.{Mark}
use Rattle.casper_trail.specs.declared.mark.Mark.TheVariants.{Commit}
use Rattle.casper_trail.specs.Fate.{is_open, is_stable}
use Rattle.casper_trail.specs.Value.{value_of}
use Rattle.casper_trail.specs.Parts.{live_entries, stable_entries, stable_or_open_of}
use Rattle.casper_trail.specs.Association.{association_of}
use Rattle.casper_trail.specs.Modified.{is_modified, is_modified_by}
use Rattle.casper_trail.proofs.Pages.{same_values, same_writes_of_a_page, page_of_others, stable_after_commit}
use Rattle.casper_dir.specs.declared.holders.Holders.{Holders}
use Rattle.casper_dir.specs.Rights.{writer_at}
use Rattle.casper_model.specs.Stabilisation.{Stabilisation}
use Rattle.casper_hub.specs.Committing.{Commits}
use Rattle.casper_hub.specs.HubView.{HubView, frame_in}
use Rattle.casper_hub.specs.Sound.{IsSound}
use Rattle.casper_hub.specs.Words.{live_value, stored_value, AreWords, HasNoOpenWriter, FramesAreRight}
use Rattle.casper_hub.proofs.KeptUp.{clients_recorded}
use Rattle.casper_hub.proofs.MarkedPages.{marked, marked_values, other_values, unmodified_before}
use Rattle.casper_hub.proofs.Relying.{same_words}

-- The frames of the server stay right as an association is made stable: those of the pages that it modified are dropped, and so is the lack
-- of each other.

-- a page that no member modified has the stable values that it had
stored_others : (base : List (List ℕ)) (items : List Item) (lead : ℕ) (members : List ℕ) (page word : ℕ) → is_modified_by members items page ≡ false
    → value_of base (stable_entries (items ++ item.Mark (Commit lead members) ∷ [])) page word ≡ value_of base (stable_entries items) page word
stored_others base items lead members page word others =
    ap (λ entries. value_of base entries page word) (stable_after_commit items lead members)
    ∙ same_values base (stable_or_open_of members items) (stable_entries items) page word
    (same_writes_of_a_page (λ who fate. is_stable fate || (is_open fate && has_member who members)) (λ who fate. is_stable fate) items page (λ who. refl) (λ who. refl)
    (λ write inside writes. page_of_others members items page others write inside writes))

module _ (base : List (List ℕ)) (one : Stabilisation) (hub after : HubView) (commits : Commits one hub after) (sound : IsSound hub) where
  abbrev members : List ℕ
  members = association_of hub.trail one.lead

  abbrev mark : Mark
  mark = Commit one.lead members

  -- the values in the trail with the mark are those of the hub after
  live_behind : (page word : ℕ) → live_value base after page word ≡ value_of base (live_entries (marked hub.trail mark)) page word
  live_behind page word = ap (λ items. value_of base (live_entries items) page word) commits.trail

  stored_behind : (page word : ℕ) → stored_value base after page word ≡ value_of base (stable_entries (marked hub.trail mark)) page word
  stored_behind page word = ap (λ items. value_of base (stable_entries items) page word) commits.trail

  -- a page without an open write of its writer behind the mark, and that no member modified, had none
  free_before : (page : ℕ) → is_modified_by members hub.trail page ≡ false → HasNoOpenWriter (is_modified after.trail) after.pages page
      → HasNoOpenWriter (is_modified hub.trail) hub.pages page
  free_before page others none writer is =
      unmodified_before hub.trail one.lead mark refl page others
      (sym (ap (λ items. is_modified items page) commits.trail) ∙ none writer (ap (λ (rights : List Holders). writer_at rights page) commits.rights ∙ is))

  pub frames_committed : FramesAreRight base hub → FramesAreRight base after
  frames_committed right page none =
      subst
      (λ (o : Option (List ℕ)). MatchOption o ((word : ℕ) → word < 512 → live_value base after page word ≡ stored_value base after page word) (λ words. AreWords (live_value base after) page words))
      (sym (commits.frames page)) (by_modified (is_modified_by members hub.trail page) refl)
    where
      of_frame : (o : Option (List ℕ)) → is_modified_by members hub.trail page ≡ false
          → MatchOption o ((word : ℕ) → word < 512 → live_value base hub page word ≡ stored_value base hub page word) (λ words. AreWords (live_value base hub) page words)
          → MatchOption o ((word : ℕ) → word < 512 → live_value base after page word ≡ stored_value base after page word) (λ words. AreWords (live_value base after) page words)
      of_frame None others are = λ word below.
          live_behind page word ∙ other_values hub.trail one.lead mark refl base page word others ∙ are word below
          ∙ sym (stored_behind page word ∙ stored_others base hub.trail one.lead members page word others)
      of_frame (Some words) others are =
          same_words (live_value base hub) (live_value base after) page words
          (λ word. sym (live_behind page word ∙ other_values hub.trail one.lead mark refl base page word others)) are

      by_modified : (b : Bool) → is_modified_by members hub.trail page ≡ b
          → MatchOption (cond b None (frame_in hub.pages page)) ((word : ℕ) → word < 512 → live_value base after page word ≡ stored_value base after page word)
          (λ words. AreWords (live_value base after) page words)
      by_modified true modified = λ word below.
          live_behind page word ∙ marked_values hub.trail one.lead mark refl base page word (clients_recorded hub sound.stands) modified ∙ sym (stored_behind page word)
      by_modified false others = of_frame (frame_in hub.pages page) others (right page (free_before page others none))
