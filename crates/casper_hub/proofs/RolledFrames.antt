use Rattle.std.proofs.Common.{◌≡◌, ◌<◌, ℕ, List, [], ◌∷◌, Bool, true, false, cond, refl, sym, ap, ◌∙◌, subst, ⊎_elim}
use Rattle.std.specs.Prelude.{Option, None, Some, is_some, MatchOption}
use Rattle.std.proofs.lemmas.Bool.{cases_Bool}
use Rattle.casper_words.specs.Crew.{has_member}
use Rattle.casper_trail.specs.declared.item.Item.TheVariants as item
use Rattle.casper_trail.specs.declared.mark.Mark.{Mark}
use Rattle.casper_trail.specs.declared.mark.Mark.TheVariants.{Rollback}
use Rattle.casper_trail.specs.Clients.{AreOfClients}
use Rattle.casper_trail.specs.Value.{value_of}
use Rattle.casper_trail.specs.Parts.{live_entries, stable_entries}
use Rattle.casper_trail.specs.Association.{association_of}
use Rattle.casper_trail.specs.Modified.{is_modified, is_modified_by}
use Rattle.casper_trail.proofs.Images.{stable_without_commit}
use Rattle.casper_dir.proofs.EqualRights.{writer_holds_to_write}
use Rattle.casper_hub.specs.HubView.{HubView, frame_in}
use Rattle.casper_hub.specs.RollingBack.{RollsBack}
use Rattle.casper_hub.specs.Sound.{IsSound}
use Rattle.casper_hub.specs.Words.{live_value, stored_value, AreWords, HasNoOpenWriter, FramesAreRight}
use Rattle.casper_hub.proofs.Giving.{writer_stays}
use Rattle.casper_hub.proofs.MarkedPages.{marked, marked_values, other_values, unmodified_before}
use Rattle.casper_hub.proofs.Relying.{same_words}
use Rattle.casper_hub.proofs.Holders.{unmodified_for_member}
use Rattle.casper_hub.proofs.RolledBack.{not_revoked}
use Rattle.casper_hub.proofs.StandsFor.{stands_for}

-- The frames of the server stay right as an association is rolled back: those of the pages that it modified are dropped, and all others
-- have the values that they had.

module _ (base : List (List ℕ)) (lost : ℕ) (hub after : HubView) (rolls : RollsBack lost hub after) (sound : IsSound hub) where
  abbrev members : List ℕ
  members = association_of hub.trail lost

  clients : AreOfClients hub.trail
  clients = let stands = stands_for hub sound.stands in subst AreOfClients stands.shows.trail stands.good.exact.clients

  abbrev mark : Mark
  mark = Rollback lost members

  -- the values in the trail with the mark are those of the hub after
  live_behind : (page word : ℕ) → live_value base after page word ≡ value_of base (live_entries (marked hub.trail mark)) page word
  live_behind page word = ap (λ items. value_of base (live_entries items) page word) rolls.trail

  stored_behind : (page word : ℕ) → stored_value base after page word ≡ value_of base (stable_entries (marked hub.trail mark)) page word
  stored_behind page word = ap (λ items. value_of base (stable_entries items) page word) rolls.trail

  -- a page that had an open write of its writer, and that no member modified, has it still
  free_before : (page : ℕ) → is_modified_by members hub.trail page ≡ false → HasNoOpenWriter (is_modified after.trail) after.pages page
      → HasNoOpenWriter (is_modified hub.trail) hub.pages page
  free_before page others none writer is =
      ⊎_elim
      (λ member. unmodified_for_member lost hub sound writer page (ap is_some ((writer_holds_to_write hub.pages.rights page writer).0 is)) member others)
      (λ out.
      unmodified_before hub.trail lost mark refl page others
      (sym (ap (λ items. is_modified items page) rolls.trail)
      ∙ none writer (writer_stays hub.pages.rights after.pages.rights page writer sound.formed.holders (λ client. not_revoked lost hub after rolls sound writer page out) is)))
      (cases_Bool (has_member writer members))

  pub frames_rolled_back : FramesAreRight base hub → FramesAreRight base after
  frames_rolled_back right page none =
      subst
      (λ (o : Option (List ℕ)). MatchOption o ((word : ℕ) → word < 512 → live_value base after page word ≡ stored_value base after page word) (λ words. AreWords (live_value base after) page words))
      (sym (rolls.frames page)) (by_modified (is_modified_by members hub.trail page) refl)
    where
      of_frame : (o : Option (List ℕ)) → is_modified_by members hub.trail page ≡ false
          → MatchOption o ((word : ℕ) → word < 512 → live_value base hub page word ≡ stored_value base hub page word) (λ words. AreWords (live_value base hub) page words)
          → MatchOption o ((word : ℕ) → word < 512 → live_value base after page word ≡ stored_value base after page word) (λ words. AreWords (live_value base after) page words)
      of_frame None others are = λ word below.
          live_behind page word ∙ other_values hub.trail lost mark refl base page word others ∙ are word below
          ∙ sym (stored_behind page word
          ∙ ap (λ entries. value_of base entries page word) (stable_without_commit hub.trail (item.Mark (Rollback lost members) ∷ []) refl))
      of_frame (Some words) others are =
          same_words (live_value base hub) (live_value base after) page words (λ word. sym (live_behind page word ∙ other_values hub.trail lost mark refl base page word others)) are

      by_modified : (b : Bool) → is_modified_by members hub.trail page ≡ b
          → MatchOption (cond b None (frame_in hub.pages page)) ((word : ℕ) → word < 512 → live_value base after page word ≡ stored_value base after page word)
          (λ words. AreWords (live_value base after) page words)
      by_modified true modified = λ word below. live_behind page word ∙ marked_values hub.trail lost mark refl base page word clients modified ∙ sym (stored_behind page word)
      by_modified false others = of_frame (frame_in hub.pages page) others (right page (free_before page others none))
