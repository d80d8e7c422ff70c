use Rattle.std.proofs.Common.{◌≡◌, ℕ, List, true, false, ◌&&◌, sym, ap, ◌∙◌, subst, true≢false}
use Rattle.std.specs.Prelude.{IsSome}
use Rattle.std.proofs.lemmas.Bool.{and_parts}
use Rattle.casper_words.specs.Crew.{has_member}
use Rattle.casper_words.specs.declared.page.Right.TheVariants as may
use Rattle.casper_trail.specs.declared.entry.Entry.{Entry}
use Rattle.casper_trail.specs.Value.{writes_page}
use Rattle.casper_trail.specs.Parts.{open_entries}
use Rattle.casper_trail.specs.Association.{association_of}
use Rattle.casper_trail.specs.GrowthLaws.{WritersAreWith}
use Rattle.casper_trail.specs.Modified.{is_modified, is_modified_by}
use Rattle.casper_trail.proofs.Pages.{page_of_others}
use Rattle.casper_trail.proofs.Rounds.{association_goes_both_ways, association_of_a_member}
use Rattle.casper_turns.proofs.Lists.{any_found, any_none}
use Rattle.casper_hub.specs.HubView.{HubView, right_in}
use Rattle.casper_hub.specs.Sound.{IsSound}
use Rattle.casper_hub.proofs.Relying.{some_reads}
use Rattle.casper_hub.proofs.StandsFor.{stands_for}

-- Who holds a page that an association modified.

module _ (lost : ℕ) (hub : HubView) (sound : IsSound hub) where
  abbrev members : List ℕ
  members = association_of hub.trail lost

  -- the open writes of a page are of the association of each client that has a right to it
  writers_with_holder : (who page : ℕ) → IsSome (right_in hub who page) → WritersAreWith hub.trail page who
  writers_with_holder who page has =
      let stands = stands_for hub sound.stands in
      subst (λ items. WritersAreWith items page who) stands.shows.trail
      (stands.good.writers who page (stands.shows.rights who page may.Read ∙ some_reads (right_in hub who page) has))

  -- so who has a right to a page that a member modified is a member
  pub holder_is_member : (who page : ℕ) → IsSome (right_in hub who page) → is_modified_by members hub.trail page ≡ true → has_member who members ≡ true
  holder_is_member who page has modified =
      let found = any_found (λ (entry : Entry). writes_page page entry && has_member entry.who members) (open_entries hub.trail) modified in
      let write : Entry = found.0 in
      let parts = and_parts (writes_page page write) (has_member write.who members) found.2 in
      ap (has_member who) (sym (association_of_a_member hub.trail lost write.who parts.1))
      ∙ association_goes_both_ways hub.trail who write.who (writers_with_holder who page has write found.1 parts.0)

  -- and a page to which a member has a right is not modified where no member modified it
  pub unmodified_for_member : (who page : ℕ) → IsSome (right_in hub who page) → has_member who members ≡ true → is_modified_by members hub.trail page ≡ false
      → is_modified hub.trail page ≡ false
  unmodified_for_member who page has member others =
      any_none (writes_page page) (open_entries hub.trail)
      (λ write inside writes.
      true≢false
      (sym (writers_with_holder who page has write inside writes) ∙ ap (has_member write.who) (association_of_a_member hub.trail lost who member)
      ∙ page_of_others members hub.trail page others write inside writes))
