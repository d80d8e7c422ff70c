use Rattle.std.proofs.Common.{◌≡◌, ◌++◌, ℕ, List, [], ◌∷◌, true, false, not, cond, filter, refl, sym, ap, ◌∙◌, subst, true≢false, Contains}
use Rattle.std.specs.Prelude.{Option, None, IsSome}
use Rattle.std.proofs.lemmas.Bool.{false_from_ne_true, not-true}
use Rattle.casper_words.specs.Crew.{has_member}
use Rattle.casper_trail.specs.declared.entry.Entry.{Entry}
use Rattle.casper_trail.specs.declared.item.Item.{Item}
use Rattle.casper_trail.specs.declared.item.Item.TheVariants as item
use Rattle.casper_trail.specs.declared.mark.Mark.{Mark}
use Rattle.casper_trail.specs.Clients.{AreOfClients}
use Rattle.casper_trail.specs.Fate.{is_live, is_stable, members_of}
use Rattle.casper_trail.specs.Value.{value_of, writes_page}
use Rattle.casper_trail.specs.Parts.{live_entries, stable_entries, open_entries}
use Rattle.casper_trail.specs.Association.{association_of}
use Rattle.casper_trail.specs.Modified.{is_modified, is_modified_by}
use Rattle.casper_trail.specs.PageLaws.{OpenWritersPass}
use Rattle.casper_trail.proofs.Pages.{same_values, same_writes_of_a_page, value_after_mark, unmodified_page, page_of_others, page_of_association}
use Rattle.casper_trail.proofs.Parts.{open_after_mark}
use Rattle.casper_turns.proofs.Lists.{any_found, any_none, any_of, contains_filter, contains_filtered}
use Rattle.casper_hub.specs.HubView.{PagesView, frame_in}

-- The pages of a trail behind an exact mark.

-- a page without open writes has its stable values
clean_values : (base : List (List ℕ)) (items : List Item) (page word : ℕ) → OpenWritersPass items page (λ who. ⊥)
    → value_of base (live_entries items) page word ≡ value_of base (stable_entries items) page word
clean_values base items page word clean =
    same_values base (live_entries items) (stable_entries items) page word
    (same_writes_of_a_page (λ who fate. is_live fate) (λ who fate. is_stable fate) items page (λ who. refl) (λ who. refl)
    (λ write inside writes. absurd (clean write inside writes)))

-- the items with a mark
abbrev pub marked : List Item → Mark → List Item
marked items mark = items ++ item.Mark mark ∷ []

-- the mark is of the association of a client
module _ (items : List Item) (client : ℕ) (mark : Mark) (named : members_of mark ≡ association_of items client) where
  abbrev members : List ℕ
  members = association_of items client

  open_kept : open_entries (marked items mark) ≡ filter (λ (entry : Entry). not (has_member entry.who members)) (open_entries items)
  open_kept = open_after_mark items mark ∙ ap (λ (crew : List ℕ). filter (λ (entry : Entry). not (has_member entry.who crew)) (open_entries items)) named

  -- an open write behind the mark was open before, and is of no member
  open_behind : (write : Entry) → Contains (open_entries (marked items mark)) write → Contains (open_entries items) write × (has_member write.who members ≡ false)
  open_behind write inside =
      let kept = contains_filter (λ (entry : Entry). not (has_member entry.who members)) (open_entries items) write
      (subst (λ entries. Contains entries write) open_kept inside) in
      (kept.0, not-true (has_member write.who members) kept.1)

  -- a page that a member modified has its stable values behind the mark
  pub marked_values : (base : List (List ℕ)) (page word : ℕ) → AreOfClients items → is_modified_by members items page ≡ true
      → value_of base (live_entries (marked items mark)) page word ≡ value_of base (stable_entries (marked items mark)) page word
  marked_values base page word clients modified =
      clean_values base (marked items mark) page word
      (λ write inside writes.
      let before = open_behind write inside in
      true≢false (sym (page_of_association items client page clients modified write before.0 writes) ∙ before.1))

  -- a page that no member modified has the values that it had
  pub other_values : (base : List (List ℕ)) (page word : ℕ) → is_modified_by members items page ≡ false
      → value_of base (live_entries (marked items mark)) page word ≡ value_of base (live_entries items) page word
  other_values base page word others =
      value_after_mark base items mark page word
      (λ write inside writes. ap (has_member write.who) named ∙ page_of_others members items page others write inside writes)

  -- and is not modified where it is not behind the mark
  pub unmodified_before : (page : ℕ) → is_modified_by members items page ≡ false → is_modified (marked items mark) page ≡ false → is_modified items page ≡ false
  unmodified_before page others clean =
      any_none (writes_page page) (open_entries items)
      (λ write inside writes.
      unmodified_page (marked items mark) page clean write
      (subst (λ entries. Contains entries write) (sym open_kept)
      (contains_filtered (λ (entry : Entry). not (has_member entry.who members)) (open_entries items) write inside
      (ap not (page_of_others members items page others write inside writes))))
      writes)

  -- a page that is modified behind the mark was before, and by no member
  modified_before : (page : ℕ) → AreOfClients items → is_modified (marked items mark) page ≡ true → (is_modified items page ≡ true) × (is_modified_by members items page ≡ false)
  modified_before page clients modified =
      let found = any_found (writes_page page) (open_entries (marked items mark)) modified in
      let before = open_behind found.0 found.1 in (
        any_of (writes_page page) (open_entries items) found.0 before.0 found.2,
        false_from_ne_true (is_modified_by members items page)
            (λ by_member. true≢false (sym (page_of_association items client page clients by_member found.0 before.0 found.2) ∙ before.1)),
      )

  -- the server drops its frames of the pages that a member modified
  module _ (pages after : PagesView) (frames : (page : ℕ) → frame_in after page ≡ cond (is_modified_by members items page) None (frame_in pages page)) where
    -- it has its frame of each other page
    pub frame_of_others : (page : ℕ) → is_modified_by members items page ≡ false → IsSome (frame_in pages page) → IsSome (frame_in after page)
    frame_of_others page others is =
        subst (λ (o : Option (List ℕ)). IsSome o) (sym (frames page ∙ ap (λ b. cond b None (frame_in pages page)) others)) is

    -- so it has a frame of each page that is modified, where it had
    pub modified_framed : AreOfClients items → ((page : ℕ) → is_modified items page ≡ true → IsSome (frame_in pages page))
        → (page : ℕ) → is_modified (marked items mark) page ≡ true → IsSome (frame_in after page)
    modified_framed clients framed page modified =
        let before = modified_before page clients modified in frame_of_others page before.1 (framed page before.0)
