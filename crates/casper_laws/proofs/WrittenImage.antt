use Rattle.std.proofs.Common.{◌≡◌, ◌≢◌, ◌⊎◌, ◌<◌, ℕ, List, [], ◌∷◌, Bool, true, false, ◌==◌, ◌&&◌, ◌||◌, cond, map, length, length-set, get_or-set_same, get_or-set_other, Contains, refl, sym, ap, ◌∙◌, subst, inl, inr}
use Rattle.std.specs.Prelude.{slice_index, slice_index_or, slice_set, nat_lt}
use Rattle.std.proofs.lemmas.Bool.{cond_both, cond-true, cases_eq, and_parts, and_from, or_left, eqb-true, eq-eqb, ne_eqb}
use Rattle.casper_words.specs.Crew.{has_member}
use Rattle.casper_trail.specs.declared.entry.Entry.{Entry}
use Rattle.casper_trail.specs.declared.item.Item.{Item}
use Rattle.casper_trail.specs.Value.{IsArray, word_at, is_write, writes_page}
use Rattle.casper_trail.specs.Parts.{live_entries, stable_entries, stable_or_open_of, open_entries}
use Rattle.casper_trail.specs.Clients.{AreOfClients}
use Rattle.casper_trail.specs.Association.{association_of}
use Rattle.casper_trail.specs.Image.{array_of, image_of, image_with}
use Rattle.casper_trail.proofs.Values.{array_keeps_shape, array_has_values, array_by_its_words}
use Rattle.casper_trail.proofs.Pages.{value_of_modified_page, image_of_other_page}
use Rattle.casper_trail.proofs.Links.{client_at as writer_is_client, one_association_a_page}
use Rattle.casper_trail.proofs.Rounds.{association_of_a_member, association_holds_its_client}
use Rattle.casper_space.specs.Rising.{with_number, with_numbers, rising}
use Rattle.casper_model.specs.Frozen.{open_writes_of, pages_modified_by}
use Rattle.casper_trail.specs.Modified.{is_modified_by}
use Rattle.casper_space.specs.Changes.{Change, with_changes}
use Rattle.casper_turns.proofs.Lists.{any_found, same_any, contains_map, contains_mapped, contains_filter, contains_filtered, any_of}
use Rattle.casper_turns.proofs.Touches.{writer_is_out}

-- changes of pages, each to words of its own
abbrev pub changes_to : (ℕ → List ℕ) → List ℕ → List Change
changes_to words pages = map (λ page. record { page = page; words = words page }) pages

pub length_changed : (words : ℕ → List ℕ) (pages : List ℕ) (image : List (List ℕ)) → length (with_changes image (changes_to words pages)) ≡ length image
length_changed words [] image = refl
length_changed words (page ∷ pages) image = length_changed words pages (slice_set image page (words page)) ∙ length-set image page (words page)

-- a page once these were changed
pub changed_page : (words : ℕ → List ℕ) (pages : List ℕ) (image : List (List ℕ)) (page : ℕ) → page < length image
    → slice_index_or (with_changes image (changes_to words pages)) page [] ≡ cond (has_member page pages) (words page) (slice_index_or image page [])
changed_page words [] image page below = refl
changed_page words (first ∷ pages) image page below =
    changed_page words pages (slice_set image first (words first)) page (subst (λ count. page < count) (sym (length-set image first (words first))) below)
    ∙ by_first (cases_eq first page)
  where
    by_first : (first ≡ page) ⊎ (first ≢ page)
        → cond (has_member page pages) (words page) (slice_index_or (slice_set image first (words first)) page [])
        ≡ cond ((first == page) || has_member page pages) (words page) (slice_index_or image page [])
    by_first (inl same) =
        cond_both (has_member page pages) (words page) (slice_index_or (slice_set image first (words first)) page []) (λ found. found ≡ words page) (λ is. refl)
        (λ is.
        ap (λ at. slice_index_or (slice_set image at (words at)) page []) same ∙ get_or-set_same image page (words page) [] below)
        ∙ sym (cond-true ((first == page) || has_member page pages) (words page) (slice_index_or image page [])
        (or_left (first == page) (has_member page pages) (eq-eqb first page same)))
    by_first (inr apart) =
        ap (λ other. cond (has_member page pages) (words page) other) (get_or-set_other image first page (words first) [] (λ same. apart (sym same)))
        ∙ ap (λ is. cond (is || has_member page pages) (words page) (slice_index_or image page [])) (sym (ne_eqb first page apart))

-- what stands in a rising list
twice : (x y : Bool) → (x || y) ≡ (x || (x || y))
twice true y = refl
twice false y = refl

swapped : (x y z : Bool) → (x || (y || z)) ≡ (y || (x || z))
swapped true true z = refl
swapped true false z = refl
swapped false true z = refl
swapped false false z = refl

moved : (x y z : Bool) → (x || (y || z)) ≡ ((y || x) || z)
moved true true z = refl
moved true false z = refl
moved false true z = refl
moved false false z = refl

member_with_number : (list : List ℕ) (number one : ℕ) → has_member one (with_number list number) ≡ ((number == one) || has_member one list)
member_with_number [] number one = refl
member_with_number (first ∷ rest) number one =
    let last = first ∷ with_number rest number in
    cond_both (first == number) (first ∷ rest) (cond (nat_lt number first) (number ∷ first ∷ rest) last)
    (λ list. has_member one list ≡ ((number == one) || ((first == one) || has_member one rest)))
    (λ same.
    let is : first ≡ number = eqb-true first number same in
    twice (first == one) (has_member one rest) ∙ ap (λ (at : ℕ). (at == one) || ((first == one) || has_member one rest)) is)
    (λ apart.
    cond_both (nat_lt number first) (number ∷ first ∷ rest) last (λ list. has_member one list ≡ ((number == one) || ((first == one) || has_member one rest)))
    (λ below. refl)
    (λ above.
    ap (λ (found : Bool). (first == one) || found) (member_with_number rest number one) ∙ swapped (first == one) (number == one) (has_member one rest)))

member_with_numbers : (numbers list : List ℕ) (one : ℕ) → has_member one (with_numbers list numbers) ≡ (has_member one numbers || has_member one list)
member_with_numbers [] list one = refl
member_with_numbers (number ∷ numbers) list one =
    member_with_numbers numbers (with_number list number) one
    ∙ ap (λ (found : Bool). has_member one numbers || found) (member_with_number list number one)
    ∙ moved (has_member one numbers) (number == one) (has_member one list)

or_false : (x : Bool) → (x || false) ≡ x
or_false true = refl
or_false false = refl

member_rising : (numbers : List ℕ) (one : ℕ) → has_member one (rising numbers) ≡ has_member one numbers
member_rising numbers one = member_with_numbers numbers [] one ∙ or_false (has_member one numbers)

-- the pages that an association modified
modified_member : (trail : List Item) (members : List ℕ) (page : ℕ) → has_member page (pages_modified_by trail members) ≡ is_modified_by members trail page
modified_member trail members page =
    member_rising (map (λ (entry : Entry). entry.page) (open_writes_of trail members)) page
    ∙ same_any (λ number. number == page) (map (λ (entry : Entry). entry.page) (open_writes_of trail members))
    (λ entry. writes_page page entry && has_member entry.who members) (open_entries trail)
    (λ found.
    let number = any_found (λ one. one == page) (map (λ (entry : Entry). entry.page) (open_writes_of trail members)) found in
    let entry = contains_map (λ (one : Entry). one.page) (open_writes_of trail members) number.0 number.1 in
    let is = contains_filter (λ (one : Entry). is_write one.op && has_member one.who members) (open_entries trail) entry.0 entry.1 in
    let parts = and_parts (is_write entry.0.op) (has_member entry.0.who members) is.1 in
    any_of (λ (one : Entry). writes_page page one && has_member one.who members) (open_entries trail) entry.0 is.0
    (and_from (writes_page page entry.0) (has_member entry.0.who members)
    (and_from (is_write entry.0.op) (entry.0.page == page) parts.0 (eq-eqb entry.0.page page (entry.2 ∙ eqb-true number.0 page number.2))) parts.1))
    (λ found.
    let entry = any_found (λ (one : Entry). writes_page page one && has_member one.who members) (open_entries trail) found in
    let parts = and_parts (writes_page page entry.0) (has_member entry.0.who members) entry.2 in
    let writes = and_parts (is_write entry.0.op) (entry.0.page == page) parts.0 in
    any_of (λ one. one == page) (map (λ (one : Entry). one.page) (open_writes_of trail members)) entry.0.page
    (contains_mapped (λ (one : Entry). one.page) (open_writes_of trail members) entry.0
    (contains_filtered (λ (one : Entry). is_write one.op && has_member one.who members) (open_entries trail) entry.0 entry.1
    (and_from (is_write entry.0.op) (has_member entry.0.who members) writes.0 parts.1)))
    writes.1)

module _ (base : List (List ℕ)) (trail : List Item) (lead : ℕ) (shape : IsArray (length base) base) (clients : AreOfClients trail) where
  -- each open write of a page that the association modified is of a member
  all_members : (page : ℕ) → is_modified_by (association_of trail lead) trail page ≡ true → (write : Entry) → Contains (open_entries trail) write
      → writes_page page write ≡ true → has_member write.who (association_of trail lead) ≡ true
  all_members page modified write inside writes =
      let found = any_found (λ (one : Entry). writes_page page one && has_member one.who (association_of trail lead)) (open_entries trail) modified in
      let parts = and_parts (writes_page page found.0) (has_member found.0.who (association_of trail lead)) found.2 in
      ap (has_member write.who)
      (sym (association_of_a_member trail lead found.0.who parts.1) ∙ sym (one_association_a_page trail page write found.0 clients inside found.1 writes parts.0))
      ∙ association_holds_its_client trail write.who (writer_is_client trail write inside.0 clients inside.1 inside.2)

  written_image : with_changes (image_of base trail) (changes_to (λ page. slice_index_or (array_of base (live_entries trail)) page []) (pages_modified_by trail (association_of trail lead)))
      ≡ image_with base trail lead
  written_image =
      array_by_its_words (length base) written (image_with base trail lead) written_shape
      (array_keeps_shape (length base) base (stable_or_open_of (association_of trail lead) trail) shape) words_agree
    where
      words : ℕ → List ℕ
      words page = slice_index_or (array_of base (live_entries trail)) page []

      pages : List ℕ
      pages = pages_modified_by trail (association_of trail lead)

      image : List (List ℕ)
      image = image_of base trail

      written : List (List ℕ)
      written = with_changes image (changes_to words pages)

      image_shape : IsArray (length base) image
      image_shape = array_keeps_shape (length base) base (stable_entries trail) shape

      live_shape : IsArray (length base) (array_of base (live_entries trail))
      live_shape = array_keeps_shape (length base) base (live_entries trail) shape

      page_is : (page : ℕ) → page < length base → slice_index_or written page [] ≡ cond (has_member page pages) (words page) (slice_index_or image page [])
      page_is page below = changed_page words pages image page (subst (λ count. page < count) (sym image_shape.count) below)

      written_shape : IsArray (length base) written
      written_shape = record {
        count = length_changed words pages image ∙ image_shape.count;
        words = λ page below.
            ap length (page_is page below)
            ∙ cond_both (has_member page pages) (words page) (slice_index_or image page []) (λ (list : List ℕ). length list ≡ 512) (λ is. live_shape.words page below)
            (λ is. image_shape.words page below);
      }

      words_agree : (page word : ℕ) → page < length base → word < 512 → word_at written page word ≡ word_at (image_with base trail lead) page word
      words_agree page word below inside =
          ap (λ (list : List ℕ). slice_index list word) (page_is page below)
          ∙ cond_both (has_member page pages) (words page) (slice_index_or image page [])
          (λ (list : List ℕ). slice_index list word ≡ word_at (image_with base trail lead) page word)
          (λ is.
          array_has_values (length base) base (live_entries trail) page word shape below inside
          ∙ sym (value_of_modified_page (length base) base trail lead page word shape below inside
          (all_members page (sym (modified_member trail (association_of trail lead) page) ∙ is))))
          (λ is.
          sym (image_of_other_page (length base) base trail lead page word shape below inside
          (λ write there writes.
          writer_is_out trail (association_of trail lead) page write (sym (modified_member trail (association_of trail lead) page) ∙ is) there writes)))

-- the stable image with the changes of a write-out is the image with the association
pub image_written : (base : List (List ℕ)) (trail : List Item) (lead : ℕ) → IsArray (length base) base → AreOfClients trail
    → with_changes (image_of base trail) (changes_to (λ page. slice_index_or (array_of base (live_entries trail)) page []) (pages_modified_by trail (association_of trail lead)))
    ≡ image_with base trail lead
image_written base trail lead shape clients = written_image base trail lead shape clients
