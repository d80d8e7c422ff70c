use Rattle.std.proofs.Common.{◌≡◌, ◌<◌, ℕ, List, [], ◌∷◌, map, refl, sym, ap, ◌∙◌, subst}
use Rattle.std.specs.Prelude.{slice_index_or, Contains}
use Rattle.std.proofs.lemmas.List.{ext_get_or}
use Rattle.casper_trail.specs.declared.item.Item.{Item}
use Rattle.casper_trail.specs.Image.{array_of}
use Rattle.casper_trail.specs.Parts.{live_entries}
use Rattle.casper_trail.specs.Value.{IsArray, value_of}
use Rattle.casper_trail.proofs.Values.{array_keeps_shape, array_has_values}
use Rattle.casper_turns.proofs.Lists.{map_alike}
use Rattle.casper_space.specs.Changes.{Change}
use Rattle.casper_disk.specs.Vault.{as_changes}
use Rattle.casper_hub.specs.Words.{AreWords}

-- The pages of a job with their words are the changes that the machine writes out.

-- a map of a map
pub map_map : {A B C : Type 0} (f : B → C) (g : A → B) (xs : List A) → map f (map g xs) ≡ map (λ x. f (g x)) xs
map_map f g [] = refl
map_map f g (x ∷ xs) = ap (λ rest. f (g x) ∷ rest) (map_map f g xs)

module _ (base : List (List ℕ)) (pages : ℕ) (shape : IsArray pages base) (trail : List Item) where
  abbrev of_page : ℕ → Change
  of_page page = record { page = page; words = slice_index_or (array_of base (live_entries trail)) page [] }

  -- words with the live values of a page are the page of the array
  right_page : (page : ℕ) (words : List ℕ) → page < pages → AreWords (λ page word. value_of base (live_entries trail) page word) page words
      → words ≡ slice_index_or (array_of base (live_entries trail)) page []
  right_page page words inside are =
      let long = (array_keeps_shape pages base (live_entries trail) shape).words page inside in
      ext_get_or 0 words (slice_index_or (array_of base (live_entries trail)) page []) (are.long ∙ sym long)
      (λ word below.
      let short = subst (λ count. word < count) are.long below in
      are.each word short ∙ sym (array_has_values pages base (live_entries trail) page word shape inside short))

  pub changes_of_job : (changes : List (ℕ × List ℕ)) (modified : List ℕ) → map (λ change. change.0) changes ≡ modified
      → ((change : ℕ × List ℕ) → Contains changes change → change.0 < pages)
      → ((change : ℕ × List ℕ) → Contains changes change → AreWords (λ page word. value_of base (live_entries trail) page word) change.0 change.1)
      → as_changes changes ≡ map (λ page. record { page = page; words = slice_index_or (array_of base (live_entries trail)) page [] }) modified
  changes_of_job changes modified is inside right =
      map_alike (λ (change : ℕ × List ℕ). record { page = change.0; words = change.1 }) (λ (change : ℕ × List ℕ). of_page change.0) changes
      (λ change among. ap (λ words. record { page = change.0; words = words }) (right_page change.0 change.1 (inside change among) (right change among)))
      ∙ sym (map_map of_page (λ (change : ℕ × List ℕ). change.0) changes)
      ∙ ap (map of_page) is
