use Rattle.std.proofs.Common.{◌≡◌, ◌<◌, ℕ, List, Bool, true, false, refl, sym, ap, ◌∙◌, subst, true≢false}
use Rattle.std.specs.Prelude.{Option, None, Some, is_some}
use Rattle.casper_trail.specs.Association.{association_of}
use Rattle.casper_trail.specs.Image.{image_of, image_with}
use Rattle.casper_trail.specs.Modified.{is_modified}
use Rattle.casper_trail.specs.Parts.{stable_entries, stable_or_open_of}
use Rattle.casper_trail.specs.Value.{IsArray}
use Rattle.casper_trail.proofs.Pages.{image_of_other_page, unmodified_page}
use Rattle.casper_trail.proofs.Values.{array_keeps_shape, array_has_values}
use Rattle.casper_disk.specs.Vault.{page_at}
use Rattle.casper_model.specs.declared.outcome.Outcome.{Outcome}
use Rattle.casper_model.specs.declared.outcome.Outcome.TheVariants as outcome
use Rattle.casper_model.specs.State.{State, Unfinished}
use Rattle.casper_laws.specs.StoredImage.{image_due, image_by}
use Rattle.casper_hub.specs.HubView.{HubView, page_count, frame_in}
use Rattle.casper_hub.specs.Sound.{IsSound}
use Rattle.casper_hub.specs.Words.{IsStored}
use Rattle.casper_core.specs.CoreView.{CoreView}
use Rattle.casper_core.specs.Loading.{AreStored}
use Rattle.casper_core.specs.Represents.{Represents}

-- a page of which the server has no frame is not modified
pub clean_unframed : (hub : HubView) → IsSound hub → (page : ℕ) → frame_in hub.pages page ≡ None → is_modified hub.trail page ≡ false
clean_unframed hub sound page none = by (is_modified hub.trail page) refl
  where
    by : (modified : Bool) → is_modified hub.trail page ≡ modified → modified ≡ false
    by false is = refl
    by true is = absurd (true≢false (sym (sound.formed.modified page is) ∙ ap is_some none))

-- A vault with the image that is due has the pages that are not modified as they are stable.

module _ (base : List (List ℕ)) (hub : HubView) (page : ℕ) (shape : IsArray (page_count hub) base) (inside : page < page_count hub) where
  stable_page : IsStored base hub page (page_at (image_of base hub.trail) page)
  stable_page = record {
    long = (array_keeps_shape (page_count hub) base (stable_entries hub.trail) shape).words page inside;
    each = λ word below. array_has_values (page_count hub) base (stable_entries hub.trail) page word shape inside below;
  }

  -- also with an association that has not written the page
  other_page : (lead : ℕ) → is_modified hub.trail page ≡ false → IsStored base hub page (page_at (image_with base hub.trail lead) page)
  other_page lead clean = record {
    long = (array_keeps_shape (page_count hub) base (stable_or_open_of (association_of hub.trail lead) hub.trail) shape).words page inside;
    each = λ word below.
        image_of_other_page (page_count hub) base hub.trail lead page word shape inside below (λ write there writes. absurd (unmodified_page hub.trail page clean write there writes))
        ∙ stable_page.each word below;
  }

  by_outcome : (lead : ℕ) (how : Outcome) → is_modified hub.trail page ≡ false → IsStored base hub page (page_at (image_by base hub.trail lead how) page)
  by_outcome lead (outcome.Ok version) clean = other_page lead clean
  by_outcome lead (outcome.Full need free) clean = stable_page
  by_outcome lead outcome.Worn clean = stable_page
  by_outcome lead outcome.Disk clean = stable_page
  by_outcome lead outcome.Doubt clean = stable_page

-- the image that is due, by what is unfinished
due_page : (state : State) (hub : HubView) (page : ℕ) → IsArray (page_count hub) state.base → state.shared.trail ≡ hub.trail → page < page_count hub
    → is_modified hub.trail page ≡ false → (unfinished : Option Unfinished) → IsStored state.base hub page (page_at (image_due state unfinished) page)
due_page state hub page shape same inside clean None =
    subst (λ trail. IsStored state.base hub page (page_at (image_of state.base trail) page)) (sym same) (stable_page state.base hub page shape inside)
due_page state hub page shape same inside clean (Some one) =
    subst (λ trail. IsStored state.base hub page (page_at (image_by state.base trail one.lead one.outcome) page)) (sym same)
    (by_outcome state.base hub page shape inside one.lead one.outcome clean)

pub stored_of : {V : Type 0} (state : State) (core : CoreView V) → Represents state core → AreStored state.base core.hub core.told.image
stored_of state core stands page inside clean =
    let shape : IsArray (page_count core.hub) state.base = subst (λ pages. IsArray pages state.base) stands.parts.pages stands.image.shape in
    subst (λ image. IsStored state.base core.hub page (page_at image page))
    (sym stands.image.image ∙ ap (λ vault. vault.image) stands.parts.vault)
    (due_page state core.hub page shape stands.parts.shared.trail inside clean state.unfinished)
