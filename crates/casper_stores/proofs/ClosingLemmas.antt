use Rattle.std.proofs.Common.{◌≡◌, ◌∙◌, ℕ, Bool, List, refl, ap}
use Rattle.std.specs.Prelude.{IsTrue, Option, None, Some, Result, Ok, Err}
use Rattle.std.specs.Coded.{Coded, Coded-set, code_by, coded×, coded_ℕ, coded_list, coded_option}
use Rattle.std.proofs.Math.Logic.{∥∥₁_elim}
use Rattle.casper_disk.specs.Place.{Place, Standing}
use Rattle.casper_disk.specs.Record.{agrees_itself}
use Rattle.casper_root.specs.declared.fault.OpenFault.{OpenFault}
use Rattle.casper_stable.specs.Kept.{Kept, roots_in}
use Rattle.casper_stable.specs.Opened.{shown}
use Rattle.casper_stable.specs.Opens.{Store, opens}
use Rattle.casper_stable.specs.Sound.{IsHeld, IsKept, IsOnDisk}
use Rattle.casper_stable.specs.SoundLemmas.{sure_image}
use Rattle.casper_stores.specs.Stores.{store_under, store_or_fault}

store_code : Coded Store
store_code =
    code_by ((ℕ × ℕ) × ((List (List ℕ) × ℕ) × (ℕ × (List (Option ℕ) × ℕ))))
    (coded× (coded× coded_ℕ coded_ℕ) (coded× (coded× (coded_list (coded_list coded_ℕ)) coded_ℕ) (coded× coded_ℕ
    (coded× (coded_list (coded_option coded_ℕ)) coded_ℕ))))
    (λ store. (
      (store.header.pages, store.header.frames),
      (
        (store.saved.image, store.saved.version),
        (
          store.held.first_page,
          (store.held.places, store.held.frames),
        ),
      ),
    ))
    (λ parts. record {
      header = record { pages = parts.0.0; frames = parts.0.1 };
      saved = record { image = parts.1.0.0; version = parts.1.0.1 };
      held = record { first_page = parts.1.1.0; places = parts.1.1.1.0; frames = parts.1.1.1.1 };
    })
    (λ _. refl)

-- a store that some fact shows is found, whatever shows it
found_by : (found : Result Store OpenFault) (store : Store) (Fact : Type 0) → ∥ Fact ∥₁ → (Fact → found ≡ Ok store) → found ≡ Ok store
found_by (Ok other) store Fact some shows =
    ap Ok (∥∥₁_elim some (Coded-set store_code other store) (λ fact. let is = shows fact in cc))
found_by (Err refusal) store Fact some shows = absurd (∥∥₁_elim some (λ one other. absurd one) (λ fact. let is = shows fact in cc))

sure_opens : {D : Type 0} (content : D → List (List ℕ)) (loose : D → ℕ → Bool) (kept : Kept D) (doubt : Option _) → doubt ≡ None
    → IsOnDisk (roots_in kept) kept.held doubt (content kept.disk) (loose kept.disk)
    → opens (content kept.disk) ≡ Ok (shown content kept)
sure_opens content loose kept None sure is =
    sure_image (roots_in kept) kept.held (content kept.disk) (content kept.disk) (loose kept.disk) is
    (agrees_itself (loose kept.disk) (content kept.disk))
sure_opens content loose kept (Some plan) sure is = cc

-- the disk of a store without a doubt opens to what the store shows
pub closed_opens : {D : Type 0} (size : D → ℕ) (tells : Bool) (content : D → List (List ℕ)) (loose : D → ℕ → Bool) (kept : Kept D)
    → ∥ IsKept size kept × IsHeld tells content loose kept ∥₁ → IsTrue tells → kept.doubt ≡ None
    → opens (content kept.disk) ≡ Ok (shown content kept)
closed_opens size tells content loose kept stands told sure =
    found_by (opens (content kept.disk)) (shown content kept) (IsKept size kept × IsHeld tells content loose kept) stands
    (λ both. sure_opens content loose kept kept.doubt sure (both.1 told))

-- what is opened under a name where such a disk stands
pub opened_under : {D : Type 0} (content : D → List (List ℕ)) (place : Place D) (closed disk : D) (store : Store) → place ≡ Standing closed
    → closed ≡ disk → opens (content disk) ≡ Ok store → store_under content place ≡ Ok store
opened_under content place closed disk store stands same is =
    ap (store_under content) (stands ∙ ap Standing same) ∙ ap store_or_fault is
