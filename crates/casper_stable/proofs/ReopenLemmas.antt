use Rattle.std.proofs.Common.{◌≡◌, ◌≤◌, ◌∙◌, ℕ, Bool, List, refl, sym, ap, subst, ⊎_elim, inl, inr, arith}
use Rattle.std.specs.Prelude.{IsTrue, Option, Some, None, Result, Ok, Err, option_map}
use Rattle.casper_disk.specs.Disk.{AgreesBut, Took, none_loose}
use Rattle.casper_disk.specs.Vault.{IsOldOrNewImage, Saved, changes_in, version_settled}
use Rattle.casper_disk.specs.Record.{agrees_itself}
use Rattle.casper_reopen.specs.Reopening.{IsOfTheOutside}
use Rattle.casper_root.specs.declared.fault.OpenFault.{OpenFault}
use Rattle.casper_root.specs.declared.header.Header.{Header}
use Rattle.casper_root.specs.declared.roots.Roots.{Roots}
use Rattle.casper_map.specs.Mapped.{Mapped}
use Rattle.casper_map.specs.Planned.{Planned}
use Rattle.casper_stable.specs.Kept.{Kept, changes_written, doubt_of, image_of, roots_in, roots_of}
use Rattle.casper_stable.specs.Leaves.{Leaves, IsLeftBy}
use Rattle.casper_stable.specs.LeavesLemmas.{saved_is, took_saved}
use Rattle.casper_stable.specs.Opened.{AddsNoWrites, IsRefusalOf, OpenTo}
use Rattle.casper_stable.specs.Opens.{Store, opens, pages_in, store_at, store_of, store_with}
use Rattle.casper_stable.specs.OpensLemmas.{next_store}
use Rattle.casper_stable.specs.Sound.{IsFit, IsHeld, IsKept, IsOnDisk, IsSure}
use Rattle.casper_stable.specs.SoundLemmas.{doubtful_image, sure_image}
use Rattle.casper_stable.proofs.OpeningLemmas.{sure_opened}

-- A store that is opened again where it stands.

-- what an image that the disk may leave holds is the old pages, or those with the changes in doubt
pub left_settled : (size : ℕ) (roots : Roots) (held : Mapped) (doubt : Option Planned) (content image : List (List ℕ)) (loose : ℕ → Bool) (saved : Saved) → IsFit size roots held doubt
    → IsOnDisk roots held doubt content loose → AgreesBut loose content image → IsLeftBy (opens image) saved
    → IsOldOrNewImage (pages_in content held) roots.body.seq (changes_in (option_map (changes_written content) doubt))
    (version_settled (option_map (changes_written content) doubt) roots.body.seq) saved
left_settled size roots held None content image loose saved fit is agrees left =
    inl (saved_is image (store_of content roots held) saved (sure_image roots held content image loose is agrees) left)
left_settled size roots held (Some plan) content image loose saved fit is agrees left =
    ⊎_elim (λ old. inl (saved_is image (store_of content roots held) saved old left))
    (λ new. inr (saved_is image (next_store content content roots held plan) saved new left))
    (doubtful_image size roots held plan content image loose fit.fits fit.whole (fit.planned plan refl) (fit.next plan refl) is agrees)

-- what the content opens to: a store of the same sizes, whose version is no lower
pub record OpensOn (roots : Roots) (content : List (List ℕ)) : Type 0 where
  pub store : Store
  pub opens_to : opens content ≡ Ok store
  pub header : store.header ≡ roots.header
  pub version : roots.body.seq ≤ store.saved.version

pub content_opens : (size : ℕ) (roots : Roots) (held : Mapped) (doubt : Option Planned) (content : List (List ℕ)) (loose : ℕ → Bool) → IsFit size roots held doubt
    → IsOnDisk roots held doubt content loose → OpensOn roots content
content_opens size roots held None content loose fit is = record {
  store = store_of content roots held;
  opens_to = sure_image roots held content content loose is (agrees_itself loose content);
  header = refl;
  version = omega arith;
}
content_opens size roots held (Some plan) content loose fit is =
    ⊎_elim
    (λ old. record { store = store_of content roots held; opens_to = old; header = refl; version = omega arith })
    (λ new. record { store = next_store content content roots held plan; opens_to = new; header = refl; version = omega arith })
    (doubtful_image size roots held plan content content loose fit.fits fit.whole (fit.planned plan refl) (fit.next plan refl) is (agrees_itself loose content))

same_store : (one other : Store) → ◌≡◌ {A = Result Store OpenFault} (Ok one) (Ok other) → one ≡ other
same_store one other is = cc

-- so it is with whatever the content opens to
pub opened_header : (roots : Roots) (content : List (List ℕ)) (store : Store) → OpensOn roots content → opens content ≡ Ok store → store.header ≡ roots.header
opened_header roots content store on is = ap (λ (one : Store). one.header) (same_store store on.store (sym is ∙ on.opens_to)) ∙ on.header

pub opened_version : (roots : Roots) (content : List (List ℕ)) (store : Store) → OpensOn roots content → opens content ≡ Ok store → roots.body.seq ≤ store.saved.version
opened_version roots content store on is = subst (λ (one : Store). roots.body.seq ≤ one.saved.version) (same_store on.store store (sym on.opens_to ∙ is)) on.version

-- and a fault is no refusal of it
pub none_refused : (roots : Roots) (content : List (List ℕ)) (why : OpenFault) → OpensOn roots content → IsRefusalOf (opens content) why → IsOfTheOutside why
none_refused roots content why on refused =
    ⊎_elim
    (λ is. absurd (never on.store why (sym on.opens_to ∙ is)))
    (λ outside. ⊎_elim (λ disk. inr disk) (λ memory. inl memory) outside)
    refused
  where
    never : (store : Store) (fault : OpenFault) → ◌≡◌ {A = Result Store OpenFault} (Ok store) (Err fault) → ⊥
    never store fault is = cc

-- what a stop since the start of a call leaves that writes nothing: the pages as they were, or with the changes in doubt
abbrev pub LeavesSettled : {D : Type 0} → (D → List (List ℕ)) → (D → ℕ) → (D → ℕ → List (List ℕ) → Type 0) → D → Kept D → Type 0
LeavesSettled content moment images_since after kept =
    Took (moment kept.disk) (moment after) (λ past. Leaves (images_since kept.disk past)) (λ past. Leaves (images_since after past))
    (IsOldOrNewImage (image_of content kept) kept.body.seq (changes_in (doubt_of content kept)) (version_settled (doubt_of content kept) kept.body.seq))

pub took_settled : {D : Type 0} (size : D → ℕ) (tells : Bool) (content : D → List (List ℕ)) (loose : D → ℕ → Bool) (moment : D → ℕ) (images_since : D → ℕ → List (List ℕ) → Type 0)
    (kept : Kept D) (after : D) → IsKept size kept → IsHeld tells content loose kept → IsTrue tells
    → AddsNoWrites content loose moment images_since kept.disk after → LeavesSettled content moment images_since after kept
took_settled size tells content loose moment images_since kept after fit holds told adds =
    took_saved (moment kept.disk) (moment after) (images_since kept.disk) (images_since after) (AgreesBut (loose kept.disk) (content kept.disk))
    (IsOldOrNewImage (image_of content kept) kept.body.seq (changes_in (doubt_of content kept)) (version_settled (doubt_of content kept) kept.body.seq))
    (λ blocks saved agrees left.
    left_settled (size kept.disk) (roots_in kept) kept.held kept.doubt (content kept.disk) blocks (loose kept.disk) saved fit (holds told) agrees left) adds

-- what a store's disk holds opens
pub kept_opens : {D : Type 0} (size : D → ℕ) (tells : Bool) (content : D → List (List ℕ)) (loose : D → ℕ → Bool) (kept : Kept D) → IsKept size kept → IsHeld tells content loose kept
    → IsTrue tells → OpensOn (roots_in kept) (content kept.disk)
kept_opens size tells content loose kept fit holds told =
    content_opens (size kept.disk) (roots_in kept) kept.held kept.doubt (content kept.disk) (loose kept.disk) fit (holds told)

-- what was found is what blocks open to
pub found_opens : (content : List (List ℕ)) (roots : Roots) (held : Mapped) → OpenTo content roots held → opens content ≡ Ok (store_of content roots held)
found_opens content roots held found = ap (store_at content) found.opens ∙ ap (store_with content roots) found.map

-- sizes that are the same are one header
pub header_same : (one other : Header) → one.pages ≡ other.pages → one.frames ≡ other.frames → one ≡ other
header_same one other pages frames =
    let with_pages : ℕ → Header = λ count. record { pages = count; frames = one.frames } in
    let with_frames : ℕ → Header = λ count. record { pages = other.pages; frames = count } in
    ap with_pages pages ∙ ap with_frames frames

-- a store that takes what was found is on the disk
pub found_fits : (size : ℕ) (roots : Roots) (header : Header) (held : Mapped) → roots.header ≡ header → IsFit size roots held None
    → IsFit size (roots_of header (record { slot = roots.slot; spare_closed = roots.spare_closed }) roots.body) held None
found_fits size roots header held same fits =
    subst (λ (sizes : Header). IsFit size (roots_of sizes (record { slot = roots.slot; spare_closed = roots.spare_closed }) roots.body) held None) same fits

pub found_sure : (roots : Roots) (header : Header) (held : Mapped) (content after : List (List ℕ)) (loose : ℕ → Bool) → roots.header ≡ header → OpenTo content roots held
    → after ≡ content → loose ≡ none_loose → IsSure (roots_of header (record { slot = roots.slot; spare_closed = roots.spare_closed }) roots.body) held after loose
found_sure roots header held content after loose same found stays none =
    subst (λ (sizes : Header). IsSure (roots_of sizes (record { slot = roots.slot; spare_closed = roots.spare_closed }) roots.body) held after loose) same
    (sure_opened after roots held loose (subst (λ (blocks : List (List ℕ)). OpenTo blocks roots held) (sym stays) found) none)
