use Rattle.std.proofs.Common.{◌≡◌, ◌∙◌, ◌+◌, ◌<◌, ℕ, Bool, List, [], length, refl, sym, ap, subst, inl, inr, ⊎_elim, arith, get_or}
use Rattle.std.specs.Prelude.{IsTrue, Option, None, Some, Result, Ok, Err, option_map}
use Rattle.std.specs.Coded.{Coded, Coded-set, code_by, coded×, coded_ℕ, coded_list}
use Rattle.std.proofs.Math.Logic.{∥∥₁_elim}
use Rattle.std.proofs.lemmas.Bool.Decides.{eqb_tells}
use Rattle.std.proofs.lemmas.List.{length-map, length-drop, length-replicate, get_or-map}
use Rattle.std.proofs.lemmas.List.FromFn.{length-map-range_with_len}
use Rattle.std.proofs.lemmas.Option.{none-some}
use Rattle.casper_disk.specs.Disk.{AgreesBut}
use Rattle.casper_disk.specs.Record.{agrees_itself}
use Rattle.casper_disk.specs.Vault.{Saved, IsOldOrNewImage, page_at}
use Rattle.casper_space.specs.Changes.{Change}
use Rattle.casper_words.specs.BlockWords.{words_of_block, word_at}
use Rattle.casper_root.specs.declared.fault.OpenFault.{OpenFault}
use Rattle.casper_root.specs.declared.roots.Roots.{Roots}
use Rattle.casper_map.specs.Levels.{block_in, one_reader, page_in}
use Rattle.casper_map.specs.Mapped.{Mapped, page_count, page_frames}
use Rattle.casper_map.specs.Planned.{Planned}
use Rattle.casper_stable.specs.Opens.{Store, opens, store_of, pages_in}
use Rattle.casper_stable.specs.Kept.{Kept, roots_in, image_of, doubt_of, changes_written}
use Rattle.casper_stable.specs.Leaves.{Leaves, KeptLeadsTo, IsLeftBy}
use Rattle.casper_stable.specs.Sound.{IsFit, IsOnDisk, IsHeld, IsKept}
use Rattle.casper_stable.specs.LeavesLemmas.{saved_is, leaves_its}
use Rattle.casper_stable.specs.SoundLemmas.{sure_image, doubtful_image}

-- with more images more is left
pub leaves_more : {images more : List (List ℕ) → Type 0} {saved : Saved} → ((blocks : List (List ℕ)) → images blocks → more blocks)
    → Leaves images saved → Leaves more saved
leaves_more wider left = record { blocks = left.blocks; left = wider left.blocks left.left; leaves = left.leaves }

-- there are as many pages as places for them
pub image_count : (content : List (List ℕ)) (held : Mapped) → page_count held ≡ length (pages_in content held)
image_count content held = sym (length-map (page_frames held) (page_in one_reader content) ∙ length-drop held.first_page held.places)

page_long : (content : List (List ℕ)) (place : Option ℕ) → length (page_in one_reader content place) ≡ 512
unfolding words_of_block
page_long content None = length-replicate {A = ℕ} 512 0
page_long content (Some frame) = length-map-range_with_len (word_at (block_in content frame)) 0 512

-- each page has 512 words
pub page_filled : (content : List (List ℕ)) (held : Mapped) (page : ℕ) → page < page_count held
    → length (page_at (pages_in content held) page) ≡ 512
page_filled content held page within =
    ap length (get_or-map (page_in one_reader content) (page_frames held) page None [] (omega
    (arith, within, length-drop held.first_page held.places)))
    ∙ page_long content (get_or (page_frames held) page None)

saved_code : Coded Saved
saved_code =
    code_by (List (List ℕ) × ℕ) (coded× (coded_list (coded_list coded_ℕ)) coded_ℕ) (λ saved. (saved.image, saved.version))
    (λ pair. record { image = pair.0; version = pair.1 }) (λ _. refl)

-- what a stop leaves of a store is the old image or the one with the changes in doubt
left_either : (size : ℕ) (roots : Roots) (held : Mapped) (doubt : Option Planned) (content blocks : List (List ℕ)) (loose : ℕ
    → Bool) (changes : List Change) (saved : Saved) → IsFit size roots held doubt
    → IsOnDisk roots held doubt content loose → AgreesBut loose content blocks
    → option_map (changes_written content) doubt ≡ Some changes → IsLeftBy (opens blocks) saved
    → IsOldOrNewImage (pages_in content held) roots.body.seq changes (roots.body.seq + 1) saved
left_either size roots held None content blocks loose changes saved fit is agrees some left = absurd (none-some changes some)
left_either size roots held (Some plan) content blocks loose changes saved fit is agrees some left =
    let same : changes_written content plan ≡ changes = cc in
    subst (λ (given : List Change). IsOldOrNewImage (pages_in content held) roots.body.seq given (roots.body.seq + 1) saved) same
    (⊎_elim (λ old. inl (saved_is blocks _ saved old left)) (λ new. inr (saved_is blocks _ saved new left))
    (doubtful_image size roots held plan content blocks loose fit.fits fit.whole (fit.planned plan refl) (fit.next plan refl) is agrees))

left_old : (roots : Roots) (held : Mapped) (doubt : Option Planned) (content blocks : List (List ℕ)) (loose : ℕ → Bool) (saved : Saved)
    → IsOnDisk roots held doubt content loose → AgreesBut loose content blocks → option_map (changes_written content) doubt ≡ None
    → IsLeftBy (opens blocks) saved
    → saved ≡ record { image = pages_in content held; version = roots.body.seq }
left_old roots held None content blocks loose saved is agrees none left = saved_is blocks (store_of content roots held) saved
    (sure_image roots held content blocks loose is agrees) left
left_old roots held (Some plan) content blocks loose saved is agrees none left = absurd (none-some (changes_written content plan)
    (sym none))

-- the blocks of a store open
opens_something : (size : ℕ) (roots : Roots) (held : Mapped) (doubt : Option Planned) (content : List (List ℕ)) (loose : ℕ → Bool)
    → IsFit size roots held doubt
    → IsOnDisk roots held doubt content loose → (store : Store) × (opens content ≡ Ok store)
opens_something size roots held None content loose fit is = (
  _,
  sure_image roots held content content loose is
      (agrees_itself loose content),
)
opens_something size roots held (Some plan) content loose fit is =
    ⊎_elim (λ old. (_, old)) (λ new. (_, new))
    (doubtful_image size roots held plan content content loose fit.fits fit.whole (fit.planned plan refl) (fit.next plan refl) is
    (agrees_itself loose content))

-- without a doubt a stop leaves the image with its version
pub sure_law : {D : Type 0} (size : D → ℕ) (tells : Bool) (content : D → List (List ℕ)) (loose : D → ℕ → Bool) (images_now : D
    → List (List ℕ) → Type 0) (kept : Kept D)
    → ((blocks : List (List ℕ)) → images_now kept.disk blocks → AgreesBut (loose kept.disk) (content kept.disk) blocks)
    → ∥ IsKept size kept × IsHeld tells content loose kept ∥₁ → IsTrue tells → doubt_of content kept ≡ None → (saved : Saved)
    → Leaves (images_now kept.disk) saved
    → saved ≡ record { image = image_of content kept; version = kept.body.seq }
sure_law size tells content loose images_now kept agree stands told none saved left =
    ∥∥₁_elim stands (Coded-set saved_code _ _)
    (λ both. left_old (roots_in kept) kept.held kept.doubt (content kept.disk) left.blocks (loose kept.disk) saved (both.1 told)
    (agree left.blocks left.left) none left.leaves)

-- in doubt it leaves that, or the image with the changes and the next version
pub either_law : {D : Type 0} (size : D → ℕ) (tells : Bool) (content : D → List (List ℕ)) (loose : D → ℕ → Bool) (images_now : D
    → List (List ℕ) → Type 0) (kept : Kept D)
    → ((blocks : List (List ℕ)) → images_now kept.disk blocks → AgreesBut (loose kept.disk) (content kept.disk) blocks)
    → ∥ IsKept size kept × IsHeld tells content loose kept ∥₁ → IsTrue tells → (changes : List Change)
    → doubt_of content kept ≡ Some changes → (saved : Saved)
    → Leaves (images_now kept.disk) saved → IsOldOrNewImage (image_of content kept) kept.body.seq changes (kept.body.seq + 1) saved
either_law size tells content loose images_now kept agree stands told changes some saved left =
    ⊎_elim
    (λ same. inl (∥∥₁_elim stands (Coded-set saved_code _ _)
    (λ both. ⊎_elim (λ old. old) (λ new. let more = ap (λ (given : Saved). given.version) new in let there = same.0 in absurd (omega
    (arith, more, there))) (either both))))
    (λ differ. inr (∥∥₁_elim stands (Coded-set saved_code _ _)
    (λ both. ⊎_elim (λ old. absurd (differ.1 (ap (λ (given : Saved). given.version) old))) (λ new. new) (either both))))
    (eqb_tells saved.version kept.body.seq)
  where
    either : IsKept size kept × IsHeld tells content loose kept
        → IsOldOrNewImage (image_of content kept) kept.body.seq changes (kept.body.seq + 1) saved
    either both = left_either (size kept.disk) (roots_in kept) kept.held kept.doubt (content kept.disk) left.blocks
        (loose kept.disk) changes saved both.0 (both.1 told) (agree left.blocks left.left) some left.leaves

one_of : {images : List (List ℕ) → Type 0} (content : List (List ℕ)) (found : Result Store OpenFault) → images content
    → opens content ≡ found → (((store : Store) → found ≡ Ok store → ⊥) → ⊥)
    → (saved : Saved) × Leaves images saved
one_of content (Ok store) image is some = (store.saved, record { blocks = content; left = image; leaves = leaves_its content store store.saved is refl })
one_of content (Err refusal) image is some = absurd (some (λ store same. cc))

-- a stop leaves something
pub one_law : {D : Type 0} (size : D → ℕ) (tells : Bool) (content : D → List (List ℕ)) (loose : D → ℕ → Bool) (images_now : D
    → List (List ℕ) → Type 0) (kept : Kept D)
    → images_now kept.disk (content kept.disk) → ∥ IsKept size kept × IsHeld tells content loose kept ∥₁ → IsTrue tells
    → (saved : Saved) × Leaves (images_now kept.disk) saved
one_law size tells content loose images_now kept image stands told =
    one_of (content kept.disk) (opens (content kept.disk)) image refl
    (λ never. ∥∥₁_elim stands (λ one other. absurd one)
    (λ both. let found = opens_something (size kept.disk) (roots_in kept) kept.held kept.doubt (content kept.disk)
    (loose kept.disk) both.0 (both.1 told) in never found.0 found.1))

-- a store leads to itself, and on
pub leads_itself : {D : Type 0} {tells : Bool} {leads : D → D → Type 0} (kept : Kept D) → leads kept.disk kept.disk → KeptLeadsTo tells leads kept kept
leads_itself kept disk = record { disk = disk; header = refl; version = λ told. omega arith }

pub leads_further : {D : Type 0} {tells : Bool} {leads : D → D → Type 0} (first second third : Kept D) → leads first.disk third.disk
    → KeptLeadsTo tells leads first second → KeptLeadsTo tells leads second third
    → KeptLeadsTo tells leads first third
leads_further first second third disk early late = record {
  disk = disk;
  header = late.header
      ∙ early.header;
  version = λ told. omega (arith, early.version told, late.version told);
}
