use Rattle.std.specs.Prelude.{◌≡◌, ◌++◌, ℕ, ◌+◌, ◌-◌, ◌<◌, ◌≤◌, List, [], Option, None, Some, length, replicate, take, drop, Contains}
use Rattle.std.proofs.Common.{◌∙◌, sym, ap, subst, inl, inr, arith}
use Rattle.std.proofs.Math.Seq.{drop-length}
use Rattle.std.proofs.lemmas.Option.{none-some}
use Rattle.std.proofs.lemmas.List.{length-map, length-take-le, length-append, length-replicate, get_or-map, take-append-drop, drop-drop}
use Rattle.std.proofs.lemmas.List.Elements.{Contains-append_right}
use Rattle.casper_space.specs.Changes.{Change}
use Rattle.casper_disk.specs.Vault.{Saved, page_at}
use Rattle.casper_disk.specs.MemVault.{HeldPages, whole, held_image, held_saved, saved_since}

pub length_whole : (words : List ℕ) → length (whole words) ≡ 512
unfolding whole
length_whole words = length-take-le 512 (words ++ replicate 512 0) (omega (arith, length-append words (replicate 512 0), length-replicate {A = ℕ} 512 0))

-- a vault in memory has as many pages as its image
pub image_count : (vault : HeldPages) → length vault.pages ≡ length (held_image vault)
image_count vault = sym (length-map vault.pages whole)

-- each page of a vault in memory has 512 words
pub page_filled : (vault : HeldPages) (page : ℕ) → page < length vault.pages → length (page_at (held_image vault) page) ≡ 512
page_filled vault page within = ap length (get_or-map whole vault.pages page [] [] within) ∙ length_whole _

-- no doubt is no doubt of some changes
pub never_in_doubt : {changes : List Change} → ◌≡◌ {A = Option (List Change)} None (Some changes) → ⊥
never_in_doubt {changes} same = none-some changes same

-- what stands after a place of a list stands after an earlier one
pub behind_earlier : {X : Type 0} (items : List X) (item : X) (earlier later : ℕ) → earlier ≤ later → Contains (drop later items) item → Contains (drop earlier items) item
behind_earlier items item earlier later order is =
    let more : earlier + (later - earlier) ≡ later = omega (arith, order) in
    let rest = drop earlier items in
    subst (λ list. Contains list item) (take-append-drop (later - earlier) rest)
    (Contains-append_right (take (later - earlier) rest) (drop (later - earlier) rest) item
    (subst (λ list. Contains list item) (sym (drop-drop (later - earlier) earlier items ∙ ap (λ (at : ℕ). drop at items) more)) is))

-- since now there is what a stop now leaves
pub only_saved_now : (vault : HeldPages) (saved : Saved) → saved_since vault (length vault.past) saved → saved ≡ held_saved vault
only_saved_now vault saved (inl now) = now
only_saved_now vault saved (inr was) =
    let none : Contains [] saved = subst (λ list. Contains list saved) (drop-length vault.past) was in
    let before = none.1 in
    absurd (omega (arith, before))

-- what a stop since some moment might have left, one since an earlier moment might have left
pub since_earlier : (vault : HeldPages) (earlier later : ℕ) (saved : Saved) → earlier ≤ later
    → saved_since vault later saved → saved_since vault earlier saved
since_earlier vault earlier later saved order (inl now) = inl now
since_earlier vault earlier later saved order (inr was) = inr (behind_earlier vault.past saved earlier later order was)
