use Rattle.std.proofs.Common.{◌≡◌, ◌⊎◌, ◌<◌, ◌≤◌, ◌+◌, ◌++◌, ℕ, suc, true, List, [], ◌∷◌, Option, None, length, map, take, drop, set, replicate, get_or, refl, sym, ◌∙◌, ap, subst, inl, inr, ⊎_elim, arith, is_some}
use Rattle.std.specs.Prelude.{Contains}
use Rattle.std.proofs.Math.Seq.{take-append_seam, map-set_same}
use Rattle.std.proofs.lemmas.Bool.{cases_lt}
use Rattle.std.proofs.lemmas.Bool.Decides.{eqb_tells}
use Rattle.std.proofs.lemmas.List.{ext_get_or, length-map, length-replicate, get_or-map, get_or-replicate, map-set, drop_more, drop-append-le, length_push, get_or-set_same, get_or-set_other, get_or_read}
use Rattle.std.proofs.lemmas.List.Elements.{Contains-append_left, Contains-push, Contains-push_cases}
use Rattle.std.proofs.Math.Seq.{drop-length}
use Rattle.casper_space.specs.Changes.{Change, with_changes}
use Rattle.casper_disk.specs.Disk.{Took}
use Rattle.casper_disk.specs.Vault.{Saved, IsOldOrNewImage, as_changes, page_at, version_after}
use Rattle.casper_disk.specs.MemVault.{HeldPages, words_in, is_held, whole, held_image, held_saved, saved_since}

-- the first of these pages have frames
abbrev pub HoldsFirst : List (Option (List ℕ)) → List (ℕ × List ℕ) → ℕ → Type 0
HoldsFirst frames changes count = (k : ℕ) (d : ℕ × List ℕ) → k < count → is_held frames (get_or changes k d).0 ≡ true

-- the first of these changes have 512 words
abbrev pub FilledFirst : List (ℕ × List ℕ) → ℕ → Type 0
FilledFirst changes count = (k : ℕ) (d : ℕ × List ℕ) → k < count → length (get_or changes k d).1 ≡ 512

-- 512 words are whole
pub whole_same : (words : List ℕ) → length words ≡ 512 → whole words ≡ words
unfolding whole
whole_same words long = ap (λ count. take count (words ++ replicate 512 0)) (sym long) ∙ take-append_seam words (replicate 512 0)

-- whole pages, changed
pub whole_changes : (pages : List (List ℕ)) (changes : List (ℕ × List ℕ)) → FilledFirst changes (length changes)
    → map whole (with_changes pages (as_changes changes)) ≡ with_changes (map whole pages) (as_changes changes)
whole_changes pages [] long = refl
whole_changes pages (change ∷ changes) long =
    whole_changes (set pages change.0 change.1) changes (λ k d within. long (suc k) d (omega (arith, within)))
    ∙ ap (λ image. with_changes image (as_changes changes))
    (map-set whole pages change.0 change.1 ∙ ap (set (map whole pages) change.0) (whole_same change.1 (long 0 change (omega arith))))

-- a place whose words stay
pub same_words : (frames : List (Option (List ℕ))) (page : ℕ) (old new : Option (List ℕ)) → page < length frames → old ≡ get_or frames page old
    → words_in new ≡ words_in old → map words_in (set frames page new) ≡ map words_in frames
same_words frames page old new within is same = map-set_same words_in frames page new None (same ∙ ap words_in (get_or_read frames page old within is None))

-- a place that holds a frame, and one more
pub held_after : (frames : List (Option (List ℕ))) (page other : ℕ) (new : Option (List ℕ)) → page < length frames → is_some new ≡ true
    → is_held frames other ≡ true ⊎ other ≡ page → is_held (set frames page new) other ≡ true
held_after frames page other new within some held = ⊎_elim
    (λ same. rw same.1 (ap is_some (get_or-set_same frames page new None within) ∙ some))
    (λ apart. ap is_some (get_or-set_other frames page other new None apart.1)
    ∙ ⊎_elim (λ there. there) (λ same. absurd (apart.1 same)) held)
    (eqb_tells other page)

-- a change at a place of a list of changes
pub changed_page : (changes : List (ℕ × List ℕ)) (at page : ℕ) (item : ℕ × List ℕ) → page ≡ item.0 → item ≡ get_or changes at item → page ≡ (get_or changes at item).0
changed_page changes at page item is_page is = is_page ∙ ap (λ change. change.0) is

-- one change more, made
pub put_more : (frames : List (Option (List ℕ))) (image : List (List ℕ)) (changes : List (ℕ × List ℕ)) (at page : ℕ) (item : ℕ × List ℕ)
    (new : Option (List ℕ)) → at < length changes → item ≡ get_or changes at item → page ≡ item.0 → words_in new ≡ item.1
    → with_changes (map words_in frames) (as_changes (drop at changes)) ≡ image
    → with_changes (map words_in (set frames page new)) (as_changes (drop (at + 1) changes)) ≡ image
put_more frames image changes at page item new within is is_page words before =
    let old = map words_in frames in
    ap (λ pages. with_changes pages (as_changes (drop (at + 1) changes)))
    (map-set words_in frames page new
    ∙ ap (λ (place : ℕ). set old place (words_in new)) (changed_page changes at page item is_page is)
    ∙ ap (set old (get_or changes at item).0) (words ∙ ap (λ change. change.1) is))
    ∙ sym (ap (λ rest. with_changes old (as_changes rest)) (drop_more changes at item within)) ∙ before

-- frames stay where they are
pub held_still : (frames : List (Option (List ℕ))) (changes : List (ℕ × List ℕ)) (count page : ℕ) (new : Option (List ℕ)) → page < length frames
    → is_some new ≡ true → HoldsFirst frames changes count → HoldsFirst (set frames page new) changes count
held_still frames changes count page new within some held k d early =
    held_after frames page (get_or changes k d).0 new within some (inl (held k d early))

-- one page more has a frame
pub held_more : (frames : List (Option (List ℕ))) (changes : List (ℕ × List ℕ)) (at page : ℕ) (item : ℕ × List ℕ) (new : Option (List ℕ))
    → at < length changes → item ≡ get_or changes at item → page ≡ item.0 → page < length frames → is_some new ≡ true
    → HoldsFirst frames changes at → HoldsFirst (set frames page new) changes (at + 1)
held_more frames changes at page item new some_left is is_page within some held k d early = ⊎_elim
    (λ under. held_still frames changes at page new within some held k d under)
    (λ past. let e : k ≡ at = omega (arith, past, early) in
    held_after frames page (get_or changes k d).0 new within some
    (inr (ap (λ (place : ℕ). (get_or changes place d).0) e ∙ sym (is_page ∙ ap (λ change. change.0) (get_or_read changes at item some_left is d)))))
    (cases_lt k at)

-- one change more has 512 words
pub filled_more : (changes : List (ℕ × List ℕ)) (at : ℕ) (item : ℕ × List ℕ) → at < length changes → item ≡ get_or changes at item
    → length item.1 ≡ 512 → FilledFirst changes at → FilledFirst changes (at + 1)
filled_more changes at item some_left is long filled k d early = ⊎_elim
    (λ under. filled k d under)
    (λ past. let e : k ≡ at = omega (arith, past, early) in
    ap (λ (place : ℕ). length (get_or changes place d).1) e ∙ sym (ap (λ change. length change.1) (get_or_read changes at item some_left is d)) ∙ long)
    (cases_lt k at)

pub map_replicate : {X Y : Type 0} (f : X → Y) (count : ℕ) (x : X) → map f (replicate count x) ≡ replicate count (f x)
map_replicate f count x =
    ext_get_or (f x) (map f (replicate count x)) (replicate count (f x))
    (length-map (replicate count x) f ∙ length-replicate count x ∙ sym (length-replicate count (f x)))
    (λ at within.
    let early : at < length (replicate count x) = omega (arith, within, length-map (replicate count x) f) in
    let bound : at < count = omega (arith, early, length-replicate count x) in
    get_or-map f (replicate count x) at x (f x) early ∙ ap f (get_or-replicate count at x x bound) ∙ sym (get_or-replicate count at (f x) (f x) bound))

-- the pages of a vault without frames
pub blank_image : (frames : List (Option (List ℕ))) (count : ℕ) → frames ≡ replicate count None
    → map whole (map words_in frames) ≡ replicate count (replicate 512 0)
blank_image frames count is =
    ap (λ places. map whole (map words_in places)) is
    ∙ ap (map whole) (map_replicate words_in count None)
    ∙ map_replicate whole count (replicate 512 0)
    ∙ ap (replicate count) (whole_same (replicate 512 0) (length-replicate {A = ℕ} 512 0))

-- a page that was read
pub page_read : (frames : List (Option (List ℕ))) (page : ℕ) (found : Option (List ℕ)) → page < length frames → found ≡ get_or frames page found
    → length (words_in found) ≡ 512 → page_at (map whole (map words_in frames)) page ≡ words_in found
page_read frames page found within is long =
    let within_words : page < length (map words_in frames) = omega (arith, within, length-map frames words_in) in
    get_or-map whole (map words_in frames) page [] [] within_words
    ∙ ap whole (get_or-map words_in frames page None [] within ∙ ap words_in (sym (get_or_read frames page found within is None)))
    ∙ whole_same (words_in found) long

-- the version rises where there is a change
pub version_risen : (changes : List (ℕ × List ℕ)) (version : ℕ) → (length changes ≡ 0 → ⊥) → version_after (as_changes changes) version ≡ version + 1
version_risen [] version some = absurd (some refl)
version_risen (change ∷ changes) version some = refl

-- the image after a commit
pub image_after : (old held put : List (Option (List ℕ))) (changes : List (ℕ × List ℕ)) → map words_in held ≡ map words_in old
    → map words_in put ≡ with_changes (map words_in held) (as_changes changes) → FilledFirst changes (length changes)
    → map whole (map words_in put) ≡ with_changes (map whole (map words_in old)) (as_changes changes)
image_after old held put changes same words long =
    ap (map whole) (words ∙ ap (λ pages. with_changes pages (as_changes changes)) same) ∙ whole_changes (map words_in old) changes long

-- what a stop leaves after a commit
pub saved_after : (image after : List (List ℕ)) (changes : List Change) (version next later : ℕ) (saved : Saved)
    → after ≡ with_changes image changes → later ≡ next → saved ≡ record { image = after; version = later } → IsOldOrNewImage image version changes next saved
saved_after image after changes version next later saved image_is version_is is =
    inr (is ∙ ap (λ (pages : List (List ℕ)). record { image = pages; version = later }) image_is
    ∙ ap (λ (number : ℕ). record { image = with_changes image changes; version = number }) version_is)

-- a commit of which the past keeps what was before it
pub noted_adds : (old after : HeldPages) (changes : List Change) (next : ℕ) → after.past ≡ old.past ++ held_saved old ∷ []
    → ((saved : Saved) → saved ≡ held_saved after → IsOldOrNewImage (held_image old) old.version changes next saved)
    → Took (length old.past) (length after.past) (saved_since old) (saved_since after) (IsOldOrNewImage (held_image old) old.version changes next)
noted_adds old after changes next noted made = record {
  later = omega (arith, ap length noted, length_push old.past (held_saved old));
  only = λ moment saved early since. ⊎_elim
      (λ now. inr (inl now))
      (λ was. ⊎_elim
      (λ before. inl (inr before))
      (λ last. inl (inl (sym last)))
      (Contains-push_cases (drop moment old.past) (held_saved old) saved (subst (λ list. Contains list saved) (behind moment early) was)))
      since;
  keeps = λ moment saved early since. ⊎_elim
      (λ now. inr (subst (λ list. Contains list saved) (sym (behind moment early))
      (subst (λ (one : Saved). Contains (drop moment old.past ++ held_saved old ∷ []) one) (sym now) (Contains-push (drop moment old.past) (held_saved old)))))
      (λ was. inr (subst (λ list. Contains list saved) (sym (behind moment early)) (Contains-append_left (drop moment old.past) (held_saved old ∷ []) saved was)))
      since;
  agrees = λ saved since. ⊎_elim
      (λ now. made saved now)
      (λ was. ⊎_elim
      (λ before. let none : Contains [] saved = subst (λ list. Contains list saved) (drop-length old.past) before in let early = none.1 in absurd (omega (arith, early)))
      (λ last. inl (sym last))
      (Contains-push_cases (drop (length old.past) old.past) (held_saved old) saved (subst (λ list. Contains list saved) (behind (length old.past) (omega arith)) was)))
      since;
}
  where
    behind : (moment : ℕ) → moment ≤ length old.past → drop moment after.past ≡ drop moment old.past ++ held_saved old ∷ []
    behind moment early = ap (drop moment) noted ∙ drop-append-le moment old.past (held_saved old ∷ []) early
