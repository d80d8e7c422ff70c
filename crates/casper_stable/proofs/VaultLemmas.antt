use Rattle.std.proofs.Common.{◌≡◌, ◌≢◌, ◌∙◌, ◌+◌, ◌<◌, ℕ, Bool, true, false, List, [], ◌∷◌, length, map, refl, sym, ap, inl, ⊎_elim, arith}
use Rattle.std.specs.Prelude.{◌⊎◌, ◌↔◌, IsTrue, IsErrOf, Result, Ok, cond, nat_lt, Option, Some, None, is_some, option_map}
use Rattle.casper_disk.specs.Disk.{AgreesBut, Took}
use Rattle.std.proofs.lemmas.Bool.{ltb-true, ltb-false}
use Rattle.casper_disk.specs.Vault.{IsOldOrNewImage, Frames, as_changes, lacking, room_with, version_after}
use Rattle.casper_disk.specs.declared.vault.CommitFault.{CommitFault}
use Rattle.casper_disk.specs.declared.vault.CommitFault.TheVariants as fault
use Rattle.casper_disk.proofs.TookLemmas.{took_none}
use Rattle.casper_space.specs.Changes.{Change, VaultRoom, free_of, need_of, pages_of, room_after}
use Rattle.casper_map.specs.Mapped.{Mapped, AreApart, AreBelow, free_frames}
use Rattle.casper_map.specs.Room.{room_of}
use Rattle.casper_map.proofs.RoomLemmas.{rooms_have_the_free_frames, rooms_have_the_need}
use Rattle.casper_map.specs.Planned.{Planned, need_for}
use Rattle.casper_stable.specs.Kept.{Kept, image_of, changes_written}
use Rattle.casper_stable.specs.Leaves.{Leaves}
use Rattle.casper_stable.specs.Sound.{IsHeld, IsKept}
use Rattle.casper_stable.specs.VaultLaws.{sure_law, leaves_more}

-- the plan of a doubt
pub some_of : (doubt : Option Planned) → is_some doubt ≡ true → (plan : Planned) × (doubt ≡ Some plan)
some_of None is = cc
some_of (Some plan) is = (plan, refl)

pub none_of : (doubt : Option Planned) → is_some doubt ≡ false → doubt ≡ None
none_of None is = refl
none_of (Some plan) is = cc

-- without a doubt a call that does nothing leaves the image with its version
pub took_sure : {D : Type 0} (size : D → ℕ) (tells : Bool) (content : D → List (List ℕ)) (loose : D → ℕ → Bool) (images_now : D
    → List (List ℕ) → Type 0)
    (moment : D → ℕ) (images_since : D → ℕ → List (List ℕ) → Type 0) (kept : Kept D) (changes : List Change) (next : ℕ)
    → ((blocks : List (List ℕ)) → images_now kept.disk blocks → AgreesBut (loose kept.disk) (content kept.disk) blocks)
    → ((blocks : List (List ℕ)) → images_since kept.disk (moment kept.disk) blocks → images_now kept.disk blocks)
    → ∥ IsKept size kept × IsHeld tells content loose kept ∥₁ → IsTrue tells → kept.doubt ≡ None
    → Took (moment kept.disk) (moment kept.disk) (λ past. Leaves (images_since kept.disk past)) (λ past. Leaves
    (images_since kept.disk past))
    (IsOldOrNewImage (image_of content kept) kept.body.seq changes next)
took_sure size tells content loose images_now moment images_since kept changes next agree only stands told none =
    took_none (moment kept.disk) (λ past. Leaves (images_since kept.disk past)) (IsOldOrNewImage
    (image_of content kept) kept.body.seq changes next)
    (λ saved since. inl (sure_law size tells content loose images_now kept agree stands told (ap (option_map (changes_written
    (content kept.disk))) none) saved (leaves_more only since)))

pub none_found : (content : List (List ℕ)) (doubt : Option Planned) → option_map (changes_written content) doubt ≡ None → doubt ≡ None
none_found content None is = refl
none_found content (Some plan) is = cc

-- with a change the version rises
pub version_risen : (changes : List (ℕ × List ℕ)) (version : ℕ) → length changes ≢ 0
    → version_after (as_changes changes) version ≡ version + 1
version_risen [] version some = absurd (some refl)
version_risen (change ∷ changes) version some = refl

-- and the room is that after its pages
pub room_risen : (changes : List (ℕ × List ℕ)) (room : VaultRoom) → length changes ≢ 0
    → room_with (as_changes changes) (Some room) ≡ Some (room_after (pages_of (as_changes changes)) room)
room_risen [] room some = absurd (some refl)
room_risen (change ∷ changes) room some = refl

-- the pages of pairs
pub pages_same : (changes : List (ℕ × List ℕ)) → pages_of (as_changes changes) ≡ map (λ (change : ℕ × List ℕ). change.0) changes
pages_same [] = refl
pages_same (change ∷ changes) = ap (λ rest. change.0 ∷ rest) (pages_same changes)

some_frames : (one other : Frames) → Some one ≡ Some other → one ≡ other
some_frames one other is = cc

frames_same : (one other : Frames) → Some one ≡ Some other → (other.need ≡ one.need) × (other.free ≡ one.free)
frames_same one other is =
    let same = some_frames one other is in
    (sym (ap (λ (given : Frames). given.need) same), sym (ap (λ (given : Frames). given.free) same))

lacks_by : (test : Bool) (one other : Frames) → nat_lt one.free one.need ≡ test
    → ((other.need ≡ one.need) × (other.free ≡ one.free) × (other.free < other.need)) ↔ (cond {A = Option Frames} test
    (Some one) None ≡ Some other)
lacks_by true one other is =
    let made : ℕ → ℕ → Option Frames = λ need free. Some (record { need = need; free = free }) in (
      (λ all. sym (ap (λ (need : ℕ). made need other.free) all.0 ∙ ap (made one.need) all.1)),
      (λ same. let parts = frames_same one other same in
          let low = ltb-true one.free one.need is in
          let need = parts.0 in
          let free = parts.1 in
          (need, free, omega (arith, need, free, low))),
    )
lacks_by false one other is = (
  (λ all. let high = ltb-false one.free one.need is in let need = all.0 in let free = all.1 in let less = all.2 in absurd (omega
      (arith, need, free, less, high))),
  (λ same. cc),
)

-- what a commit lacks
pub lacks : (held : Mapped) (changes : List (ℕ × List ℕ)) → AreApart held.places → AreBelow held.frames held.places
    → length changes ≢ 0 → (need free : ℕ)
    → ((need ≡ need_for (map (λ (change : ℕ × List ℕ). change.0) changes)) × (free ≡ length (free_frames held)) × (free < need))
    ↔ (lacking (as_changes changes) (Some (room_of held)) ≡ Some (record { need = need; free = free }))
lacks held [] apart below some need free = absurd (some refl)
lacks held (change ∷ changes) apart below some need free =
    let room = room_of held in
    let pages = pages_of (as_changes (change ∷ changes)) in
    let frames = rooms_have_the_free_frames held apart below in
    let needed : need_of room pages ≡ need_for (map (λ (one : ℕ × List ℕ). one.0) (change ∷ changes)) = rooms_have_the_need held pages
    ∙ ap need_for (pages_same (change ∷ changes)) in
    let one : Frames = record { need = need_of room pages; free = free_of room } in
    let by = lacks_by (nat_lt (free_of room) (need_of room pages)) one (record { need = need; free = free }) refl in (
      (λ all. by.0 (all.0 ∙ sym needed, all.1 ∙ sym frames, all.2)),
      (λ same. let all = by.1 same in (
        all.0 ∙ needed,
        all.1
            ∙ frames,
        all.2,
      )),
    )

-- a plan that was made lacks nothing
pub full_kept : {T U : Type 0} (plan : T) (answer : Result U CommitFault) (P : ℕ → ℕ → Type 0) → ((need free : ℕ)
    → IsErrOf answer (fault.Full need free) → ⊥)
    → (IsErrOf {T = T} {E = CommitFault} (Ok plan) fault.Memory ⊎ ((need free : ℕ)
    → IsErrOf {T = T} {E = CommitFault} (Ok plan) (fault.Full need free) ↔ P need free))
    → (need free : ℕ) → IsErrOf answer (fault.Full need free) ↔ P need free
full_kept plan answer P other full need free =
    ⊎_elim (λ memory. cc) (λ each. ((λ is. absurd (other need free is)), (λ is. let back = (each need free).1 is in cc))) full
