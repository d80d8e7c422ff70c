use Rattle.std.specs.Prelude.{◌⊎◌, ◌||◌, ℕ, ◌<◌, ◌≤◌, Bool, false, List, [], ◌∷◌, length, take, drop, slice_set, slice_index_or}
use Rattle.std.proofs.Common.{inl, inr, refl, arith}
use Rattle.casper_disk.specs.Disk.{AgreesBut, none_loose, with_loose}
use Rattle.casper_disk.specs.declared.step.Step.{Step}
use Rattle.casper_disk.specs.declared.step.Step.TheVariants as step

-- whether a block has a mark
abbrev pub is_marked : List Bool → ℕ → Bool
is_marked marks at = slice_index_or marks at false

-- the blocks before some steps, made of those after them
abbrev pub content_before : List Step → List (List ℕ) → List (List ℕ)
content_before [] blocks = blocks
content_before (step.Wrote at was ∷ steps) blocks = slice_set (content_before steps blocks) at was
content_before (step.Synced ∷ steps) blocks = content_before steps blocks
content_before (step.Unsynced ∷ steps) blocks = content_before steps blocks
content_before (step.Missed marks ∷ steps) blocks = content_before steps blocks

-- the loose blocks after some steps, made of those before them
abbrev pub loose_after : (ℕ → Bool) → List Step → ℕ → Bool
loose_after loose [] = loose
loose_after loose (step.Wrote at was ∷ steps) = loose_after (with_loose at loose) steps
loose_after loose (step.Synced ∷ steps) = loose_after none_loose steps
loose_after loose (step.Unsynced ∷ steps) = loose_after loose steps
loose_after loose (step.Missed marks ∷ steps) = loose_after (λ at. loose at || is_marked marks.items at) steps

-- the content after the first steps of a record that leads to this content
abbrev pub content_at : List Step → List (List ℕ) → ℕ → List (List ℕ)
content_at steps content moment = content_before (drop moment steps) content

-- the loose blocks after the first steps of a record
abbrev pub loose_at : List Step → ℕ → ℕ → Bool
loose_at steps moment = loose_after none_loose (take moment steps)

-- a stop at an earlier moment, but not before this one, might have left the image
pub record WasLeft (steps : List Step) (content : List (List ℕ)) (past : ℕ) (image : List (List ℕ)) : Type 0 where
  pub moment : ℕ
  pub early : past ≤ moment
  pub within : moment < length steps
  pub agrees : AgreesBut (loose_at steps moment) (content_at steps content moment) image

-- a stop now may leave the image, or an earlier one might have left it
abbrev pub Since : List Step → List (List ℕ) → (ℕ → Bool) → ℕ → List (List ℕ) → Type 0
Since steps content loose past image = AgreesBut loose content image ⊎ WasLeft steps content past image

-- since now there is what a stop now may leave
pub only_left_now : (steps : List Step) (content : List (List ℕ)) (loose : ℕ → Bool) (image : List (List ℕ))
    → Since steps content loose (length steps) image → AgreesBut loose content image
only_left_now steps content loose image (inl now) = now
only_left_now steps content loose image (inr past) = absurd (omega (arith, past.early, past.within))

-- what a stop since some moment might have left, one since an earlier moment might have left
pub since_earlier : (steps : List Step) (content : List (List ℕ)) (loose : ℕ → Bool) (earlier later : ℕ) (image : List (List ℕ)) → earlier ≤ later
    → Since steps content loose later image → Since steps content loose earlier image
since_earlier steps content loose earlier later image order (inl now) = inl now
since_earlier steps content loose earlier later image order (inr past) = inr (record {
  moment = past.moment;
  early = omega (arith, order, past.early);
  within = past.within;
  agrees = past.agrees;
})

-- blocks agree with themselves
pub agrees_itself : (loose : ℕ → Bool) (blocks : List (List ℕ)) → AgreesBut loose blocks blocks
agrees_itself loose blocks = record { count = refl; same = λ at settled. refl }
