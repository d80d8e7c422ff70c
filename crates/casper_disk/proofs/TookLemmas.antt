use Rattle.std.proofs.Common.{ℕ, ◌≤◌, inl, inr, ⊎_elim, arith}
use Rattle.casper_disk.specs.Disk.{KeepsImages, Took}

-- what takes no time adds nothing
pub took_none : {Image : Type 0} (now : ℕ) (past : ℕ → Image → Type 0) (may_be : Image → Type 0)
    → ((image : Image) → past now image → may_be image) → Took now now past past may_be
took_none now past may_be is = record {
  later = omega arith;
  only = λ moment image early since. inl since;
  keeps = λ moment image early was. was;
  agrees = is;
}

-- nor does a call that leaves the moment and what a stop since any moment might have left
pub took_standing : {Image : Type 0} (before now : ℕ) (past since : ℕ → Image → Type 0) (may_be : Image → Type 0) → KeepsImages before now past since
    → ((image : Image) → past before image → may_be image) → Took before now past since may_be
took_standing before now past since may_be stands is = record {
  later = omega (arith, stands.moment);
  only = λ moment image early left. inl (stands.only moment image left);
  keeps = λ moment image early was. stands.keeps moment image was;
  agrees = λ image left. is image (stands.only before image left);
}

-- a call whose images may be more
pub took_weaker : {Image : Type 0} (before now : ℕ) (past since : ℕ → Image → Type 0) (may_be may_be_more : Image → Type 0)
    → ((image : Image) → may_be image → may_be_more image) → Took before now past since may_be → Took before now past since may_be_more
took_weaker before now past since may_be may_be_more more took = record {
  later = took.later;
  only = took.only;
  keeps = took.keeps;
  agrees = λ image left. more image (took.agrees image left);
}

-- Two calls, one after the other, take time as one, where what a stop since some moment might have left counts for each earlier one.
pub took_then : {Image : Type 0} (start middle finish : ℕ) (first second third : ℕ → Image → Type 0) (may_be : Image → Type 0)
    → ((earlier later : ℕ) (image : Image) → earlier ≤ later → third later image → third earlier image)
    → Took start middle first second may_be → Took middle finish second third may_be → Took start finish first third may_be
took_then start middle finish first second third may_be counts one two = record {
  later = omega (arith, one.later, two.later);
  only = λ moment image early since. ⊎_elim
      (λ before. ⊎_elim (λ was. inl was) (λ added. inr (two.keeps start image one.later added)) (one.only moment image early before))
      (λ added. inr (counts start middle image one.later added))
      (two.only moment image (omega (arith, early, one.later)) since);
  keeps = λ moment image early was. two.keeps moment image (omega (arith, early, one.later)) (one.keeps moment image early was);
  agrees = λ image since. ⊎_elim (λ before. one.agrees image before) (λ added. two.agrees image added) (two.only start image one.later since);
}
