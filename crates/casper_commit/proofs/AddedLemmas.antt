use Rattle.std.proofs.Common.{ℕ, ◌≤◌, Bool, List}
use Rattle.casper_disk.specs.Disk.{AgreesBut, Elapses}
use Rattle.casper_disk.proofs.TookLemmas.{took_none, took_then, took_weaker}
use Rattle.casper_commit.specs.Added.{AddsImages}

-- a call whose images are such
pub adds_by : {D : Type 0} (moment : D → ℕ) (images_since : D → ℕ → List (List ℕ) → Type 0) (old new : D) (may_differ : ℕ → Bool) (blocks : List (List ℕ)) (may_be : List (List ℕ) → Type 0)
    → Elapses (moment old) (moment new) (images_since old) (images_since new) may_differ blocks → ((image : List (List ℕ)) → AgreesBut may_differ blocks image → may_be image)
    → AddsImages moment images_since old new may_be
adds_by moment images_since old new may_differ blocks may_be elapses such =
    took_weaker (moment old) (moment new) (images_since old) (images_since new) (AgreesBut may_differ blocks) may_be such elapses

-- no call
pub adds_none : {D : Type 0} (moment : D → ℕ) (images_since : D → ℕ → List (List ℕ) → Type 0) (disk : D) (may_be : List (List ℕ) → Type 0)
    → ((image : List (List ℕ)) → images_since disk (moment disk) image → may_be image) → AddsImages moment images_since disk disk may_be
adds_none moment images_since disk may_be such = took_none (moment disk) (images_since disk) may_be such

-- one after the other
pub adds_then : {D : Type 0} (moment : D → ℕ) (images_since : D → ℕ → List (List ℕ) → Type 0) (old between new : D) (may_be : List (List ℕ) → Type 0)
    → ((earlier later : ℕ) (image : List (List ℕ)) → earlier ≤ later → images_since new later image → images_since new earlier image)
    → AddsImages moment images_since old between may_be → AddsImages moment images_since between new may_be → AddsImages moment images_since old new may_be
adds_then moment images_since old between new may_be counts first second =
    took_then (moment old) (moment between) (moment new) (images_since old) (images_since between) (images_since new) may_be counts first second

-- with a wider word for what may be
pub adds_wider : {D : Type 0} (moment : D → ℕ) (images_since : D → ℕ → List (List ℕ) → Type 0) (old new : D) (may_be more : List (List ℕ) → Type 0)
    → ((image : List (List ℕ)) → may_be image → more image) → AddsImages moment images_since old new may_be → AddsImages moment images_since old new more
adds_wider moment images_since old new may_be more wider took =
    took_weaker (moment old) (moment new) (images_since old) (images_since new) may_be more wider took
