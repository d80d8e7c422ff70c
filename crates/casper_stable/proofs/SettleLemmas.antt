use Rattle.std.proofs.Common.{◌≡◌, ◌∙◌, ◌+◌, ◌<◌, ℕ, Bool, false, List, sym, ap, subst, inl, inr, ⊎_elim}
use Rattle.std.specs.Prelude.{Option, Some}
use Rattle.casper_disk.specs.Vault.{Saved, IsOldOrNewImage}
use Rattle.casper_space.specs.Changes.{last_version, with_changes}
use Rattle.casper_root.specs.Fitting.{Fits}
use Rattle.casper_root.specs.Format.{body_block}
use Rattle.casper_root.specs.Slots.{other_slot}
use Rattle.casper_root.specs.declared.roots.Roots.{Roots}
use Rattle.casper_commit.specs.States.{IsAtGate, IsOldOrNew, RootStands, none_free, next_root}
use Rattle.casper_commit.proofs.StateLemmas.{stands_opens}
use Rattle.casper_map.specs.Mapped.{Mapped}
use Rattle.casper_map.specs.PlanLaws.{IsWhole}
use Rattle.casper_map.specs.Planned.{Planned, IsPlan}
use Rattle.casper_stable.specs.Opens.{opens, store_of, pages_in}
use Rattle.casper_stable.specs.Kept.{next_body, changes_written}
use Rattle.casper_stable.specs.Leaves.{IsLeftBy}
use Rattle.casper_stable.specs.Sound.{IsDoubtful, IsOnDisk, free_blocks, root_of}
use Rattle.casper_stable.specs.LeavesLemmas.{saved_is}
use Rattle.casper_stable.specs.OpensLemmas.{map_stands, opens_old, opens_next, opens_to_next, written_stand}
use Rattle.casper_stable.proofs.CommitLemmas.{AfterOk, AfterDoubt}
use Rattle.casper_stable.specs.SoundLemmas.{next_is, sure_next, doubt_next}

-- a store in doubt
pub doubtful_of : (roots : Roots) (held : Mapped) (plan : Planned) (doubt : Option Planned) (content : List (List ℕ)) (loose : ℕ
    → Bool) → doubt ≡ Some plan
    → IsOnDisk roots held doubt content loose → IsDoubtful roots held plan content loose
doubtful_of roots held plan doubt content loose some is = subst (λ given. IsOnDisk roots held given content loose) some is

-- after a settle the next version is there
pub settled_ok : (size : ℕ) (roots : Roots) (held : Mapped) (plan : Planned) (content after : List (List ℕ)) (loose now : ℕ → Bool)
    → Fits size roots → IsWhole roots held → IsPlan held plan
    → roots.body.seq < last_version → (is : IsDoubtful roots held plan content loose)
    → RootStands (record { slot = other_slot roots.slot; spare_closed = false }) (body_block
    (next_body roots.body held plan)) none_free content after now
    → AfterOk roots held plan (changes_written content plan) content after now
settled_ok size roots held plan content after loose now fits whole planned more is stands =
    let root = next_root roots.slot (body_block (next_body roots.body held plan)) in
    let to = stands_opens false root none_free content after now stands in
    let opened = opens_to_next is.base content after roots held plan is.opens fits.sizes fits.maps planned
    (next_is size roots held plan fits whole planned more) is.gate.same is.maps to in
    let same = (map_stands is.base content roots held is.opens.map is.gate.same).1 in
    record {
      sure = sure_next size is.base content after roots held plan now fits whole planned more is.opens is.gate.same is.maps stands;
      image = opened.pages ∙ ap (λ pages. with_changes pages (changes_written content plan)) (sym same);
    }

-- after a fault it is in doubt still
pub settled_err : (roots : Roots) (held : Mapped) (plan : Planned) (content after : List (List ℕ)) (loose now : ℕ → Bool)
    → (is : IsDoubtful roots held plan content loose)
    → IsAtGate (root_of is.base roots) (body_block (next_body roots.body held plan)) (free_blocks is.base roots) is.base content after now
    → AfterDoubt roots held plan (changes_written content plan) content after now
settled_err roots held plan content after loose now is gate = record {
  doubtful = λ closed. doubt_next is.base content after roots closed held plan now is.opens is.maps gate;
  image = (map_stands is.base after roots held is.opens.map gate.same).1
      ∙ sym (map_stands is.base content roots held is.opens.map is.gate.same).1;
  words = written_stand content after plan gate.written;
}

-- each image meanwhile is the old one or the new one
pub settled_either : (size : ℕ) (roots : Roots) (held : Mapped) (plan : Planned) (content image : List (List ℕ)) (loose : ℕ
    → Bool) (saved : Saved) → Fits size roots → IsWhole roots held → IsPlan held plan
    → roots.body.seq < last_version → (is : IsDoubtful roots held plan content loose)
    → IsOldOrNew (root_of is.base roots) (body_block (next_body roots.body held plan)) (free_blocks is.base roots) is.base content image
    → IsLeftBy (opens image) saved
    → IsOldOrNewImage (pages_in content held) roots.body.seq (changes_written content plan) (roots.body.seq + 1) saved
settled_either size roots held plan content image loose saved fits whole planned more is either left =
    let same = (map_stands is.base content roots held is.opens.map is.gate.same).1 in
    let old : List (List ℕ) → Saved = λ pages. record { image = pages; version = roots.body.seq } in
    let new : List (List ℕ)
    → Saved = λ pages. record { image = with_changes pages (changes_written content plan); version = roots.body.seq + 1 } in
    ⊎_elim
    (λ to. inl (saved_is image (store_of is.base roots held) saved (opens_old is.base image roots held is.opens to) left
    ∙ ap old (sym same)))
    (λ to. inr (saved_is image _ saved (opens_next is.base content image roots held plan
    (opens_to_next is.base content image roots held plan is.opens fits.sizes fits.maps planned
    (next_is size roots held plan fits whole planned more) is.gate.same is.maps to)) left
    ∙ ap new (sym same)))
    either
