use Rattle.std.proofs.Common.{◌≡◌, ◌≤◌, ℕ, Bool, List, sym, ◌∙◌, ap, subst, inl, inr}
use Rattle.std.specs.Prelude.{None, Result, Ok, Err, IsErrAnd, IfErr}
use Rattle.std.proofs.lemmas.Option.{none-some}
use Rattle.casper_disk.specs.Disk.{AgreesBut, Elapses, IsLooseWithin, none_loose}
use Rattle.casper_disk.proofs.TookLemmas.{took_standing, took_then, took_weaker}
use Rattle.casper_root.specs.Fitting.{Fits}
use Rattle.casper_root.specs.Opening.{opened}
use Rattle.casper_root.specs.Reading.{IsOnlyRead}
use Rattle.casper_root.specs.Refusal.{Answers}
use Rattle.casper_root.specs.declared.fault.OpenFault.{OpenFault}
use Rattle.casper_root.specs.declared.roots.Roots.{Roots}
use Rattle.casper_root.proofs.PartLemmas.{expected_ok}
use Rattle.casper_commit.proofs.OpenedLemmas.{opened_stands}
use Rattle.casper_map.specs.Mapped.{Mapped}
use Rattle.casper_map.specs.PlanLaws.{IsWhole}
use Rattle.casper_map.specs.Reading.{opened_map}
use Rattle.casper_stable.specs.Opened.{IsRefusalOf, OpenTo, AddsNoWrites}
use Rattle.casper_stable.specs.Opens.{opens, store_at, store_with}
use Rattle.casper_stable.specs.Sound.{IsFit, IsSure, free_blocks}
use Rattle.casper_stable.specs.OpensLemmas.{free_are_frames}

-- a fault of an answer is the refusal that was expected, or one of the disk or of memory
pub refusal_of : {S T : Type 0} (answer expected : Result S OpenFault) (whole : Result T OpenFault) (why : OpenFault) → answer ≡ Err why
    → (expected ≡ Err why → whole ≡ Err why) → Answers answer expected → IsRefusalOf whole why
refusal_of answer expected whole why is refused (inl same) = inl (refused (sym same ∙ is))
refusal_of answer expected whole why is refused (inr (inl disk)) = inr (inl (why_is (sym is ∙ disk)))
  where
    why_is : {S : Type 0} {one other : OpenFault} → ◌≡◌ {A = Result S OpenFault} (Err one) (Err other) → one ≡ other
    why_is same = cc
refusal_of answer expected whole why is refused (inr (inr memory)) = inr (inr (why_is (sym is ∙ memory)))
  where
    why_is : {S : Type 0} {one other : OpenFault} → ◌≡◌ {A = Result S OpenFault} (Err one) (Err other) → one ≡ other
    why_is same = cc

-- where the map of the root is refused, so is the store
pub map_refused : (blocks later : List (List ℕ)) (found : Result Roots OpenFault) (roots : Roots) (answer : Result Mapped OpenFault)
    (why : OpenFault)
    → found ≡ Ok roots → Answers found (opened blocks) → later ≡ blocks → answer ≡ Err why → Answers answer (opened_map later roots)
    → IsRefusalOf (opens blocks) why
map_refused blocks later found roots answer why there answers same is map =
    refusal_of answer (opened_map later roots) (opens blocks) why is
    (λ refused. ap (store_at blocks) (expected_ok found (opened blocks) roots there answers)
    ∙ ap (store_with blocks roots) (ap (λ (list : List (List ℕ)). opened_map list roots) (sym same) ∙ refused)) map

-- a store without a doubt fits
pub fit_sure : (size : ℕ) (roots : Roots) (held : Mapped) → Fits size roots → IsWhole roots held → IsFit size roots held None
fit_sure size roots held fits whole = record {
  fits = fits;
  whole = whole;
  planned = λ plan none. absurd (none-some plan none);
  next = λ plan none. absurd (none-some plan none);
}

-- and where nothing is loose, what its disk holds is what blocks open to
pub sure_opened : (content : List (List ℕ)) (roots : Roots) (held : Mapped) (loose : ℕ → Bool) → OpenTo content roots held
    → loose ≡ none_loose → IsSure roots held content loose
sure_opened content roots held loose is none = record {
  base = content;
  opens = record { spare = roots.spare_closed; opens = is.opens; map = is.map };
  stands = opened_stands content roots (free_blocks content roots) loose is.opens (free_are_frames content roots) none;
}

-- reading adds no writes
pub read_adds : {D : Type 0} (content : D → List (List ℕ)) (loose : D → ℕ → Bool) (moment : D → ℕ) (images_since : D → ℕ
    → List (List ℕ) → Type 0) (old new : D)
    → IsOnlyRead content loose moment images_since old new
    → ((image : List (List ℕ)) → images_since old (moment old) image → AgreesBut (loose old) (content old) image)
    → AddsNoWrites content loose moment images_since old new
read_adds content loose moment images_since old new read agrees =
    took_standing (moment old) (moment new) (images_since old) (images_since new) (AgreesBut (loose old) (content old)) read.images agrees

-- what agrees but in some blocks agrees but in more
agrees_within : (most loose : ℕ → Bool) (blocks image : List (List ℕ)) → IsLooseWithin most loose → AgreesBut loose blocks image
    → AgreesBut most blocks image
agrees_within most loose blocks image within agrees = record {
  count = agrees.count;
  same = λ at out. agrees.same at (within at out);
}

-- nor does a sync after it
pub sync_adds : {D : Type 0} (content : D → List (List ℕ)) (loose : D → ℕ → Bool) (moment : D → ℕ) (images_since : D → ℕ
    → List (List ℕ) → Type 0) (old between new : D)
    → IsOnlyRead content loose moment images_since old between
    → ((image : List (List ℕ)) → images_since old (moment old) image → AgreesBut (loose old) (content old) image)
    → ((earlier later : ℕ) (image : List (List ℕ)) → earlier ≤ later → images_since new later image → images_since new earlier image)
    → AddsNoWrites content loose moment images_since between new → AddsNoWrites content loose moment images_since old new
sync_adds content loose moment images_since old between new read agrees counts synced =
    let may : List (List ℕ)
    → Type 0 = λ blocks. Elapses (moment between) (moment new) (images_since between) (images_since new) (loose old) blocks in
    took_then (moment old) (moment between) (moment new) (images_since old) (images_since between) (images_since new) (AgreesBut
    (loose old) (content old)) counts
    (read_adds content loose moment images_since old between read agrees)
    (subst may read.same_content
    (took_weaker (moment between) (moment new) (images_since between) (images_since new) (AgreesBut (loose between) (content between)) (AgreesBut
    (loose old) (content between))
    (λ image agrees. agrees_within (loose old) (loose between) (content between) image read.within_loose agrees) synced))

-- what holds of a fault holds where `?` handed it on
pub handed_on : {T : Type 0} (result : Result T OpenFault) (why : OpenFault) (P : OpenFault → Type 0)
    → IsErrAnd result (λ given. given ≡ why) → P why → IfErr result P
handed_on (Ok found) why P held is = absurd held
handed_on (Err given) why P held is = subst P (sym held) is
