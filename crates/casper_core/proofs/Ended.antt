use Rattle.std.proofs.Common.{◌≡◌, ◌==◌, ◌||◌, ℕ, List, [], ◌∷◌, Bool, true, false, cond, refl, sym, ap, ◌∙◌, subst}
use Rattle.std.specs.Prelude.{Option, None, Some, is_some, option_map, find, Contains, unwrap_or, Result, Ok, Err, OnOk, OnErr}
use Rattle.std.specs.List.{list_any}
use Rattle.std.specs.Result.{is_err}
use Rattle.std.proofs.lemmas.Bool.{eqb-true}
use Rattle.std.proofs.lemmas.Option.{none-some}
use Rattle.casper_words.specs.Crew.{IsClient}
use Rattle.casper_model.specs.declared.outcome.Finished.{Finished}
use Rattle.casper_model.specs.declared.outcome.Outcome.{Outcome}
use Rattle.casper_model.specs.Finish.{finish}
use Rattle.casper_model.specs.Stabilisation.{Stabilisation, is_gathering, is_doubtful}
use Rattle.casper_model.specs.State.{Unfinished}
use Rattle.casper_turns.specs.Frozen.{IsSealedBy}
use Rattle.casper_turns.proofs.FinishFrozen.{sealed_only}
use Rattle.casper_turns.proofs.FrozenChanges.{one_of_lead}
use Rattle.casper_laws.specs.FrozenLaws.{ended_in_doubt}
use Rattle.casper_laws.proofs.FinishFrozen.{finish_well}
use Rattle.casper_hub.specs.Committing.{IsHeldBy}
use Rattle.casper_hub.specs.GoesOn.{KeepsClient}
use Rattle.casper_hub.specs.HubView.{HubView}
use Rattle.casper_hub.specs.Sound.{IsSound as Whole}
use Rattle.casper_hub.specs.Turns.{IsChange}
use Rattle.casper_hub.proofs.StandsFor.{stands_for}
use Rattle.casper_core.specs.CoreView.{CoreView}
use Rattle.casper_core.specs.Placing.{changed}
use Rattle.casper_core.specs.Sound.{IsSound, IsSealedIn, IsInDoubt}
use Rattle.casper_core.specs.WritingOut.{ended_of}
use Rattle.casper_core.proofs.Changes.{sound_changed}

-- A core whose unfinished write-out is finished.

-- of a result that is an error, and of one that is not
pub of_err : {T E : Type 0} (result : Result T E) (P : Type 0) → is_err result ≡ true → OnErr result P → P
of_err (Ok x) P is holds = cc
of_err (Err e) P is holds = holds

pub of_no_err : {T E : Type 0} (result : Result T E) (P : Type 0) → is_err result ≡ false → OnOk result P → P
of_no_err (Ok x) P is holds = holds
of_no_err (Err e) P is holds = cc

-- what an option with something has
pub some_of : {X : Type 0} (found : Option X) → is_some found ≡ true → (x : X) × (found ≡ Some x)
some_of None is = cc
some_of (Some x) is = (x, refl)

-- an option that has nothing
pub none_of : {X : Type 0} (mine told : Option X) → mine ≡ told → ((x : X) → told ≡ Some x → ⊥) → mine ≡ None
none_of mine None is never = is
none_of mine (Some x) is never = absurd (never x refl)

pub mapped_some : {X Y : Type 0} (f : X → Y) (found : Option X) → is_some (option_map f found) ≡ is_some found
mapped_some f None = refl
mapped_some f (Some x) = refl

-- one is found where one passes
any_first : {X : Type 0} (passes : Bool) (x : X) (any : Bool) (found : Option X) → any ≡ is_some found → passes || any ≡ is_some (cond passes (Some x) found)
any_first true x any found is = refl
any_first false x any found is = is

pub any_found : {X : Type 0} (p : X → Bool) (xs : List X) → list_any p xs ≡ is_some (find p xs)
any_found p [] = refl
any_found p (x ∷ xs) = any_first (p x) x (list_any p xs) (find p xs) (any_found p xs)

-- the write-out that ended so
abbrev pub EndedOne : ℕ → Outcome → Option Unfinished → Type 0
EndedOne lead how unfinished = (one : Unfinished) × (unfinished ≡ Some one) × (one.lead ≡ lead) × (one.outcome ≡ how)

pub ended_one : (lead : ℕ) (how : Outcome) (unfinished : Option Unfinished) → ended_of lead unfinished ≡ Some how → EndedOne lead how unfinished
ended_one lead how None is = absurd (none-some how is)
ended_one lead how (Some one) is = by (one.lead == lead) refl is
  where
    by : (same : Bool) → one.lead == lead ≡ same → cond same (Some one.outcome) None ≡ Some how → EndedOne lead how (Some one)
    by true same is = (one, refl, eqb-true one.lead lead same, ap (λ (o : Option Outcome). unwrap_or o how) is)
    by false same is = absurd (none-some how is)

module _ {V : Type 0} (core : CoreView V) (sound : IsSound core) (lead : ℕ) (how : Outcome) (ended : ended_of lead core.unfinished ≡ Some how) where
  sealed_here : IsSealedIn core.hub lead
  sealed_here =
      let one = ended_one lead how core.unfinished ended in subst (IsSealedIn core.hub) one.2 (sound.written one.0 one.1)

  sealed_shared : IsSealedBy (stands_for core.hub sound.hub.stands).shared lead
  sealed_shared =
      let sealed = sealed_here in
      (sealed.0, subst (λ all. Contains all sealed.0) (sym (stands_for core.hub sound.hub.stands).shows.stabilisations) sealed.1, sealed.2, sealed.3)

  pub lead_here : IsClient lead
  lead_here =
      let sealed = sealed_shared in subst IsClient sealed.2 ((stands_for core.hub sound.hub.stands).good.frozen.leads sealed.0 sealed.1)

  pub held_here : IsHeldBy core.hub lead
  held_here one there is =
      let stands = stands_for core.hub sound.hub.stands in
      let sealed = sealed_shared in
      let same : sealed.0 ≡ one =
      one_of_lead stands.shared sealed.0 one stands.good.frozen sealed.1 (subst (λ all. Contains all one) (sym stands.shows.stabilisations) there) (sealed.2 ∙ sym is) in
      subst (λ (other : Stabilisation). is_gathering other.phase ≡ false) same (sealed_only sealed.0.phase sealed.3)

  pub sound_finished : (made : Option Finished) (after : HubView) → IsChange (λ shared. finish shared lead how) made core.hub after
      → ((who : ℕ) → KeepsClient who core.hub after) → Whole after → IsSound (changed core after None core.vault core.size core.told)
  sound_finished made after turn kept whole =
      sound_changed core sound after kept None core.vault core.size core.told whole refl (λ one is. absurd (none-some one is)) (λ one is. absurd (none-some one is))
      (λ doubted.
      let one = ended_one lead how core.unfinished ended in
      let stands = stands_for core.hub sound.hub.stands in
      let in_doubt : ended_in_doubt how ≡ true =
      subst (λ end. ended_in_doubt end ≡ true) one.3 (subst (λ unfinished. IsInDoubt unfinished core.hub) one.1 (sound.doubtful doubted)) in
      let alone = any_found (λ (x : Stabilisation). is_doubtful x.phase) stands.shared.stabilisations
      ∙ ap (λ all. is_some (find (λ (x : Stabilisation). is_doubtful x.phase) all)) stands.shows.stabilisations
      ∙ ap is_some (sound.alone one.0 one.1) in
      let well = finish_well stands.shared lead how stands.good.frozen sealed_shared alone in
      ap (λ all. is_some (find (λ (x : Stabilisation). is_doubtful x.phase) all)) (sym (turn.shows stands.shared stands.shows).stabilisations)
      ∙ sym (any_found (λ (x : Stabilisation). is_doubtful x.phase) (finish stands.shared lead how).shared.stabilisations)
      ∙ well.any ∙ in_doubt)
