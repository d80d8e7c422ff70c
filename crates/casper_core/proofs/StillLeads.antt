use Rattle.std.proofs.Common.{◌≡◌, ℕ, true, false, true≢false, refl, sym, ap, ◌∙◌, subst}
use Rattle.std.specs.Prelude.{Option, None, Some, is_some, Contains}
use Rattle.casper_model.specs.Stabilisation.{Stabilisation, Phase, Gathering, Sealed, Doubtful, is_gathering, is_sealed, is_doubtful}
use Rattle.casper_model.specs.State.{Unfinished}
use Rattle.casper_turns.specs.CommitsNothing as turns
use Rattle.casper_turns.proofs.Lists.{find_found, find_some}
use Rattle.casper_hub.specs.Committing.{doubtful_in}
use Rattle.casper_hub.specs.HubView.{HubView}
use Rattle.casper_hub.specs.Sound.{IsSound}
use Rattle.casper_hub.specs.GoesOn.{CommitsNothing}
use Rattle.casper_hub.proofs.Relying.{from_sound}
use Rattle.casper_hub.proofs.StandsFor.{stands_for}
use Rattle.casper_core.specs.Sound.{IsSealedIn, IsInDoubt}

-- What stays of the write-outs while nothing is committed.

-- what is sealed or in doubt does not gather
sealed_held : (phase : Phase) → is_sealed phase ≡ true → is_gathering phase ≡ false
sealed_held Gathering is = cc
sealed_held Sealed is = refl
sealed_held Doubtful is = refl

doubtful_held : (phase : Phase) → is_doubtful phase ≡ true → is_gathering phase ≡ false
doubtful_held Gathering is = cc
doubtful_held Sealed is = refl
doubtful_held Doubtful is = refl

-- a stabilisation that does not gather is there with its lead and its phase
pub held_stays : (hub after : HubView) → IsSound hub → CommitsNothing hub after → (one : Stabilisation) → Contains hub.stabilisations one → is_gathering one.phase ≡ false
    → (same : Stabilisation) × Contains after.stabilisations same × (same.lead ≡ one.lead) × (same.phase ≡ one.phase)
held_stays hub after sound still one there held =
    let goes = from_sound turns.CommitsNothing hub after sound still in
    let stood = goes.comes.held one (subst (λ all. Contains all one) (sym (stands_for hub sound.stands).shows.stabilisations) there) held in
    (stood.same, subst (λ all. Contains all stood.same) goes.shows.stabilisations stood.there, stood.lead, stood.phase)

pub sealed_stays : (hub after : HubView) → IsSound hub → CommitsNothing hub after → (lead : ℕ) → IsSealedIn hub lead → IsSealedIn after lead
sealed_stays hub after sound still lead is =
    let one = is.0 in
    let same = held_stays hub after sound still one is.1 (sealed_held one.phase is.3) in
    (same.0, same.1, same.2 ∙ is.2, ap is_sealed same.3 ∙ is.3)

-- where one is in doubt, one is in doubt
doubt_stays : (hub after : HubView) → IsSound hub → CommitsNothing hub after → (found : Option Stabilisation) → doubtful_in hub ≡ found → is_some found ≡ true
    → is_some (doubtful_in after) ≡ true
doubt_stays hub after sound still None is some = cc
doubt_stays hub after sound still (Some one) is some =
    let found = find_found (λ (one : Stabilisation). is_doubtful one.phase) hub.stabilisations one is in
    let same = held_stays hub after sound still one found.0 (doubtful_held one.phase found.1) in
    find_some (λ (one : Stabilisation). is_doubtful one.phase) after.stabilisations same.0 same.1 (ap is_doubtful same.3 ∙ found.1)

pub in_doubt_stays : (hub after : HubView) → IsSound hub → CommitsNothing hub after → (unfinished : Option Unfinished) → IsInDoubt unfinished hub
    → IsInDoubt unfinished after
in_doubt_stays hub after sound still (Some one) is = is
in_doubt_stays hub after sound still None is = doubt_stays hub after sound still (doubtful_in hub) refl is

-- where none is in doubt, none comes into doubt
none_found : (hub : HubView) → doubtful_in hub ≡ None → (one : Stabilisation) → Contains hub.stabilisations one → is_doubtful one.phase ≡ true → ⊥
none_found hub none one there doubtful =
    true≢false (sym (find_some (λ (one : Stabilisation). is_doubtful one.phase) hub.stabilisations one there doubtful) ∙ ap is_some none)

pub alone_stays : (hub after : HubView) → IsSound hub → CommitsNothing hub after → doubtful_in hub ≡ None → doubtful_in after ≡ None
alone_stays hub after sound still none = by (doubtful_in after) refl
  where
    by : (found : Option Stabilisation) → doubtful_in after ≡ found → found ≡ None
    by None is = refl
    by (Some one) is =
        let found = find_found (λ (one : Stabilisation). is_doubtful one.phase) after.stabilisations one is in
        let goes = from_sound turns.CommitsNothing hub after sound still in
        let was = goes.comes.doubts one (subst (λ all. Contains all one) (sym goes.shows.stabilisations) found.0) found.1 in
        absurd (none_found hub none was.0 (subst (λ all. Contains all was.0) (stands_for hub sound.stands).shows.stabilisations was.1) was.3)
