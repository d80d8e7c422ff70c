use Rattle.std.proofs.Common.{◌≡◌, ◌≢◌, ℕ, List, [], ◌∷◌, true, false, ◌==◌, ◌&&◌, cond, not, map, Contains, refl, sym, ap, ◌∙◌, subst, ⊎_elim, true≢false}
use Rattle.std.specs.Prelude.{Some}
use Rattle.std.proofs.lemmas.Bool.{cond_both, cases_eq, and_parts, eqb-true, ne_eqb, or_cases}
use Rattle.casper_words.specs.Crew.{has_member}
use Rattle.casper_words.specs.declared.page.Right.TheVariants as may
use Rattle.casper_words.specs.declared.page.Want.{Want}
use Rattle.casper_model.specs.Held.{is_of, covers, allows, lowered}
use Rattle.casper_model.specs.Stabilisation.{Stabilisation, Gathering, Sealed, is_gathering, is_sealed, is_doubtful, without, is_empty, phase_awaiting, handed_in_by, Phase}
use Rattle.casper_model.specs.Shared.{Shared, rights_at}
use Rattle.casper_model.specs.Frozen.{is_member}
use Rattle.casper_model.specs.Opening.{gathering_of}
use Rattle.casper_turns.specs.Frozen.{AreFrozen}
use Rattle.casper_turns.proofs.Lists.{any_found, find_found, contains_filtered, any_of}
use Rattle.casper_turns.proofs.FrozenChanges.{MayWriteNoMore, AssociationsStay, StaysFrozen, one_of_lead, quiet_still, stays_mapped}

-- pages kept for reading may not be written
pub lowered_writes_not : (held : List Want) (page : ℕ) → allows (map lowered held) page may.Write ≡ true → ⊥
lowered_writes_not [] page found = true≢false (sym found)
lowered_writes_not (want ∷ held) page found =
    ⊎_elim
    (λ here. true≢false (sym (and_parts (is_of page (lowered want)) (covers (lowered want).right may.Write) here).1))
    (λ later. lowered_writes_not held page later)
    (or_cases (is_of page (lowered want) && covers (lowered want).right may.Write) (allows (map lowered held) page may.Write) found)

-- a list of clients with a member is not empty
pub awaiting_gathers : (awaited : List ℕ) (who : ℕ) → has_member who awaited ≡ true → phase_awaiting awaited ≡ Gathering
awaiting_gathers (first ∷ rest) who found = refl
awaiting_gathers [] who found = absurd (true≢false (sym found))

phase_not_doubtful : (awaited : List ℕ) → is_doubtful (phase_awaiting awaited) ≡ false
phase_not_doubtful awaited = cond_both (is_empty awaited) Sealed Gathering (λ phase. is_doubtful phase ≡ false) (λ is. refl) (λ is. refl)

-- another client is still awaited
still_awaited : (who other : ℕ) (awaited : List ℕ) → who ≢ other → has_member who awaited ≡ true → has_member who (without other awaited) ≡ true
still_awaited who other awaited apart found =
    let one = any_found (λ member. member == who) awaited found in
    let same : one.0 ≡ who = eqb-true one.0 who one.2 in
    any_of (λ member. member == who) (without other awaited) one.0
    (contains_filtered (λ member. not (member == other)) awaited one.0 one.1 (ap not (ne_eqb one.0 other (λ is. apart (sym same ∙ is))))) one.2

pub gathering_only : (phase : Phase) → is_gathering phase ≡ true → (is_doubtful phase ≡ false) × (is_sealed phase ≡ false)
gathering_only Gathering is = (refl, refl)
gathering_only Sealed is = absurd (true≢false (sym is))
gathering_only Phase.Doubtful is = absurd (true≢false (sym is))

-- what an opening may change of a stabilisation: one that has this lead no longer awaits the client
abbrev pub handing_in : ℕ → ℕ → Stabilisation → Stabilisation
handing_in lead who one = cond (one.lead == lead) (handed_in_by who one) one

-- a gathering stabilisation no longer awaits a client that may write nothing
pub handing_stays : (shared after : Shared) (who : ℕ) (g : Stabilisation) → Contains shared.stabilisations g → is_gathering g.phase ≡ true
    → after.stabilisations ≡ map (handing_in g.lead who) shared.stabilisations → AssociationsStay shared after → MayWriteNoMore shared after
    → ((page : ℕ) → allows (rights_at after who) page may.Write ≡ true → ⊥) → AreFrozen shared → StaysFrozen shared after
handing_stays shared after who g here gathering changed stay less silent frozen =
    stays_mapped shared after (handing_in g.lead who) changed leads stay
    (λ one inside.
    quiet_still shared after one (handing_in g.lead who one) (leads one) (stay one inside) less
    (λ number page writes gathers awaited.
    cond_both (one.lead == g.lead) (handed_in_by who one) one (λ (x : Stabilisation). (is_gathering x.phase ≡ true) × (has_member number x.awaited ≡ true))
    (λ yes.
    ⊎_elim (λ same. absurd (silent page (subst (λ one. allows (rights_at after one) page may.Write ≡ true) same writes)))
    (λ apart.
    let left = still_awaited number who one.awaited apart awaited in
    (ap is_gathering (awaiting_gathers (without who one.awaited) number left), left))
    (cases_eq number who))
    (λ no. (gathers, awaited)))
    (frozen.quiet one inside))
    (λ one inside.
    cond_both (one.lead == g.lead) (handed_in_by who one) one (λ (x : Stabilisation). is_doubtful x.phase ≡ is_doubtful one.phase)
    (λ yes. phase_not_doubtful (without who one.awaited) ∙ sym (phases one inside yes).0) (λ no. refl))
    (λ one inside sealed.
    cond_both (one.lead == g.lead) (handed_in_by who one) one (λ (x : Stabilisation). is_sealed x.phase ≡ true)
    (λ yes. absurd (true≢false (sym sealed ∙ (phases one inside yes).1))) (λ no. sealed))
    frozen
  where
    leads : (one : Stabilisation) → (handing_in g.lead who one).lead ≡ one.lead
    leads one = cond_both (one.lead == g.lead) (handed_in_by who one) one (λ (x : Stabilisation). x.lead ≡ one.lead) (λ yes. refl) (λ no. refl)

    phases : (one : Stabilisation) → Contains shared.stabilisations one → (one.lead == g.lead) ≡ true → (is_doubtful one.phase ≡ false) × (is_sealed one.phase ≡ false)
    phases one inside same =
        let one_is : one ≡ g = one_of_lead shared one g frozen inside here (eqb-true one.lead g.lead same) in
        gathering_only one.phase (ap (λ (x : Stabilisation). is_gathering x.phase) one_is ∙ gathering)

-- the gathering stabilisation of a client is one that gathers
pub gathering_found : (shared : Shared) (who : ℕ) (g : Stabilisation) → gathering_of shared who ≡ Some g → Contains shared.stabilisations g × (is_gathering g.phase ≡ true)
gathering_found shared who g e =
    let found = find_found (λ one. is_gathering one.phase && is_member shared who one) shared.stabilisations g e in
    (found.0, (and_parts (is_gathering g.phase) (is_member shared who g) found.1).0)
