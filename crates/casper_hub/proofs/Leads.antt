use Rattle.std.proofs.Common.{◌≡◌, ℕ, List, [], ◌∷◌, false, cond, eq-eqb, ne_eqb, Contains, sym, ap, ◌∙◌, ⊎_elim, true≢false, subst}
use Rattle.std.specs.Prelude.{Some}
use Rattle.casper_words.specs.Crew.{IsClient, has_member}
use Rattle.casper_trail.specs.declared.item.Item.{Item}
use Rattle.casper_trail.specs.Association.{association_of}
use Rattle.casper_trail.proofs.LinkLists.{contains_there}
use Rattle.casper_trail.proofs.Rounds.{association_holds_its_client}
use Rattle.casper_model.specs.Stabilisation.{Stabilisation}
use Rattle.casper_model.specs.Shared.{Shared}
use Rattle.casper_model.proofs.Entries.{contains_cases}
use Rattle.casper_turns.specs.Frozen.{leads_of, AreApart}
use Rattle.casper_turns.specs.Good.{IsGoodShared}
use Rattle.casper_turns.proofs.Lists.{nothing_in, contains_here, contains_map, contains_mapped, none_passes}
use Rattle.casper_gather.specs.declared.stab.Stab.{Stab}
use Rattle.casper_gather.specs.Bookkeeping.{stabilisation_of}
use Rattle.casper_gather.specs.Unended.{led_by}
use Rattle.casper_gather.specs.UnendedLaws.{stabilisations_of, HaveOneEachLead}

-- Each lead leads one of the stabilisations that have not ended.

-- who is apart from others leads none of them
differs : (trail : List Item) (x one : Stab) (xs : List Stab) → IsClient x.lead → AreApart trail (leads_of (stabilisations_of (x ∷ xs))) → Contains xs one → x.lead ≡ one.lead → ⊥
differs trail x one xs client apart later same =
    let own = association_holds_its_client trail x.lead client in
    let there : Contains (leads_of (stabilisations_of xs)) one.lead =
    contains_mapped (λ (s : Stabilisation). s.lead) (stabilisations_of xs) (stabilisation_of one) (contains_mapped stabilisation_of xs one later) in
    let not : has_member x.lead (association_of trail one.lead) ≡ false =
    none_passes (λ other. has_member x.lead (association_of trail other)) (leads_of (stabilisations_of xs)) one.lead (apart.0 x.lead own) there in
    true≢false (sym own ∙ ap (λ (lead : ℕ). has_member x.lead (association_of trail lead)) same ∙ not)

pub have_one_each_lead : (trail : List Item) (each : List Stab) → ((one : Stab) → Contains each one → IsClient one.lead) → AreApart trail (leads_of (stabilisations_of each))
    → HaveOneEachLead each
have_one_each_lead trail [] clients apart one inside = absurd (nothing_in one inside)
have_one_each_lead trail (x ∷ xs) clients apart one inside =
    ⊎_elim
    (λ (is : x ≡ one).
    ap (λ b. cond b (Some x) (led_by one.lead xs)) (eq-eqb x.lead one.lead (ap (λ (s : Stab). s.lead) is)) ∙ ap Some is)
    (λ later.
    ap (λ b. cond b (Some x) (led_by one.lead xs)) (ne_eqb x.lead one.lead (differs trail x one xs (clients x (contains_here x xs)) apart later))
    ∙ have_one_each_lead trail xs (λ other there. clients other (contains_there x xs other there)) apart.1 one later)
    (contains_cases x xs one inside)

-- so it is with those of a good shared part
pub have_one_in : (shared : Shared) (each : List Stab) → shared.stabilisations ≡ stabilisations_of each → IsGoodShared shared → HaveOneEachLead each
have_one_in shared each are good =
    have_one_each_lead shared.trail each
    (λ one inside. good.frozen.leads (stabilisation_of one) (subst (λ list. Contains list (stabilisation_of one)) (sym are) (contains_mapped stabilisation_of each one inside)))
    (subst (λ list. AreApart shared.trail (leads_of list)) are good.frozen.apart)

-- what the machine has, its lead leads here
pub led_here : (each : List Stab) (one : Stabilisation) → HaveOneEachLead each → Contains (stabilisations_of each) one
    → (here : Stab) × (led_by one.lead each ≡ Some here) × (stabilisation_of here ≡ one)
led_here each one have inside =
    let found = contains_map stabilisation_of each one inside in
    (found.0, ap (λ (lead : ℕ). led_by lead each) (sym (ap (λ (s : Stabilisation). s.lead) found.2)) ∙ have found.0 found.1, found.2)
