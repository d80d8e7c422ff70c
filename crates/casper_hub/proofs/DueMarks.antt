use Rattle.std.proofs.Common.{◌≡◌, ◌≤◌, ◌+◌, ℕ, List, true, false, not, cond, ◌||◌, length, sym, ap, ◌∙◌, subst, Contains, ⊎_elim, arith}
use Rattle.std.specs.Prelude.{Option, None}
use Rattle.std.specs.List.{list_any}
use Rattle.std.proofs.lemmas.Bool.{cases_Bool, or_left}
use Rattle.casper_words.specs.Crew.{IsClient, has_member}
use Rattle.casper_trail.specs.Association.{association_of}
use Rattle.casper_trail.proofs.Rounds.{association_holds_its_client}
use Rattle.casper_gather.specs.declared.stab.Stab.{Stab}
use Rattle.casper_gather.specs.Bookkeeping.{stabilisation_of}
use Rattle.casper_gather.specs.Unended.{but_led_among}
use Rattle.casper_gather.specs.UnendedLaws.{stabilisations_of}
use Rattle.casper_model.specs.Stabilisation.{Stabilisation}
use Rattle.casper_turns.proofs.Lists.{any_found, contains_map}
use Rattle.casper_hub.specs.Felling.{is_among}
use Rattle.casper_hub.specs.HubView.{HubView, ClientView, FallenView, is_live, fallen_in, place_in, felled, is_up, count_up}
use Rattle.casper_hub.specs.RollingBack.{is_mark_due}
use Rattle.casper_hub.proofs.EndedLead.{fewer_left}
use Rattle.casper_hub.proofs.Felling.{among_members, fewer_up, one_fewer_up, up_of, was_up, not_up_felled}
use Rattle.casper_hub.proofs.KeptUp.{fewer_led}

-- of a live client a mark is due
pub due_of_live : (who : ℕ) (hub : HubView) → is_live hub who ≡ true → is_mark_due who hub ≡ true
due_of_live who hub live = or_left (is_live hub who) (list_any (λ (one : Stabilisation). has_member one.lead (association_of hub.trail who)) hub.stabilisations) live

-- one mark fewer is due once an association was rolled back of which a mark was due
pub one_mark_fewer : (hub view : HubView) (lost : ℕ) (members : List ℕ) (fall : ℕ → FallenView) (after : List (Option ClientView)) (each : List Stab)
    → hub ≡ view → hub.stabilisations ≡ stabilisations_of each → IsClient lost → members ≡ association_of hub.trail lost
    → length after ≡ length hub.clients
    → ((who : ℕ) → place_in after who ≡ cond (is_among 33 members who) (felled (fall who) (place_in hub.clients who)) (place_in hub.clients who))
    → fallen_in view lost ≡ None → is_mark_due lost view ≡ true
    → count_up after + length (but_led_among members each) + 1 ≤ count_up hub.clients + length each
one_mark_fewer hub view lost members fall after each same shown client members_are long fell up due =
    ⊎_elim of_client of_stabilisation (cases_Bool (is_live hub lost))
  where
    falls : (at : ℕ) → is_up (place_in after at) ≡ true → is_up (place_in hub.clients at) ≡ true
    falls at is = was_up (is_among 33 members at) (fall at) (place_in hub.clients at) (ap is_up (sym (fell at)) ∙ is)

    among : is_among 33 members lost ≡ true
    among = among_members hub.trail lost lost members members_are ∙ association_holds_its_client hub.trail lost client

    of_client : is_live hub lost ≡ true → count_up after + length (but_led_among members each) + 1 ≤ count_up hub.clients + length each
    of_client live =
        let less = one_fewer_up hub.clients after lost long falls
        (up_of (place_in hub.clients lost) live (subst (λ (h : HubView). fallen_in h lost ≡ None) (sym same) up))
        (ap is_up (fell lost ∙ ap (λ b. cond b (felled (fall lost) (place_in hub.clients lost)) (place_in hub.clients lost)) among)
        ∙ not_up_felled (fall lost) (place_in hub.clients lost)) in
        let fewer = fewer_led members each in
        omega (arith, less, fewer)

    of_stabilisation : is_live hub lost ≡ false → count_up after + length (but_led_among members each) + 1 ≤ count_up hub.clients + length each
    of_stabilisation absent =
        let some : list_any (λ (one : Stabilisation). has_member one.lead (association_of hub.trail lost)) hub.stabilisations ≡ true =
        sym (ap (λ live. live || list_any (λ (one : Stabilisation). has_member one.lead (association_of hub.trail lost)) hub.stabilisations) absent)
        ∙ ap (is_mark_due lost) same ∙ due in
        let found = any_found (λ (one : Stabilisation). has_member one.lead (association_of hub.trail lost)) hub.stabilisations some in
        let there = contains_map stabilisation_of each found.0 (subst (λ (all : List Stabilisation). Contains all found.0) shown found.1) in
        let led : has_member there.0.lead members ≡ true =
        ap (λ (one : Stabilisation). has_member one.lead members) there.2 ∙ ap (has_member found.0.lead) members_are ∙ found.2 in
        let less = fewer_left (λ (one : Stab). not (has_member one.lead members)) each there.0 there.1 (ap not led) in
        let fewer = fewer_up hub.clients after long falls in
        omega (arith, less, fewer)
