use Rattle.std.proofs.Common.{◌≡◌, ℕ, Bool, true, false, ◌&&◌, ◌||◌, not, cond, List, [], ◌∷◌, Option, None, Some, length, suc, ◌==◌, refl, sym, ap, ap₂, ◌∙◌}
use Rattle.std.specs.Prelude.{map, filter, find, option_map}
use Rattle.std.specs.List.{list_any}
use Rattle.std.specs.Cmp.{both_ways}
use Rattle.std.proofs.lemmas.Bool.{and_parts, eqb-true}
use Rattle.casper_words.specs.Crew.{has_member}
use Rattle.casper_trail.specs.declared.item.Item.{Item}
use Rattle.casper_trail.specs.Association.{association_of}
use Rattle.casper_trail.proofs.Rounds.{association_goes_both_ways}
use Rattle.casper_model.specs.Shared.{Shared}
use Rattle.casper_model.specs.Stabilisation.{Stabilisation, is_gathering as machine_gathers, is_doubtful as machine_doubts}
use Rattle.casper_model.specs.Frozen.{is_member}
use Rattle.casper_model.specs.Acquire.{frozen_of}
use Rattle.casper_assoc.specs.TrailAssociations.{AssociationsView, AreMembersOf}
use Rattle.casper_gather.specs.declared.stab.Phase.{Phase}
use Rattle.casper_gather.specs.declared.stab.Phase.TheVariants as phase
use Rattle.casper_gather.specs.declared.stab.Stab.{Stab}
use Rattle.casper_gather.specs.Bookkeeping.{stabilisation_of, phase_of}
use Rattle.casper_gather.specs.Unended.{UnendedView, is_doubtful, led_among}
use Rattle.casper_gather.specs.UnendedLaws.{stabilisations_of}
use Rattle.casper_assoc.proofs.TrailParts.{found_in}
use Rattle.casper_gather.proofs.Shown.{find_shown}
use Rattle.casper_frozen.specs.Bridge.{Keeps, IsStabilisationOf, IsGatheringOf, IsUnended, Gathers}
use Rattle.casper_frozen.specs.Finding.{is_gathering, gathering_among, frozen_among, is_doubt_among}

gathers_alike : (how : Phase) → is_gathering how ≡ machine_gathers (phase_of how)
gathers_alike phase.Gathering = refl
gathers_alike phase.Sealed = refl
gathers_alike phase.Doubt = refl

doubts_alike : (how : Phase) → is_doubtful how ≡ machine_doubts (phase_of how)
doubts_alike phase.Gathering = refl
doubts_alike phase.Sealed = refl
doubts_alike phase.Doubt = refl

-- what passes a test is found in a list of those that pass another where it passes both
found_of_kept : {X : Type 0} (test keep : X → Bool) (xs : List X) → find test (filter keep xs) ≡ find (λ x. keep x && test x) xs
found_of_kept test keep [] = refl
found_of_kept test keep (x ∷ xs) = by (keep x) (found_of_kept test keep xs)
  where
    by : (b : Bool) → find test (filter keep xs) ≡ find (λ y. keep y && test y) xs
        → find test (cond b (x ∷ filter keep xs) (filter keep xs)) ≡ cond (b && test x) (Some x) (find (λ y. keep y && test y) xs)
    by true rest = ap (λ others. cond (test x) (Some x) others) rest
    by false rest = rest

-- whether some element passes a test is told by how the elements are shown
any_shown : {X Y : Type 0} (show : X → Y) (own : X → Bool) (test : Y → Bool) → ((x : X) → own x ≡ test (show x)) → (xs : List X)
    → list_any own xs ≡ list_any test (map show xs)
any_shown show own test same [] = refl
any_shown show own test same (x ∷ xs) = ap₂ (λ s t. s || t) (same x) (any_shown show own test same xs)

-- one client is in the association of another exactly where the other is in that of the one
in_turn : (items : List Item) (one other : ℕ) → has_member one (association_of items other) ≡ has_member other (association_of items one)
in_turn items one other =
    both_ways (has_member one (association_of items other)) (has_member other (association_of items one)) (association_goes_both_ways items other one)
    (association_goes_both_ways items one other)

-- a lead is among the members of a client's association where the client is a member of the lead's stabilisation
pub lead_is_among : (shared : Shared) (who : ℕ) (members : List ℕ) (one : Stab) → members ≡ association_of shared.trail who
    → has_member one.lead members ≡ is_member shared who (stabilisation_of one)
lead_is_among shared who members one own = ap (has_member one.lead) own ∙ in_turn shared.trail one.lead who

pub member_is_found : (unended : UnendedView) (all : AssociationsView) (who : ℕ) (members : List ℕ) (found : Option Stab)
    → AreMembersOf all who members → found ≡ led_among members unended.each → IsStabilisationOf unended all who found
member_is_found unended all who members found own is shared keeps =
    ap (option_map stabilisation_of) is
    ∙ find_shown stabilisation_of (λ one. has_member one.lead members) (is_member shared who)
    (λ one. lead_is_among shared who members one (own shared.trail keeps.associations)) unended.each
    ∙ ap (find (is_member shared who)) (sym keeps.stabilisations)

pub gathering_is_found : (unended : UnendedView) (all : AssociationsView) (who : ℕ) (members : List ℕ) (found : Option Stab)
    → AreMembersOf all who members → found ≡ gathering_among members unended.each → IsGatheringOf unended all who found
gathering_is_found unended all who members found own is shared keeps =
    ap (option_map stabilisation_of) is
    ∙ find_shown stabilisation_of (λ one. is_gathering one.phase && has_member one.lead members) test
    (λ one. ap₂ (λ s t. s && t) (gathers_alike one.phase) (lead_is_among shared who members one (own shared.trail keeps.associations))) unended.each
    ∙ ap (find test) (sym keeps.stabilisations)
  where
    test : Stabilisation → Bool
    test one = machine_gathers one.phase && is_member shared who one

-- a frozen one is found where its lead is among the clients that a test of the machine's picks
pub frozen_is_found : (shared : Shared) (each : List Stab) (members : List ℕ) (test : Stabilisation → Bool)
    → shared.stabilisations ≡ stabilisations_of each → ((one : Stab) → has_member one.lead members ≡ test (stabilisation_of one))
    → option_map stabilisation_of (frozen_among members each) ≡ find test (frozen_of shared)
frozen_is_found shared each members test kept same =
    find_shown stabilisation_of (λ one. not (is_doubtful one.phase) && has_member one.lead members) both
    (λ one. ap₂ (λ s t. not s && t) (doubts_alike one.phase) (same one)) each
    ∙ ap (find both) (sym kept)
    ∙ sym (found_of_kept test (λ one. not (machine_doubts one.phase)) shared.stabilisations)
  where
    both : Stabilisation → Bool
    both one = not (machine_doubts one.phase) && test one

-- and so is whether one is in doubt
pub doubt_is_found : (shared : Shared) (each : List Stab) (members : List ℕ) (test : Stabilisation → Bool)
    → shared.stabilisations ≡ stabilisations_of each → ((one : Stab) → has_member one.lead members ≡ test (stabilisation_of one))
    → is_doubt_among members each ≡ list_any (λ one. machine_doubts one.phase && test one) shared.stabilisations
doubt_is_found shared each members test kept same =
    any_shown stabilisation_of (λ one. is_doubtful one.phase && has_member one.lead members) (λ one. machine_doubts one.phase && test one)
    (λ one. ap₂ (λ s t. s && t) (doubts_alike one.phase) (same one)) each
    ∙ ap (list_any (λ one. machine_doubts one.phase && test one)) (sym kept)

pub empty_list : {X : Type 0} (xs : List X) → (length xs == 0) ≡ true → xs ≡ []
empty_list [] none = refl
empty_list (x ∷ xs) none = let some : suc (length xs) ≡ 0 = eqb-true (length (x ∷ xs)) 0 none in cc

-- where nothing is unended, nobody belongs to a stabilisation
nothing_kept : (unended : UnendedView) (all : AssociationsView) (shared : Shared) → Keeps unended all shared → (length unended.each == 0) ≡ true
    → [] ≡ shared.stabilisations
nothing_kept unended all shared keeps empty = sym (keeps.stabilisations ∙ ap stabilisations_of (empty_list unended.each empty))

pub no_member : (unended : UnendedView) (all : AssociationsView) (who : ℕ) → (length unended.each == 0) ≡ true → IsStabilisationOf unended all who None
no_member unended all who empty shared keeps = ap (find (is_member shared who)) (nothing_kept unended all shared keeps empty)

pub no_gathering : (unended : UnendedView) (all : AssociationsView) (who : ℕ) → (length unended.each == 0) ≡ true → IsGatheringOf unended all who None
no_gathering unended all who empty shared keeps =
    ap (find (λ one. machine_gathers one.phase && is_member shared who one)) (nothing_kept unended all shared keeps empty)

pub found_is_unended : (unended : UnendedView) (test : Stab → Bool) (found : Option Stab) → found ≡ find test unended.each → IsUnended unended found
found_is_unended unended test None is = tt
found_is_unended unended test (Some one) is = (found_in test unended.each one (sym is)).0

pub found_gathers : (each : List Stab) (members : List ℕ) (found : Option Stab) → found ≡ gathering_among members each → Gathers found
found_gathers each members None is = tt
found_gathers each members (Some one) is =
    sym (gathers_alike one.phase)
    ∙ (and_parts (is_gathering one.phase) (has_member one.lead members)
    (found_in (λ one. is_gathering one.phase && has_member one.lead members) each one (sym is)).1).0
