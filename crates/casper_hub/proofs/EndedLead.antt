use Rattle.std.proofs.Common.{◌≡◌, ◌≤◌, ◌<◌, ◌+◌, ℕ, suc, zero, List, [], ◌∷◌, Bool, true, false, not, cond, ◌&&◌, ◌||◌, ◌==◌, nat_lt, filter, length, Contains, refl, sym, ap, ap₂, ◌∙◌, ⊎_elim, true≢false, arith}
use Rattle.std.specs.Prelude.{Option, None, Some}
use Rattle.std.proofs.lemmas.Bool.{cases_Bool, eqb-true, eq-eqb, false_from_ne_true, ltb-false, lt-ltb}
use Rattle.std.proofs.lemmas.List.{get_or_past}
use Rattle.std.proofs.lemmas.List.Elements.{filter_agree}
use Rattle.std.proofs.lemmas.List.Sums.{count_by-le-length, length-filter}
use Rattle.casper_words.specs.Crew.{IsClient, has_member, crew_of}
use Rattle.casper_words.proofs.CrewLemmas.{has_member_crew_of, IsCrew_crew_of, client_from_member}
use Rattle.casper_gather.specs.declared.stab.Stab.{Stab}
use Rattle.casper_gather.specs.Bookkeeping.{stabilisation_of}
use Rattle.casper_gather.specs.Unended.{but_led_among}
use Rattle.casper_gather.specs.UnendedLaws.{stabilisations_of}
use Rattle.casper_gather.proofs.Shown.{filter_shown}
use Rattle.casper_model.specs.declared.outcome.Kept.{Kept}
use Rattle.casper_model.specs.Stabilisation.{Stabilisation}
use Rattle.casper_turns.proofs.Lists.{contains_map}
use Rattle.casper_hub.specs.Committing.{but_led_by}
use Rattle.casper_hub.specs.Felling.{is_among}
use Rattle.casper_hub.specs.HubView.{HubView, ClientView, client_in, place_in, with_kept, is_up, count_up}
use Rattle.casper_hub.specs.Sound.{IsSound}
use Rattle.casper_hub.proofs.Felling.{fewer_up}
use Rattle.casper_hub.proofs.StandsFor.{stands_for}
use Rattle.casper_hub.proofs.Whole.{absent_in}

-- A crew of one lead ends the stabilisation of that lead alone.

-- a client is in a crew of one where it is that one
member_of_one : (lead who : ℕ) → IsClient lead → has_member who (crew_of (λ client. has_member client [] || client == lead)) ≡ (who == lead)
member_of_one lead who is = ⊎_elim inside outside (cases_Bool (has_member who (crew_of (λ client. has_member client [] || client == lead))))
  where
    test : ℕ → Bool
    test client = has_member client [] || client == lead

    inside : has_member who (crew_of (λ client. has_member client [] || client == lead)) ≡ true → has_member who (crew_of (λ client. has_member client [] || client == lead)) ≡ (who == lead)
    inside member = has_member_crew_of (λ client. has_member client [] || client == lead) who
        (client_from_member (crew_of (λ client. has_member client [] || client == lead)) who (IsCrew_crew_of (λ client. has_member client [] || client == lead)) member)

    outside : has_member who (crew_of (λ client. has_member client [] || client == lead)) ≡ false → has_member who (crew_of (λ client. has_member client [] || client == lead)) ≡ (who == lead)
    outside out =
        out ∙ sym (false_from_ne_true (who == lead)
        (λ same.
        let at : who ≡ lead = eqb-true who lead same in
        true≢false
        (sym (ap (λ n. has_member n (crew_of (λ client. has_member client [] || client == lead))) at
        ∙ has_member_crew_of (λ client. has_member client [] || client == lead) lead is ∙ sym (ap (λ n. n == lead) at) ∙ same)
        ∙ out)))

pub one_ended : (lead : ℕ) (each : List Stab) → IsClient lead
    → but_led_among (crew_of (λ client. has_member client [] || client == lead)) each ≡ filter (λ other. not (other.lead == lead)) each
one_ended lead each is =
    filter_agree (λ (other : Stab). not (has_member other.lead (crew_of (λ client. has_member client [] || client == lead)))) (λ (other : Stab). not (other.lead == lead))
    (λ other. ap not (member_of_one lead other.lead is)) each

dropped_step : {X : Type 0} (keep : Bool) (x : X) (xs ys : List X) → keep ≡ false → length xs ≤ length ys → length (cond keep (x ∷ xs) xs) < length (x ∷ ys)
dropped_step true x xs ys is less = cc
dropped_step false x xs ys is less = omega (arith, less)

kept_step : {X : Type 0} (keep : Bool) (x : X) (xs ys : List X) → length xs < length ys → length (cond keep (x ∷ xs) xs) < length (x ∷ ys)
kept_step true x xs ys less = omega (arith, less)
kept_step false x xs ys less = omega (arith, less)

-- a filter that drops one of the elements leaves fewer
pub fewer_left : {X : Type 0} (test : X → Bool) (xs : List X) (x : X) → Contains xs x → test x ≡ false → length (filter test xs) < length xs
fewer_left test [] x (place, within, is) drops = absurd (omega (arith, within))
fewer_left test (first ∷ xs) x (zero, within, is) drops =
    let same : first ≡ x = cc in
    dropped_step (test first) first (filter test xs) xs (ap test same ∙ drops)
    (let most = count_by-le-length test xs in let count = length-filter test xs in omega (arith, most, count))
fewer_left test (first ∷ xs) x (suc place, within, is) drops =
    kept_step (test first) first (filter test xs) xs (fewer_left test xs x (place, omega (arith, within), is) drops)

-- the same of a crew that is made so
pub ended_by_crew : (lead : ℕ) (each : List Stab) → IsClient lead → (none crew : List ℕ) → none ≡ [] → crew ≡ crew_of (λ client. has_member client none || client == lead)
    → but_led_among crew each ≡ filter (λ other. not (other.lead == lead)) each
ended_by_crew lead each is none crew empty made =
    ap (λ (leads : List ℕ). but_led_among leads each) (made ∙ ap (λ (no : List ℕ). crew_of (λ client. has_member client no || client == lead)) empty) ∙ one_ended lead each is

-- those of the other leads, as the machine has them
pub but_led : (lead : ℕ) (each : List Stab) → stabilisations_of (filter (λ other. not (other.lead == lead)) each) ≡ but_led_by lead (stabilisations_of each)
but_led lead each = filter_shown stabilisation_of (λ one. not (one.lead == lead)) (λ one. not (one.lead == lead)) (λ one. refl) each

-- no more are left
pub fewer_than : (lead : ℕ) (each : List Stab) → length (filter (λ (other : Stab). not (other.lead == lead)) each) ≤ length each
fewer_than lead each =
    let most = count_by-le-length (λ (one : Stab). not (one.lead == lead)) each in
    let same = length-filter (λ (one : Stab). not (one.lead == lead)) each in
    omega (arith, most, same)

-- one fewer is left where one of the lead was there
pub one_fewer : (one : Stab) (each : List Stab) → Contains (stabilisations_of each) (stabilisation_of one) → length (filter (λ (other : Stab). not (other.lead == one.lead)) each) + 1 ≤ length each
one_fewer one each there =
    let found = contains_map stabilisation_of each (stabilisation_of one) there in
    let lead : found.0.lead ≡ one.lead = ap (λ (x : Stabilisation). x.lead) found.2 in
    let less = fewer_left (λ (other : Stab). not (other.lead == one.lead)) each found.0 found.1 (ap not (eq-eqb found.0.lead one.lead lead)) in
    omega (arith, less)

-- who has no place is told nothing
nothing_kept : (asks : Bool) (outcome : Kept) (place : Option ClientView) → place ≡ None → cond asks (with_kept outcome place) place ≡ place
nothing_kept true outcome None is = refl
nothing_kept true outcome (Some client) is = cc
nothing_kept false outcome place is = refl

-- all members of a list of askers that are live are told, also where the list is not known to be of clients
pub asked_so : (hub : HubView) → IsSound hub → (askers : List ℕ) (outcome : Kept) (who : ℕ)
    → cond (is_among 33 askers who) (with_kept outcome (client_in hub who)) (client_in hub who)
    ≡ cond (has_member who askers) (with_kept outcome (client_in hub who)) (client_in hub who)
asked_so hub sound askers outcome zero =
    let found = stands_for hub sound.stands in
    let none : client_in hub 0 ≡ None = absent_in found.shared hub found.shows 0 found.good.nobody in
    nothing_kept (is_among 33 askers 0) outcome (client_in hub 0) none ∙ sym (nothing_kept (has_member 0 askers) outcome (client_in hub 0) none)
asked_so hub sound askers outcome (suc who) = by (nat_lt (suc who) 33) refl
  where
    by : (below : Bool) → nat_lt (suc who) 33 ≡ below
        → cond (is_among 33 askers (suc who)) (with_kept outcome (client_in hub (suc who))) (client_in hub (suc who))
        ≡ cond (has_member (suc who) askers) (with_kept outcome (client_in hub (suc who))) (client_in hub (suc who))
    by true is =
        ap (λ b. cond b (with_kept outcome (client_in hub (suc who))) (client_in hub (suc who)))
        (ap₂ (λ a b. a && (b && has_member (suc who) askers)) (lt-ltb 0 (suc who) (omega arith)) is)
    by false is =
        let long = sound.formed.places in
        let none : client_in hub (suc who) ≡ None = get_or_past hub.clients (suc who) None (let over = ltb-false (suc who) 33 is in omega (arith, over, long)) in
        nothing_kept (is_among 33 askers (suc who)) outcome (client_in hub (suc who)) none
        ∙ sym (nothing_kept (has_member (suc who) askers) outcome (client_in hub (suc who)) none)

-- as many clients are up where outcomes are kept
up_before : (asks : Bool) (outcome : Kept) (place : Option ClientView) → is_up (cond asks (with_kept outcome place) place) ≡ is_up place
up_before true outcome None = refl
up_before false outcome None = refl
up_before true outcome (Some client) = refl
up_before false outcome (Some client) = refl

pub kept_up : (before after : List (Option ClientView)) (askers : List ℕ) (outcome : Kept) → length after ≡ length before
    → ((who : ℕ) → place_in after who ≡ cond (is_among 33 askers who) (with_kept outcome (place_in before who)) (place_in before who)) → count_up after ≤ count_up before
kept_up before after askers outcome long kept =
    fewer_up before after long (λ at up. sym (up_before (is_among 33 askers at) outcome (place_in before at)) ∙ ap is_up (sym (kept at)) ∙ up)
