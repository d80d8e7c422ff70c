use Rattle.std.proofs.Common.{◌≡◌, zero, suc, ◌==◌, ◌&&◌, eqb-true, List, [], ◌∷◌, Bool, true, false, cond, not, Contains, refl, sym, ap, arith}
use Rattle.std.specs.Prelude.{Option, Some, map, filter, find, option_map}
use Rattle.casper_words.specs.Crew.{has_member}
use Rattle.casper_model.specs.Stabilisation.{Stabilisation, is_sealed as machine_seals, is_doubtful as machine_doubts}
use Rattle.casper_gather.specs.declared.stab.Phase.{Phase}
use Rattle.casper_gather.specs.declared.stab.Phase.TheVariants as phase
use Rattle.casper_gather.specs.declared.stab.Stab.{Stab}
use Rattle.casper_gather.specs.Bookkeeping.{stabilisation_of, phase_of, without_asker}
use Rattle.casper_gather.specs.Unended.{is_sealed, is_doubtful, led_by}
use Rattle.casper_gather.specs.UnendedLaws.{FoundByLead, FoundByMembers, FoundSealed, FoundInDoubt, ChangedAsInTheMachine, EndedAsInTheMachine, ForgottenAsInTheMachine, BegunAsInTheMachine}
use Rattle.std.proofs.lemmas.List.{map-append}

found_step : {X Y : Type 0} (show : X → Y) (mine its : Bool) (x : X) (rest : Option X) (others : Option Y) → mine ≡ its → option_map show rest ≡ others
    → option_map show (cond mine (Some x) rest) ≡ cond its (Some (show x)) others
found_step show true true x rest others same is = refl
found_step show false false x rest others same is = is
found_step show true false x rest others same is = cc
found_step show false true x rest others same is = cc

-- what is found in a list is found where the list is shown
pub find_shown : {X Y : Type 0} (show : X → Y) (own : X → Bool) (test : Y → Bool) → ((x : X) → own x ≡ test (show x)) → (xs : List X)
    → option_map show (find own xs) ≡ find test (map show xs)
find_shown show own test same [] = refl
find_shown show own test same (x ∷ xs) =
    found_step show (own x) (test (show x)) x (find own xs) (find test (map show xs)) (same x) (find_shown show own test same xs)

kept_step : {X Y : Type 0} (show : X → Y) (mine its : Bool) (x : X) (rest : List X) (others : List Y) → mine ≡ its → map show rest ≡ others
    → map show (cond mine (x ∷ rest) rest) ≡ cond its (show x ∷ others) others
kept_step show true true x rest others same is = ap (λ ys. show x ∷ ys) is
kept_step show false false x rest others same is = is
kept_step show true false x rest others same is = cc
kept_step show false true x rest others same is = cc

-- and what is kept of it
pub filter_shown : {X Y : Type 0} (show : X → Y) (own : X → Bool) (test : Y → Bool) → ((x : X) → own x ≡ test (show x)) → (xs : List X)
    → map show (filter own xs) ≡ filter test (map show xs)
filter_shown show own test same [] = refl
filter_shown show own test same (x ∷ xs) =
    kept_step show (own x) (test (show x)) x (filter own xs) (filter test (map show xs)) (same x) (filter_shown show own test same xs)

further : {X : Type 0} (x : X) (xs : List X) (y : X) → Contains xs y → Contains (x ∷ xs) y
further x xs y (k, within, is) = (suc k, omega arith, is)

-- and what each becomes
pub map_shown : {X Y : Type 0} (show : X → Y) (own : X → X) (change : Y → Y) (xs : List X)
    → ((x : X) → Contains xs x → show (own x) ≡ change (show x)) → map show (map own xs) ≡ map change (map show xs)
map_shown show own change [] same = refl
map_shown show own change (x ∷ xs) same =
    let first = same x (zero, omega arith, refl) in
    let rest = map_shown show own change xs (λ y inside. same y (further x xs y inside)) in
    cc

pub found_by_lead : FoundByLead
found_by_lead lead each = find_shown stabilisation_of (λ one. one.lead == lead) (λ one. one.lead == lead) (λ one. refl) each

pub found_by_members : FoundByMembers
found_by_members members each =
    find_shown stabilisation_of (λ one. has_member one.lead members) (λ one. has_member one.lead members) (λ one. refl) each

seals_alike : (how : Phase) → is_sealed how ≡ machine_seals (phase_of how)
seals_alike phase.Gathering = refl
seals_alike phase.Sealed = refl
seals_alike phase.Doubt = refl

pub found_sealed : FoundSealed
found_sealed lead each =
    find_shown stabilisation_of (λ one. (one.lead == lead) && is_sealed one.phase) (λ one. (one.lead == lead) && machine_seals one.phase)
    (λ one. ap (λ b. (one.lead == lead) && b) (seals_alike one.phase)) each

doubts_alike : (how : Phase) → is_doubtful how ≡ machine_doubts (phase_of how)
doubts_alike phase.Gathering = refl
doubts_alike phase.Sealed = refl
doubts_alike phase.Doubt = refl

pub found_in_doubt : FoundInDoubt
found_in_doubt each = find_shown stabilisation_of (λ one. is_doubtful one.phase) (λ one. machine_doubts one.phase) (λ one. doubts_alike one.phase) each

pub ended_alike : EndedAsInTheMachine
ended_alike members each =
    filter_shown stabilisation_of (λ one. not (has_member one.lead members)) (λ one. not (has_member one.lead members)) (λ one. refl) each

pub forgotten_alike : ForgottenAsInTheMachine
forgotten_alike who each =
    map_shown stabilisation_of (λ one. record one { askers = (without_asker who (stabilisation_of one)).askers }) (without_asker who) each (λ one inside. refl)

pub begun_alike : BegunAsInTheMachine
begun_alike one each = map-append stabilisation_of each (one ∷ [])

change_step : (change : Stabilisation → Stabilisation) (changed other : Stab) (test : Bool) → (test ≡ true → stabilisation_of changed ≡ change (stabilisation_of other))
    → stabilisation_of (cond test changed other) ≡ cond test (change (stabilisation_of other)) (stabilisation_of other)
change_step change changed other true is = is refl
change_step change changed other false is = refl

pub changed_alike : ChangedAsInTheMachine
changed_alike change one changed each alone led is =
    map_shown stabilisation_of (λ other. cond (other.lead == changed.lead) changed other) (λ other. cond (other.lead == changed.lead) (change other) other) each
    (λ other inside. change_step change changed other (other.lead == changed.lead)
    (λ same. let lead : other.lead ≡ changed.lead = eqb-true _ _ same in
    let found : led_by changed.lead each ≡ Some other = rw (sym lead) (alone other inside) in
    let this : one ≡ other = cc in
    cc))
