use Rattle.std.proofs.Common.{◌≡◌, ℕ, List, [], ◌∷◌, Bool, true, false, not, ◌&&◌, ◌||◌, ◌==◌, length, take, Contains, refl, sym, ap, ◌∙◌, true≢false, arith}
use Rattle.std.specs.Prelude.{Option, None, Some, filter}
use Rattle.std.specs.List.{list_any}
use Rattle.std.proofs.lemmas.Bool.{cases_Bool, and_from, and_parts}
use Rattle.std.proofs.Common.{⊎_elim}
use Rattle.casper_trail.proofs.Rounds.{list_any_implies}
use Rattle.casper_words.specs.Crew.{IsClient, clients, crew_of}
use Rattle.casper_words.proofs.CrewLemmas.{crew_of_same}
use Rattle.casper_words.specs.declared.page.Right.{Right}
use Rattle.casper_words.specs.declared.page.Right.TheVariants as may
use Rattle.casper_words.specs.declared.page.Want.{Want}
use Rattle.casper_dir.specs.Rights.{right_at}
use Rattle.casper_dir.specs.Holding.{is_in_conflict}
use Rattle.casper_dir.proofs.HoldersLemmas.{fails_at}
use Rattle.casper_cache.specs.Own as cache
use Rattle.casper_model.specs.Held.{is_of, is_to_write}
use Rattle.casper_model.specs.Opening.{any_right}
use Rattle.casper_model.specs.Held.{with_granted}
use Rattle.casper_words.specs.Wants.{AreWants}
use Rattle.casper_hub.specs.HubView.{HubView, right_in, place_in, asks_of}
use Rattle.casper_hub.specs.Asks.{are_for, asks_for, is_asked_for}
use Rattle.casper_hub.specs.Owned.{wants_of}
use Rattle.casper_hub.specs.Given.{met, right_kept}
use Rattle.casper_hub.specs.Deciding.{fell, is_given, stands_in_the_way}
use Rattle.casper_hub.specs.Installing.{with_pages, all_raised, all_fronted}
use Rattle.casper_hub.specs.Stages.{CanGrant, Grants}
use Rattle.casper_hub.proofs.Whole.{Whole, Owning}
use Rattle.casper_hub.proofs.Deciding.{crew_none}
use Rattle.casper_hub.proofs.Installed.{fails_in}
use Rattle.casper_hub.proofs.OpenedTurns.{kept_held, kept_same}
use Rattle.casper_hub.proofs.GrantedHeld.{granted_held}

-- the crew of no client
pub empty_crew : crew_of (λ other. false) ≡ []
unfolding crew_of
empty_crew = none clients
  where
    none : (xs : List ℕ) → filter (λ x. false) xs ≡ []
    none [] = refl
    none (x ∷ xs) = none xs

-- a right that did not fall as asks were met is as it was
stays_met : (wholly asked : Bool) (right : Option Right) → fell right (met wholly asked right) ≡ false → met wholly asked right ≡ right
stays_met wholly asked None e = refl
stays_met true asked (Some right) e = absurd (true≢false e)
stays_met false true (Some may.Read) e = refl
stays_met false true (Some may.Write) e = absurd (true≢false e)
stays_met false false (Some right) e = refl

-- a right falls only where another client asks
falls_for_asks : (wholly asked : Bool) (right : Option Right) → (wholly ≡ true → asked ≡ true) → asked ≡ false → fell right (met wholly asked right) ≡ false
falls_for_asks wholly asked None all none = refl
falls_for_asks true asked (Some right) all none = absurd (true≢false (sym (all refl) ∙ none))
falls_for_asks false true (Some right) all none = absurd (true≢false none)
falls_for_asks false false (Some may.Read) all none = refl
falls_for_asks false false (Some may.Write) all none = refl

-- what is asked for to write is asked for
asked_at_all : (hub : HubView) (who page : ℕ) → is_asked_for is_to_write hub.clients who page ≡ true → is_asked_for any_right hub.clients who page ≡ true
asked_at_all hub who page =
    list_any_implies (asks_for is_to_write hub.clients who page) (asks_for any_right hub.clients who page)
    (λ other both.
    let parts = and_parts (not (other == who)) (are_for is_to_write (asks_of (place_in hub.clients other)) page) both in
    and_from (not (other == who)) (are_for any_right (asks_of (place_in hub.clients other)) page) parts.0
    (list_any_implies (λ ask. is_of page ask && is_to_write ask.right) (λ ask. is_of page ask && any_right ask.right)
    (λ ask found. and_from (is_of page ask) true (and_parts (is_of page ask) (is_to_write ask.right) found).0 refl)
    (asks_of (place_in hub.clients other)) parts.1))
    clients

-- a test that no client passes passes none of them
none_of : (test : ℕ → Bool) → crew_of test ≡ crew_of (λ other. false) → list_any test clients ≡ false
none_of test same = crew_none test (crew_of test) refl (omega (arith, ap length (same ∙ nobody)))
  where
    nobody : crew_of (λ other. false) ≡ []
    nobody = empty_crew

-- where nobody stands in the way, a client keeps its right to each missing page
pub missing_stays : (hub : HubView) (own : cache.Own) (wants missing : List Want) → CanGrant own.client hub own wants missing → (want : Want) → Contains missing want
    → right_kept hub.pages hub.clients own.client want.page ≡ right_in hub own.client want.page
missing_stays hub own wants missing can want inside =
    stays_met (is_asked_for is_to_write hub.clients own.client want.page) (is_asked_for any_right hub.clients own.client want.page) (right_in hub own.client want.page)
    (⊎_elim (λ given. absurd (true≢false (sym given ∙ not_given given))) (λ not_given. not_given) (cases_Bool (is_given hub.pages hub.clients own.client want.page)))
  where
    clear : (other : ℕ) → IsClient other → stands_in_the_way hub.pages hub.clients own.client want other ≡ false
    clear other is =
        fails_in (λ one. stands_in_the_way hub.pages hub.clients own.client one other) missing
        (fails_at (λ client. list_any (λ one. stands_in_the_way hub.pages hub.clients own.client one client) missing) can.unblocked other is) want inside

    asks_not : is_given hub.pages hub.clients own.client want.page ≡ true → (other : ℕ) → IsClient other → asks_for any_right hub.clients own.client want.page other ≡ false
    asks_not given other is =
        second (not (other == own.client) && is_in_conflict want.right (right_at hub.pages.rights other want.page)) (asks_for any_right hub.clients own.client want.page other)
        (sym (ap (λ b. (not (other == own.client) && is_in_conflict want.right (right_at hub.pages.rights other want.page)) || (b && asks_for any_right hub.clients own.client want.page other)) given)
        ∙ clear other is)
      where
        second : (a b : Bool) → (a || (true && b)) ≡ false → b ≡ false
        second true b e = absurd (true≢false e)
        second false b e = e

    nobody_asks : is_given hub.pages hub.clients own.client want.page ≡ true → is_asked_for any_right hub.clients own.client want.page ≡ false
    nobody_asks given =
        none_of (asks_for any_right hub.clients own.client want.page)
        (crew_of_same (asks_for any_right hub.clients own.client want.page) (λ other. false) (asks_not given))

    not_given : is_given hub.pages hub.clients own.client want.page ≡ true → is_given hub.pages hub.clients own.client want.page ≡ false
    not_given given =
        falls_for_asks (is_asked_for is_to_write hub.clients own.client want.page) (is_asked_for any_right hub.clients own.client want.page) (right_in hub own.client want.page)
        (asked_at_all hub own.client want.page) (nobody_asks given)

-- the pages that a client holds once an acquire is granted are those of the machine
pub granted_held_is : (hub : HubView) (own : cache.Own) (wants missing : List Want) (after : HubView) (own_after : cache.Own) → Whole hub → Owning hub own → AreWants wants
    → CanGrant own.client hub own wants missing → Grants own.client wants missing hub own after own_after
    → with_granted own.capacity wants (wants_of (kept_held hub own)) ≡ wants_of own_after.held
granted_held_is hub own wants missing after own_after sound owns are can grants =
    sym (granted_held hub.pages (right_in hub own.client) (right_kept hub.pages hub.clients own.client)
    (is_asked_for is_to_write hub.clients own.client) (is_asked_for any_right hub.clients own.client) own.capacity own.held wants missing owns.sound.distinct are
    owns.sound.least owns.rights (λ page. refl) can.missing_is (missing_stays hub own wants missing can))
    ∙ sym (ap (λ (o : cache.Own). wants_of o.held) grants.own_is
    ∙ ap (λ held. wants_of (take own.capacity (all_fronted (all_raised held missing) wants)))
    (grants.opens.gives.held_is
    ∙ kept_same (right_in hub own.client) (right_at grants.opened.pages.rights own.client) (right_kept hub.pages hub.clients own.client) grants.opens.kept
    (with_pages hub.pages own.held missing)))
