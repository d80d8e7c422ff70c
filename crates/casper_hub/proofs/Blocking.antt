use Rattle.std.proofs.Common.{◌≡◌, ◌≢◌, ℕ, List, [], ◌∷◌, Bool, true, false, cond, not, ◌&&◌, ◌||◌, ◌==◌, eq-eqb, map, filter, refl, sym, ap, ap₂, ◌∙◌, ⊎_elim}
use Rattle.std.specs.Prelude.{Option, None, Some}
use Rattle.std.specs.Option.{option_or}
use Rattle.std.specs.List.{list_any}
use Rattle.std.proofs.lemmas.Bool.{cases_eq}
use Rattle.casper_words.specs.Crew.{has_member, clients, crew_of}
use Rattle.casper_words.proofs.CrewLemmas.{crew_of_same}
use Rattle.casper_words.specs.declared.page.Right.{Right}
use Rattle.casper_words.specs.declared.page.Right.TheVariants as may
use Rattle.casper_words.specs.declared.page.Want.{Want}
use Rattle.casper_dir.specs.Holding.{is_in_conflict}
use Rattle.casper_cache.specs.Own as cache
use Rattle.casper_model.specs.declared.reply.Reply.{Reply}
use Rattle.casper_model.specs.declared.reply.Reply.TheVariants.{Pending}
use Rattle.casper_model.specs.Held.{is_of, is_to_write, covers, allows, missing_of}
use Rattle.casper_model.specs.Stabilisation.{is_empty}
use Rattle.casper_model.specs.Shared.{Shared, rights_at, asks_at, of_client}
use Rattle.casper_model.specs.Own.{Own}
use Rattle.casper_model.specs.Opening as opening
use Rattle.casper_model.specs.Opening.{opened, begun, given_in_opening, any_right}
use Rattle.casper_model.specs.Acquire.{refused_in_doubt, refused_frozen, refused_pending, refused_missing, blocks, is_blocked, blocked_of, blockers_of}
use Rattle.casper_model.proofs.OpeningRights.{others_opened}
use Rattle.casper_hub.specs.HubView.{HubView, asks_of, client_in, right_in}
use Rattle.casper_hub.specs.Asks.{is_asked_for, are_for}
use Rattle.casper_hub.specs.Shows.{permits, Shows}
use Rattle.casper_hub.specs.Owned.{wants_of, own_of}
use Rattle.casper_hub.specs.Given.{right_kept}
use Rattle.casper_hub.specs.Deciding.{is_given, is_missing, missing_in, stands_in_the_way, blockers_in, blocked_in}
use Rattle.casper_hub.proofs.Whole.{Whole, Owning}
use Rattle.casper_hub.proofs.Showing.{allows_right, asks_shown}
use Rattle.casper_hub.proofs.KeptPages.{any_same, filter_same, asked_same, is_given_up}
use Rattle.casper_hub.proofs.OpenedTurns.{kept_held, right_kept_held, distinct_kept_held, asks_begun, have_rights_held}
use Rattle.casper_hub.proofs.TurnOpened.{own_opened}
use Rattle.casper_hub.specs.Stages.{gathering_in}
use Rattle.casper_frozen.specs.Refused.{refused_at_once}

-- what stands in the way of a want, among rights that permit what one right does
conflict_permitted : (rights : List Want) (page : ℕ) (wanted : Right) (right : Option Right) → ((r : Right) → allows rights page r ≡ permits right r)
    → list_any (λ held. is_of page held && (is_to_write wanted || is_to_write held.right)) rights ≡ is_in_conflict wanted right
conflict_permitted rights page may.Read right same =
    any_same (λ held. is_of page held && (false || is_to_write held.right)) (λ held. is_of page held && covers held.right may.Write)
    (λ held. ap (λ b. is_of page held && b) (writes held.right)) rights ∙ same may.Write ∙ told right
  where
    writes : (r : Right) → (false || is_to_write r) ≡ covers r may.Write
    writes may.Read = refl
    writes may.Write = refl

    told : (right : Option Right) → permits right may.Write ≡ is_in_conflict may.Read right
    told None = refl
    told (Some may.Read) = refl
    told (Some may.Write) = refl
conflict_permitted rights page may.Write right same =
    any_same (λ held. is_of page held && (true || is_to_write held.right)) (λ held. is_of page held && covers held.right may.Read)
    (λ held. ap (λ b. is_of page held && b) (reads held.right)) rights ∙ same may.Read ∙ told right
  where
    reads : (r : Right) → (true || is_to_write r) ≡ covers r may.Read
    reads may.Read = refl
    reads may.Write = refl

    told : (right : Option Right) → permits right may.Read ≡ is_in_conflict may.Write right
    told None = refl
    told (Some may.Read) = refl
    told (Some may.Write) = refl

-- two tests of another client agree where they do for one that is not this client
other_alone : (who other : ℕ) (one two : Bool) → (other ≢ who → one ≡ two) → (not (other == who) && one) ≡ (not (other == who) && two)
other_alone who other one two same =
    ⊎_elim
    (λ is. let here : (other == who) ≡ true = eq-eqb other who is in ap (λ b. not b && one) here ∙ sym (ap (λ b. not b && two) here))
    (λ apart. ap (λ b. not (other == who) && b) (same apart))
    (cases_eq other who)

-- What follows speaks of one acquire: of the machine's shared part and of the hub that stands for it, of the cache, and of the wants.

-- the wants that the machine finds missing are those that the hub does
pub missing_same : (shared : Shared) (hub : HubView) (own : cache.Own) (wants : List Want) → Shows shared hub → Whole hub → Owning hub own → gathering_in hub own.client ≡ None
    → missing_of (opened shared (own_of own)).own.held wants ≡ missing_in hub.pages hub.clients own.client wants
missing_same shared hub own wants shows sound owns apart =
    ap (λ (o : Own). missing_of o.held wants) (own_opened shared hub own shows sound owns apart)
    ∙ filter_same (λ want. not (allows (wants_of (kept_held hub own)) want.page want.right)) (is_missing hub.pages hub.clients own.client)
    (λ want. ap not (allows_right (kept_held hub own) (distinct_kept_held hub own owns) want.page want.right
    ∙ ap (λ right. permits right want.right) (right_kept_held hub own sound owns want.page))) wants

-- the pages that the machine gives up are those that the hub does
given_same : (shared : Shared) (hub : HubView) (own : cache.Own) → Shows shared hub → Whole hub → Owning hub own → (page : ℕ)
    → has_member page (given_in_opening shared (own_of own)) ≡ is_given hub.pages hub.clients own.client page
given_same shared hub own shows sound owns page =
    ap (λ wants. has_member page (map (λ (want : Want). want.page) wants))
    (filter_same
    (λ held. opening.is_given_up_wholly (begun shared (own_of own)).shared own.client held || opening.is_given_up_to_reading (begun shared (own_of own)).shared own.client held)
    (λ held. is_asked_for is_to_write hub.clients own.client held.page || (is_to_write held.right && is_asked_for any_right hub.clients own.client held.page))
    (λ held. ap₂ (λ a b. a || (is_to_write held.right && b)) (asked is_to_write held.page) (asked any_right held.page)) (wants_of own.held))
    ∙ is_given_up (is_asked_for is_to_write hub.clients own.client) (is_asked_for any_right hub.clients own.client) (right_in hub own.client)
    (right_kept hub.pages hub.clients own.client) page own.held owns.sound.distinct (have_rights_held hub own sound owns) (λ page. refl)
    (owns.rights page)
  where
    asked : (test : Right → Bool) (page : ℕ) → opening.is_asked_for test (begun shared (own_of own)).shared own.client page ≡ is_asked_for test hub.clients own.client page
    asked test page =
        asked_same test (begun shared (own_of own)).shared hub.clients own.client page
        (λ other. asks_begun shared (own_of own) other ∙ asks_shown shared hub shows other)

-- who stands in the way of a want for the machine, does so for the hub
blocks_same : (shared : Shared) (hub : HubView) (own : cache.Own) → Shows shared hub → Whole hub → Owning hub own → (want : Want) (other : ℕ)
    → blocks (opened shared (own_of own)).shared own.client (given_in_opening shared (own_of own)) want other ≡ stands_in_the_way hub.pages hub.clients own.client want other
blocks_same shared hub own shows sound owns want other =
    ap₂ (λ a b. a || b)
    (other_alone own.client other
    (list_any (λ held. is_of want.page held && (is_to_write want.right || is_to_write held.right)) (rights_at (opened shared (own_of own)).shared other))
    (is_in_conflict want.right (right_in hub other want.page))
    (λ apart.
    ap (λ place. list_any (λ held. is_of want.page held && (is_to_write want.right || is_to_write held.right)) (of_client [] (λ client. client.rights) place))
    (others_opened shared (own_of own) other apart)
    ∙ conflict_permitted (rights_at shared other) want.page want.right (right_in hub other want.page) (shows.rights other want.page)))
    (ap₂ (λ a b. a && b) (given_same shared hub own shows sound owns want.page)
    (other_alone own.client other (are_for any_right (asks_at (opened shared (own_of own)).shared other) want.page) (are_for any_right (asks_of (client_in hub other)) want.page)
    (λ apart.
    ap (λ asks. are_for any_right asks want.page)
    (ap (of_client [] (λ client. client.asks)) (others_opened shared (own_of own) other apart) ∙ asks_shown shared hub shows other))))

-- so the blockers are the same, and so are the wants that are blocked
pub blockers_same : (shared : Shared) (hub : HubView) (own : cache.Own) (missing : List Want) → Shows shared hub → Whole hub → Owning hub own
    → blockers_of (opened shared (own_of own)).shared own.client (given_in_opening shared (own_of own)) missing ≡ blockers_in hub.pages hub.clients own.client missing
blockers_same shared hub own missing shows sound owns =
    crew_of_same (λ other. list_any (λ want. blocks (opened shared (own_of own)).shared own.client (given_in_opening shared (own_of own)) want other) missing)
    (λ other. list_any (λ want. stands_in_the_way hub.pages hub.clients own.client want other) missing)
    (λ other is.
    any_same (λ want. blocks (opened shared (own_of own)).shared own.client (given_in_opening shared (own_of own)) want other)
    (λ want. stands_in_the_way hub.pages hub.clients own.client want other) (λ want. blocks_same shared hub own shows sound owns want other) missing)

pub blocked_same : (shared : Shared) (hub : HubView) (own : cache.Own) (missing : List Want) → Shows shared hub → Whole hub → Owning hub own
    → blocked_of (opened shared (own_of own)).shared own.client (given_in_opening shared (own_of own)) missing ≡ blocked_in hub.pages hub.clients own.client missing
blocked_same shared hub own missing shows sound owns =
    filter_same (is_blocked (opened shared (own_of own)).shared own.client (given_in_opening shared (own_of own)))
    (λ want. list_any (stands_in_the_way hub.pages hub.clients own.client want) clients)
    (λ want.
    any_same (blocks (opened shared (own_of own)).shared own.client (given_in_opening shared (own_of own)) want)
    (stands_in_the_way hub.pages hub.clients own.client want) (blocks_same shared hub own shows sound owns want) clients)
    missing

-- nobody stands in the way of nothing
nobody_blocks_nothing : is_empty (crew_of (λ other. false)) ≡ true
unfolding crew_of
nobody_blocks_nothing = ap is_empty (empty_filter clients)
  where
    empty_filter : (xs : List ℕ) → filter (λ x. false) xs ≡ []
    empty_filter [] = refl
    empty_filter (x ∷ xs) = empty_filter xs

-- two refusals that are none
neither_refused : (one other : Option Reply) → option_or one other ≡ None → (one ≡ None) × (other ≡ None)
neither_refused None other e = (refl, e)
neither_refused (Some reply) other e = cc

-- what is not refused at once is refused for who stands in the way
pub refused_as_pending : (shared : Shared) (who : ℕ) (given : List ℕ) (missing : List Want) → refused_at_once shared who missing ≡ None
    → refused_missing shared who given missing ≡ refused_pending shared who given missing
refused_as_pending shared who given [] free = sym (ap (λ b. cond b None (Some (Pending (crew_of (λ other. false))))) nobody_blocks_nothing)
refused_as_pending shared who given (want ∷ missing) free =
    let none = neither_refused (refused_in_doubt shared who (want ∷ missing)) (refused_frozen shared who (want ∷ missing)) free in
    ap₂ (λ a b. option_or a (option_or b (refused_pending shared who given (want ∷ missing)))) none.0 none.1

-- and what is refused at once is refused for that
pub refused_first : (shared : Shared) (who : ℕ) (given : List ℕ) (missing : List Want) (reply : Reply) → refused_at_once shared who missing ≡ Some reply
    → refused_missing shared who given missing ≡ Some reply
refused_first shared who given [] reply refused = cc
refused_first shared who given (want ∷ missing) reply refused =
    by (refused_in_doubt shared who (want ∷ missing)) (refused_frozen shared who (want ∷ missing)) refused
  where
    by : (one other : Option Reply) → option_or one other ≡ Some reply → option_or one (option_or other (refused_pending shared who given (want ∷ missing))) ≡ Some reply
    by (Some first) other e = e
    by None (Some second) e = e
    by None None e = cc
