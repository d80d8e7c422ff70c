use Rattle.std.proofs.Common.{◌≡◌, ◌≤◌, ℕ, zero, suc, ◌+◌, ◌∙◌, ◌⊎◌, inl, inr, List, [], ◌∷◌, Bool, true, false, cond, not, ◌&&◌, ◌==◌, length, get_or, filter, filter_map, option_map, option_and_then, refl, sym, ap, subst, Contains, arith}
use Rattle.std.specs.Prelude.{Option, None, Some, IsSome, is_some, is_none}
use Rattle.std.specs.List.{list_any}
use Rattle.std.proofs.lemmas.Bool.{cases_Bool, or_parts}
use Rattle.std.proofs.Common.{⊎_elim}
use Rattle.casper_words.specs.Crew.{IsClient}
use Rattle.casper_words.proofs.CrewLemmas.{crew_of_same}
use Rattle.casper_words.specs.declared.page.Right.{Right}
use Rattle.casper_words.specs.declared.page.Want.{Want}
use Rattle.casper_trail.proofs.LinkLists.{contains_there}
use Rattle.casper_dir.specs.Rights.{right_at, conflicts_at, AreAllClients}
use Rattle.casper_dir.specs.Holding.{is_in_conflict}
use Rattle.casper_dir.proofs.HoldersLemmas.{fails_at}
use Rattle.casper_cache.specs.declared.held.Held.{Held}
use Rattle.casper_cache.specs.Holding.{right_of, entry_of, raised}
use Rattle.casper_cache.specs.Own as cache
use Rattle.casper_cache.proofs.Entries.{entry_of-page}
use Rattle.casper_model.specs.Opening.{any_right}
use Rattle.casper_hub.specs.HubView.{HubView, PagesView, ClientView, fallen_in, frame_in}
use Rattle.casper_trail.specs.declared.item.Item.{Item}
use Rattle.casper_hub.specs.HubFields.{hub_of}
use Rattle.casper_hub.specs.Shows.{permits}
use Rattle.casper_hub.specs.Asks.{asks_for, is_asked_for}
use Rattle.casper_model.specs.Held.{is_to_write}
use Rattle.casper_model.specs.Stabilisation.{Stabilisation}
use Rattle.casper_hub.specs.Given.{Covers, right_kept, kept_as, left_of}
use Rattle.casper_hub.specs.Deciding.{is_missing, is_given, stands_in_the_way}
use Rattle.casper_hub.specs.Installing.{with_page, with_pages, raised_for, all_raised, all_granted, all_fronted}
use Rattle.casper_hub.specs.Stages.{Opens, CanGrant}
use Rattle.casper_hub.specs.Owned.{Owns}
use Rattle.casper_hub.specs.Sound.{IsSound}
use Rattle.casper_hub.proofs.Whole.{Whole, Owning, whole, owning}
use Rattle.casper_hub.proofs.Giving.{covers_after}
use Rattle.casper_hub.proofs.Left.{entry_of-kept}
use Rattle.casper_hub.proofs.Installing.{length_with_page, with_page_held, with_page_same, right_of-raised, conflicts_kept, right_there}
use Rattle.casper_hub.proofs.Installed.{distinct_with_pages, fails_in, missing_framed, begins_installed, right_with_pages}
use Rattle.casper_hub.proofs.Raised.{distinct_raised, distinct_fronted, granted_from}
use Rattle.casper_hub.proofs.GrantedRights.{granted_right_of}
use Rattle.casper_hub.proofs.MissingStays.{missing_stays, empty_crew}

-- What stands once the missing pages of an acquire that can be granted are installed and its turn has opened.

pub record Ready (hub : HubView) (own : cache.Own) (wants missing : List Want) (opened : HubView) (opened_own : cache.Own) : Type 0 where
  pub sound : Whole hub
  pub owns : Owning hub own
  pub can : CanGrant own.client hub own wants missing
  pub opens : Opens own.client hub (record own { held = with_pages hub.pages own.held missing }) opened opened_own

-- each page more is at most one more
pub length_with_pages : (pages : PagesView) (held : List Held) (wants : List Want) → length (with_pages pages held wants) ≤ length held + length wants
length_with_pages pages held [] = omega arith
length_with_pages pages held (want ∷ wants) =
    let one = length_with_page pages held want in
    let rest = length_with_pages pages (with_page pages held want) wants in
    omega (arith, one, rest)

-- so a cache with few pages more is sound
pub installed_sound : (hub : HubView) (own : cache.Own) (missing : List Want) → Owns hub own → length missing ≤ 4
    → cache.IsSound (record own { held = with_pages hub.pages own.held missing })
installed_sound hub own missing owns four = record {
  distinct = distinct_with_pages hub.pages own.held missing owns.sound.distinct;
  few = let more = length_with_pages hub.pages own.held missing in let few = owns.few in omega (arith, more, few, four);
  pending = owns.sound.pending;
  least = owns.sound.least;
  most = owns.sound.most;
}

-- an installed page is held
one_installed : (pages : PagesView) (held : List Held) (want : Want) → IsSome (right_of want.page (with_page pages held want))
one_installed pages held want = by (right_of want.page held) refl
  where
    by : (o : Option Right) → right_of want.page held ≡ o → IsSome (right_of want.page (with_page pages held want))
    by None none = with_page_held pages held want (ap is_none none)
    by (Some right) some =
        subst (λ (l : List Held). IsSome (right_of want.page l)) (sym (with_page_same pages held want (ap is_none some))) (ap is_some some)

held_still : (pages : PagesView) (held : List Held) (wants : List Want) (page : ℕ) → IsSome (right_of page held) → IsSome (right_of page (with_pages pages held wants))
held_still pages held wants page is =
    let had = right_there (right_of page held) is in
    ap is_some (right_with_pages pages held wants page had.0 had.1)

all_installed : (pages : PagesView) (held : List Held) (wants : List Want) (want : Want) → Contains wants want → IsSome (right_of want.page (with_pages pages held wants))
all_installed pages held [] want inside = absurd (omega (arith, inside.1))
all_installed pages held (first ∷ wants) want (zero, below, is) =
    held_still pages (with_page pages held first) wants want.page
    (subst (λ (one : Want). IsSome (right_of one.page (with_page pages held first))) is (one_installed pages held first))
all_installed pages held (first ∷ wants) want (suc place, below, is) = all_installed pages (with_page pages held first) wants want (place, omega (arith, below), is)

-- a page to which the right stayed is kept
kept_where_it_stays : (before after : ℕ → Option Right) (page : ℕ) (held : List Held) → after page ≡ before page → IsSome (right_of page held)
    → IsSome (right_of page (filter_map (kept_as before after) held))
kept_where_it_stays before after page held stays is =
    ap (λ (o : Option Held). is_some (option_map (λ (h : Held). h.right) o)) (entry_of-kept before after page held)
    ∙ by (entry_of page held) (λ entry found. entry_of-page page held entry found) is
  where
    left : (right : Option Right) (entry : Held) → is_some (option_map (λ (h : Held). h.right) (left_of right right entry)) ≡ true
    left None entry = refl
    left (Some right) entry = refl

    by : (o : Option Held) → ((entry : Held) → o ≡ Some entry → entry.page ≡ page) → IsSome (option_map (λ (h : Held). h.right) o)
        → is_some (option_map (λ (h : Held). h.right) (option_and_then (kept_as before after) o)) ≡ true
    by None of none = none
    by (Some entry) of there =
        ap (λ (q : ℕ). is_some (option_map (λ (h : Held). h.right) (left_of (before q) (after q) entry))) (of entry refl)
        ∙ ap (λ (o : Option Right). is_some (option_map (λ (h : Held). h.right) (left_of (before page) o entry))) stays ∙ left (before page) entry

-- the right to a missing page stays as the asks of the others are met
stays_opened : (hub : HubView) (own : cache.Own) (wants missing : List Want) (opened : HubView) (opened_own : cache.Own) → Ready hub own wants missing opened opened_own
    → (want : Want) → Contains missing want → right_at opened.pages.rights own.client want.page ≡ right_at hub.pages.rights own.client want.page
stays_opened hub own wants missing opened opened_own ready want inside =
    ready.opens.kept want.page ∙ missing_stays hub own wants missing ready.can want inside

-- so it is held
pub missing_held : (hub : HubView) (own : cache.Own) (wants missing : List Want) (opened : HubView) (opened_own : cache.Own) → Ready hub own wants missing opened opened_own
    → (want : Want) → Contains missing want → IsSome (right_of want.page opened_own.held)
missing_held hub own wants missing opened opened_own ready want inside =
    subst (λ (l : List Held). IsSome (right_of want.page l)) (sym ready.opens.gives.held_is)
    (kept_where_it_stays (right_at hub.pages.rights own.client) (right_at opened.pages.rights own.client) want.page (with_pages hub.pages own.held missing)
    (stays_opened hub own wants missing opened opened_own ready want inside) (all_installed hub.pages own.held missing want inside))

-- and nobody stands in its way
pub missing_free : (hub : HubView) (own : cache.Own) (wants missing : List Want) (opened : HubView) (opened_own : cache.Own) → Ready hub own wants missing opened opened_own
    → (want : Want) → Contains missing want → conflicts_at opened.pages.rights want.page own.client want.right ≡ []
missing_free hub own wants missing opened opened_own ready want inside =
    conflicts_kept hub.pages.rights opened.pages.rights want.page own.client want.right ready.opens.gives.others
    ∙ crew_of_same (λ other. not (other == own.client) && is_in_conflict want.right (right_at hub.pages.rights other want.page)) (λ other. false) clear ∙ empty_crew
  where
    clear : (other : ℕ) → IsClient other → (not (other == own.client) && is_in_conflict want.right (right_at hub.pages.rights other want.page)) ≡ false
    clear other is =
        (or_parts (not (other == own.client) && is_in_conflict want.right (right_at hub.pages.rights other want.page))
        (is_given hub.pages hub.clients own.client want.page && asks_for any_right hub.clients own.client want.page other)
        (fails_in (λ (one : Want). stands_in_the_way hub.pages hub.clients own.client one other) missing
        (fails_at (λ (number : ℕ). list_any (λ (one : Want). stands_in_the_way hub.pages hub.clients own.client one number) missing) ready.can.unblocked other is) want inside)).0

-- the cache covers what its client has left
pub covers_ready : (hub : HubView) (own : cache.Own) (wants missing : List Want) (opened : HubView) (opened_own : cache.Own) → Ready hub own wants missing opened opened_own
    → Covers own.client opened.pages opened_own.held
covers_ready hub own wants missing opened opened_own ready =
    covers_after own.client hub.pages opened.pages (with_pages hub.pages own.held missing) opened_own.held (begins_installed hub own missing ready.sound ready.owns).covers ready.opens.gives

-- raising loses no page
held_raised : (page : ℕ) (held : List Held) (wants : List Want) → IsSome (right_of page held) → IsSome (right_of page (all_raised held wants))
held_raised page held [] is = is
held_raised page held (want ∷ wants) is = held_raised page (raised_for held want) wants (either (is_to_write want.right))
  where
    either : (b : Bool) → IsSome (right_of page (cond b (raised want.page held) held))
    either true = right_of-raised want.page page held is
    either false = is

-- what passes a test is among the elements that pass, and else it fails
passes_or_fails : {X : Type 0} (test : X → Bool) (xs : List X) (x : X) → Contains xs x → (Contains (filter test xs) x) ⊎ (test x ≡ false)
passes_or_fails {X} test xs x inside = ⊎_elim (λ passes. inl (among xs inside passes)) (λ fails. inr fails) (cases_Bool (test x))
  where
    among : (xs : List X) → Contains xs x → test x ≡ true → Contains (filter test xs) x
    among [] inside passes = inside
    among (first ∷ rest) (zero, below, is) passes =
        subst (λ (b : Bool). Contains (cond b (first ∷ filter test rest) (filter test rest)) x) (sym (ap test is ∙ passes)) (zero, omega arith, is)
    among (first ∷ rest) (suc place, below, is) passes = either (test first) (among rest (place, omega (arith, below), is) passes)
      where
        either : (b : Bool) → Contains (filter test rest) x → Contains (cond b (first ∷ filter test rest) (filter test rest)) x
        either true more = contains_there first (filter test rest) x more
        either false more = more

-- each wanted page is held once the missing ones are raised
pub wanted_held : (hub : HubView) (own : cache.Own) (wants missing : List Want) (opened : HubView) (opened_own : cache.Own) → Ready hub own wants missing opened opened_own
    → (want : Want) → Contains wants want → IsSome (right_of want.page (all_raised opened_own.held missing))
wanted_held hub own wants missing opened opened_own ready want inside =
    held_raised want.page opened_own.held missing
    (⊎_elim
    (λ passes. missing_held hub own wants missing opened opened_own ready want (subst (λ (l : List Want). Contains l want) (sym ready.can.missing_is) passes))
    (λ fails. by (right_kept hub.pages hub.clients own.client want.page) refl fails)
    (passes_or_fails (is_missing hub.pages hub.clients own.client) wants want inside))
  where
    by : (o : Option Right) → right_kept hub.pages hub.clients own.client want.page ≡ o → not (permits o want.right) ≡ false → IsSome (right_of want.page opened_own.held)
    by None is held = cc
    by (Some right) is held =
        ap is_some ((covers_ready hub own wants missing opened opened_own ready).held_so want.page right (ready.opens.kept want.page ∙ is))

-- the rights of a client to wanted pages are given
pub record GivesRights (who : ℕ) (missing : List Want) (pages granted : PagesView) : Type 0 where
  pub frames : granted.frames ≡ pages.frames
  pub count : length granted.rights ≡ length pages.rights
  pub rights : (page : ℕ) → right_at granted.rights who page ≡ all_granted page (right_at pages.rights who page) missing
  pub holders : AreAllClients granted.rights

-- then the cache has the rights that the server gave
pub rights_given : (hub : HubView) (own : cache.Own) (wants missing : List Want) (opened : HubView) (opened_own : cache.Own) (granted : PagesView)
    → Ready hub own wants missing opened opened_own → GivesRights own.client missing opened.pages granted
    → (page : ℕ) → right_at granted.rights own.client page ≡ right_of page (all_fronted (all_raised opened_own.held missing) wants)
rights_given hub own wants missing opened opened_own granted ready gives page =
    gives.rights page
    ∙ sym (ap (λ (l : List Held). right_of page (all_fronted (all_raised l missing) wants)) ready.opens.gives.held_is
    ∙ granted_right_of hub.pages (right_at hub.pages.rights own.client) (right_at opened.pages.rights own.client)
    (is_asked_for is_to_write hub.clients own.client) (is_asked_for any_right hub.clients own.client) own.held wants missing page
    (ready.owns.rights page) (ready.opens.kept page) (stays_opened hub own wants missing opened opened_own ready))

-- and covers them
pub covers_given : (hub : HubView) (own : cache.Own) (wants missing : List Want) (opened : HubView) (opened_own : cache.Own) (granted : PagesView)
    → Ready hub own wants missing opened opened_own → GivesRights own.client missing opened.pages granted
    → Covers own.client granted (all_fronted (all_raised opened_own.held missing) wants)
covers_given hub own wants missing opened opened_own granted ready gives = record {
  client = before.client;
  holders = gives.holders;
  frames_count = ap length gives.frames ∙ before.frames_count ∙ sym gives.count;
  distinct = distinct_fronted (all_raised opened_own.held missing) wants (distinct_raised opened_own.held missing before.distinct);
  held_so = λ page right is. sym (rights_given hub own wants missing opened opened_own granted ready gives page) ∙ is;
  framed = λ page is.
      subst (λ (frames : List (Option (List ℕ))). IsSome (get_or frames page None)) (sym gives.frames)
      (granted_from page (right_at opened.pages.rights own.client page) missing (IsSome (frame_in opened.pages page))
      (λ had. before.framed page had)
      (λ want inside here. ready.opens.gives.framed page
      (subst (λ (q : ℕ). IsSome (frame_in hub.pages q)) here (missing_framed own.client hub own wants missing ready.can want inside)))
      (sym (gives.rights page) ∙ is));
}
  where
    before : Covers own.client opened.pages opened_own.held
    before = covers_ready hub own wants missing opened opened_own ready

-- a turn is ready as the server has installed and opened it
pub ready_for : (who limit : ℕ) (stabilisations : List Stabilisation) (view : HubView) (own installed opened_own : cache.Own) (wants missing listed : List Want) (items trail : List Item) (places : List (Option ClientView)) (pages : PagesView) (opened : HubView)
    → hub_of trail limit stabilisations places pages ≡ view → own.client ≡ who → IsSound (hub_of trail limit stabilisations places pages) → Owns view own → fallen_in view who ≡ None → CanGrant who view own wants missing
    → listed ≡ missing → items ≡ trail → installed ≡ record own { held = with_pages pages own.held listed }
    → Opens who (hub_of items limit stabilisations places pages) installed opened opened_own → Ready (hub_of trail limit stabilisations places pages) own wants listed opened opened_own
ready_for who limit stabilisations view own installed opened_own wants missing listed items trail places pages opened view_is is sound owns up can same items_are installed_is opens = record {
  sound = whole (hub_of trail limit stabilisations places pages) sound;
  owns = owning (hub_of trail limit stabilisations places pages) own sound (subst (λ (h : HubView). Owns h own) (sym view_is) owns)
      (ap (fallen_in (hub_of trail limit stabilisations places pages)) is ∙ subst (λ (h : HubView). fallen_in h who ≡ None) (sym view_is) up);
  can = subst (λ (l : List Want). CanGrant own.client (hub_of trail limit stabilisations places pages) own wants l) (sym same)
      (subst (λ (w : ℕ). CanGrant w (hub_of trail limit stabilisations places pages) own wants missing) (sym is) (subst (λ (h : HubView). CanGrant who h own wants missing) (sym view_is) can));
  opens = subst (λ (w : ℕ). Opens w (hub_of trail limit stabilisations places pages) (record own { held = with_pages pages own.held listed }) opened opened_own) (sym is)
      (subst (λ (o : cache.Own). Opens who (hub_of trail limit stabilisations places pages) o opened opened_own) installed_is
      (subst (λ (l : List Item). Opens who (hub_of l limit stabilisations places pages) installed opened opened_own) items_are opens));
}
