use Rattle.std.proofs.Common.{◌≡◌, ◌≤◌, ◌+◌, ℕ, List, true, false, true≢false, not, length, refl, sym, ap, ◌∙◌, subst, Contains, arith}
use Rattle.std.specs.Prelude.{Option, None, Some, Result, Ok, Err, OnOk, option_map}
use Rattle.std.specs.Result.{is_err}
use Rattle.std.proofs.lemmas.List.{length-map}
use Rattle.std.proofs.lemmas.List.Sums.{count_by-le-length, length-filter}
use Rattle.casper_words.specs.Crew.{has_member}
use Rattle.casper_words.specs.declared.call.Call.{Call}
use Rattle.casper_words.specs.declared.page.Right.{Right}
use Rattle.casper_words.specs.declared.page.Right.TheVariants as may
use Rattle.casper_trail.specs.declared.item.Item.{Item}
use Rattle.casper_trail.specs.Clients.{AreOfClients}
use Rattle.casper_trail.specs.GrowthLaws.{WritersAreWith}
use Rattle.casper_cache.specs.Own as cache
use Rattle.casper_model.specs.LegalHistory.{right_for}
use Rattle.casper_model.specs.Stabilisation.{Stabilisation}
use Rattle.casper_gather.specs.declared.stab.Stab.{Stab}
use Rattle.casper_gather.specs.Bookkeeping.{stabilisation_of}
use Rattle.casper_gather.specs.Unended.{but_led_among}
use Rattle.casper_gather.specs.UnendedLaws.{stabilisations_of}
use Rattle.casper_hub.specs.declared.clients.Fall.{Fall}
use Rattle.casper_hub.specs.HubView.{HubView, ClientView, PagesView, place_in, fall_of, fallen_in, right_in, is_up, count_up}
use Rattle.casper_hub.specs.HubFields.{hub_of}
use Rattle.casper_hub.specs.Places.{shown_fall}
use Rattle.casper_hub.specs.Keeping.{MayBeRecorded}
use Rattle.casper_hub.specs.Shows.{permits}
use Rattle.casper_hub.specs.Sound.{IsSound, Stands}
use Rattle.casper_hub.proofs.FrozenOpened.{leads_are_few}
use Rattle.casper_hub.proofs.Installing.{right_within}
use Rattle.casper_hub.proofs.Showing.{allows_right}
use Rattle.casper_hub.proofs.ShownPlaces.{none_at}
use Rattle.casper_hub.proofs.StandsFor.{stands_for}
use Rattle.casper_hub.proofs.Whole.{Whole, Owning}

-- What the server keeps beside what contracts see of it.

-- where there is room for two marks of each client, there is for those that are live and not fallen and for the stabilisations
pub room_for_all : (trail : List Item) (limit : ℕ) (unended : List Stab) (clients : List (Option ClientView)) (pages : PagesView) (room : ℕ)
    → IsSound (hub_of trail limit (stabilisations_of unended) clients pages) → 66 ≤ room → count_up clients + length unended ≤ room
room_for_all trail limit unended clients pages room sound enough =
    let stands = stands_for (hub_of trail limit (stabilisations_of unended) clients pages) sound.stands in
    let most = count_by-le-length is_up clients in
    let few = leads_are_few stands.shared stands.good in
    let shown = ap length stands.shows.stabilisations in
    let each = length-map unended stabilisation_of in
    let places = sound.formed.places in
    omega (arith, most, few, shown, each, places, enough)

-- no more stabilisations are left where some end
pub fewer_led : (leads : List ℕ) (unended : List Stab) → length (but_led_among leads unended) ≤ length unended
fewer_led leads unended =
    let most = count_by-le-length (λ (one : Stab). not (has_member one.lead leads)) unended in
    let same = length-filter (λ (one : Stab). not (has_member one.lead leads)) unended in
    omega (arith, most, same)

-- the entries of a hub's trail are of clients
pub clients_recorded : (hub : HubView) → Stands hub → AreOfClients hub.trail
clients_recorded hub stands = let found = stands_for hub stands in subst AreOfClients found.shows.trail found.good.exact.clients

-- who may read a page is in the association of its open writes
pub with_writers : (hub : HubView) → Stands hub → (who page : ℕ) (right : Right) → right_in hub who page ≡ Some right → WritersAreWith hub.trail page who
with_writers hub stands who page right is =
    let found = stands_for hub stands in
    subst (λ (items : List Item). WritersAreWith items page who) found.shows.trail
    (found.good.writers who page (found.shows.rights who page may.Read ∙ ap (λ o. permits o may.Read) is ∙ reads right))
  where
    reads : (right : Right) → permits (Some right) may.Read ≡ true
    reads may.Read = refl
    reads may.Write = refl

-- so the pending calls of a client that has not fallen may be recorded
pub may_record : (hub : HubView) (own : cache.Own) → Whole hub → Owning hub own → MayBeRecorded hub.trail hub.pages own.client own.pending
may_record hub own sound owns = record {
  within = λ call inside. let had = holds call inside in right_within hub.pages.rights own.client call.page had.0 had.1;
  writers = λ call inside. let had = holds call inside in with_writers hub sound.sound.stands own.client call.page had.0 had.1;
}
  where
    some : (o : Option Right) (wanted : Right) → permits o wanted ≡ true → (right : Right) × (o ≡ Some right)
    some None wanted is = cc
    some (Some right) wanted is = (right, refl)

    holds : (call : Call) → Contains own.pending call → (right : Right) × (right_in hub own.client call.page ≡ Some right)
    holds call inside =
        some (right_in hub own.client call.page) (right_for call.op)
        (ap (λ o. permits o (right_for call.op)) (owns.rights call.page)
        ∙ sym (allows_right own.held owns.sound.distinct call.page (right_for call.op)) ∙ owns.calls call inside)

-- the same of the number of the client
pub may_record_for : (who : ℕ) (hub : HubView) (own : cache.Own) → own.client ≡ who → Whole hub → Owning hub own → MayBeRecorded hub.trail hub.pages who own.pending
may_record_for who hub own is sound owns = subst (λ w. MayBeRecorded hub.trail hub.pages w own.pending) is (may_record hub own sound owns)

-- a client of which no fall was found has not fallen
pub up_inside : (clients : List (Option ClientView)) (who : ℕ) (found : Option Fall) → option_map shown_fall found ≡ fall_of (place_in clients who)
    → ((fall : Fall) → found ≡ Some fall → ⊥) → fall_of (place_in clients who) ≡ None
up_inside clients who found is never = sym is ∙ ap (option_map shown_fall) (none_at found never)

-- the same of the hub that a function shows, and of the client of a cache
pub up_seen : (who client limit : ℕ) (stabilisations : List Stabilisation) (trail : List Item) (clients : List (Option ClientView)) (pages : PagesView) (hub : HubView) (found : Option Fall)
    → hub_of trail limit stabilisations clients pages ≡ hub → client ≡ who → option_map shown_fall found ≡ fall_of (place_in clients who)
    → ((fall : Fall) → found ≡ Some fall → ⊥) → fallen_in hub client ≡ None
up_seen who client limit stabilisations trail clients pages hub found view same is never =
    ap (fallen_in hub) same ∙ subst (λ (h : HubView). fallen_in h who ≡ None) view (up_inside clients who found is never)

-- and the fall that was found is the client's
pub fell_seen : (who limit : ℕ) (stabilisations : List Stabilisation) (trail : List Item) (clients : List (Option ClientView)) (pages : PagesView) (hub : HubView) (found : Option Fall) (fall : Fall)
    → hub_of trail limit stabilisations clients pages ≡ hub → option_map shown_fall found ≡ fall_of (place_in clients who) → found ≡ Some fall → fallen_in hub who ≡ Some (shown_fall fall)
fell_seen who limit stabilisations trail clients pages hub found fall view is found_is =
    subst (λ (h : HubView). fallen_in h who ≡ Some (shown_fall fall)) view (sym is ∙ ap (option_map shown_fall) found_is)

-- room is left for the marks
pub room_after : (trail : List Item) (limit : ℕ) (unended : List Stab) (clients : List (Option ClientView)) (pages : PagesView) (reserved left pending wanted seen : ℕ)
    → IsSound (hub_of trail limit (stabilisations_of unended) clients pages) → seen + wanted + 66 ≤ reserved
    → reserved ≡ left + pending → seen ≡ pending → (room : ℕ) → left ≡ room + wanted → count_up clients + length unended ≤ room
room_after trail limit unended clients pages reserved left pending wanted seen sound enough opened same room touched =
    room_for_all trail limit unended clients pages room sound (omega (arith, enough, opened, same, touched))

-- what holds where a call ended well
pub ok_holds : {T E : Type 0} (result : Result T E) (P : Type 0) → is_err result ≡ false → OnOk result P → P
ok_holds (Ok x) P well holds = holds
ok_holds (Err e) P failed holds = absurd (true≢false failed)
