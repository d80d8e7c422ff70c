use Rattle.std.proofs.Common.{◌≡◌, ◌≤◌, ℕ, List, [], true, length, refl, sym, ap, ◌∙◌, subst, arith, true≢false}
use Rattle.std.specs.Prelude.{Option, None, Some, is_some}
use Rattle.casper_words.specs.declared.page.Right.TheVariants as may
use Rattle.casper_trail.specs.declared.item.Item.{Item}
use Rattle.casper_trail.specs.Parts.{live_entries}
use Rattle.casper_trail.specs.Value.{value_of}
use Rattle.casper_model.specs.Client.{Client, Fallen}
use Rattle.casper_model.specs.FallLaw.{EachFallenIsMarked}
use Rattle.casper_model.specs.Held.{allows}
use Rattle.casper_model.specs.Own.{Own}
use Rattle.casper_model.specs.Rights.{Agrees, AgreesUnlessFallen, Spares}
use Rattle.casper_model.specs.Room.{most_cap}
use Rattle.casper_model.specs.RoomLaw.{IsWithin}
use Rattle.casper_model.specs.Shared.{Shared, client_at, of_client, rights_at, fallen_at}
use Rattle.casper_model.specs.View.{seen_by}
use Rattle.casper_model.proofs.OpeningRights.{exclusive_with_less}
use Rattle.casper_model.proofs.StateHistory.{WasUp, Marks}
use Rattle.casper_turns.specs.KeepsClient.{KeepsClient}
use Rattle.casper_turns.specs.Frozen.{AreFrozen}
use Rattle.casper_turns.specs.Good.{CapsAreFew, FallenHaveNothing, IsGoodShared}
use Rattle.casper_turns.specs.Kept.{KeptForAll}
use Rattle.casper_turns.specs.Noted.{NotedAreMembers, NotedAreUp}
use Rattle.casper_turns.proofs.Lists.{not_some}
use Rattle.casper_turns.proofs.MarkAdded.{MarkAdded, added_by_marks}

-- what is known to all of a client after what is no turn of one: it stays, but for its kept outcome, or it falls there
pub record ClientStays (trail : List Item) (before after : Option Client) : Type 0 where
  pub live : is_some after ≡ is_some before
  pub cap : of_client 0 (λ client. client.cap) after ≡ of_client 0 (λ client. client.cap) before
  pub lost : (fallen : Fallen) → of_client None (λ client. client.fallen) before ≡ Some fallen → of_client None (λ client. client.fallen) after ≡ Some fallen
  pub falls : (fallen : Fallen) → of_client None (λ client. client.fallen) before ≡ None → of_client None (λ client. client.fallen) after ≡ Some fallen
      → (fallen.mark ≡ length trail) × (fallen.seen ≡ live_entries trail)
  pub asks : of_client None (λ client. client.fallen) after ≡ None → of_client [] (λ client. client.asks) after ≡ of_client [] (λ client. client.asks) before
  pub rights : of_client None (λ client. client.fallen) after ≡ None → of_client [] (λ client. client.rights) after ≡ of_client [] (λ client. client.rights) before

pub client_itself : (trail : List Item) (place : Option Client) → ClientStays trail place place
client_itself trail place = record {
  live = refl;
  cap = refl;
  lost = λ fallen is. is;
  falls = λ fallen up is. absurd (not_some fallen (sym up ∙ is));
  asks = λ up. refl;
  rights = λ up. refl;
}

-- what is no turn of a client did
pub record Marked (shared after : Shared) : Type 0 where
  pub marks : Marks shared after
  pub spares : Spares shared after
  pub clients : (who : ℕ) → ClientStays shared.trail (client_at shared who) (client_at after who)
  pub limit : after.limit ≡ shared.limit
  pub pages : after.pages ≡ shared.pages
  pub marked : EachFallenIsMarked after
  pub frozen : AreFrozen after
  pub noted : NotedAreMembers after
  pub unfallen : NotedAreUp after
  pub within : IsWithin after

module _ (shared after : Shared) (good : IsGoodShared shared) (did : Marked shared after) where
  added : MarkAdded shared after
  added = added_by_marks shared after did.marks

  -- an own part with which a client agrees
  agreeing : (client : Client) → (fallen : Option Fallen) → client.fallen ≡ fallen
      → ((one : Fallen) → client.fallen ≡ Some one → (client.rights ≡ []) × (client.asks ≡ []))
      → AgreesUnlessFallen client (record { who = 0; capacity = 0; cap = client.cap; held = client.rights; pending = [] }) fallen
  agreeing client None e bare = (refl, λ page right. refl)
  agreeing client (Some fallen) e bare = let is = bare fallen e in (refl, is.0, is.1)

  agreement : (who : ℕ) (place : Option Client) → client_at shared who ≡ place → (own : Own) × Agrees place own
  agreement who None e = (record { who = 0; capacity = 0; cap = 0; held = []; pending = [] }, (refl, refl))
  agreement who (Some client) e = (
    record { who = 0; capacity = 0; cap = client.cap; held = client.rights; pending = [] },
    agreeing client client.fallen refl (λ fallen fell. good.bare who client fallen e fell),
  )

  bare_after : FallenHaveNothing after
  bare_after who client fallen live fell =
      let own = agreement who (client_at shared who) refl in
      let agrees : Agrees (Some client) own.0 = subst (λ place. Agrees place own.0) live (did.spares.agrees who own.0 own.1) in
      let parts : AgreesUnlessFallen client own.0 (Some fallen) = subst (AgreesUnlessFallen client own.0) fell agrees in
      (parts.1, parts.2)

  -- who holds a page is not fallen
  up_after : (who page : ℕ) → allows (rights_at after who) page may.Read ≡ true → WasUp after who
  up_after who page holds = by_place (client_at after who) refl
    where
      by_fallen : (client : Client) → client_at after who ≡ Some client → (fallen : Option Fallen) → client.fallen ≡ fallen → WasUp after who
      by_fallen client live None up = (client, live, up)
      by_fallen client live (Some fallen) fell =
          absurd (true≢false
          (sym holds ∙ ap (λ place. allows (of_client [] (λ (one : Client). one.rights) place) page may.Read) live
          ∙ ap (λ rights. allows rights page may.Read) (bare_after who client fallen live fell).0))

      by_place : (place : Option Client) → client_at after who ≡ place → WasUp after who
      by_place None none = absurd (true≢false (sym holds ∙ ap (λ place. allows (of_client [] (λ (one : Client). one.rights) place) page may.Read) none))
      by_place (Some client) live = by_fallen client live client.fallen refl

  caps_after : CapsAreFew after
  caps_after who client live = by_place (client_at shared who) refl
    where
      same : client.cap ≡ of_client 0 (λ (one : Client). one.cap) (client_at shared who)
      same = sym (ap (of_client 0 (λ (one : Client). one.cap)) live) ∙ (did.clients who).cap

      by_place : (place : Option Client) → client_at shared who ≡ place → client.cap ≤ most_cap
      by_place None e = let none : client.cap ≡ 0 = same ∙ ap (of_client 0 (λ (one : Client). one.cap)) e in omega arith
      by_place (Some before) e =
          let is : client.cap ≡ before.cap = same ∙ ap (of_client 0 (λ (one : Client). one.cap)) e in
          let few : before.cap ≤ most_cap = good.caps who before e in
          omega arith

  good_marked : IsGoodShared after
  good_marked = record {
    places = did.spares.places ∙ good.places;
    nobody = did.spares.nobody good.nobody;
    exclusive = exclusive_with_less shared after did.spares.less good.exclusive;
    exact = added.exact good.exact;
    writers = λ who page holds. added.writers who page (up_after who page holds) (good.writers who page (did.spares.less who page may.Read holds));
    bare = bare_after;
    marked = did.marked;
    frozen = did.frozen;
    noted = did.noted;
    unfallen = did.unfallen;
    within = did.within;
    caps = caps_after;
  }

  words_after : (who : ℕ) (base : List (List ℕ)) (page word : ℕ) → allows (rights_at shared who) page may.Read ≡ true → (before fallen : Option Fallen)
      → fallen_at shared who ≡ before → fallen_at after who ≡ fallen
      → value_of base (seen_by after fallen) page word ≡ value_of base (seen_by shared before) page word
  words_after who base page word holds (Some before) None e up = absurd (not_some before (sym up ∙ (did.clients who).lost before e))
  words_after who base page word holds (Some before) (Some fallen) e fell =
      let same : Some before ≡ Some fallen = sym ((did.clients who).lost before e) ∙ fell in
      ap (λ (one : Option Fallen). value_of base (seen_by shared one) page word) (sym same)
  words_after who base page word holds None (Some fallen) e fell =
      ap (λ entries. value_of base entries page word) ((did.clients who).falls fallen e fell).1
  words_after who base page word holds None None e up = added.words base who page word there (good.writers who page holds)
    where
      still_holds : allows (rights_at after who) page may.Read ≡ true
      still_holds = ap (λ rights. allows rights page may.Read) ((did.clients who).rights up) ∙ holds

      there : WasUp after who
      there = up_after who page still_holds

  apart_marked : (who : ℕ) → KeepsClient who shared after
  apart_marked who = record {
    more = added.more;
    trail = added.trail;
    limit = did.limit;
    pages = did.pages;
    calls = added.calls who;
    live = (did.clients who).live;
    cap = (did.clients who).cap;
    lost = (did.clients who).lost;
    falls = λ fallen up is. let place : fallen.mark ≡ length shared.trail = ((did.clients who).falls fallen up is).0 in omega arith;
    asks = (did.clients who).asks;
    rights = (did.clients who).rights;
    agrees = did.spares.agrees who;
    words = λ base page word holds. words_after who base page word holds (fallen_at shared who) (fallen_at after who) refl refl;
  }

  pub kept_for_all : KeptForAll shared after
  kept_for_all = record { good = good_marked; apart = apart_marked; legal = added.legal }
