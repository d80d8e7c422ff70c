use Rattle.std.proofs.Common.{◌≡◌, ◌≢◌, ℕ, List, [], ◌∷◌, ◌++◌, true, Contains, refl, sym, ap, ◌∙◌, subst, append_assoc, append-nil}
use Rattle.std.specs.Prelude.{Option, None, Some, filter, is_some}
use Rattle.std.proofs.lemmas.List.{map-append}
use Rattle.casper_words.specs.declared.call.Call.{Call}
use Rattle.casper_words.specs.declared.page.Right.TheVariants as may
use Rattle.casper_words.specs.declared.page.Want.{Want}
use Rattle.casper_trail.specs.declared.entry.Entry.{Entry}
use Rattle.casper_trail.specs.declared.item.Item.{Item}
use Rattle.casper_trail.specs.declared.item.Item.TheVariants as item
use Rattle.casper_trail.specs.Calls.{calls_of, entries_by, touch_by}
use Rattle.casper_trail.specs.Parts.{as_items, live_entries}
use Rattle.casper_trail.specs.Value.{value_of, writes_page}
use Rattle.casper_trail.proofs.CallLists.{calls_of_another, calls_after_touch}
use Rattle.casper_trail.proofs.Pages.{same_values, filter_append}
use Rattle.casper_model.specs.Acquire.{touches_by}
use Rattle.casper_model.specs.Client.{Fallen}
use Rattle.casper_model.specs.Held.{allows}
use Rattle.casper_model.specs.Rights.{Agrees}
use Rattle.casper_model.specs.Shared.{Shared, client_at, of_client, rights_at, fallen_at}
use Rattle.casper_model.specs.View.{seen_by}
use Rattle.casper_model.proofs.Entries.{added_by}
use Rattle.casper_turns.specs.KeepsClient.{KeepsClient}
use Rattle.casper_turns.proofs.Lists.{filter_nothing, not_some}

-- the words of a page that more entries do not write stay
pub words_before : (base : List (List ℕ)) (before more : List Entry) (page word : ℕ) → ((entry : Entry) → Contains more entry → writes_page page entry ≡ true → ⊥)
    → value_of base (before ++ more) page word ≡ value_of base before page word
words_before base before more page word elsewhere =
    same_values base (before ++ more) before page word
    (filter_append (writes_page page) before more
    ∙ ap (λ back. filter (writes_page page) before ++ back) (filter_nothing (writes_page page) more elsewhere)
    ∙ append-nil (filter (writes_page page) before))

-- calls and touches stand one after the other
pub added_split : (trail : List Item) (who : ℕ) (calls : List Call) (wants : List Want)
    → trail ++ as_items (added_by who calls wants) ≡ trail ++ as_items (entries_by who calls) ++ as_items (touches_by who wants)
added_split trail who calls wants =
    ap (λ more. trail ++ more) (map-append item.Entry (entries_by who calls) (touches_by who wants))
    ∙ sym (append_assoc trail (as_items (entries_by who calls)) (as_items (touches_by who wants)))

calls_with_touches : (trail : List Item) (who : ℕ) (wants : List Want) (client : ℕ) → calls_of (trail ++ as_items (touches_by who wants)) client ≡ calls_of trail client
calls_with_touches trail who [] client = ap (λ items. calls_of items client) (append-nil trail)
calls_with_touches trail who (want ∷ wants) client =
    let next = trail ++ item.Entry (touch_by who want.page) ∷ [] in
    ap (λ items. calls_of items client) (sym (append_assoc trail (item.Entry (touch_by who want.page) ∷ []) (as_items (touches_by who wants))))
    ∙ calls_with_touches next who wants client ∙ calls_after_touch trail who want.page client

-- what a client records is no call of another
pub calls_with_added : (trail : List Item) (who : ℕ) (calls : List Call) (wants : List Want) (client : ℕ) → who ≢ client
    → calls_of (trail ++ as_items (added_by who calls wants)) client ≡ calls_of trail client
calls_with_added trail who calls wants client apart =
    ap (λ items. calls_of items client) (added_split trail who calls wants)
    ∙ calls_with_touches (trail ++ as_items (entries_by who calls)) who wants client
    ∙ calls_of_another trail who client calls apart

-- a client of which all knows the same may rely on what it did, where the words of the pages that it holds stay unless it is fallen
pub apart_known : (who : ℕ) (shared after : Shared) (more : List Item) → after.trail ≡ shared.trail ++ more → after.limit ≡ shared.limit → after.pages ≡ shared.pages
    → calls_of after.trail who ≡ calls_of shared.trail who → client_at after who ≡ client_at shared who
    → ((base : List (List ℕ)) (page word : ℕ) → allows (rights_at shared who) page may.Read ≡ true
    → value_of base (live_entries after.trail) page word ≡ value_of base (live_entries shared.trail) page word)
    → KeepsClient who shared after
apart_known who shared after more grown limit pages calls same words = record {
  more = more;
  trail = grown;
  limit = limit;
  pages = pages;
  calls = calls;
  live = ap is_some same;
  cap = ap (of_client 0 (λ client. client.cap)) same;
  lost = λ fallen is. fallen_same ∙ is;
  falls = λ fallen up is. absurd (not_some fallen (sym up ∙ sym fallen_same ∙ is));
  asks = λ up. ap (of_client [] (λ client. client.asks)) same;
  rights = λ up. ap (of_client [] (λ client. client.rights)) same;
  agrees = λ own is. subst (λ place. Agrees place own) (sym same) is;
  words = λ base page word holds.
      ap (λ fallen. value_of base (seen_by after fallen) page word) fallen_same ∙ seen base page word holds (fallen_at shared who);
}
  where
    fallen_same : fallen_at after who ≡ fallen_at shared who
    fallen_same = ap (of_client None (λ client. client.fallen)) same

    seen : (base : List (List ℕ)) (page word : ℕ) → allows (rights_at shared who) page may.Read ≡ true → (fallen : Option Fallen)
        → value_of base (seen_by after fallen) page word ≡ value_of base (seen_by shared fallen) page word
    seen base page word holds None = words base page word holds
    seen base page word holds (Some fallen) = refl

-- and where the trail stays
pub apart_same : (who : ℕ) (shared after : Shared) → after.trail ≡ shared.trail → after.limit ≡ shared.limit → after.pages ≡ shared.pages
    → client_at after who ≡ client_at shared who → KeepsClient who shared after
apart_same who shared after trail limit pages same =
    apart_known who shared after [] (trail ∙ sym (append-nil shared.trail)) limit pages (ap (λ items. calls_of items who) trail) same
    (λ base page word holds. ap (λ items. value_of base (live_entries items) page word) trail)
