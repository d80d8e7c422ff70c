use Rattle.std.specs.Prelude.{◌≡◌, ◌≤◌, ℕ, List, ◌++◌, length, true, None, Some}
use Rattle.casper_words.specs.declared.page.Right.TheVariants as may
use Rattle.casper_trail.specs.declared.item.Item.{Item}
use Rattle.casper_trail.specs.Calls.{calls_of}
use Rattle.casper_trail.specs.Value.{value_of}
use Rattle.casper_model.specs.Client.{Fallen}
use Rattle.casper_model.specs.Held.{allows}
use Rattle.casper_model.specs.Own.{Own}
use Rattle.casper_model.specs.Rights.{Agrees}
use Rattle.casper_model.specs.Shared.{Shared, client_at, of_client, is_live, rights_at, asks_at, fallen_at}
use Rattle.casper_model.specs.View.{seen_by}

-- how many entries are promised to a client
abbrev pub cap_at : Shared → ℕ → ℕ
cap_at shared who = of_client 0 (λ client. client.cap) (client_at shared who)

-- the value of a word after the recorded entries that a client sees
abbrev pub recorded_value : List (List ℕ) → Shared → ℕ → ℕ → ℕ → ℕ
recorded_value base shared who page word = value_of base (seen_by shared (fallen_at shared who)) page word

-- what a client may rely on while others act: the trail grows at its end and gets no call of this client; the client stays live
-- with its cap; where it was fallen it stays so; where it falls meanwhile, its mark stands after the trail as it was; where it
-- is not fallen it keeps its asks and its rights; what is known of it agrees with the own part with which it agreed; and the
-- words of each page that it held stay as it sees them, fallen or not
pub record KeepsClient (who : ℕ) (shared after : Shared) : Type 0 where
  pub more : List Item
  pub trail : after.trail ≡ shared.trail ++ more
  pub limit : after.limit ≡ shared.limit
  pub pages : after.pages ≡ shared.pages
  pub calls : calls_of after.trail who ≡ calls_of shared.trail who
  pub live : is_live after who ≡ is_live shared who
  pub cap : cap_at after who ≡ cap_at shared who
  pub lost : (fallen : Fallen) → fallen_at shared who ≡ Some fallen → fallen_at after who ≡ Some fallen
  pub falls : (fallen : Fallen) → fallen_at shared who ≡ None → fallen_at after who ≡ Some fallen → length shared.trail ≤ fallen.mark
  pub asks : fallen_at after who ≡ None → asks_at after who ≡ asks_at shared who
  pub rights : fallen_at after who ≡ None → rights_at after who ≡ rights_at shared who
  pub agrees : (own : Own) → Agrees (client_at shared who) own → Agrees (client_at after who) own
  pub words : (base : List (List ℕ)) (page word : ℕ) → allows (rights_at shared who) page may.Read ≡ true
      → recorded_value base after who page word ≡ recorded_value base shared who page word
