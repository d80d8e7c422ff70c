use Rattle.std.specs.Prelude.{ℕ, suc, List, [], ◌∷◌, Bool, ◌==◌, cond, map, replicate, slice_index_or, slice_set, option_map, is_some, Option, None, Some}
use Rattle.casper_words.specs.declared.page.Want.{Want}
use Rattle.casper_trail.specs.declared.item.Item.{Item}
use Rattle.casper_model.specs.Client.{Client, Fallen}
use Rattle.casper_model.specs.Stabilisation.{Stabilisation}

-- what is kept for all clients together: the trail, how many entries it may have, how many pages there are, the live
-- clients, each at the place of its number, and the stabilisations
pub record Shared : Type 0 where
  pub trail : List Item
  pub limit : ℕ
  pub pages : ℕ
  pub clients : List (Option Client)
  pub stabilisations : List Stabilisation

-- as a session begins
abbrev pub new_shared : ℕ → ℕ → Shared
new_shared pages limit = record { trail = []; limit = limit; pages = pages; clients = replicate 33 None; stabilisations = [] }

-- a client, if it is live
abbrev pub client_at : Shared → ℕ → Option Client
client_at shared who = slice_index_or shared.clients who None

abbrev pub is_live : Shared → ℕ → Bool
is_live shared who = is_some (client_at shared who)

-- what is known of a client, or something else where it is not live
abbrev pub of_client : {T : Type 0} → T → (Client → T) → Option Client → T
of_client absent known None = absent
of_client absent known (Some client) = known client

abbrev pub rights_at : Shared → ℕ → List Want
rights_at shared who = of_client [] (λ client. client.rights) (client_at shared who)

abbrev pub asks_at : Shared → ℕ → List Want
asks_at shared who = of_client [] (λ client. client.asks) (client_at shared who)

abbrev pub fallen_at : Shared → ℕ → Option Fallen
fallen_at shared who = of_client None (λ client. client.fallen) (client_at shared who)

-- these places, each client changed by its number, which is that of the first or a following one
abbrev pub change_from : ℕ → (ℕ → Client → Client) → List (Option Client) → List (Option Client)
change_from number change [] = []
change_from number change (place ∷ places) = option_map (change number) place ∷ change_from (suc number) change places

-- each live client changed
abbrev pub each_client : (ℕ → Client → Client) → Shared → Shared
each_client change shared = record shared { clients = change_from 0 change shared.clients }

-- one client changed, if it is live
abbrev pub change_client : ℕ → (Client → Client) → Shared → Shared
change_client who change shared = each_client (λ number client. cond (number == who) (change client) client) shared

-- a client live, or absent
abbrev pub place_client : ℕ → Option Client → Shared → Shared
place_client who place shared = record shared { clients = slice_set shared.clients who place }

-- each stabilisation changed
abbrev pub each_stabilisation : (Stabilisation → Stabilisation) → Shared → Shared
each_stabilisation change shared = record shared { stabilisations = map change shared.stabilisations }

-- the stabilisation of a lead changed
abbrev pub change_stabilisation : ℕ → (Stabilisation → Stabilisation) → Shared → Shared
change_stabilisation lead change shared = each_stabilisation (λ one. cond (one.lead == lead) (change one) one) shared
