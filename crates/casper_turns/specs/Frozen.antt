use Rattle.std.specs.Prelude.{◌≡◌, ℕ, List, [], ◌∷◌, true, false, map, Contains, ⊤}
use Rattle.std.specs.List.{list_any}
use Rattle.casper_words.specs.Crew.{IsClient, has_member}
use Rattle.casper_words.specs.declared.page.Right.TheVariants as may
use Rattle.casper_trail.specs.declared.item.Item.{Item}
use Rattle.casper_trail.specs.Association.{association_of}
use Rattle.casper_model.specs.Held.{allows}
use Rattle.casper_model.specs.Stabilisation.{Stabilisation, is_gathering, is_sealed}
use Rattle.casper_model.specs.Shared.{Shared, rights_at}
use Rattle.casper_model.specs.Frozen.{is_member}

-- the leads of some stabilisations
abbrev pub leads_of : List Stabilisation → List ℕ
leads_of stabilisations = map (λ one. one.lead) stabilisations

-- nobody is in the associations of two of these leads
abbrev pub AreApart : List Item → List ℕ → Type 0
AreApart trail [] = ⊤
AreApart trail (lead ∷ leads) =
    ((who : ℕ) → has_member who (association_of trail lead) ≡ true → list_any (λ other. has_member who (association_of trail other)) leads ≡ false)
    × AreApart trail leads

-- who may write a page and is a member of a stabilisation is awaited by it, and it is gathering
abbrev pub IsQuiet : Shared → Stabilisation → Type 0
IsQuiet shared one =
    (who page : ℕ) → is_member shared who one ≡ true → allows (rights_at shared who) page may.Write ≡ true
    → (is_gathering one.phase ≡ true) × (has_member who one.awaited ≡ true)

-- each stabilisation is led by a client, no two have a common member, and no member may write a page but those that a
-- gathering one awaits
pub record AreFrozen (shared : Shared) : Type 0 where
  pub leads : (one : Stabilisation) → Contains shared.stabilisations one → IsClient one.lead
  pub apart : AreApart shared.trail (leads_of shared.stabilisations)
  pub quiet : (one : Stabilisation) → Contains shared.stabilisations one → IsQuiet shared one

-- the lead has a sealed stabilisation
abbrev pub IsSealedBy : Shared → ℕ → Type 0
IsSealedBy shared lead = (one : Stabilisation) × Contains shared.stabilisations one × (one.lead ≡ lead) × (is_sealed one.phase ≡ true)
