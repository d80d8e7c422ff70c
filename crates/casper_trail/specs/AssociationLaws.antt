use Rattle.std.specs.Prelude.{◌≡◌, ℕ, List, Bool, true}
use Rattle.casper_words.specs.Crew.{IsClient, IsCrew, has_member}
use Rattle.casper_trail.specs.declared.item.Item.{Item}
use Rattle.casper_trail.specs.Association.{AreLinked, IsClosedUnderLinks, links_of, with_linked, association_of}

-- an association is a crew
abbrev pub AssociationIsACrew : Type 0
AssociationIsACrew = (items : List Item) (client : ℕ) → IsCrew (association_of items client)

-- a client is in its association
abbrev pub AssociationHoldsItsClient : Type 0
AssociationHoldsItsClient = (items : List Item) (client : ℕ) → IsClient client → has_member client (association_of items client) ≡ true

-- 32 rounds reach all: one more adds nobody
abbrev pub AssociationIsSettled : Type 0
AssociationIsSettled = (items : List Item) (client : ℕ) → IsClient client
    → with_linked (links_of items) (association_of items client) ≡ association_of items client

-- to be in an association is an equivalence of the clients: beside the law above, it goes both ways, and from one client to the next
abbrev pub AssociationGoesBothWays : Type 0
AssociationGoesBothWays = (items : List Item) (client member : ℕ) → has_member member (association_of items client) ≡ true
    → has_member client (association_of items member) ≡ true

abbrev pub AssociationGoesOn : Type 0
AssociationGoesOn = (items : List Item) (client member third : ℕ) → has_member member (association_of items client) ≡ true
    → has_member third (association_of items member) ≡ true → has_member third (association_of items client) ≡ true

-- all members have one association
abbrev pub AssociationOfAMember : Type 0
AssociationOfAMember = (items : List Item) (client member : ℕ) → has_member member (association_of items client) ≡ true
    → association_of items member ≡ association_of items client

-- linked clients have one association
abbrev pub AssociationOfLinked : Type 0
AssociationOfLinked = (items : List Item) (one other : ℕ) → IsClient one → IsClient other → AreLinked items one other
    → association_of items one ≡ association_of items other

-- an association is the least: a test that is closed under links and holds of a client holds of its association
abbrev pub AssociationIsLeast : Type 0
AssociationIsLeast = (items : List Item) (client : ℕ) (test : ℕ → Bool) → IsClosedUnderLinks items test → test client ≡ true
    → (member : ℕ) → has_member member (association_of items client) ≡ true → test member ≡ true
