use Rattle.std.specs.Prelude.{◌≡◌, ℕ, ◌≤◌, Bool, true, ◌==◌, List, filter, Some, slice_get}
use Rattle.std.specs.List.{range_with_len, list_any}
use Rattle.std.specs.List.Sorted.{IsStrictlyIncreasing}

-- a client's number
abbrev pub IsClient : ℕ → Type 0
IsClient who = (1 ≤ who) × (who ≤ 32)

-- the numbers of all clients, rising
unfoldable pub clients : List ℕ
clients = range_with_len 1 32

-- whether a number is in a list
abbrev pub has_member : ℕ → List ℕ → Bool
has_member who members = list_any (λ member. member == who) members

-- the crew of the clients that pass a test
unfoldable pub crew_of : (ℕ → Bool) → List ℕ
crew_of test = filter test clients

-- a list is the one list of its members: clients alone, rising
pub record IsCrew (members : List ℕ) : Type 0 where
  pub canonical : members ≡ crew_of (λ who. has_member who members)

-- the members of a crew made by a test are the clients that pass it
abbrev pub MembersPassTheTest : Type 0
MembersPassTheTest = (test : ℕ → Bool) (who : ℕ) → IsClient who → has_member who (crew_of test) ≡ test who

-- what a test makes is a crew
abbrev pub TestsMakeCrews : Type 0
TestsMakeCrews = (test : ℕ → Bool) → IsCrew (crew_of test)

-- crews with the same members are equal
abbrev pub CrewsWithTheSameMembersAreEqual : Type 0
CrewsWithTheSameMembersAreEqual = (xs ys : List ℕ) → IsCrew xs → IsCrew ys → ((who : ℕ) → IsClient who → has_member who xs ≡ has_member who ys) → xs ≡ ys

-- each member is a client
abbrev pub MembersAreClients : Type 0
MembersAreClients = (members : List ℕ) (who : ℕ) → IsCrew members → has_member who members ≡ true → IsClient who

-- a crew's list rises
abbrev pub CrewsRise : Type 0
CrewsRise = (members : List ℕ) → IsCrew members → IsStrictlyIncreasing members

-- the first member is a member, and none has a lesser number
abbrev pub FirstMembersAreLeast : Type 0
FirstMembersAreLeast = (members : List ℕ) (first : ℕ) → IsCrew members → slice_get members 0 ≡ Some first → (has_member first members ≡ true) × ((who : ℕ) → has_member who members ≡ true → first ≤ who)
