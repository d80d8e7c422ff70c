use Rattle.std.specs.Prelude.{ℕ, List, Bool, ◌&&◌, find, filter, map, Option}
use Rattle.casper_words.specs.Crew.{has_member}
use Rattle.casper_trail.specs.declared.entry.Entry.{Entry}
use Rattle.casper_trail.specs.declared.item.Item.{Item}
use Rattle.casper_trail.specs.Value.{is_write}
use Rattle.casper_trail.specs.Modified.{is_modified_by}
use Rattle.casper_trail.specs.Parts.{open_entries}
use Rattle.casper_trail.specs.Association.{association_of}
use Rattle.casper_space.specs.Rising.{rising}
use Rattle.casper_model.specs.Shared.{Shared}
use Rattle.casper_model.specs.Stabilisation.{Stabilisation}

-- the members of a stabilisation: the association of its lead
abbrev pub members_of_stabilisation : Shared → Stabilisation → List ℕ
members_of_stabilisation shared stabilisation = association_of shared.trail stabilisation.lead

abbrev pub is_member : Shared → ℕ → Stabilisation → Bool
is_member shared who stabilisation = has_member who (members_of_stabilisation shared stabilisation)

-- the stabilisation that a client is a member of, if there is one
abbrev pub stabilisation_of : Shared → ℕ → Option Stabilisation
stabilisation_of shared who = find (is_member shared who) shared.stabilisations

-- whether a page is modified by the association that is being made stable
abbrev pub is_modified_in : Shared → ℕ → Stabilisation → Bool
is_modified_in shared page stabilisation = is_modified_by (members_of_stabilisation shared stabilisation) shared.trail page

-- the open writes of these clients
abbrev pub open_writes_of : List Item → List ℕ → List Entry
open_writes_of trail members = filter (λ entry. is_write entry.op && has_member entry.who members) (open_entries trail)

-- the pages on which one of these clients has an open write, rising
abbrev pub pages_modified_by : List Item → List ℕ → List ℕ
pages_modified_by trail members = rising (map (λ entry. entry.page) (open_writes_of trail members))
