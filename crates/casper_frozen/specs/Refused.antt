use Rattle.std.specs.Prelude.{◌≡◌, ℕ, List, cond, Option, None, option_map, filter_map, find, slice_get}
use Rattle.std.specs.List.{list_any}
use Rattle.std.specs.Option.{option_or}
use Rattle.casper_words.specs.declared.page.Want.{Want}
use Rattle.casper_words.specs.Crew.{has_member}
use Rattle.casper_trail.specs.declared.item.Item.{Item}
use Rattle.casper_trail.specs.Clients.{AreOfClients}
use Rattle.casper_trail.specs.Modified.{is_modified_by}
use Rattle.casper_trail.specs.Association.{association_of}
use Rattle.casper_model.specs.declared.reply.Reply.{Reply}
use Rattle.casper_model.specs.declared.reply.Reply.TheVariants as reply
use Rattle.casper_model.specs.Stabilisation.{Stabilisation}
use Rattle.casper_model.specs.Shared.{Shared}
use Rattle.casper_model.specs.Frozen.{is_member, is_modified_in}
use Rattle.casper_model.specs.Acquire.{none_missing, refused_in_doubt, refused_frozen, frozen_of}
use Rattle.casper_assoc.specs.TrailAssociations.{AssociationsView, AreAssociationsOf}
use Rattle.casper_gather.specs.declared.stab.Stab.{Stab}
use Rattle.casper_gather.specs.Bookkeeping.{stabilisation_of}
use Rattle.casper_gather.specs.Unended.{UnendedView}
use Rattle.casper_frozen.specs.declared.refusal.Refusal.{Refusal}
use Rattle.casper_frozen.specs.declared.refusal.Refusal.TheVariants as refusal
use Rattle.casper_frozen.specs.Bridge.{Keeps}

-- the refusal as the machine's reply
abbrev pub reply_of : Refusal → Reply
reply_of refusal.InDoubt = reply.InDoubt
reply_of (refusal.Frozen lead) = reply.Frozen lead

-- what the machine refuses a client with that lacks these wants, before it asks for anybody's right
abbrev pub refused_at_once : Shared → ℕ → List Want → Option Reply
refused_at_once shared who missing =
    cond (none_missing missing) None (option_or (refused_in_doubt shared who missing) (refused_frozen shared who missing))

-- this is what the machine refuses the client with at once
abbrev pub Refuses : UnendedView → AssociationsView → ℕ → List Want → Option Refusal → Type 0
Refuses unended all who missing refused = (shared : Shared) → Keeps unended all shared
    → option_map reply_of refused ≡ refused_at_once shared who missing

-- these are the clients whose association modifies a page of these wants, in each trail whose associations these are
abbrev pub AreMembersOfPages : AssociationsView → List Want → List ℕ → Type 0
AreMembersOfPages all missing members = (items : List Item) → AreOfClients items → AreAssociationsOf all items
    → (client : ℕ) → list_any (λ want. is_modified_by (association_of items client) items want.page) missing ≡ has_member client members

-- the frozen associations to which the pages of these wants belong, in the order of the wants
abbrev pub frozen_of_pages : Shared → List Want → List Stabilisation
frozen_of_pages shared missing = filter_map (λ want. find (is_modified_in shared want.page) (frozen_of shared)) missing

-- this is the first of them
abbrev pub IsFrozenOfPages : UnendedView → AssociationsView → List Want → Option Stab → Type 0
IsFrozenOfPages unended all missing found = (shared : Shared) → Keeps unended all shared
    → option_map stabilisation_of found ≡ slice_get (frozen_of_pages shared missing) 0

-- this is the frozen association of a client with this own association, and else the first one to which a page of these wants belongs
abbrev pub IsFrozenOf : UnendedView → AssociationsView → List ℕ → List Want → Option Stab → Type 0
IsFrozenOf unended all own missing found = (shared : Shared) (who : ℕ) → Keeps unended all shared → own ≡ association_of shared.trail who
    → option_map stabilisation_of found ≡ option_or (find (is_member shared who) (frozen_of shared)) (slice_get (frozen_of_pages shared missing) 0)
