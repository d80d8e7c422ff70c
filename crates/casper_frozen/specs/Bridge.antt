use Rattle.std.specs.Prelude.{◌≡◌, ℕ, true, Option, option_map, IfSome, Contains}
use Rattle.casper_trail.specs.Clients.{AreOfClients}
use Rattle.casper_model.specs.Shared.{Shared}
use Rattle.casper_model.specs.Stabilisation.{is_gathering}
use Rattle.casper_model.specs.Frozen.{stabilisation_of as machine_stabilisation_of}
use Rattle.casper_model.specs.Opening.{gathering_of as machine_gathering_of}
use Rattle.casper_assoc.specs.TrailAssociations.{AssociationsView, AreAssociationsOf}
use Rattle.casper_gather.specs.declared.stab.Stab.{Stab}
use Rattle.casper_gather.specs.Bookkeeping.{stabilisation_of, phase_of}
use Rattle.casper_gather.specs.Unended.{UnendedView}
use Rattle.casper_gather.specs.UnendedLaws.{stabilisations_of}

-- what the server keeps is of a shared part: the unended are its stabilisations, and the associations are those of its trail,
-- each entry of which is of a client
pub record Keeps (unended : UnendedView) (all : AssociationsView) (shared : Shared) : Type 0 where
  pub stabilisations : shared.stabilisations ≡ stabilisations_of unended.each
  pub associations : AreAssociationsOf all shared.trail
  pub clients : AreOfClients shared.trail

-- this is the stabilisation that the machine finds a client to be a member of
abbrev pub IsStabilisationOf : UnendedView → AssociationsView → ℕ → Option Stab → Type 0
IsStabilisationOf unended all who found = (shared : Shared) → Keeps unended all shared
    → option_map stabilisation_of found ≡ machine_stabilisation_of shared who

-- this is the gathering one that the machine finds a client to be a member of
abbrev pub IsGatheringOf : UnendedView → AssociationsView → ℕ → Option Stab → Type 0
IsGatheringOf unended all who found = (shared : Shared) → Keeps unended all shared
    → option_map stabilisation_of found ≡ machine_gathering_of shared who

-- this is one of those that have not ended
abbrev pub IsUnended : UnendedView → Option Stab → Type 0
IsUnended unended found = IfSome found (λ one. Contains unended.each one)

-- this one gathers
abbrev pub Gathers : Option Stab → Type 0
Gathers found = IfSome found (λ one. is_gathering (phase_of one.phase) ≡ true)
