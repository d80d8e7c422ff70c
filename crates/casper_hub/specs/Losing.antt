use Rattle.std.specs.Prelude.{◌≡◌, ℕ, false, ◌==◌, cond, map, length, slice_set, Option, None, Some}
use Rattle.casper_words.specs.Crew.{IsClient}
use Rattle.casper_words.specs.declared.page.Right.TheVariants as may
use Rattle.casper_assoc.specs.TrailAssociations.{AssociationsView}
use Rattle.casper_dir.specs.Rights.{AreAllClients}
use Rattle.casper_frozen.specs.Bridge.{Keeps}
use Rattle.casper_gather.specs.declared.stab.Stab.{Stab}
use Rattle.casper_gather.specs.Bookkeeping.{stabilisation_of, phase_of, without_asker}
use Rattle.casper_gather.specs.Unended.{UnendedView}
use Rattle.casper_model.specs.declared.reply.Loss.TheVariants.{Lost}
use Rattle.casper_model.specs.Frozen.{stabilisation_of as machine_stabilisation_of}
use Rattle.casper_model.specs.Loss.{rolled_back, loss_of}
use Rattle.casper_model.specs.Shared.{Shared}
use Rattle.casper_model.specs.Stabilisation.{is_gathering}
use Rattle.casper_hub.specs.HubView.{HubView, right_in, page_count}

-- the loss of a client is carried out at once
abbrev pub IsLostAtOnce : Shared → ℕ → Type 0
IsLostAtOnce shared who =
    (unrecorded : ℕ) → loss_of shared who unrecorded ≡ record { reply = Lost (length shared.trail) unrecorded; shared = rolled_back shared who }

-- the stabilisation that a client is a member of, where that does not gather. Where there is none, its loss is carried out at once
abbrev pub IsHeldOf : UnendedView → AssociationsView → ℕ → Option Stab → Type 0
IsHeldOf unended all who None = (shared : Shared) → Keeps unended all shared → IsLostAtOnce shared who
IsHeldOf unended all who (Some one) = (shared : Shared) → Keeps unended all shared
    → (machine_stabilisation_of shared who ≡ Some (stabilisation_of one)) × (is_gathering (phase_of one.phase) ≡ false)

-- a client may write no page
abbrev pub MayWriteNothing : HubView → ℕ → Type 0
MayWriteNothing hub who = (page : ℕ) → right_in hub who page ≡ Some may.Write → ⊥

-- one client became absent: it has no right, and waits for no outcome. All else stays
pub record BecomesAbsent (who : ℕ) (hub after : HubView) : Type 0 where
  pub hub_is : after ≡ record hub {
    clients = slice_set hub.clients who None;
    stabilisations = map (without_asker who) hub.stabilisations;
    pages = after.pages;
  }
  pub pages : page_count after ≡ page_count hub
  pub holders : AreAllClients after.pages.rights
  pub rights : (other page : ℕ) → IsClient other → right_in after other page ≡ cond (other == who) None (right_in hub other page)
  pub frames : after.pages.frames ≡ hub.pages.frames
