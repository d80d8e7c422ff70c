use Rattle.std.specs.Prelude.{◌≡◌, ℕ, List, [], ◌∷◌, ◌++◌, ◌==◌, false, not, cond, map, filter, find, length, Option, None, Contains}
use Rattle.casper_words.specs.Crew.{has_member}
use Rattle.casper_trail.specs.declared.item.Item.TheVariants as item
use Rattle.casper_trail.specs.declared.mark.Mark.TheVariants.{Commit}
use Rattle.casper_trail.specs.Association.{association_of}
use Rattle.casper_trail.specs.Modified.{is_modified_by}
use Rattle.casper_model.specs.declared.outcome.Kept.{Kept}
use Rattle.casper_model.specs.declared.outcome.Kept.TheVariants as kept
use Rattle.casper_model.specs.Stabilisation.{Stabilisation, Doubtful, is_gathering, is_doubtful}
use Rattle.casper_turns.specs.Kept.{OtherLeadsStandStill}
use Rattle.casper_hub.specs.GoesOn.{GoesOn}
use Rattle.casper_hub.specs.HubView.{HubView, client_in, frame_in, with_kept}

-- the stabilisations without that of a lead
abbrev pub but_led_by : ℕ → List Stabilisation → List Stabilisation
but_led_by lead stabilisations = filter (λ one. not (one.lead == lead)) stabilisations

-- a stabilisation ended: the outcome is kept for each live client that waits for it. All else stays
pub record Ends (one : Stabilisation) (outcome : Kept) (hub after : HubView) : Type 0 where
  pub trail : after.trail ≡ hub.trail
  pub limit : after.limit ≡ hub.limit
  pub places : length after.clients ≡ length hub.clients
  pub clients : (who : ℕ) → client_in after who ≡ cond (has_member who one.askers) (with_kept outcome (client_in hub who)) (client_in hub who)
  pub stabilisations : after.stabilisations ≡ but_led_by one.lead hub.stabilisations
  pub pages : after.pages ≡ hub.pages

-- an association was made stable: the mark is recorded, its stabilisation ended, and the server has no frame of a page that a member
-- modified. All else stays
pub record Commits (one : Stabilisation) (hub after : HubView) : Type 0 where
  pub trail : after.trail ≡ hub.trail ++ item.Mark (Commit one.lead (association_of hub.trail one.lead)) ∷ []
  pub limit : after.limit ≡ hub.limit
  pub places : length after.clients ≡ length hub.clients
  pub clients : (who : ℕ) → client_in after who
      ≡ cond (has_member who one.askers) (with_kept (kept.Committed (length hub.trail)) (client_in hub who)) (client_in hub who)
  pub stabilisations : after.stabilisations ≡ but_led_by one.lead hub.stabilisations
  pub rights : after.pages.rights ≡ hub.pages.rights
  pub frames_count : length after.pages.frames ≡ length hub.pages.frames
  pub frames : (page : ℕ) → frame_in after.pages page
      ≡ cond (is_modified_by (association_of hub.trail one.lead) hub.trail page) None (frame_in hub.pages page)

-- a hub of which the stabilisation of a lead is in doubt
abbrev pub in_doubt : ℕ → HubView → HubView
in_doubt lead hub = record hub { stabilisations = map (λ one. cond (one.lead == lead) (record one { phase = Doubtful }) one) hub.stabilisations }

-- the stabilisation in doubt, if there is one
abbrev pub doubtful_in : HubView → Option Stabilisation
doubtful_in hub = find (λ one. is_doubtful one.phase) hub.stabilisations

-- the stabilisation of a lead, if there is one, is not gathering
abbrev pub IsHeldBy : HubView → ℕ → Type 0
IsHeldBy hub lead = (one : Stabilisation) → Contains hub.stabilisations one → one.lead ≡ lead → is_gathering one.phase ≡ false

-- the stabilisations of the other leads that are sealed or in doubt stand still
abbrev pub OtherLeadsStand : ℕ → HubView → HubView → Type 0
OtherLeadsStand lead hub after = GoesOn (λ shared next. OtherLeadsStandStill shared lead next) hub after

-- a stabilisation is one of the hub's that is sealed or in doubt, but that it is in doubt
abbrev pub ComesIntoDoubt : HubView → Stabilisation → Type 0
ComesIntoDoubt hub doubtful =
    (before : Stabilisation) × Contains hub.stabilisations before × (is_gathering before.phase ≡ false) × (doubtful ≡ record before { phase = Doubtful })
