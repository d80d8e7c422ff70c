use Rattle.std.proofs.Common.{◌≡◌, ◌≢◌, ℕ}
use Rattle.std.specs.Prelude.{None}
use Rattle.casper_words.specs.Crew.{IsClient}
use Rattle.casper_cache.specs.Own as cache
use Rattle.casper_model.specs.declared.reply.Loss.TheVariants.{Noted}
use Rattle.casper_model.specs.Both.{Changed}
use Rattle.casper_model.specs.Leave.{vanish}
use Rattle.casper_model.specs.Loss.{lose}
use Rattle.casper_model.specs.Shared.{Shared}
use Rattle.casper_model.specs.Stabilisation.{Stabilisation}
use Rattle.casper_turns.specs.CommitsNothing.{CommitsNothing as SharedCommitsNothing}
use Rattle.casper_turns.specs.Good.{IsGoodShared}
use Rattle.casper_turns.specs.KeepsClient.{KeepsClient as SharedKeepsClient}
use Rattle.casper_turns.specs.Kept.{KeptByTurn, KeptForAll}
use Rattle.casper_turns.proofs.Losses.{lose_kept, lose_still, vanish_kept}
use Rattle.casper_hub.specs.GoesOn.{KeepsClient, CommitsNothing}
use Rattle.casper_hub.specs.HubView.{HubView, fallen_in}
use Rattle.casper_hub.specs.Owned.{own_of, Owns}
use Rattle.casper_hub.specs.Shows.{Shows}
use Rattle.casper_hub.specs.Sound.{IsSound, Stands}
use Rattle.casper_hub.proofs.Changing.{formed_beside}
use Rattle.casper_hub.proofs.LostTurns.{IsHeldIn, with_stabilisations, noted_in, noted_now, lost_so}
use Rattle.casper_hub.proofs.StandsFor.{stands_for, standing, going, good_with}
use Rattle.casper_hub.proofs.Transport.{stands_behind, keeps_others, keeps_still}

-- What the machine's losses keep, carried to a hub that stands for its shared part.

-- a hub stands for what a change leaves that is no turn of a client
module _ {R : Type 0} (change : Shared → Changed R) (hub after : HubView)
    (shows : (shared : Shared) → Shows shared hub → Shows (change shared).shared after)
    (keeps : (shared : Shared) → IsGoodShared shared → KeptForAll shared (change shared).shared) where
  pub stands_changed : Stands hub → Stands after
  stands_changed stands =
      let before = stands_for hub stands in
      standing after (record { shared = (change before.shared).shared; shows = shows before.shared before.shows; good = (keeps before.shared before.good).good })

  -- every client may rely on what it knew
  pub keeps_all : (who : ℕ) → KeepsClient who hub after
  keeps_all who =
      going (SharedKeepsClient who) hub after
      (λ shared is good. let kept = keeps shared good in record { next = (change shared).shared; shows = shows shared is; good = kept.good; comes = kept.apart who })

  -- and nothing is committed, where the change commits nothing
  pub keeps_uncommitted : ((shared : Shared) → IsGoodShared shared → SharedCommitsNothing shared (change shared).shared) → CommitsNothing hub after
  keeps_uncommitted still =
      going SharedCommitsNothing hub after
      (λ shared is good. record { next = (change shared).shared; shows = shows shared is; good = (keeps shared good).good; comes = still shared good })

-- a client is lost
module _ (who : ℕ) (hub after : HubView) (is : IsClient who) (shows : (shared : Shared) → Shows shared hub → Shows (lose shared who).shared after) where
  loss_keeps : (shared : Shared) → IsGoodShared shared → KeptForAll shared (lose shared who).shared
  loss_keeps shared good = lose_kept shared who good is

  pub lost_stands : Stands hub → Stands after
  lost_stands = stands_changed (λ shared. lose shared who) hub after shows loss_keeps

  pub lost_keeps : (other : ℕ) → KeepsClient other hub after
  lost_keeps = keeps_all (λ shared. lose shared who) hub after shows loss_keeps

  pub lost_commits_nothing : CommitsNothing hub after
  lost_commits_nothing = keeps_uncommitted (λ shared. lose shared who) hub after shows loss_keeps (λ shared good. lose_still shared who good is)

-- the loss of a client that has not fallen is noted
pub noted_sound : (who : ℕ) (hub : HubView) (one : Stabilisation) → IsSound hub → IsClient who → fallen_in hub who ≡ None → IsHeldIn hub who one
    → IsSound (with_stabilisations (noted_in who one hub.stabilisations) hub)
noted_sound who hub one sound is up held =
    let after : HubView = with_stabilisations (noted_in who one hub.stabilisations) hub in record {
      formed = formed_beside hub (noted_in who one hub.stabilisations) sound.formed;
      stands = lost_stands who hub after is (lost_so who hub after (Noted one.lead 0) up (noted_now who 0 hub one held)).shows sound.stands;
    }

-- a client vanishes
module _ (hub : HubView) (own : cache.Own) (after : HubView) (owns : Owns hub own)
    (shows : (shared : Shared) → Shows shared hub → Shows (vanish shared (own_of own)).shared after) where
  vanish_keeps : (shared : Shared) → Shows shared hub → IsGoodShared shared → KeptByTurn shared (own_of own) (vanish shared (own_of own)).shared (vanish shared (own_of own)).own
  vanish_keeps shared is good = vanish_kept shared (own_of own) good (good_with hub (own_of own) owns.good shared is good)

  pub vanished_stands : Stands hub → Stands after
  vanished_stands = stands_behind vanish hub own after shows vanish_keeps

  pub vanished_others : (other : ℕ) → other ≢ own.client → KeepsClient other hub after
  vanished_others = keeps_others vanish hub own after shows vanish_keeps

  pub vanished_still : CommitsNothing hub after
  vanished_still = keeps_still vanish hub own after shows vanish_keeps
