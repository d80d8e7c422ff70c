use Rattle.std.proofs.Common.{◌≡◌, ℕ}
use Rattle.std.specs.Prelude.{None}
use Rattle.casper_words.specs.Crew.{IsClient}
use Rattle.casper_model.specs.Loss.{rolled_back}
use Rattle.casper_hub.specs.HubView.{HubView, fallen_in}
use Rattle.casper_hub.specs.RollingBack.{RollsBack}
use Rattle.casper_hub.specs.Sound.{IsSound}
use Rattle.casper_hub.proofs.RolledBack.{formed_rolled_back, shows_rolled_back}
use Rattle.casper_hub.proofs.RolledKept.{rolled_back_kept}
use Rattle.casper_hub.proofs.Showing.{up_shown}
use Rattle.casper_hub.proofs.StandsFor.{stands_for, standing}

-- a hub of which the association of a client was rolled back that had not fallen is sound, whatever stabilisations there are
pub rolled_back_sound : (lost : ℕ) (hub after : HubView) → IsSound hub → IsClient lost → fallen_in hub lost ≡ None → RollsBack lost hub after → IsSound after
rolled_back_sound lost hub after sound is up rolls =
    let before = stands_for hub sound.stands in record {
      formed = formed_rolled_back lost hub after rolls sound;
      stands = standing after (record {
        shared = rolled_back before.shared lost;
        shows = shows_rolled_back lost hub after rolls sound before.shared before.shows;
        good = (rolled_back_kept before.shared lost before.good is (up_shown before.shared hub before.shows lost up)).good;
      });
    }
