use Rattle.std.proofs.Common.{◌≡◌, ℕ, Bool, List, refl, ap}
use Rattle.casper_cache.specs.Own as cache
use Rattle.casper_model.specs.declared.reply.Loss.{Loss}
use Rattle.casper_model.specs.Answers.{of_lose}
use Rattle.casper_model.specs.Loss.{lose}
use Rattle.casper_model.specs.State.{State}
use Rattle.casper_model.specs.Step.{lose_turn}
use Rattle.casper_hub.specs.GoesOn.{KeepsClient, CommitsNothing}
use Rattle.casper_hub.specs.HubView.{HubView}
use Rattle.casper_hub.specs.Owned.{Owns, own_of}
use Rattle.casper_hub.specs.Sound.{IsSound}
use Rattle.casper_hub.specs.Turns.{IsChange}
use Rattle.casper_hub.specs.Words.{FramesAreRight}
use Rattle.casper_hub.proofs.Relying.{owns_while_kept, right_while_kept}
use Rattle.casper_core.specs.Acting.{IsTurnResult, KeepsHubRight, Holds}
use Rattle.casper_core.specs.Shaped.{IsShape}

-- A live client is declared lost: its cache stays as it is.

module _ (who : ℕ) (hub : HubView) (own : cache.Own) (reply : Loss) (after : HubView) (turn : IsChange (λ shared. lose shared who) reply hub after) where
  pub lost_gives : (state : State) → IsShape who state hub own → IsTurnResult who state (lose_turn who state) (of_lose reply) after (own_of own)
  lost_gives state part = record {
    answers = ap of_lose (turn.replies state.shared part.shared);
    shared = turn.shows state.shared part.shared;
    places = refl;
    part = part.part;
    others = λ other away. refl;
    base = refl;
    vault = refl;
    unfinished = refl;
  }

module _ (who : ℕ) (tells : Bool) (image : List (List ℕ)) (hub : HubView) (own : cache.Own) (after : HubView) (others : (other : ℕ) → KeepsClient other hub after) (still : CommitsNothing hub after) where
  pub lost_leaves : IsSound after → ((base : List (List ℕ)) → FramesAreRight base hub → FramesAreRight base after) → KeepsHubRight who tells image hub own after
  lost_leaves sound frames = record {
    sound = sound;
    others = λ other away. others other;
    still = still;
    frames = λ told base stored right words. frames base right;
  }

  pub lost_holds : IsSound hub → Owns hub own → own.client ≡ who → Holds who tells image hub own after own
  lost_holds sound owns client = record {
    client = client;
    capacity = refl;
    owns = owns_while_kept hub after own sound owns (others own.client);
    words = λ told base stored right words. right_while_kept base hub after own sound owns (others own.client) words;
  }
